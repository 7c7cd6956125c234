-- The runner always gives a list and an ending.
use Rattle.std.proofs.Common.{◌≡◌, ◌≢◌, ℕ, zero, suc, ◌+◌, ◌%◌, ◌^◌, ◌<◌, ◌≤◌, Bool, true, false, cond, List, [], ◌∷◌, ◌++◌, length, Option, Some, None, refl, ap, subst, arith, inl, inr, length-append}
use Rattle.std.specs.Prelude.{◌⊎◌, ◌==◌, Contains, filter, nat_lt}
use Rattle.std.proofs.lemmas.Bool.{cases_eq, cases_lt, or_cases, eqb-true}
use Rattle.std.proofs.lemmas.List.Elements.{All-contains, All-filter, All-contains_itself}
use Rattle.std.proofs.lemmas.Option.{get_or_from_slice_get}
use Rattle.rand_pcg.specs.Pcg.{pcg32}
use Rattle.ca_model.specs.declared.values.Event.{Event}
use Rattle.ca_model.specs.declared.values.EventAct.{EventAct}
use Rattle.ca_model.specs.declared.values.EventAct.TheVariants as act
use Rattle.ca_model.specs.declared.values.Ending.{Ending}
use Rattle.ca_model.specs.declared.values.Ending.TheVariants as ending
use Rattle.ca_model.specs.Shared.{Phase, Open, Finished, Failed}
use Rattle.ca_model.specs.Frames.{Code}
use Rattle.ca_model.specs.Machine.{by, State, Run}
use Rattle.ca_model.specs.Hardened.{Hardened, hardened}
use Rattle.ca_model.specs.Opening.{EndsAs}
use Rattle.ca_model.specs.Schedules.{Schedule, Listed_numbers, Words, Pick, pick, has, first_of, in_turn, moved, listed, by_word}
use Rattle.ca_model.specs.Runner.{run_ending, frames_of, IsCrowded, Comes, AreEnabled, RunsOn, finished, failed, stuck, full, crowded, goes_on}
use Rattle.ca_model.proofs.Law.{get_one}
use Rattle.ca_model.proofs.Members.{in_none, at_head, at_tail}
use Rattle.ca_model.proofs.SameLists.{HasAll}
use Rattle.ca_model.proofs.Entries.{least_from}
use Rattle.ca_model.proofs.RunnerStates.{Reached}
use Rattle.ca_model.proofs.RunnerRuns.{next_reached}
use Rattle.ca_model.proofs.EnabledThreads.{Known, enabled_list, enabled_comes, enabled_steps, no_step}

-- among enabled threads one is picked
abbrev Picked : List ℕ → Option Pick → Type 0
Picked xs o = (p : Pick) × (o ≡ Some p) × Contains xs p.thread

has_in : (xs : List ℕ) (t : ℕ) → has xs t ≡ true → Contains xs t
has_in [] t e = absurd cc
has_in (x ∷ xs) t e = elim (or_cases (x == t) (has xs t) e) [
  | inl is ↦ subst (Contains (x ∷ xs)) (eqb-true x t is) (at_head x xs)
  | inr more ↦ at_tail x xs t (has_in xs t more)
]

first_picked : (left ys : List ℕ) (x : ℕ) (xs : List ℕ) → HasAll ys (x ∷ xs) → Picked (x ∷ xs) (moved left (first_of ys (x ∷ xs)))
first_picked left [] x xs h = (record { thread = x; after = Listed_numbers left (Some x) }, refl, at_head x xs)
first_picked left (y ∷ ys) x xs h = (record { thread = y; after = Listed_numbers left (Some y) }, refl, h y (at_head y ys))

turn_picked : (left : List ℕ) (last : Option ℕ) (x : ℕ) (xs : List ℕ) → Picked (x ∷ xs) (moved left (in_turn (x ∷ xs) last))
turn_picked left None x xs = (record { thread = x; after = Listed_numbers left (Some x) }, refl, at_head x xs)
turn_picked left (Some t) x xs =
    first_picked left (filter (λ u. nat_lt t u) (x ∷ xs)) x xs
    (λ u c. All-contains (Contains (x ∷ xs)) (filter (λ u. nat_lt t u) (x ∷ xs)) u (All-filter (λ u. nat_lt t u) (Contains (x ∷ xs)) (x ∷ xs) (All-contains_itself (x ∷ xs))) c)

listed_picked : (ts : List ℕ) (last : Option ℕ) (x : ℕ) (xs : List ℕ) → Picked (x ∷ xs) (listed (x ∷ xs) ts last)
listed_picked [] last x xs = turn_picked [] last x xs
listed_picked (t ∷ ts) last x xs = here (has (x ∷ xs) t) refl (listed_picked ts last x xs)
  where
    here : (b : Bool) → has (x ∷ xs) t ≡ b → Picked (x ∷ xs) (listed (x ∷ xs) ts last) → Picked (x ∷ xs) (cond b (moved ts (Some t)) (listed (x ∷ xs) ts last))
    here true e rest = (record { thread = t; after = Listed_numbers ts (Some t) }, refl, has_in (x ∷ xs) t e)
    here false e rest = rest

pub some_picked : (c : Schedule) (x : ℕ) (xs : List ℕ) → Picked (x ∷ xs) (pick (x ∷ xs) c)
some_picked (Listed_numbers ts last) x xs = listed_picked ts last x xs
some_picked (Words g) x xs =
    let some : 0 < length (x ∷ xs) = omega arith in
    let k : ℕ = (pcg32 g).0 % length (x ∷ xs) in
    let within : k < length (x ∷ xs) = omega arith in
    let t = get_one (x ∷ xs) k within in
    (record { thread = t.0; after = Words (pcg32 g).1 }, ap (λ o. by_word o (pcg32 g).1) t.1, (k, within, get_or_from_slice_get (x ∷ xs) k t.0 t.0 t.1))

crowded_known : (s : State Hardened) (a : EventAct) → Known (IsCrowded s a)
crowded_known s (act.Call f) = many (cases_lt (frames_of s) 20000)
  where
    many : (frames_of s < 20000) ⊎ (20000 ≤ frames_of s) → Known (20000 ≤ frames_of s)
    many (inl lt) = inr (λ le. omega (arith, lt, le))
    many (inr le) = inl le
crowded_known s (act.Create u) = many (cases_lt (frames_of s) 20000)
  where
    many : (frames_of s < 20000) ⊎ (20000 ≤ frames_of s) → Known (20000 ≤ frames_of s)
    many (inl lt) = inr (λ le. omega (arith, lt, le))
    many (inr le) = inl le
crowded_known s _ = inr (λ e. e)

module _ (code : Code) (events patience blocks : ℕ) (few : events + blocks < 2 ^ 32) where
  abbrev SomeRun : Schedule → State Hardened → List Event → Type 0
  SomeRun c s past = (list : List Event) × (end : Ending) × RunsOn code events patience c s past list end

  -- one turn, where the rest is known as soon as the limit of entries is not met
  module _ (c : Schedule) (s : State Hardened) (past : List Event) (within : length past ≤ events) (r : Reached s.shared (blocks + length past))
      (next : length past ≢ events → (after : Schedule) (new : State Hardened) (e : Event) → Reached new.shared (blocks + length past + 1) → SomeRun after new (past ++ e ∷ [])) where
    picked_run : s.shared.phase ≡ Open → (x : ℕ) (xs : List ℕ) → AreEnabled code events patience s past (x ∷ xs) → length past ≢ events → (p : Pick) → pick (x ∷ xs) c ≡ Some p
        → (a : EventAct) (new : State Hardened) → Comes code events patience s p.thread a new → Known (IsCrowded s a) → SomeRun c s past
    picked_run run x xs en ne p is a new co (inl cr) = ([], ending.Frames, crowded (run, ne) en is co cr)
    picked_run run x xs en ne p is a new co (inr no') =
        let rest = next ne p.after new (by p.thread a) (next_reached code events patience co (blocks + length past) r) in
        (by p.thread a ∷ rest.0, rest.1, goes_on (run, ne) en is co no' rest.2)

    few_used : r.count < 2 ^ 32
    few_used = omega (arith, r.few, within, few)

    enabled_run : s.shared.phase ≡ Open → (xs : List ℕ) → AreEnabled code events patience s past xs → SomeRun c s past
    enabled_run run [] en = ([], ending.Deadlock, stuck run en)
    enabled_run run (x ∷ xs) en = elim (cases_eq (length past) events) [
      | inl is ↦ ([], ending.Events, full run ((en.exactly x).0 (at_head x xs)) is)
      | inr ne ↦
          let p = some_picked c x xs in
          let co = enabled_comes code events patience s past r.count (least_from s.shared.blocks r.count r.used) few_used (r.ended run) run p.0.thread ((en.exactly p.0.thread).0 p.2) in
          picked_run run x xs en ne p.0 p.1 co.0 co.1 co.2 (crowded_known s co.0)
    ]

    turn : (q : Phase) → s.shared.phase ≡ q → SomeRun c s past
    turn Finished e = ([], ending.Finished, finished e)
    turn (Failed k) e = ([], ending.Fault k, failed e)
    turn Open e = let all = enabled_list code events patience s past r.count (least_from s.shared.blocks r.count r.used) few_used (r.ended e) e in enabled_run e all.0 all.1

  pub some_run : (left : ℕ) (c : Schedule) (s : State Hardened) (past : List Event) → left + length past ≡ events → Reached s.shared (blocks + length past) → SomeRun c s past
  some_run zero c s past total r = turn c s past (omega (arith, total)) r (λ ne after new e h. absurd (ne (omega (arith, total)))) s.shared.phase refl
  some_run (suc left) c s past total r =
      turn c s past (omega (arith, total)) r
      (λ ne after new e h.
      let longer : length (past ++ e ∷ []) ≡ length past + 1 = length-append past (e ∷ []) in
      some_run left after new (past ++ e ∷ []) (omega (arith, total, longer)) (subst (Reached new.shared) (omega (arith, longer)) h))
      s.shared.phase refl

  -- and its run ends so
  pub runs_end : {c : Schedule} {s : State Hardened} {past list : List Event} {end : Ending} → length past ≤ events → Reached s.shared (blocks + length past) → RunsOn code events patience c s past list end
      → (new : State Hardened) × Run (hardened code) s list new × EndsAs (hardened code) new (run_ending end)
  runs_end {s = s} within r (finished f) = (s, refl, f)
  runs_end {s = s} within r (failed f) = (s, refl, f)
  runs_end {s = s} {past = past} within r (stuck f en) =
      (s, refl, (f, no_step code events patience s past r.count (least_from s.shared.blocks r.count r.used) (omega (arith, r.few, within, few)) (r.ended f) f (λ t e. in_none t ((en.exactly t).1 e))))
  runs_end {s = s} {past = past} within r (full {t = t} f e l) = (s, refl, (f, enabled_steps code events patience s past r.count (least_from s.shared.blocks r.count r.used) (omega (arith, r.few, within, few)) (r.ended f) f t e))
  runs_end {s = s} within r (crowded {new = new} {p = p} {a = a} go en pk co cr) = (s, refl, (go.0, (by p.thread a, new, co.step)))
  runs_end {past = past} within r (goes_on {new = mid} {p = p} {a = a} go en pk co cr run) =
      let longer : length (past ++ by p.thread a ∷ []) ≡ length past + 1 = length-append past (by p.thread a ∷ []) in
      let rest = runs_end (omega (arith, longer, within, go.1)) (subst (Reached mid.shared) (omega (arith, longer)) (next_reached code events patience co (blocks + length past) r)) run in
      (rest.0, (mid, co.step, rest.1), rest.2)

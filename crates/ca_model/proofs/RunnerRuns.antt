-- The runner gives one list and one ending.
use Rattle.std.proofs.Common.{◌≡◌, ℕ, ◌+◌, List, [], ◌∷◌, ◌++◌, Option, Some, None, refl, sym, ap, ◌∙◌, subst}
use Rattle.ca_model.specs.declared.values.Event.{Event}
use Rattle.ca_model.specs.declared.values.EventAct.{EventAct}
use Rattle.ca_model.specs.declared.values.Ending.{Ending}
use Rattle.ca_model.specs.declared.values.Ending.TheVariants as ending
use Rattle.ca_model.specs.Frames.{Code}
use Rattle.ca_model.specs.Machine.{by, State, Step, Run}
use Rattle.ca_model.specs.Hardened.{Hardened, hardened}
use Rattle.ca_model.specs.Schedules.{Schedule, Listed_numbers, Words, Pick, pick, listed}
use Rattle.ca_model.specs.Runner.{IsCrowded, Comes, AreEnabled, RunsOn, finished, failed, stuck, full, crowded, goes_on, phase_of}
use Rattle.ca_model.proofs.Law.{one_of}
use Rattle.ca_model.proofs.Steps.{next_is_fixed}
use Rattle.ca_model.proofs.Members.{in_none}
use Rattle.ca_model.proofs.SameLists.{same_ascending}
use Rattle.ca_model.proofs.OneEntry.{one_event}
use Rattle.ca_model.proofs.Entries.{least_from}
use Rattle.ca_model.proofs.RunnerStates.{Reached, reached_after}

-- no thread is picked where none is enabled
none_listed : (ts : List ℕ) (last : Option ℕ) (p : Pick) → listed [] ts last ≡ Some p → ⊥
none_listed [] None p h = cc
none_listed [] (Some t) p h = cc
none_listed (t ∷ ts) last p h = none_listed ts last p h

pub no_pick : (c : Schedule) (p : Pick) → pick [] c ≡ Some p → ⊥
no_pick (Listed_numbers ts last) p h = none_listed ts last p h
no_pick (Words g) p h = cc

module _ (code : Code) (events patience : ℕ) where
  one_enabled : (s : State Hardened) (past : List Event) (xs ys : List ℕ) → AreEnabled code events patience s past xs → AreEnabled code events patience s past ys → xs ≡ ys
  one_enabled s past xs ys p q = same_ascending xs ys p.ascend q.ascend (λ t c. (q.exactly t).1 ((p.exactly t).0 c)) (λ t c. (p.exactly t).1 ((q.exactly t).0 c))

  pub next_reached : {s new : State Hardened} {t : ℕ} {a : EventAct} → Comes code events patience s t a new → (n : ℕ) → Reached s.shared n → Reached new.shared (n + 1)
  next_reached {s} {new} {t} {a} c n r = subst (λ g. Reached g (n + 1)) (sym c.step.shared) (reached_after s.shared t a n r c.step.legal c.chosen)

  none_picked : (c : Schedule) {s : State Hardened} {past : List Event} {xs : List ℕ} {p : Pick} → AreEnabled code events patience s past xs → AreEnabled code events patience s past [] → pick xs c ≡ Some p → ⊥
  none_picked c {s} {past} {xs} {p} en none pk = no_pick c p (subst (λ l. pick l c ≡ Some p) (one_enabled s past xs [] en none) pk)

  -- the same pick, the same entry, the same next state
  one_move : (c : Schedule) (s : State Hardened) (past : List Event) {xs ys : List ℕ} {p q : Pick} {a b : EventAct} {new other : State Hardened} (n : ℕ) → Reached s.shared n
      → AreEnabled code events patience s past xs → AreEnabled code events patience s past ys → pick xs c ≡ Some p → pick ys c ≡ Some q
      → Comes code events patience s p.thread a new → Comes code events patience s q.thread b other → (p ≡ q) × (a ≡ b) × (new ≡ other)
  one_move c s past {xs} {ys} {p} {q} {a} {b} {new} {other} n r en en' pk pk' co co' =
      let picked : p ≡ q = one_of p q (sym pk ∙ (ap (λ l. pick l c) (one_enabled s past xs ys en en') ∙ pk')) in
      let co'' : Comes code events patience s p.thread b other = subst (λ (z : Pick). Comes code events patience s z.thread b other) (sym picked) co' in
      let entry : a ≡ b = one_event code events patience s p.thread r.count (least_from s.shared.blocks r.count r.used) (r.ended co.step.legal.run) a b new other co co'' in
      let step : Step (hardened code) s (by p.thread a) other = subst (λ z. Step (hardened code) s (by p.thread z) other) (sym entry) co''.step in
      (picked, entry, next_is_fixed (hardened code) s (by p.thread a) new other co.step step)

  moved_run : (past : List Event) {rest : List Event} {end : Ending} {p q : Pick} {a b : EventAct} {new other : State Hardened} → p ≡ q → a ≡ b → new ≡ other
      → RunsOn code events patience q.after other (past ++ (by q.thread b ∷ [])) rest end → RunsOn code events patience p.after new (past ++ (by p.thread a ∷ [])) rest end
  moved_run past {rest} {end} {p} {q} {a} {b} {new} {other} i j k run =
      subst (λ (z : Pick). RunsOn code events patience z.after new (past ++ (by z.thread a ∷ [])) rest end) (sym i)
      (subst (λ z. RunsOn code events patience q.after new (past ++ (by q.thread z ∷ [])) rest end) (sym j)
      (subst (λ z. RunsOn code events patience q.after z (past ++ (by q.thread b ∷ [])) rest end) (sym k) run))

  same_list : {xs ys : List Event} {p q : Pick} {a b : EventAct} → p ≡ q → a ≡ b → xs ≡ ys → by p.thread a ∷ xs ≡ by q.thread b ∷ ys
  same_list i j k = λ n. by ((i n).thread) (j n) ∷ k n

  pub one_run : {c : Schedule} {s : State Hardened} {past first second : List Event} {x y : Ending} (n : ℕ) → Reached s.shared n
      → RunsOn code events patience c s past first x → RunsOn code events patience c s past second y → (first ≡ second) × (x ≡ y)
  one_run n r (finished f) (finished f') = (refl, refl)
  one_run n r (finished f) (failed f') = absurd cc
  one_run n r (finished f) (stuck f' e') = absurd cc
  one_run n r (finished f) (full f' e' l') = absurd cc
  one_run n r (finished f) (crowded go' en' pk' co' cr') = absurd cc
  one_run n r (finished f) (goes_on go' en' pk' co' cr' run') = absurd cc
  one_run n r (failed f) (finished f') = absurd cc
  one_run n r (failed f) (failed f') = (refl, ap ending.Fault cc)
  one_run n r (failed f) (stuck f' e') = absurd cc
  one_run n r (failed f) (full f' e' l') = absurd cc
  one_run n r (failed f) (crowded go' en' pk' co' cr') = absurd cc
  one_run n r (failed f) (goes_on go' en' pk' co' cr' run') = absurd cc
  one_run n r (stuck f e) (finished f') = absurd cc
  one_run n r (stuck f e) (failed f') = absurd cc
  one_run n r (stuck f e) (stuck f' e') = (refl, refl)
  one_run n r (stuck f e) (full f' e' l') = absurd (in_none _ ((e.exactly _).1 e'))
  one_run {c = c} n r (stuck f e) (crowded go' en' pk' co' cr') = absurd (none_picked c en' e pk')
  one_run {c = c} n r (stuck f e) (goes_on go' en' pk' co' cr' run') = absurd (none_picked c en' e pk')
  one_run n r (full f e l) (finished f') = absurd cc
  one_run n r (full f e l) (failed f') = absurd cc
  one_run n r (full f e l) (stuck f' e') = absurd (in_none _ ((e'.exactly _).1 e))
  one_run n r (full f e l) (full f' e' l') = (refl, refl)
  one_run n r (full f e l) (crowded go' en' pk' co' cr') = absurd (go'.1 l)
  one_run n r (full f e l) (goes_on go' en' pk' co' cr' run') = absurd (go'.1 l)
  one_run n r (crowded go en pk co cr) (finished f') = absurd cc
  one_run n r (crowded go en pk co cr) (failed f') = absurd cc
  one_run {c = c} n r (crowded go en pk co cr) (stuck f' e') = absurd (none_picked c en e' pk)
  one_run n r (crowded go en pk co cr) (full f' e' l') = absurd (go.1 l')
  one_run n r (crowded go en pk co cr) (crowded go' en' pk' co' cr') = (refl, refl)
  one_run {s = s} n r (crowded go en pk co cr) (goes_on go' en' pk' co' cr' run') = absurd (cr' (subst (IsCrowded s) (one_move _ _ _ n r en en' pk pk' co co').1 cr))
  one_run n r (goes_on go en pk co cr run) (finished f') = absurd cc
  one_run n r (goes_on go en pk co cr run) (failed f') = absurd cc
  one_run {c = c} n r (goes_on go en pk co cr run) (stuck f' e') = absurd (none_picked c en e' pk)
  one_run n r (goes_on go en pk co cr run) (full f' e' l') = absurd (go.1 l')
  one_run {s = s} n r (goes_on go en pk co cr run) (crowded go' en' pk' co' cr') = absurd (cr (subst (IsCrowded s) (sym (one_move _ _ _ n r en en' pk pk' co co').1) cr'))
  one_run {past = past} n r (goes_on go en pk co cr run) (goes_on go' en' pk' co' cr' run') =
      let same = one_move _ _ _ n r en en' pk pk' co co' in
      let run'' = moved_run past same.0 same.1 same.2 run' in
      let rest = one_run (n + 1) (next_reached co n r) run run'' in
      (same_list same.0 same.1 rest.0, rest.1)

  -- and its list is a run
  pub runs : {c : Schedule} {s : State Hardened} {past list : List Event} {end : Ending} → RunsOn code events patience c s past list end
      → (new : State Hardened) × Run (hardened code) s list new × (new.shared.phase ≡ phase_of end)
  runs {s = s} (finished f) = (s, refl, f)
  runs {s = s} (failed f) = (s, refl, f)
  runs {s = s} (stuck f e) = (s, refl, f)
  runs {s = s} (full f e l) = (s, refl, f)
  runs {s = s} (crowded go en pk co cr) = (s, refl, go.0)
  runs (goes_on {new = mid} go en pk co cr run) = let rest = runs run in (rest.0, (mid, co.step, rest.1), rest.2)

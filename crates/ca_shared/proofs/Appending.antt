-- One entry more.
use Rattle.std.proofs.Common.{◌≡◌, ◌≢◌, ◌<◌, ◌≤◌, ◌+◌, ℕ, zero, suc, Bool, true, false, cond, List, [], ◌∷◌, ◌++◌, length, Option, Some, None, refl, sym, ap, ◌∙◌, subst, arith, inl, inr, length-append}
use Rattle.std.specs.Prelude.{◌⊎◌, ◌==◌, ◌||◌, slice_get, sum_by, nat_eq}
use Rattle.std.specs.FinSet as set
use Rattle.std.proofs.lemmas.Bool.{eq-eqb}
use Rattle.std.proofs.lemmas.Bool.Decides.{eqb_tells}
use Rattle.std.proofs.lemmas.List.Sums.{sum_by-cons}
use Rattle.std.proofs.lemmas.Option.{slice_get_within}
use Rattle.ca_model.specs.declared.values.Event.{Event}
use Rattle.ca_model.specs.declared.values.EventAct.{EventAct}
use Rattle.ca_model.specs.declared.values.EventAct.TheVariants as act
use Rattle.ca_model.specs.declared.tree.GlobalStart.{GlobalStart}
use Rattle.ca_model.specs.Shared.{Shared, Blocks, Allows, IsLegal, effect}
use Rattle.ca_model.specs.Machine.{AllLegal, own_of}
use Rattle.ca_model.specs.Matched.{shared_after}
use Rattle.ca_model.specs.FrameCounts as counted
use Rattle.ca_model.specs.Runner.{since_last, makes_thread}
use Rattle.ca_model.proofs.Law.{get_either, get_one, one_of}
use Rattle.ca_model.proofs.Keeping.{entry_kept}
use Rattle.ca_model.proofs.KeptByRuns.{mutexes_after}
use Rattle.ca_model.proofs.FrameCounts.{depth_same, depth_other, together}
use Rattle.ca_memory.specs.Mutexes.{Mutexes}
use Rattle.ca_shared.specs.declared.phase.Phase.{Phase}
use Rattle.ca_shared.specs.declared.threads.Progress.{Progress}
use Rattle.ca_shared.specs.declared.refusals.Illegal.{Illegal}
use Rattle.ca_shared.specs.Histories.{History, opened, state, appended}
use Rattle.ca_shared.specs.Frames.{frames}
use Rattle.ca_shared.specs.Legal.{IsWellKept, IsNumbered}
use Rattle.ca_shared.specs.Refusals.{refusal}
use Rattle.ca_shared.specs.Kept.{shared_of, phase_of, ended_from, depth_of, most, begun, flagged, threads_after, noted, noted_at, made, IsProgress, AreParts}
use Rattle.ca_shared.proofs.Ended.{one_more}
use Rattle.ca_shared.proofs.Noting.{noted_sum, one_deeper}
use Rattle.ca_shared.proofs.Legality.{legal_if, passes_if, kept_all, opened_well}

-- the state after one entry more
pub after_more : (s : Shared) (es : List Event) (e : Event) → shared_after s (es ++ e ∷ []) ≡ effect (shared_after s es) e.thread e.act
after_more s [] e = refl
after_more s (d ∷ es) e = after_more (effect s d.thread d.act) es e

pub legal_more : (s : Shared) (es : List Event) (e : Event) → AllLegal s es → IsLegal (shared_after s es) e.thread e.act → AllLegal s (es ++ e ∷ [])
legal_more s [] e all l = (l, tt)
legal_more s (d ∷ es) e all l = (all.0, legal_more (effect s d.thread d.act) es e all.1 l)

pub since_more : (n t : ℕ) (es : List Event) (e : Event) → since_last n t (es ++ e ∷ []) ≡ cond ((e.thread == t) || makes_thread t e.act) 0 (since_last n t es + 1)
since_more n t [] e = refl
since_more n t (d ∷ es) e = by_test ((d.thread == t) || makes_thread t d.act) (since_more 0 t es e) (since_more (n + 1) t es e)
  where
    by_test : (b : Bool) → since_last 0 t (es ++ e ∷ []) ≡ cond ((e.thread == t) || makes_thread t e.act) 0 (since_last 0 t es + 1)
        → since_last (n + 1) t (es ++ e ∷ []) ≡ cond ((e.thread == t) || makes_thread t e.act) 0 (since_last (n + 1) t es + 1)
        → cond b (since_last 0 t (es ++ e ∷ [])) (since_last (n + 1) t (es ++ e ∷ [])) ≡ cond ((e.thread == t) || makes_thread t e.act) 0 (cond b (since_last 0 t es) (since_last (n + 1) t es) + 1)
    by_test true yes' no' = yes'
    by_test false yes' no' = no'

more_threads : (s : Shared) (es : List Event) → AllLegal s es → s.threads ≤ (shared_after s es).threads
more_threads s [] all = omega arith
more_threads s (e ∷ es) all =
    let one = (entry_kept s e.thread e.act all.0).threads in
    let rest = more_threads (effect s e.thread e.act) es all.1 in
    omega (arith, one, rest)

apart : (m n : ℕ) → (m ≡ n → ⊥) → nat_eq m n ≡ false
apart m n ne = elim (eqb_tells m n) [ inl l ↦ absurd (ne l.1) | inr r ↦ r.0 ]

-- a thread that isn't there yet has no entry
none_beyond : (s : Shared) (es : List Event) (u : ℕ) → AllLegal s es → (shared_after s es).threads ≤ u → own_of u es ≡ []
none_beyond s [] u all beyond = refl
none_beyond s (e ∷ es) u all beyond =
    let one = (entry_kept s e.thread e.act all.0).threads in
    let rest = more_threads (effect s e.thread e.act) es all.1 in
    let there = all.0.there in
    ap (λ b. cond b (e.act ∷ own_of u es) (own_of u es)) (apart e.thread u (λ q. omega (arith, q, one, rest, there, beyond))) ∙ none_beyond (effect s e.thread e.act) es u all.1 beyond

-- lists of threads
after_length : (ps : List Progress) (t : ℕ) (a : EventAct) (place : ℕ) → length (threads_after ps t a place) ≡ length ps + made a
after_length ps t (act.Create u) place = one_more ps place
after_length ps t act.End place = omega (arith, flagged_same ps t)
  where
    flagged_same : (ps : List Progress) (t : ℕ) → length (flagged ps t) ≡ length ps
    flagged_same [] t = refl
    flagged_same (p ∷ ps) zero = refl
    flagged_same (p ∷ ps) (suc t) = ap suc (flagged_same ps t)
after_length ps t a place = omega arith

sum_flagged : (f : Progress → ℕ) → ((p : Progress) → f (record { ended = true; depth = p.depth; last = p.last }) ≡ f p) → (ps : List Progress) (t : ℕ) → sum_by f (flagged ps t) ≡ sum_by f ps
sum_flagged f same [] t = refl
sum_flagged f same (p ∷ ps) zero =
    let one : sum_by f (record { ended = true; depth = p.depth; last = p.last } ∷ ps) ≡ f (record { ended = true; depth = p.depth; last = p.last }) + sum_by f ps = sum_by-cons f _ ps in
    let two : sum_by f (p ∷ ps) ≡ f p + sum_by f ps = sum_by-cons f p ps in
    let eq = same p in
    omega (arith, one, two, eq)
sum_flagged f same (p ∷ ps) (suc t) =
    let one : sum_by f (p ∷ flagged ps t) ≡ f p + sum_by f (flagged ps t) = sum_by-cons f p (flagged ps t) in
    let two : sum_by f (p ∷ ps) ≡ f p + sum_by f ps = sum_by-cons f p ps in
    let rest = sum_flagged f same ps t in
    omega (arith, one, two, rest)

sum_more : (f : Progress → ℕ) (ps : List Progress) (q : Progress) → sum_by f (ps ++ q ∷ []) ≡ sum_by f ps + f q
sum_more f [] q = let one : sum_by f (q ∷ []) ≡ f q + sum_by f [] = sum_by-cons f q [] in omega (arith, one)
sum_more f (p ∷ ps) q =
    let one : sum_by f (p ∷ (ps ++ q ∷ [])) ≡ f p + sum_by f (ps ++ q ∷ []) = sum_by-cons f p (ps ++ q ∷ []) in
    let two : sum_by f (p ∷ ps) ≡ f p + sum_by f ps = sum_by-cons f p ps in
    let rest = sum_more f ps q in
    omega (arith, one, two, rest)

sum_after : (f : Progress → ℕ) → ((p : Progress) → f (record { ended = true; depth = p.depth; last = p.last }) ≡ f p) → ((place : ℕ) → f (begun place) ≡ 1) → (ps : List Progress) (t : ℕ) (a : EventAct) (place : ℕ)
    → sum_by f (threads_after ps t a place) ≡ sum_by f ps + made a
sum_after f same one ps t (act.Create u) place = sum_more f ps (begun place) ∙ ap (λ n. sum_by f ps + n) (one place)
sum_after f same one ps t act.End place = omega (arith, sum_flagged f same ps t)
sum_after f same one ps t a place = omega arith

-- a thread is what it was but for its end, or is new
abbrev Was : List Progress → ℕ → EventAct → ℕ → Progress → Type 0
Was ps u a place y = ((x : Progress) × (slice_get ps u ≡ Some x) × (y.depth ≡ x.depth) × (y.last ≡ x.last)) ⊎ ((u ≡ length ps) × (y ≡ begun place) × (makes_thread (length ps) a ≡ true))

flagged_was : (ps : List Progress) (t u : ℕ) (y : Progress) → slice_get (flagged ps t) u ≡ Some y → (x : Progress) × (slice_get ps u ≡ Some x) × (y.depth ≡ x.depth) × (y.last ≡ x.last)
flagged_was [] t u y at = absurd cc
flagged_was (p ∷ ps) zero zero y at = let is = one_of _ y at in (p, refl, ap (λ (z : Progress). z.depth) (sym is), ap (λ (z : Progress). z.last) (sym is))
flagged_was (p ∷ ps) zero (suc u) y at = (y, at, refl, refl)
flagged_was (p ∷ ps) (suc t) zero y at = (y, at, refl, refl)
flagged_was (p ∷ ps) (suc t) (suc u) y at = flagged_was ps t u y at

was : (ps : List Progress) (t u : ℕ) (a : EventAct) (place : ℕ) (y : Progress) → ((v : ℕ) → a ≡ act.Create v → v ≡ length ps) → slice_get (threads_after ps t a place) u ≡ Some y → Was ps u a place y
was ps t u (act.Create v) place y next at = elim (get_either ps (begun place ∷ []) u y at) [
  | inl l ↦ inl (y, l, refl, refl)
  | inr (k, is, g) ↦ first k is g
]
  where
    first : (k : ℕ) → u ≡ length ps + k → slice_get (begun place ∷ []) k ≡ Some y → Was ps u (act.Create v) place y
    first zero is g = inr (omega (arith, is), sym (one_of _ y g), eq-eqb v (length ps) (next v refl))
    first (suc k) is g = absurd cc
was ps t u act.End place y next at = inl (flagged_was ps t u y at)
was ps t u a place y next at = inl (y, at, refl, refl)

-- a thread that is noted, and the others
noted_was : (ps : List Progress) (t u : ℕ) (a : EventAct) (place : ℕ) (y : Progress) → slice_get (noted_at ps t a place) u ≡ Some y
    → ((u ≡ t) × ((x : Progress) × (slice_get ps u ≡ Some x) × (y ≡ noted x a place))) ⊎ ((u ≢ t) × (slice_get ps u ≡ Some y))
noted_was [] t u a place y at = absurd cc
noted_was (p ∷ ps) zero zero a place y at = inl (refl, (p, refl, sym (one_of _ y at)))
noted_was (p ∷ ps) zero (suc u) a place y at = inr ((λ e. omega (arith, e)), at)
noted_was (p ∷ ps) (suc t) zero a place y at = inr ((λ e. omega (arith, e)), at)
noted_was (p ∷ ps) (suc t) (suc u) a place y at = elim (noted_was ps t u a place y at) [
  | inl l ↦ inl (ap suc l.0, l.1)
  | inr r ↦ inr ((λ e. r.0 (omega (arith, e))), r.1)
]

noted_length : (ps : List Progress) (t : ℕ) (a : EventAct) (place : ℕ) → length (noted_at ps t a place) ≡ length ps
noted_length [] t a place = refl
noted_length (p ∷ ps) zero a place = refl
noted_length (p ∷ ps) (suc t) a place = ap suc (noted_length ps t a place)

noted_ended : (ps : List Progress) (n t : ℕ) (a : EventAct) (place : ℕ) → ended_from n (noted_at ps t a place) ≡ ended_from n ps
noted_ended [] n t a place = refl
noted_ended (p ∷ ps) n zero a place = refl
noted_ended (p ∷ ps) n (suc t) a place = ap (λ e. cond p.ended (set.insert e n) e) (noted_ended ps (n + 1) t a place)

noted_state : (b : Blocks) (o : Mutexes) (out : List ℕ) (ps : List Progress) (p : Phase) (t : ℕ) (a : EventAct) (place : ℕ) → shared_of b o out (noted_at ps t a place) p ≡ shared_of b o out ps p
noted_state b o out ps p t a place = λ i. record { blocks = b; mutexes = o.count; owners = o.owners; output = out; threads = noted_length ps t a place i; ended = noted_ended ps 0 t a place i; phase = phase_of p }

module _ (gs : List GlobalStart) (tr : List Event) (b : Blocks) (o : Mutexes) (out : List ℕ) (ps : List Progress) (fr : ℕ) (p : Phase) (k : AreParts gs tr b o out ps fr p) where
  abbrev S : Shared
  S = shared_of b o out ps p

  pub well : IsWellKept S
  well = subst IsWellKept (sym k.state) (kept_all (opened gs o.count) tr k.legal (opened_well gs o.count))

  pub forbids : (h : History) (e : Event) (why : Illegal) → record { globals = gs; mutexes = o.count; trace = tr } ≡ h → Some why ≡ refusal S e → IsLegal (state h) e.thread e.act → ⊥
  forbids h e why is no' l =
      let legal : IsLegal S e.thread e.act = subst (λ s. IsLegal s e.thread e.act) (sym (k.state ∙ ap state is)) l in
      let never : ◌≡◌ {A = Option Illegal} (Some why) None = no' ∙ passes_if S e well legal in
      absurd cc

  pub frames_are : fr ≡ frames (record { globals = gs; mutexes = o.count; trace = tr })
  frames_are =
      let all = together (λ (x : Progress). x.depth.now) tr ps 0 (λ t x at. ap (λ (d : counted.Depth). d.now) ((k.each t x at).depth) ∙ ap (λ n. (counted.depth_of n tr).now) (none_before t)) in
      let count : length ps ≡ (state (record { globals = gs; mutexes = o.count; trace = tr })).threads = ap (λ (s : Shared). s.threads) k.state in
      k.all ∙ (none_before _ ∙ (all ∙ ap (counted.frames_below tr) (sym (none_before (length ps)) ∙ count)))
    where
      none_before : (t : ℕ) → t ≡ 0 + t
      none_before t = omega arith

  module _ (e : Event) (short : length tr < 4000000000) (place : ℕ) (last : place ≡ length tr + 1) where
    abbrev Q : List Progress
    Q = threads_after ps e.thread e.act place

    pub still_there : e.thread < length ps → e.thread < length Q
    still_there lt = omega (arith, lt, after_length ps e.thread e.act place)

    pub all_counted : fr + made e.act ≡ sum_by (λ (x : Progress). x.depth.now) Q
    all_counted = ap (λ n. n + made e.act) k.all ∙ sym (sum_after (λ (x : Progress). x.depth.now) (λ x. refl) (λ n. refl) ps e.thread e.act place)

    one_most : (n : ℕ) → most (begun n) ≡ 1
    one_most n = grind arith

    most_made : made e.act ≤ 1
    most_made = at_most e.act
      where
        at_most : (a : EventAct) → made a ≤ 1
        at_most (act.Create u) = omega arith
        at_most a = omega arith

    pub all_fit : sum_by most Q < 4294967295
    all_fit =
        let is = sum_after most (λ x. refl) one_most ps e.thread e.act place in
        let fits = k.fits in
        let few = well.few in
        omega (arith, is, fits, few, most_made, short)

    module _ (legal : IsLegal S e.thread e.act) where
      next_is : (v : ℕ) → e.act ≡ act.Create v → v ≡ length ps
      next_is v is = by_act e.act is legal.allowed
        where
          by_act : (a : EventAct) → a ≡ act.Create v → Allows S e.thread a → v ≡ length ps
          by_act (act.Create u) is ok = sym (ap number_of is) ∙ ok.0
            where
              number_of : EventAct → ℕ
              number_of (act.Create n) = n
              number_of _ = 0
          by_act _ is ok = absurd cc

      other_made : (u : ℕ) → u < length ps → makes_thread u e.act ≡ false
      other_made u lt = by_act e.act refl
        where
          by_act : (a : EventAct) → e.act ≡ a → makes_thread u a ≡ false
          by_act (act.Create v) is = apart v u (λ q. let n = next_is v is in omega (arith, q, n, lt))
          by_act _ is = refl

      own_progress : (u : ℕ) (x y : Progress) → u ≡ e.thread → slice_get Q u ≡ Some x → y ≡ noted x e.act place → IsProgress (tr ++ e ∷ []) u y
      own_progress u x y is at now = elim (was ps e.thread u e.act place x next_is at) [
        | inl (z, had, depth, l) ↦
            let here = eq-eqb e.thread u (sym is) in
            record {
              depth = ap (λ (w : Progress). depth_of w.depth) now
                  ∙ (ap (λ d. counted.deeper (depth_of d) e.act) depth ∙ (ap (λ d. counted.deeper d e.act) (k.each u z had).depth ∙ sym (depth_same u tr e here)));
              last =
                  let since : since_last 0 u (tr ++ e ∷ []) ≡ 0 = since_more 0 u tr e ∙ ap (λ q. cond (q || makes_thread u e.act) 0 (since_last 0 u tr + 1)) here in
                  let at : y.last ≡ place = ap (λ (w : Progress). w.last) now in
                  omega (arith, since, at, last, length-append tr (e ∷ []));
            }
        | inr (beyond, _, _) ↦ let there = legal.there in absurd (let never : ⊥ = omega (arith, beyond, is, there) in never)
      ]

      other_progress : (u : ℕ) (y : Progress) → u ≢ e.thread → slice_get Q u ≡ Some y → IsProgress (tr ++ e ∷ []) u y
      other_progress u y ne at =
          let there' = apart e.thread u (λ q. ne (sym q)) in
          elim (was ps e.thread u e.act place y next_is at) [
            | inl (z, had, depth, l) ↦
                let within : u < length ps = slice_get_within ps u z had in record {
                  depth = ap depth_of depth ∙ ((k.each u z had).depth ∙ sym (depth_other u tr e there'));
                  last =
                      let since : since_last 0 u (tr ++ e ∷ []) ≡ since_last 0 u tr + 1 =
                      since_more 0 u tr e ∙ (ap (λ q. cond (q || makes_thread u e.act) 0 (since_last 0 u tr + 1)) there' ∙ ap (λ q. cond q 0 (since_last 0 u tr + 1)) (other_made u within)) in
                      let had' = (k.each u z had).last in
                      omega (arith, since, l, had', length-append tr (e ∷ []));
                }
            | inr (beyond, new, makes) ↦
                let none : own_of u tr ≡ [] = none_beyond (opened gs o.count) tr u k.legal (let count = ap (λ (s : Shared). s.threads) k.state in omega (arith, count, beyond)) in
                record {
                  depth = ap (λ (w : Progress). depth_of w.depth) new ∙ sym (depth_other u tr e there' ∙ ap (counted.depth_after counted.first_depth) none);
                  last =
                      let makes' : makes_thread u e.act ≡ true = ap (λ n. makes_thread n e.act) beyond ∙ makes in
                      let since : since_last 0 u (tr ++ e ∷ []) ≡ 0 =
                      since_more 0 u tr e ∙ (ap (λ q. cond (q || makes_thread u e.act) 0 (since_last 0 u tr + 1)) there' ∙ ap (λ q. cond q 0 (since_last 0 u tr + 1)) makes') in
                      let at : y.last ≡ place = ap (λ (w : Progress). w.last) new in
                      omega (arith, since, at, last, length-append tr (e ∷ []));
                }
          ]

      most_fit : sum_by most (noted_at Q e.thread e.act place) ≤ length (noted_at Q e.thread e.act place) + length (tr ++ e ∷ [])
      most_fit =
          let lt = still_there legal.there in
          let one = get_one Q e.thread lt in
          let sums = noted_sum most Q e.thread e.act place one.0 one.1 in
          let deep = one_deeper one.0 e.act place in
          let is = sum_after most (λ x. refl) one_most ps e.thread e.act place in
          let fits = k.fits in
          omega (arith, sums, deep, is, fits, noted_length Q e.thread e.act place, after_length ps e.thread e.act place, length-append tr (e ∷ []))

      -- the parts after the entry
      pub one_entry : (m : Blocks) (n : Mutexes) (out' : List ℕ) (q : Phase) (fr' : ℕ) → shared_of m n out' Q q ≡ effect S e.thread e.act → fr' ≡ sum_by (λ (x : Progress). x.depth.now) (noted_at Q e.thread e.act place)
          → (n.count ≡ o.count) × AreParts gs (tr ++ e ∷ []) m n out' (noted_at Q e.thread e.act place) fr' q
      one_entry m n out' q fr' is all' =
          let count : n.count ≡ o.count = ap (λ (s : Shared). s.mutexes) is ∙ mutexes_after S e.thread e.act in
          let state' : shared_of m n out' (noted_at Q e.thread e.act place) q ≡ shared_after (opened gs o.count) (tr ++ e ∷ []) =
          noted_state m n out' Q q e.thread e.act place ∙ (is ∙ (ap (λ s. effect s e.thread e.act) k.state ∙ sym (after_more (opened gs o.count) tr e))) in
          let legal' : AllLegal (opened gs o.count) (tr ++ e ∷ []) = legal_more (opened gs o.count) tr e k.legal (subst (λ s. IsLegal s e.thread e.act) k.state legal) in (
            count,
            record {
              state = state' ∙ ap (λ c. shared_after (opened gs c) (tr ++ e ∷ [])) (sym count);
              legal = subst (λ c. AllLegal (opened gs c) (tr ++ e ∷ [])) (sym count) legal';
              few = omega (arith, short, length-append tr (e ∷ []));
              each = λ u y at. elim (noted_was Q e.thread u e.act place y at) [
                | inl (is', (x, had, now)) ↦ own_progress u x y is' had now
                | inr (ne, had) ↦ other_progress u y ne had
              ];
              all = all';
              fits = most_fit;
            },
          )

  -- the same over parts that are known to be these
  module _ (e : Event) (short : length tr < 4000000000) (place : ℕ) (last : place ≡ length tr + 1) where
    pub no_refusal : (qs : List Progress) → qs ≡ ps → None ≡ refusal (shared_of b o out qs p) e → refusal S e ≡ None
    no_refusal qs is none = ap (λ l. refusal (shared_of b o out l p) e) (sym is) ∙ sym none

    pub fit : (qs : List Progress) → qs ≡ threads_after ps e.thread e.act place → sum_by most qs < 4294967295
    fit qs is = subst (λ l. sum_by most l < 4294967295) (sym is) (all_fit e short place last)

    pub counted_all : (qs : List Progress) → qs ≡ threads_after ps e.thread e.act place → fr + made e.act ≡ sum_by (λ (x : Progress). x.depth.now) qs
    counted_all qs is = all_counted e short place last ∙ ap (sum_by (λ (x : Progress). x.depth.now)) (sym is)

    pub there : (qs : List Progress) → qs ≡ threads_after ps e.thread e.act place → e.thread < length ps → e.thread < length qs
    there qs is lt = subst (λ l. e.thread < length l) (sym is) (still_there e short place last lt)

    pub whole : (none : refusal S e ≡ None) (low : IsNumbered e.act) (m n' : Blocks) (o' n : Mutexes) (out' : List ℕ) (qs rs : List Progress) (q : Phase) (fr' : ℕ) (tr' : List Event)
        → n' ≡ b → o' ≡ o → shared_of m n out' qs q ≡ effect (shared_of n' o' out ps p) e.thread e.act → qs ≡ threads_after ps e.thread e.act place → rs ≡ noted_at qs e.thread e.act place
        → fr' ≡ sum_by (λ (x : Progress). x.depth.now) rs → tr' ≡ tr ++ e ∷ [] → (n.count ≡ o.count) × AreParts gs tr' m n out' rs fr' q
    whole none low m n' o' n out' qs rs q fr' tr' blocks owners is after notes all more =
        let is' : shared_of m n out' (threads_after ps e.thread e.act place) q ≡ effect S e.thread e.act =
        ap (λ l. shared_of m n out' l q) (sym after) ∙ (is ∙ (λ i. effect (shared_of (blocks i) (owners i) out ps p) e.thread e.act)) in
        let notes' : rs ≡ noted_at (threads_after ps e.thread e.act place) e.thread e.act place = notes ∙ ap (λ l. noted_at l e.thread e.act place) after in
        let done = one_entry e short place last (legal_if S e low none) m n out' q fr' is' (all ∙ ap (sum_by (λ (x : Progress). x.depth.now)) notes') in
        (done.0, subst (λ t. AreParts gs t m n out' rs fr' q) (sym more) (subst (λ l. AreParts gs (tr ++ e ∷ []) m n out' l fr' q) (sym notes') done.1))

    pub one_more_of : (h : History) (n : Mutexes) (tr' : List Event) → record { globals = gs; mutexes = o.count; trace = tr } ≡ h → n.count ≡ o.count → tr' ≡ tr ++ e ∷ [] → record { globals = gs; mutexes = n.count; trace = tr' } ≡ appended h e
    one_more_of h n tr' is count more = (λ i. record { globals = gs; mutexes = count i; trace = more i }) ∙ ap (λ g. appended g e) is

    pub legal_of : (h : History) → record { globals = gs; mutexes = o.count; trace = tr } ≡ h → IsNumbered e.act → refusal S e ≡ None → IsLegal (state h) e.thread e.act
    legal_of h is low none = subst (λ s. IsLegal s e.thread e.act) (k.state ∙ ap state is) (legal_if S e low none)

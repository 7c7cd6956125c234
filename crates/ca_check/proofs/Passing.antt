-- A list of entries has one verdict, but for want of memory.
use Rattle.std.proofs.Common.{◌≡◌, ◌<◌, ℕ, zero, suc, List, [], ◌∷◌, length, take, Some, refl, sym, ap, subst, ◌∙◌, arith, ◌⊎◌, inl, inr, Result, Ok, Err}
use Rattle.std.specs.Prelude.{slice_get}
use Rattle.std.proofs.lemmas.List.{take_all}
use Rattle.std.proofs.lemmas.Bool.{cases_lt}
use Rattle.ca_model.specs.declared.plan.Plan.{Plan}
use Rattle.ca_model.specs.declared.values.Event.{Event}
use Rattle.ca_model.specs.declared.values.Ending.{Ending}
use Rattle.ca_model.specs.declared.values.Ending.TheVariants as ending
use Rattle.ca_model.specs.Codes.{Typed}
use Rattle.ca_model.specs.Hardened.{Hardened}
use Rattle.ca_model.specs.Shared.{Phase}
use Rattle.ca_model.specs.Shared.Phase.{Open, Finished, Failed}
use Rattle.ca_model.specs.Machine.{Rules, State, Run, Step}
use Rattle.ca_model.specs.Opening.{opening, EndsAs}
use Rattle.ca_model.proofs.Steps.{next_is_fixed}
use Rattle.ca_check.specs.declared.checking.CheckNo.{CheckNo}
use Rattle.ca_check.specs.declared.checking.CheckNo.TheVariants as no
use Rattle.ca_check.specs.Verdicts.{rules, LeadTo, IsRunTo, IsFirstNoStep, IsVerdict}

-- a run reaches one state
pub one_state : (r : Rules Hardened) (es : List Event) (old a b : State Hardened) → Run r old es a → Run r old es b → a ≡ b
one_state r [] old a b p q = p ∙ sym q
one_state r (e ∷ es) old a b (m, s, p) (n, t, q) = one_state r es n a b (subst (λ x. Run r x es a) (next_is_fixed r old e m n s t) p) q

-- a run passes each of its entries
record Passes (r : Rules Hardened) (old : State Hardened) (es : List Event) (i : ℕ) (e : Event) : Type 0 where
  mid : State Hardened
  run : Run r old (take i es) mid
  next : State Hardened
  step : Step r mid e next

passes : (r : Rules Hardened) (es : List Event) (i j : ℕ) (e : Event) (old s : State Hardened) → slice_get es i ≡ Some e → i < j → Run r old (take j es) s → Passes r old es i e
passes r [] i j e old s at less run = absurd cc
passes r (d ∷ es) i zero e old s at less run = absurd (omega arith)
passes r (d ∷ es) zero (suc j) e old s at less (mid, step, run) =
    let same : d ≡ e = cc in
    record { mid = old; run = refl; next = mid; step = subst (λ (x : Event). Step r old x mid) same step }
passes r (d ∷ es) (suc i) (suc j) e old s at less (mid, step, run) =
    let p = passes r es i j e mid s at (omega arith) run in
    record { mid = p.mid; run = (mid, step, p.run); next = p.next; step = p.step }

-- so no run goes on past the first entry that is no step
stops : (p : Typed) (plan : Plan) (es : List Event) (i j : ℕ) (s : State Hardened) → IsFirstNoStep p plan es i → i < j → LeadTo p plan (take j es) s → ⊥
stops p plan es i j s f less run =
    let q = passes (rules p plan) es i j f.entry (opening (rules p plan) p) s f.stands less run in
    let same : q.mid ≡ f.before = one_state (rules p plan) (take i es) (opening (rules p plan) p) q.mid f.before q.run f.run in
    f.none q.next (subst (λ (x : State Hardened). Step (rules p plan) x f.entry q.next) same q.step)

there : (es : List Event) (i : ℕ) (e : Event) → slice_get es i ≡ Some e → i < length es
there [] i e at = absurd cc
there (d ∷ es) zero e at = omega arith
there (d ∷ es) (suc i) e at = let h = there es i e at in omega arith

whole : (p : Typed) (plan : Plan) (es : List Event) (s : State Hardened) → LeadTo p plan es s → LeadTo p plan (take (length es) es) s
whole p plan es s run = subst (λ (l : List Event). LeadTo p plan l s) (sym (take_all (length es) es (omega arith))) run

-- a state has one ending
no_phase : (a b : Phase) (s : Phase) → s ≡ a → s ≡ b → a ≡ b
no_phase a b s p q = sym p ∙ q

one_end : (r : Rules Hardened) (s : State Hardened) (a b : Ending) → EndsAs r s a → EndsAs r s b → a ≡ b
one_end r s ending.Finished ending.Finished p q = refl
one_end r s ending.Finished (ending.Fault k) p q = absurd (cc (no_phase Finished (Failed k) s.shared.phase p q))
one_end r s ending.Finished ending.Deadlock p q = absurd (cc (no_phase Finished Open s.shared.phase p q.0))
one_end r s ending.Finished ending.Unended p q = absurd (cc (no_phase Finished Open s.shared.phase p q.0))
one_end r s (ending.Fault k) ending.Finished p q = absurd (cc (no_phase (Failed k) Finished s.shared.phase p q))
one_end r s (ending.Fault k) (ending.Fault l) p q = let same : k ≡ l = cc (no_phase (Failed k) (Failed l) s.shared.phase p q) in ap ending.Fault same
one_end r s (ending.Fault k) ending.Deadlock p q = absurd (cc (no_phase (Failed k) Open s.shared.phase p q.0))
one_end r s (ending.Fault k) ending.Unended p q = absurd (cc (no_phase (Failed k) Open s.shared.phase p q.0))
one_end r s ending.Deadlock ending.Finished p q = absurd (cc (no_phase Open Finished s.shared.phase p.0 q))
one_end r s ending.Deadlock (ending.Fault k) p q = absurd (cc (no_phase Open (Failed k) s.shared.phase p.0 q))
one_end r s ending.Deadlock ending.Deadlock p q = refl
one_end r s ending.Deadlock ending.Unended p q = absurd (p.1 q.1)
one_end r s ending.Unended ending.Finished p q = absurd (cc (no_phase Open Finished s.shared.phase p.0 q))
one_end r s ending.Unended (ending.Fault k) p q = absurd (cc (no_phase Open (Failed k) s.shared.phase p.0 q))
one_end r s ending.Unended ending.Deadlock p q = absurd (q.1 p.1)
one_end r s ending.Unended ending.Unended p q = refl
one_end r s ending.Events b p q = absurd p
one_end r s ending.Frames b p q = absurd p
one_end r s a ending.Events p q = absurd q
one_end r s a ending.Frames p q = absurd q

-- verdicts

pub one_ending : (p : Typed) (plan : Plan) (es : List Event) (a b : Ending) → IsRunTo p plan es a → IsRunTo p plan es b → a ≡ b
one_ending p plan es a b x y =
    let same : x.last ≡ y.last = one_state (rules p plan) es (opening (rules p plan) p) x.last y.last x.run y.run in
    one_end (rules p plan) y.last a b (subst (λ (s : State Hardened). EndsAs (rules p plan) s a) same x.ends) y.ends

pub no_way : (p : Typed) (plan : Plan) (es : List Event) (s : State Hardened) (i : ℕ) → LeadTo p plan es s → IsFirstNoStep p plan es i → ⊥
no_way p plan es s i run f = stops p plan es i (length es) s f (there es i f.entry f.stands) (whole p plan es s run)

pub no_run : (p : Typed) (plan : Plan) (es : List Event) (end : Ending) (i : ℕ) → IsRunTo p plan es end → IsFirstNoStep p plan es i → ⊥
no_run p plan es end i x f = no_way p plan es x.last i x.run f

pub one_index : (p : Typed) (plan : Plan) (es : List Event) (i j : ℕ) → IsFirstNoStep p plan es i → IsFirstNoStep p plan es j → i ≡ j
one_index p plan es i j f g = elim (cases_lt i j) [
  | inl less ↦ absurd (stops p plan es i j g.before f less g.run)
  | inr rest ↦ elim (cases_lt j i) [
    | inl less ↦ absurd (stops p plan es j i f.before g less f.run)
    | inr back ↦ omega arith
  ]
]

pub only_ending : (p : Typed) (plan : Plan) (es : List Event) (r : Result Ending CheckNo) (end : Ending) → IsVerdict p plan es r → IsRunTo p plan es end → (r ≡ Ok end) ⊎ (r ≡ Err no.NoMemory)
only_ending p plan es (Ok other) end is runs = inl (ap Ok (one_ending p plan es other end is runs))
only_ending p plan es (Err (no.NotARun index)) end is runs = absurd (no_run p plan es end index runs is)
only_ending p plan es (Err no.NoMemory) end is runs = inr refl

pub only_index : (p : Typed) (plan : Plan) (es : List Event) (r : Result Ending CheckNo) (index : ℕ) → IsVerdict p plan es r → IsFirstNoStep p plan es index → (r ≡ Err (no.NotARun index)) ⊎ (r ≡ Err no.NoMemory)
only_index p plan es (Ok end) index is first = absurd (no_run p plan es end index is first)
only_index p plan es (Err (no.NotARun other)) index is first = inl (ap (λ (n : ℕ). Err (no.NotARun n)) (one_index p plan es other index is first))
only_index p plan es (Err no.NoMemory) index is first = inr refl

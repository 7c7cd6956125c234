-- A list has one answer, but for want of memory.
use Rattle.std.proofs.Common.{◌≡◌, ℕ, zero, suc, true, false, List, [], ◌∷◌, length, take, Some, refl, sym, ap, subst, ◌∙◌, arith, ◌⊎◌, inl, inr, Result, Ok, Err}
use Rattle.std.specs.Prelude.{slice_get, ◌+◌, IfOk}
use Rattle.ca_model.specs.declared.plan.Plan.{Plan}
use Rattle.ca_model.specs.declared.values.Event.{Event}
use Rattle.ca_model.specs.declared.values.Ending.{Ending}
use Rattle.ca_model.specs.Codes.{Typed}
use Rattle.ca_model.specs.Private.{Thread}
use Rattle.ca_model.specs.Machine.{State}
use Rattle.ca_model.specs.SourceRuns.{no_plan}
use Rattle.ca_model.specs.Projection.{projection}
use Rattle.ca_model.specs.Unhardened.{unsaved_state}
use Rattle.ca_model.proofs.PlainRuns.{runs_alike}
use Rattle.ca_model.specs.Plans.{IsSound}
use Rattle.ca_erasure.specs.Erased.{ErasesAttempts}
use Rattle.ca_erasure.specs.Lifted.{is_fault, IsFailureFree, IsLifted}
use Rattle.ca_erasure.proofs.Lifts.{lifts_runs, lifts_once}
use Rattle.ca_erasure.proofs.LastFaults.{source_fails_last}
use Rattle.ca_check.specs.declared.checking.CheckNo.{CheckNo}
use Rattle.ca_check.specs.declared.checking.CheckNo.TheVariants as check_no
use Rattle.ca_check.specs.declared.lifting.LiftNo.{LiftNo}
use Rattle.ca_check.specs.declared.lifting.LiftNo.TheVariants as lift_no
use Rattle.ca_check.specs.Verdicts.{LeadTo, IsRunTo, IsFirstNoStep}
use Rattle.ca_check.specs.Projections.{IsRun, IsProjection, IsErased, HasOneProjection}
use Rattle.ca_check.specs.Lifts.{SourceLeadsTo, IsLiftOf, IsFaultEntry, IsFaultAt, IsLift, HasOneLift}
use Rattle.ca_check.proofs.Passing.{no_way, one_index}

-- the projection

pub one_projection : (p : Typed) (plan : Plan) (events : List Event) → HasOneProjection p plan events
one_projection p plan events (Ok a) (Ok b) x y = inl (ap Ok (x.1 ∙ sym y.1))
one_projection p plan events (Ok a) (Err (check_no.NotARun j)) x y = absurd (no_way p plan events x.0.0 j x.0.1 y)
one_projection p plan events (Err (check_no.NotARun i)) (Ok b) x y = absurd (no_way p plan events y.0.0 i y.0.1 x)
one_projection p plan events (Err (check_no.NotARun i)) (Err (check_no.NotARun j)) x y = inl (ap (λ (n : ℕ). Err (check_no.NotARun n)) (one_index p plan events i j x y))
one_projection p plan events (Err check_no.NoMemory) b x y = inr (inl refl)
one_projection p plan events a (Err check_no.NoMemory) x y = inr (inr refl)

pub only_projection : (p : Typed) (plan : Plan) (events : List Event) (r : Result (List Event) CheckNo) → IsProjection p plan events r → IsRun p plan events → (r ≡ Ok (projection events)) ⊎ (r ≡ Err check_no.NoMemory)
only_projection p plan events r is run = elim (one_projection p plan events r (Ok (projection events)) is (run, refl)) [
  | inl same ↦ inl same
  | inr (inl none) ↦ inr none
  | inr (inr never) ↦ absurd cc
]

pub only_refusal : (p : Typed) (plan : Plan) (events : List Event) (r : Result (List Event) CheckNo) (i : ℕ) → IsProjection p plan events r → IsFirstNoStep p plan events i → (r ≡ Err (check_no.NotARun i)) ⊎ (r ≡ Err check_no.NoMemory)
only_refusal p plan events r i is first = elim (one_projection p plan events r (Err (check_no.NotARun i)) is first) [
  | inl same ↦ inl same
  | inr (inl none) ↦ inr none
  | inr (inr never) ↦ absurd cc
]

pub erased_by : (p : Typed) (plan : Plan) (events list : List Event) → ErasesAttempts p plan → IsRun p plan events → list ≡ projection events → IsErased p plan events list
erased_by p plan events list law run is =
    let r = law events run.0 run.1 in
    subst (IsErased p plan events) (sym is) (record { last = run.0; run = run.1; after = r.0; source = r.1; same = r.2; ends = r.3 })

pub erased_so : (p : Typed) (plan : Plan) (events : List Event) (r : Result (List Event) CheckNo) → (IsSound p plan → ErasesAttempts p plan) → IsProjection p plan events r → IfOk r (λ list. IsSound p plan → IsErased p plan events list)
erased_so p plan events (Ok list) law is = λ sound. erased_by p plan events list (law sound) is.0 is.1
erased_so p plan events (Err n) law is = tt

-- runs of the source

without_plan : (p : Typed) (events : List Event) (u : State Thread) → SourceLeadsTo p events u → LeadTo p no_plan events (unsaved_state u)
without_plan p events u run = (runs_alike p).hardened events u run

pub of_source : (p : Typed) (events : List Event) (end : Ending) → IsRunTo p no_plan events end → (u : State Thread) × SourceLeadsTo p events u
of_source p events end r = let t = (runs_alike p).source events r.last r.run in (t.0, t.2)

-- faults

fine_next : (events : List Event) (i : ℕ) (e : Event) → IsFailureFree (take i events) → slice_get events i ≡ Some e → is_fault e.act ≡ false → IsFailureFree (take (suc i) events)
fine_next [] i e fine at no_fault = absurd cc
fine_next (d ∷ ds) zero e fine at no_fault = let same : e ≡ d = cc in (subst (λ (x : Event). is_fault x.act ≡ false) same no_fault, tt)
fine_next (d ∷ ds) (suc i) e fine at no_fault = (fine.0, fine_next ds i e fine.1 at no_fault)

pub fine_on : (events : List Event) (i : ℕ) (e : Event) → IsFailureFree (take i events) → slice_get events i ≡ Some e → is_fault e.act ≡ false → IsFailureFree (take (i + 1) events)
fine_on events i e fine at no_fault = let next : suc i ≡ i + 1 = omega arith in subst (λ n. IsFailureFree (take n events)) next (fine_next events i e fine at no_fault)

never_fine : (events : List Event) (i : ℕ) → IsFailureFree events → IsFaultEntry events i → ⊥
never_fine [] i fine f = let at = f.stands in cc
never_fine (d ∷ ds) zero fine f =
    let at = f.stands in
    let same : d ≡ f.entry = cc in
    let never : false ≡ true = sym fine.0 ∙ (ap (λ (x : Event). is_fault x.act) same ∙ f.fault) in
    cc
never_fine (d ∷ ds) (suc i) fine f = never_fine ds i fine.1 (record { entry = f.entry; stands = f.stands; fault = f.fault })

one_fault : (p : Typed) (events : List Event) (i j : ℕ) → IsFaultAt p events i → IsFaultAt p events j → i ≡ j
one_fault p events i j x y =
    let last : i + 1 ≡ length events = source_fails_last p events x.last x.run i x.there.entry x.there.stands x.there.fault in
    let also : j + 1 ≡ length events = source_fails_last p events y.last y.run j y.there.entry y.there.stands y.there.fault in
    omega (arith, last, also)

-- the lifted list

pub liftable : (p : Typed) (plan : Plan) (events : List Event) (end : Ending) → IsRunTo p no_plan events end → IsFailureFree events → (list : List Event) × IsLifted p plan events list
liftable p plan events end r fine =
    let u = of_source p events end r in
    let l = lifts_runs p plan events u.0 u.1 fine in
    (l.0, l.1)

pub lift_of : (p : Typed) (plan : Plan) (events list : List Event) (end : Ending) → IsRunTo p no_plan events end → IsFailureFree events → IsLifted p plan events list → IsLiftOf p plan events list
lift_of p plan events list end r fine is =
    let u = of_source p events end r in
    let l = lifts_runs p plan events u.0 u.1 fine in
    subst (IsLiftOf p plan events) (lifts_once p plan events l.0 list l.1 is) (record { last = u.0; run = u.1; fine = fine; lifted = l.1; same = l.2 })

pub refused_fault : (p : Typed) (plan : Plan) (events : List Event) (i : ℕ) (end : Ending) (n : LiftNo) → IsRunTo p no_plan events end → IsFaultEntry events i → (n ≡ lift_no.Fault i) ⊎ (n ≡ lift_no.NoMemory) → IsLift p plan events (Err n)
refused_fault p plan events i end n r there (inl is) =
    let u = of_source p events end r in
    subst (λ (m : LiftNo). IsLift p plan events (Err m)) (sym is) (record { last = u.0; run = u.1; there = there })
refused_fault p plan events i end n r there (inr is) = subst (λ (m : LiftNo). IsLift p plan events (Err m)) (sym is) tt

pub one_lift : (p : Typed) (plan : Plan) (events : List Event) → HasOneLift p plan events
one_lift p plan events (Ok a) (Ok b) x y = inl (ap Ok (lifts_once p plan events a b x.lifted y.lifted))
one_lift p plan events (Ok a) (Err (lift_no.NotARun j)) x y = absurd (no_way p no_plan events (unsaved_state x.last) j (without_plan p events x.last x.run) y)
one_lift p plan events (Ok a) (Err (lift_no.Fault j)) x y = absurd (never_fine events j x.fine y.there)
one_lift p plan events (Err (lift_no.NotARun i)) (Ok b) x y = absurd (no_way p no_plan events (unsaved_state y.last) i (without_plan p events y.last y.run) x)
one_lift p plan events (Err (lift_no.NotARun i)) (Err (lift_no.NotARun j)) x y = inl (ap (λ (n : ℕ). Err (lift_no.NotARun n)) (one_index p no_plan events i j x y))
one_lift p plan events (Err (lift_no.NotARun i)) (Err (lift_no.Fault j)) x y = absurd (no_way p no_plan events (unsaved_state y.last) i (without_plan p events y.last y.run) x)
one_lift p plan events (Err (lift_no.Fault i)) (Ok b) x y = absurd (never_fine events i y.fine x.there)
one_lift p plan events (Err (lift_no.Fault i)) (Err (lift_no.NotARun j)) x y = absurd (no_way p no_plan events (unsaved_state x.last) j (without_plan p events x.last x.run) y)
one_lift p plan events (Err (lift_no.Fault i)) (Err (lift_no.Fault j)) x y = inl (ap (λ (n : ℕ). Err (lift_no.Fault n)) (one_fault p events i j x y))
one_lift p plan events (Err lift_no.NoMemory) b x y = inr (inl refl)
one_lift p plan events a (Err lift_no.NoMemory) x y = inr (inr refl)

pub only_list : (p : Typed) (plan : Plan) (events list : List Event) (r : Result (List Event) LiftNo) → IsLift p plan events r → IsLiftOf p plan events list → (r ≡ Ok list) ⊎ (r ≡ Err lift_no.NoMemory)
only_list p plan events list r is other = elim (one_lift p plan events r (Ok list) is other) [
  | inl same ↦ inl same
  | inr (inl none) ↦ inr none
  | inr (inr never) ↦ absurd cc
]

pub only_no_run : (p : Typed) (plan : Plan) (events : List Event) (i : ℕ) (r : Result (List Event) LiftNo) → IsLift p plan events r → IsFirstNoStep p no_plan events i → (r ≡ Err (lift_no.NotARun i)) ⊎ (r ≡ Err lift_no.NoMemory)
only_no_run p plan events i r is other = elim (one_lift p plan events r (Err (lift_no.NotARun i)) is other) [
  | inl same ↦ inl same
  | inr (inl none) ↦ inr none
  | inr (inr never) ↦ absurd cc
]

pub only_fault : (p : Typed) (plan : Plan) (events : List Event) (i : ℕ) (r : Result (List Event) LiftNo) → IsLift p plan events r → IsFaultAt p events i → (r ≡ Err (lift_no.Fault i)) ⊎ (r ≡ Err lift_no.NoMemory)
only_fault p plan events i r is other = elim (one_lift p plan events r (Err (lift_no.Fault i)) is other) [
  | inl same ↦ inl same
  | inr (inl none) ↦ inr none
  | inr (inr never) ↦ absurd cc
]

-- What a machine that has followed entries tells of them.
use Rattle.std.proofs.Common.{◌≡◌, ℕ, List, take, Some, sym, subst, Err, inl, inr}
use Rattle.std.specs.Prelude.{◌⊎◌, slice_get}
use Rattle.ca_model.specs.declared.plan.Plan.{Plan}
use Rattle.ca_model.specs.declared.values.Event.{Event}
use Rattle.ca_model.specs.declared.values.Ending.{Ending}
use Rattle.ca_model.specs.Codes.{Typed}
use Rattle.ca_model.specs.Hardened.{Hardened}
use Rattle.ca_model.specs.Machine.{State, Step}
use Rattle.ca_model.specs.Opening.{EndsAs}
use Rattle.ca_machine.specs.Machines.{Traced, Reaches, rules}
use Rattle.ca_machine.specs.Moves.{Decides}
use Rattle.ca_machine.specs.declared.steps.FollowNo.{FollowNo}
use Rattle.ca_machine.specs.declared.steps.FollowNo.TheVariants as no
use Rattle.ca_check.specs.declared.checking.CheckNo.{CheckNo}
use Rattle.ca_check.specs.declared.checking.CheckNo.TheVariants as check_no
use Rattle.ca_check.specs.Verdicts.{IsRunTo, IsFirstNoStep, IsVerdict}

pub refused_by : (p : Typed) (plan : Plan) (events : List Event) (m : Traced) (i : ℕ) (e : Event) (s : State Hardened) → m ≡ record { source = p; plan = plan; trace = take i events } → slice_get events i ≡ Some e → Reaches m s → ((new : State Hardened) × Step (rules m) s e new → ⊥) → IsFirstNoStep p plan events i
refused_by p plan events m i e s is at run none = record {
  entry = e;
  stands = at;
  before = s;
  run = subst (λ (x : Traced). Reaches x s) is run;
  none = λ new step. none (new, subst (λ (x : Traced). Step (rules x) s e new) (sym is) step);
}

pub accepted_by : (p : Typed) (plan : Plan) (events : List Event) (m : Traced) (s : State Hardened) (end : Ending) → m ≡ record { source = p; plan = plan; trace = events } → Reaches m s → EndsAs (rules m) s end → IsRunTo p plan events end
accepted_by p plan events m s end is run ends = record {
  last = s;
  run = subst (λ (x : Traced). Reaches x s) is run;
  ends = subst (λ (x : Traced). EndsAs (rules x) s end) is ends;
}

pub no_step : (S P : Type 0) (r : FollowNo) → r ≡ no.NotAStep → Decides {T = S} (Err r) P → P → ⊥
no_step S P no.NotAStep e d = d
no_step S P no.NoMemory e d = absurd cc

-- the refusal at the index, or want of memory
pub refused_so : (p : Typed) (plan : Plan) (events : List Event) (index : ℕ) (n : CheckNo) → (n ≡ check_no.NotARun index) ⊎ (n ≡ check_no.NoMemory) → IsFirstNoStep p plan events index → IsVerdict p plan events (Err n)
refused_so p plan events index n (inl is) first = subst (λ (m : CheckNo). IsVerdict p plan events (Err m)) (sym is) first
refused_so p plan events index n (inr is) first = subst (λ (m : CheckNo). IsVerdict p plan events (Err m)) (sym is) tt

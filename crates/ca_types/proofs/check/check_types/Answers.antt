use Rattle.std.proofs.Common.{◌≡◌, ◌⊎◌, inl, inr, refl, ap}
use Rattle.ca_model.specs.declared.types.TypeFault.{TypeFault}
use Rattle.ca_model.specs.typing.Typing.{IsFault}
use Rattle.ca_model.specs.typing.Programs.{known}
use Rattle.ca_model.proofs.FirstFaults.{one_first}
use Rattle.ca_types.specs.Refusals.{IfFault}
use Rattle.ca_types.specs.declared.check.TypeNo.{TypeNo}
use Rattle.ca_types.specs.declared.check.TypeNo.TheVariants as no
use Rattle.ca_types.proofs.check.check_types.Goals as goal

pub returns-in-Err-clause-refused : goal.returns-in-Err-clause-refused
returns-in-Err-clause-refused c = λ f is. by c.in-Err.no f c.in-Err.ensures.fault is
  where
    by : (x : TypeNo) (f : TypeFault) → IfFault x (IsFault c.args.program) → IsFault c.args.program f → (x ≡ no.Fault f) ⊎ (x ≡ no.NoMemory)
    by (no.Fault g) f first is = inl (ap no.Fault (one_first (known c.args.program).faults g f first is))
    by no.NoMemory f first is = inr refl

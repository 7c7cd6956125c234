use Rattle.std.proofs.Common.{sym, subst}
use Rattle.std.specs.Prelude.{MatchBool}
use Rattle.ca_flow.specs.Kinds.{AlwaysWants, NeverWants, is_acquisition}
use Rattle.ca_flow.proofs.WantsOfKinds.{acquired}
use Rattle.ca_flow.proofs.kinds.is_acquiring.Goals as goal

pub returns : goal.returns
returns c = subst (λ b. MatchBool b (AlwaysWants is_acquisition c.args.instr.now) (NeverWants is_acquisition c.args.instr.now)) (sym c.acquires_by_kind.ensures) (acquired c.args.instr.now)

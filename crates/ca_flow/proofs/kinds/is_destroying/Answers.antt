use Rattle.std.proofs.Common.{sym, subst}
use Rattle.std.specs.Prelude.{MatchBool}
use Rattle.ca_model.specs.Destroying.{ends_item}
use Rattle.ca_flow.specs.Kinds.{AlwaysWants, NeverWants}
use Rattle.ca_flow.proofs.WantsOfKinds.{destroying}
use Rattle.ca_flow.proofs.kinds.is_destroying.Goals as goal

pub returns : goal.returns
returns c = subst (λ b. MatchBool b (AlwaysWants ends_item c.args.instr.now) (NeverWants ends_item c.args.instr.now)) (sym c.destroys_by_kind.ensures) (destroying c.args.instr.now)

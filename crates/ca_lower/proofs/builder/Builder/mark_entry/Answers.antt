use Rattle.std.proofs.Common.{sym, ◌∙◌, refl}
use Rattle.ca_lower.proofs.CodeOfControl.{marks_true}
use Rattle.ca_lower.proofs.builder.Builder.mark_entry.Goals as goal

pub returns-in_ok-node-clause-adds : goal.returns-in_ok-node-clause-adds
returns-in_ok-node-clause-adds c g width stands = marks_true _ g _ width _ _ c.args.next _ (sym c.saves_at_entry.ensures ∙ c.if-saves_at_entry.true) (stands _ _ c.in_ok-node.ensures.pushed refl) refl

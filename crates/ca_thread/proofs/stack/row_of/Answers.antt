use Rattle.std.proofs.Common.{◌∷◌, ◌++◌, [], ap, ◌∙◌}
use Rattle.ca_thread.proofs.CallRows.{row_next}
use Rattle.ca_thread.proofs.stack.row_of.Goals as goal

pub registers-preserved : goal.registers-preserved
registers-preserved c =
    c.in_ok-push.ensures.items ∙ (ap (λ x. c.registers.row.items ++ x ∷ []) c.value_or_null.ensures ∙ row_next c.args.values.now c.registers.row.items c.args.registers c.registers.place c.registers-test.true c.registers.invariant)

use Rattle.std.proofs.Common.{ap, ◌∙◌}
use Rattle.ca_model.specs.Sites.{items_in_all}
use Rattle.ca_flow.specs.Tables.{with_items}
use Rattle.ca_flow.proofs.UsesOfItems.{with_function}
use Rattle.ca_flow.proofs.uses.function.Goals as goal

pub returns : goal.returns
returns c =
    with_function c.args.function.now c.args.uses.now c.statements.new.uses c.add.new.self
    (c.in_ok-statements.ensures ∙ ap (λ xs. with_items c.args.function.now.id c.args.uses.now (items_in_all xs)) c.as_slice.ensures) c.in_ok-add.ensures

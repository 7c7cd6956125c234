use Rattle.std.proofs.Common.{List, ap, ◌∙◌}
use Rattle.ca_model.specs.declared.tree.Stmt.{Stmt}
use Rattle.ca_model.specs.Sites.{items_in_all, items_of}
use Rattle.ca_model.specs.Fitting.{Left, behind_items}
use Rattle.ca_model.proofs.FittingItems.{behind_function}
use Rattle.ca_model.proofs.plan_fits.function.Goals as goal

pub returns : goal.returns
returns c =
    behind_function c.args.function.now c.begin.new.self c.statements.new.left c.pass.new.self
    (c.statements.ensures ∙ ap (λ (xs : List Stmt). behind_items c.begin.new.self (items_in_all xs)) c.as_slice.ensures) c.pass.ensures
    ∙ ap (λ (l : Left). behind_items l (items_of c.args.function.now)) c.begin.ensures

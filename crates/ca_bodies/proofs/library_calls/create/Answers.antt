use Rattle.std.proofs.Common.{◌∙◌, ℕ, List, ap}
use Rattle.ca_tree.specs.declared.numbers.FunId.{FunId}
use Rattle.ca_tree.specs.declared.numbers.VarId.{VarId}
use Rattle.ca_model.specs.declared.tree.Exp.{Exp}
use Rattle.ca_model.specs.declared.tree.Act.TheVariants as act
use Rattle.ca_model.specs.typing.LibraryCalls.{thread_local, var_or_first}
use Rattle.ca_model.specs.typing.Scopes.{function_id, meaning}
use Rattle.ca_bodies.specs.Functions.{context}
use Rattle.ca_bodies.proofs.library_calls.create.Goals as goal

pub returns-clause-is : goal.returns-clause-is
returns-clause-is c =
    let s = c.args.scope.now in
    let k = context s c.args.functions.now in
    let local = var_or_first (thread_local (meaning s c.args.local.now.text)) in
    ap (λ (x : VarId). act.Create x c.function_id-id.result c.in_ok-argument.argument) c.thread-var.ensures.is
    ∙ ap (λ (f : FunId). act.Create local f c.in_ok-argument.argument) (c.function_id-id.ensures s ∙ ap (λ (n : List ℕ). function_id k n) c.as_slice.ensures)
    ∙ ap (λ (a : Exp). act.Create local (function_id k c.args.function.now.text) a) c.in_ok-argument.ensures.is

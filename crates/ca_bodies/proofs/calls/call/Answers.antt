use Rattle.std.proofs.Common.{◌∙◌, ℕ, List, ap}
use Rattle.ca_tree.specs.declared.numbers.FunId.{FunId}
use Rattle.ca_tree.specs.declared.tree.Exp.{Exp}
use Rattle.ca_model.specs.declared.tree.Exp.{Exp as TypedExp}
use Rattle.ca_model.specs.declared.tree.Act.TheVariants as act
use Rattle.ca_model.specs.typing.Scopes.{function_id}
use Rattle.ca_model.specs.typing.Uses.{values_in}
use Rattle.ca_bodies.specs.Functions.{context}
use Rattle.ca_bodies.specs.Shown.{shown_aimed}
use Rattle.ca_bodies.proofs.CallFaults.{call_noted}
use Rattle.ca_bodies.proofs.calls.call.Goals as goal

pub returns-clause-is : goal.returns-clause-is
returns-clause-is c =
    let k = context c.args.scope.now c.args.functions.now in
    ap (λ (f : FunId). act.Call c.args.to f c.in_ok-arguments.arguments) (c.function_id.ensures c.args.scope.now ∙ ap (λ (n : List ℕ). function_id k n) c.as_slice-name.ensures)
    ∙ ap (λ (vs : List TypedExp). act.Call c.args.to (function_id k c.args.call.now.name.text) vs) (c.in_ok-arguments.ensures.is ∙ ap (λ (xs : List Exp). values_in c.args.scope.now xs) c.as_slice.ensures)

pub returns-clause-noted : goal.returns-clause-noted
returns-clause-noted c =
    call_noted (context c.args.scope.now c.args.functions.now) (shown_aimed c.args.aim) c.args.call.now _ _ _ _ _ _ _ c.as_slice-name.ensures c.as_slice.ensures c.meaning-means.ensures
    (c.called-of.ensures c.args.scope.now) c.in_ok-arguments.ensures.noted c.note_call.ensures

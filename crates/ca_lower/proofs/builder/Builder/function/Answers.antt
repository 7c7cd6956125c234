use Rattle.std.proofs.Common.{ap, ◌∙◌, inr, arith}
use Rattle.ca_model.specs.declared.tree.Function.{Function}
use Rattle.ca_lower.specs.Scopes.{InItem}
use Rattle.ca_lower.proofs.Growing.{grows_on}
use Rattle.ca_lower.proofs.Turning.{grows_in, at_item}
use Rattle.ca_lower.proofs.FunctionsAdded.{close_there, body_there, function_is, function_has}
use Rattle.ca_lower.proofs.builder.Builder.function.Goals as goal

pub end-requires : goal.end-requires
end-requires c =
    record { act = inr (ap (λ (y : InItem). y.item.act) c.at-at.ensures ∙ ap (λ (f : Function). f.close.act) c.function-function.ensures ∙ c.known.ensures.formed.closed c.args.scope.now.function c.known.ensures.there) }

pub run_all-requires-clause-there : goal.run_all-requires-clause-there
run_all-requires-clause-there c = body_there c.args.scope.now c.as_slice-body.result.now c.known.ensures.formed c.known.ensures.there (c.as_slice-body.ensures ∙ ap (λ (f : Function). f.body) c.function-function.ensures)

pub returns-clause-adds : goal.returns-clause-adds
returns-clause-adds c g width le stands =
    let by_begin = c.in_ok-entry.ensures.grows.stands g stands in
    let by_close = c.in_ok-begin.ensures.grows.stands g by_begin in
    function_is c.args.scope.now c.at-at.result g width _ _ _ _ _ c.as_slice-body.result.now (c.at-at.ensures ∙ ap (λ (f : Function). at_item c.args.scope.now f.close) c.function-function.ensures)
    (c.as_slice-body.ensures ∙ ap (λ (f : Function). f.body) c.function-function.ensures)
    (c.in_ok-entry.ensures.adds g width stands)
    (c.in_ok-begin.ensures.adds g width (omega (arith, le, c.in_ok-entry.ensures.grows.registers)) by_begin)
    (c.in_ok-close.ensures.adds g width (omega (arith, le, c.in_ok-entry.ensures.grows.registers, c.in_ok-begin.ensures.grows.registers)) by_close)

pub returns-clause-grows : goal.returns-clause-grows
returns-clause-grows c =
    grows_on _ _ _ _ (grows_in _ _ _ _ _ c.at-at.ensures c.in_ok-close.ensures.grows) (grows_on _ _ _ _ c.in_ok-begin.ensures.grows (grows_in _ _ _ _ _ c.at-at.ensures c.in_ok-entry.ensures.grows))

pub returns-clause-sites : goal.returns-clause-sites
returns-clause-sites c =
    function_has c.args.scope.now _ _ c.as_slice-body.result.now c.known.ensures.formed c.known.ensures.there (c.as_slice-body.ensures ∙ ap (λ (f : Function). f.body) c.function-function.ensures)
    (grows_in _ _ _ _ _ c.at-at.ensures c.in_ok-entry.ensures.grows) c.in_ok-begin.ensures.sites

pub at-at-requires : goal.at-at-requires
at-at-requires c = close_there c.args.scope.now.function c.function-function.result.now c.function-function.ensures

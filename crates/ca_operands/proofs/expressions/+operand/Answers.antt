use Rattle.std.proofs.Common.{◌≡◌, ◌∙◌, OnOk, Option, subst}
use Rattle.ca_model.specs.declared.types.TypeFault.{TypeFault}
use Rattle.ca_operands.proofs.Noting.{of_unary, of_field, of_arrow, of_binary, of_index}
use Rattle.ca_operands.proofs.expressions.+operand.Goals as goal

pub returns-in_ok-part-in-Unary-clause-noted : goal.returns-in_ok-part-in-Unary-clause-noted
returns-in_ok-part-in-Unary-clause-noted t c =
    subst (λ (f : Option TypeFault). OnOk c.unary.result (c.unary.new.faults.first ≡ f))
    (of_unary c.args.scope.now _ _ _ _ _ _ _ c.in-Unary.is c.get-of.ensures c.in_ok-part-in-Unary.ensures.noted)
    (c.unary.ensures.noted c.args.scope.now c.in_ok-part-in-Unary.ensures.is)

pub returns-in_ok-part-in-Field-clause-noted : goal.returns-in_ok-part-in-Field-clause-noted
returns-in_ok-part-in-Field-clause-noted t c =
    c.field.ensures.noted
    ∙ of_field c.args.scope.now _ _ _ _ _ _ _ _ c.in-Field.is c.get-in-Field.ensures c.in_ok-part-in-Field.ensures.noted c.in_ok-part-in-Field.ensures.is

pub returns-in_ok-part-in-Arrow-clause-noted : goal.returns-in_ok-part-in-Arrow-clause-noted
returns-in_ok-part-in-Arrow-clause-noted t c =
    subst (λ (f : Option TypeFault). OnOk c.arrow.result (c.arrow.new.faults.first ≡ f))
    (of_arrow c.args.scope.now _ _ _ _ _ _ _ _ c.in-Arrow.is c.get-in-Arrow.ensures c.in_ok-part-in-Arrow.ensures.noted c.in_ok-part-in-Arrow.ensures.is)
    c.arrow.ensures.noted

pub returns-in_ok-right-in-Binary-clause-noted : goal.returns-in_ok-right-in-Binary-clause-noted
returns-in_ok-right-in-Binary-clause-noted t c =
    subst (λ (f : Option TypeFault). OnOk c.binary.result (c.binary.new.faults.first ≡ f))
    (of_binary c.args.scope.now _ _ _ _ _ _ _ _ _ _ _ _ _ c.in-Binary.is c.get.ensures c.get-in-Binary.ensures c.in_ok-left-in-Binary.ensures.noted c.in_ok-right-in-Binary.ensures.noted
    c.in_ok-left-in-Binary.ensures.is c.in_ok-right-in-Binary.ensures.is c.both.ensures)
    c.binary.ensures.noted

pub returns-in_ok-index-in-Index-clause-noted : goal.returns-in_ok-index-in-Index-clause-noted
returns-in_ok-index-in-Index-clause-noted t c =
    subst (λ (f : Option TypeFault). OnOk c.indexed.result (c.indexed.new.faults.first ≡ f))
    (of_index c.args.scope.now _ _ _ _ _ _ _ _ _ _ _ _ c.in-Index.is c.get-in-Index.ensures c.get-in-Index-2.ensures c.in_ok-of-in-Index.ensures.noted c.in_ok-index-in-Index.ensures.noted
    c.in_ok-of-in-Index.ensures.is c.in_ok-index-in-Index.ensures.is c.both-in-Index.ensures)
    c.indexed.ensures.noted

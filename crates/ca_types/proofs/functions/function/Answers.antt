use Rattle.std.proofs.Common.{◌∙◌, ap}
use Rattle.ca_model.specs.typing.Bodies.{Inside}
use Rattle.ca_model.specs.typing.Functions.{told_in}
use Rattle.ca_model.specs.typing.Scopes.{Context}
use Rattle.ca_model.specs.typing.Signatures.{function_faults, with_signature}
use Rattle.ca_operands.specs.Noted.{noted}
use Rattle.ca_operands.proofs.Noting.{noted_two}
use Rattle.ca_bodies.specs.Functions.{context}
use Rattle.ca_types.specs.Whole.{told_whole}
use Rattle.ca_types.proofs.Begun.{begun_is, ended, signature_locals}
use Rattle.ca_types.proofs.functions.function.Goals as goal

pub returns-clause-context : goal.returns-clause-context
returns-clause-context c =
    let k = context c.args.scope c.args.functions in
    let j = context c.declare_function.new.scope c.declare_function.new.functions in
    c.end.ensures
    ∙ ended j c.begin-inside.result c.whole.new.inside c.result_type-gives.result c.begin-inside.ensures
    (ap (λ (j : Context). j.scope.locals) c.in_ok-declare_function.ensures ∙ signature_locals k c.args.of.now ∙ c.requires.outside) c.in_ok-stmts.ensures.grew
    ∙ c.in_ok-declare_function.ensures

pub returns-clause-noted : goal.returns-clause-noted
returns-clause-noted c =
    let k = context c.args.scope c.args.functions in
    let f = c.args.of.now in
    noted_two c.args.faults.now.first c.note_function.new.faults.first c.whole.new.faults.first (function_faults k f) (told_in (with_signature k f) f).faults c.note_function.ensures
    (c.in_ok-stmts.ensures.noted
    ∙ ap (λ (b : Inside). noted c.note_function.new.faults.first (told_whole b f).faults)
    (begun_is (with_signature k f) (context c.declare_function.new.scope c.declare_function.new.functions) c.begin-inside.result c.result_type-gives.result f c.begin-inside.ensures c.in_ok-declare_function.ensures
    c.result_type-gives.ensures))

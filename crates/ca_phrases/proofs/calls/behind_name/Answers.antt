use Rattle.std.proofs.Common.{refl}
use Rattle.std.proofs.lemmas.Result.{err_from_is_err_and}
use Rattle.ca_tree.specs.declared.tree.Exp.TheVariants as e
use Rattle.ca_grammar.specs.Expressions.{leaf}
use Rattle.ca_grammar.specs.Goals.{A_right}
use Rattle.ca_grammar.specs.PhrasePlans.{value_from}
use Rattle.ca_grammar.specs.Reads.{takes, passes, gives, calls, fails}
use Rattle.ca_phrases.specs.Phrases.{on_name}
use Rattle.ca_expressions.proofs.Following.{pass}
use Rattle.ca_expressions.proofs.Following.{follow_on}
use Rattle.ca_phrases.proofs.calls.behind_name.Goals as goal

pub returns-in_err-arguments-clause-reads : goal.returns-in_err-arguments-clause-reads
returns-in_err-arguments-clause-reads c =
    let p = err_from_is_err_and c.from_residual.result c.from_residual.ensures.1 in
    rw (p.1, p.2) (pass c.in_err-arguments.field-0.0 (λ r vs d. takes c.in-Some.ensures refl (fails d)) c.in_err-arguments.ensures.reads)

pub returns-in-Some-clause-reads : goal.returns-in-Some-clause-reads
returns-in-Some-clause-reads c = takes c.in-Some.ensures refl (calls c.in_ok-arguments.ensures.reads gives)

pub returns-clause-reads : goal.returns-clause-reads
returns-clause-reads c =
    follow_on A_right A_right (value_from (leaf c.args.name.pos (e.Name c.args.name))) (on_name c.args.name) _ _ c.args.tokens.now c.args.tokens.now c.value_from.result
    (λ x d. passes c.in_default.ensures d) (λ r vs d. passes c.in_default.ensures d) (rw c.leaf.ensures at c.value_from.ensures.reads)

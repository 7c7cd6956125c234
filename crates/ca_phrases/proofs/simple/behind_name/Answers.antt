use Rattle.std.proofs.Common.{refl}
use Rattle.std.proofs.lemmas.Result.{err_from_is_err_and}
use Rattle.ca_grammar.specs.Goals.{Behind_target, Simple_at}
use Rattle.ca_grammar.specs.Reads.{plan, takes, passes, gives, calls, fails}
use Rattle.ca_phrases.specs.Phrases.{on_named}
use Rattle.ca_expressions.proofs.Following.{pass}
use Rattle.ca_expressions.proofs.Following.{follow_on}
use Rattle.ca_phrases.proofs.simple.behind_name.Goals as goal

pub returns-in_err-arguments-clause-reads : goal.returns-in_err-arguments-clause-reads
returns-in_err-arguments-clause-reads c =
    let p = err_from_is_err_and c.from_residual.result c.from_residual.ensures.1 in
    rw (p.1, p.2) (λ cs. pass c.in_err-arguments.field-0.0 (λ r vs d. takes c.in-Some.ensures refl (fails d)) c.in_err-arguments.ensures.reads)

pub returns-in-Some-clause-reads : goal.returns-in-Some-clause-reads
returns-in-Some-clause-reads c = λ cs. takes c.in-Some.ensures refl (calls c.in_ok-arguments.ensures.reads gives)

pub returns-in_err-target-clause-reads : goal.returns-in_err-target-clause-reads
returns-in_err-target-clause-reads c =
    let p = err_from_is_err_and c.from_residual-in_err-target.result c.from_residual-in_err-target.ensures.1 in
    rw (p.1, p.2) (λ cs. pass c.in_err-target.field-0.0 (λ r vs d. passes c.in_default.ensures (fails d)) (rw c.leaf.ensures at c.in_err-target.ensures.reads))

pub returns-clause-reads : goal.returns-clause-reads
returns-clause-reads c = λ cs.
    let target = rw c.leaf.ensures at c.in_ok-target.ensures.reads in
    follow_on (Behind_target c.in_ok-target.target) (Simple_at cs) (plan (Behind_target c.in_ok-target.target)) (on_named cs c.args.name) _ _ c.in_ok-target.rest.now c.args.tokens.now c.behind_target.result
    (λ x d. passes c.in_default.ensures (calls target (calls d gives))) (λ r vs d. passes c.in_default.ensures (calls target (fails d)))
    c.behind_target.ensures.reads

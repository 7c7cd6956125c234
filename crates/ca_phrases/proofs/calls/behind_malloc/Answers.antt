use Rattle.std.proofs.Common.{refl}
use Rattle.std.proofs.lemmas.Result.{err_from_is_err_and}
use Rattle.ca_grammar.specs.PhrasePlans.{behind_sizeof}
use Rattle.ca_grammar.specs.Plan.{give}
use Rattle.ca_grammar.specs.Reads.{wants, misses, gives}
use Rattle.ca_expressions.proofs.Following.{pass}
use Rattle.ca_phrases.proofs.calls.behind_malloc.Goals as goal

pub returns-in_default-clause-reads : goal.returns-in_default-clause-reads
returns-in_default-clause-reads c = misses c.in_default.ensures

pub returns-in_err-count-clause-reads : goal.returns-in_err-count-clause-reads
returns-in_err-count-clause-reads c =
    let p = err_from_is_err_and c.from_residual.result c.from_residual.ensures.1 in
    rw (p.1, p.2) (pass c.in_err-count.field-0.0 (λ r vs d. wants c.in-Some.ensures refl d) (c.in_err-count.ensures.reads _ (behind_sizeof c.args.pos c.args.cast)))

pub returns-in_err-of-clause-reads : goal.returns-in_err-of-clause-reads
returns-in_err-of-clause-reads c =
    let p = err_from_is_err_and c.from_residual-in_err-of.result c.from_residual-in_err-of.ensures.1 in
    rw (p.1, p.2) (pass c.in_err-of.field-0.0 (λ r vs d. wants c.in-Some.ensures refl (c.in_ok-count.ensures.reads _ (behind_sizeof c.args.pos c.args.cast) _ d))
    (c.in_err-of.ensures.reads _ (λ t. give (record { pos = c.args.pos; cast = c.args.cast; count = c.in_ok-count.count; of = t }))))

pub returns-clause-reads : goal.returns-clause-reads
returns-clause-reads c =
    wants c.in-Some.ensures refl (c.in_ok-count.ensures.reads _ (behind_sizeof c.args.pos c.args.cast) _
    (c.in_ok-of.ensures.reads _ (λ t. give (record { pos = c.args.pos; cast = c.args.cast; count = c.in_ok-count.count; of = t })) _ gives))

use Rattle.std.proofs.Common.{refl}
use Rattle.std.proofs.lemmas.Result.{err_from_is_err_and}
use Rattle.ca_grammar.specs.Goals.{Behind_paren, Function_of}
use Rattle.ca_grammar.specs.Reads.{wants, misses, calls, fails, gives}
use Rattle.ca_read.specs.Declaring.{totals_of}
use Rattle.ca_read.proofs.DeclarationSteps.{read_from}
use Rattle.ca_read.proofs.functions.function.Goals as goal

pub returns-in_err-name-clause-reads : goal.returns-in_err-name-clause-reads
returns-in_err-name-clause-reads c =
    let p = err_from_is_err_and c.from_residual.result c.from_residual.ensures.1 in
    rw (p.1, p.2) (c.in_err-name.ensures.reads _ _)

pub returns-in_default-clause-reads : goal.returns-in_default-clause-reads
returns-in_default-clause-reads c = c.in_ok-name.ensures.reads _ _ _ (misses c.in_default.ensures)

pub returns-clause-reads : goal.returns-clause-reads
returns-clause-reads c =
    read_from (Behind_paren c.args.of c.in_ok-name.name (totals_of c.args.totals)) (Function_of c.args.of (totals_of c.args.totals)) _ _ c.in-Some.rest.now c.args.tokens.now c.behind_paren.result
    (λ x d. c.in_ok-name.ensures.reads _ _ _ (wants c.in-Some.ensures refl (calls d gives))) (λ r vs d. c.in_ok-name.ensures.reads _ _ _ (wants c.in-Some.ensures refl (fails d))) c.behind_paren.ensures.reads

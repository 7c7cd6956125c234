use Rattle.std.proofs.Common.{arith, append-nil}
use Rattle.std.proofs.lemmas.Result.{err_from_is_err_and}
use Rattle.ca_grammar.specs.Reads.{calls, fails, gives}
use Rattle.ca_read.specs.Declaring.{totals_of}
use Rattle.ca_expressions.proofs.Following.{pass}
use Rattle.ca_read.proofs.DeclarationSteps.{more_tops}
use Rattle.ca_read.proofs.tops.tops.Goals as goal

pub returns-in_err-next-clause-reads : goal.returns-in_err-next-clause-reads
returns-in_err-next-clause-reads c =
    let p = err_from_is_err_and c.from_residual.result c.from_residual.ensures.1 in
    rw (p.1, p.2) (pass c.in_err-next.field-0.0 (λ r vs d. c.tops.invariant.at.no r vs (fails d)) c.in_err-next.ensures.reads)

pub returns-in_default-clause-reads : goal.returns-in_default-clause-reads
returns-in_default-clause-reads c =
    let none = rw c.in_default.is at c.in_ok-next.ensures.reads in
    let read = rw (append-nil c.tops.all.items) at (c.tops.invariant.at.yes _ _ (calls none gives)) in
    rw c.from_vec.ensures read

pub tops-preserved : goal.tops-preserved
tops-preserved c =
    let some = rw c.in-Some.is at c.in_ok-next.ensures.reads in
    record {
      at = more_tops (totals_of c.tops.totals) (totals_of c.in_ok-next.behind) c.tops.all.items _ c.in-Some.next c.tops.rest.now c.in_ok-next.after.now c.args.tokens.now c.in_ok-push.ensures.items c.tops.invariant.at some;
      shorter = omega (arith, rw c.in-Some.is at c.in_ok-next.ensures.shorter, c.tops.invariant.shorter);
      within = c.in_ok-next.ensures.within;
    }

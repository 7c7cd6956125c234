use Rattle.std.proofs.Common.{◌≡◌, ◌+◌, ◌∷◌, [], suc, true, false, length, ap, arith, length-append}
use Rattle.std.proofs.lemmas.Result.{err_from_is_err_and}
use Rattle.ca_grammar.specs.Goals.{Field_declarators}
use Rattle.ca_grammar.specs.Reads.{calls, fails}
use Rattle.ca_expressions.proofs.Following.{pass}
use Rattle.ca_read.proofs.DeclarationSteps.{field_fits, a_declarator, more_declarators}
use Rattle.ca_read.proofs.structs.declarators.Goals as goal

pub returns-in_err-starred-clause-reads : goal.returns-in_err-starred-clause-reads
returns-in_err-starred-clause-reads c =
    let p = err_from_is_err_and c.from_residual.result c.from_residual.ensures.1 in
    let reads = rw c.next.ensures at c.in_err-starred.ensures.reads in
    rw (p.1, p.2) (pass c.in_err-starred.field-0.0 (λ r vs d. c.declarators.invariant.at.no r vs (fails d)) reads)

pub returns-in_err-more-clause-reads : goal.returns-in_err-more-clause-reads
returns-in_err-more-clause-reads c =
    let p = err_from_is_err_and c.from_residual-in_err-more.result c.from_residual-in_err-more.ensures.1 in
    let reads = rw c.next.ensures at c.in_ok-starred.ensures.reads in
    rw (p.1, p.2) (pass c.in_err-more.field-0.0 (λ r vs d. c.declarators.invariant.at.no r vs (calls reads d)) (c.in_err-more.ensures.reads (Field_declarators c.args.base.now c.declarators.before) _ _))

pub returns-then-not-more-clause-reads : goal.returns-then-not-more-clause-reads
returns-then-not-more-clause-reads c =
    let reads = rw c.next.ensures at c.in_ok-starred.ensures.reads in
    let comma = rw c.if-not-more.true at c.in_ok-more.ensures.reads in
    rw (c.from_vec.ensures, c.in_ok-push.ensures.items) (c.declarators.invariant.at.yes _ _ (a_declarator c.args.base.now c.declarators.before _ false c.in_ok-starred.after.now c.in_ok-more.after.now c.declarators.rest.now reads comma))

pub returns-then-not-more-clause-room : goal.returns-then-not-more-clause-room
returns-then-not-more-clause-room c =
    let reads = rw c.next.ensures at c.in_ok-starred.ensures.reads in
    omega (arith, field_fits c.args.base.now c.declarators.before _ c.declarators.rest.now c.in_ok-starred.after.now reads)

pub declarators-preserved : goal.declarators-preserved
declarators-preserved c =
    let reads = rw c.next.ensures at c.in_ok-starred.ensures.reads in
    let comma = rw c.if-not-more.false at c.in_ok-more.ensures.reads in
    let same : c.declarators.before + 1 ≡ suc c.declarators.before = omega arith in
    record {
      at = more_declarators c.args.base.now c.args.before c.declarators.before (c.declarators.before + 1) c.declarators.all.items _ _ c.declarators.rest.now c.in_ok-more.after.now c.args.tokens.now same c.in_ok-push.ensures.items
          c.declarators.invariant.at (a_declarator c.args.base.now c.declarators.before _ true c.in_ok-starred.after.now c.in_ok-more.after.now c.declarators.rest.now reads comma);
      shorter = omega (arith, c.in_ok-more.ensures.shorter, c.in_ok-starred.ensures.shorter, c.declarators.invariant.shorter);
      count = omega (arith, c.declarators.invariant.count, ap length c.in_ok-push.ensures.items, length-append c.declarators.all.items (record { stars = c.in_ok-starred.starred.stars; name = c.in_ok-starred.starred.name } ∷ []));
      room = omega (arith, field_fits c.args.base.now c.declarators.before _ c.declarators.rest.now c.in_ok-starred.after.now reads);
    }

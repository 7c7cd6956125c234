use Rattle.std.proofs.Common.{length, refl, ap, arith}
use Rattle.std.proofs.lemmas.Result.{err_from_is_err_and}
use Rattle.ca_grammar.specs.Reads.{fails}
use Rattle.ca_expressions.proofs.Following.{pass}
use Rattle.ca_statements.proofs.StatementSteps.{begins_declarators, declarator_read, declarator_fails, declarators_end}
use Rattle.ca_statements.proofs.locals.variables.Goals as goal

pub returns-in_err-first-clause-reads : goal.returns-in_err-first-clause-reads
returns-in_err-first-clause-reads c =
    let p = err_from_is_err_and c.from_residual.result c.from_residual.ensures.1 in
    rw (p.1, p.2) (pass c.in_err-first.field-0.0 (λ r vs d. fails d) c.in_err-first.ensures.reads)

pub declarators-init : goal.declarators-init
declarators-init c = record {
  at = begins_declarators c.args.base c.args.pos c.args.items _ _ _ c.in_ok-first.first c.in_ok-first.rest.now c.args.tokens.now (omega arith) c.new-all.ensures.items c.in_ok-push.ensures.items c.in_ok-first.ensures.reads;
  same = refl;
  room = omega (arith, c.requires);
  shorter = c.in_ok-first.ensures.shorter;
}

pub returns-in_err-next-clause-reads : goal.returns-in_err-next-clause-reads
returns-in_err-next-clause-reads c =
    let p = err_from_is_err_and c.from_residual-in_err-next.result c.from_residual-in_err-next.ensures.1 in
    rw (p.1, p.2) (pass c.in_err-next.field-0.0
    (λ r vs d. declarator_fails c.args.base c.args.pos _ c.args.items c.declarators.number c.declarators.all.items c.declarators.rest.now c.in-Some.after.now vs c.args.tokens.now r c.in-Some.ensures
    (rw c.declarators.invariant.same at d) c.declarators.invariant.at)
    c.in_err-next.ensures.reads)

pub declarators-preserved : goal.declarators-preserved
declarators-preserved c = record {
  at = declarator_read c.args.base c.args.pos _ c.args.items c.declarators.number _ c.declarators.all.items _ c.in_ok-next.next c.declarators.rest.now c.in-Some.after.now c.in_ok-next.after.now c.args.tokens.now (omega arith)
      c.in_ok-push-2.ensures.items c.in-Some.ensures (rw c.declarators.invariant.same at c.in_ok-next.ensures.reads) c.declarators.invariant.at;
  same = c.declarators.invariant.same;
  room = omega (arith, c.in_ok-next.ensures.room);
  shorter = omega (arith, ap length c.in-Some.ensures.parts, c.in_ok-next.ensures.shorter, c.declarators.invariant.shorter);
}

pub returns-clause-reads : goal.returns-clause-reads
returns-clause-reads c =
    rw c.from_vec.ensures (declarators_end c.args.base _ c.args.pos c.args.items c.declarators.number c.declarators.all.items c.declarators.rest.now c.args.tokens.now c.declarators.invariant.same c.in_default.ensures c.declarators.invariant.at)

use Rattle.std.proofs.Common.{length, refl, ap, arith}
use Rattle.std.proofs.lemmas.Result.{err_from_is_err_and}
use Rattle.ca_grammar.specs.Goals.{Threads_at}
use Rattle.ca_statements.proofs.StatementSteps.{begins_threads, thread_read, thread_fails, threads_end}
use Rattle.ca_expressions.proofs.Following.{pass}
use Rattle.ca_statements.proofs.locals.threads.Goals as goal

pub returns-in_err-name-clause-reads : goal.returns-in_err-name-clause-reads
returns-in_err-name-clause-reads c =
    let p = err_from_is_err_and c.from_residual.result c.from_residual.ensures.1 in
    rw (p.1, p.2) (c.in_err-name.ensures.reads (Threads_at c.args.pos c.args.items) _)

pub threads-init : goal.threads-init
threads-init c = record {
  at = begins_threads c.args.pos c.args.items _ _ _ _ c.in_ok-name.name c.in_ok-name.rest.now c.args.tokens.now (omega arith) c.new-all.ensures.items c.in_ok-push.ensures.items (rw c.item.ensures refl)
      (λ on o d. c.in_ok-name.ensures.reads (Threads_at c.args.pos c.args.items) on o d);
  room = omega (arith, c.requires);
  shorter = c.in_ok-name.ensures.shorter;
}

pub returns-in_err-next-clause-reads : goal.returns-in_err-next-clause-reads
returns-in_err-next-clause-reads c =
    let p = err_from_is_err_and c.from_residual-in_err-next.result c.from_residual-in_err-next.ensures.1 in
    rw (p.1, p.2) (pass c.in_err-next.field-0.0
    (λ r vs d. thread_fails c.args.pos _ c.args.items c.threads.number c.threads.all.items c.threads.rest.now c.in-Some.after.now vs c.args.tokens.now r c.in-Some.ensures d c.threads.invariant.at)
    c.in_err-next.ensures.reads)

pub threads-preserved : goal.threads-preserved
threads-preserved c = record {
  at = thread_read c.args.pos _ c.args.items c.threads.number _ c.threads.all.items _ c.in_ok-next.next c.threads.rest.now c.in-Some.after.now c.in_ok-next.after.now c.args.tokens.now (omega arith)
      c.in_ok-push-2.ensures.items c.in-Some.ensures c.in_ok-next.ensures.reads c.threads.invariant.at;
  room = omega (arith, c.in_ok-next.ensures.room);
  shorter = omega (arith, ap length c.in-Some.ensures.parts, c.in_ok-next.ensures.shorter, c.threads.invariant.shorter);
}

pub returns-clause-reads : goal.returns-clause-reads
returns-clause-reads c =
    rw c.from_vec.ensures (threads_end c.args.pos c.args.items c.threads.number c.threads.all.items c.threads.rest.now c.args.tokens.now c.in_default.ensures c.threads.invariant.at)

use Rattle.std.proofs.Common.{length, ap, arith}
use Rattle.std.proofs.lemmas.Result.{err_from_is_err_and}
use Rattle.ca_grammar.specs.Reads.{passes, misses}
use Rattle.ca_expressions.proofs.Following.{pass}
use Rattle.ca_phrases.proofs.Phrases.{begins_printed, printed_fails, next_printed, printed_end}
use Rattle.ca_phrases.proofs.calls.print_arguments.Goals as goal

pub arguments-init : goal.arguments-init
arguments-init c = record {
  at = begins_printed _ c.args.tokens.now c.new-all.ensures.items;
  shorter = omega arith;
}

pub returns-in_err-next-clause-reads : goal.returns-in_err-next-clause-reads
returns-in_err-next-clause-reads c =
    let p = err_from_is_err_and c.from_residual.result c.from_residual.ensures.1 in
    rw (p.1, p.2) (pass c.in_err-next.field-0.0
    (λ r vs d. printed_fails c.arguments.all.items _ c.in-Some.field-0-0 c.arguments.rest.now c.in-Some.after.now vs c.args.tokens.now r (omega arith) c.in-Some.ensures d c.arguments.invariant.at)
    c.in_err-next.ensures.reads)

pub arguments-preserved : goal.arguments-preserved
arguments-preserved c = record {
  at = next_printed c.arguments.all.items _ _ c.in_ok-next.next c.in-Some.field-0-0 c.arguments.rest.now c.in-Some.after.now c.in_ok-next.after.now c.args.tokens.now
      c.in_ok-push.ensures.items (omega arith) c.in-Some.ensures c.in_ok-next.ensures.reads c.arguments.invariant.at;
  shorter = omega (arith, ap length c.in-Some.ensures.parts, c.in_ok-next.ensures.shorter, c.arguments.invariant.shorter);
}

pub returns-in_default-mark-clause-reads : goal.returns-in_default-mark-clause-reads
returns-in_default-mark-clause-reads c = c.arguments.invariant.at.no _ c.arguments.rest.now (passes c.in_default.ensures (misses c.in_default-mark.ensures))

pub returns-clause-reads : goal.returns-clause-reads
returns-clause-reads c =
    rw c.from_vec.ensures (printed_end c.arguments.all.items c.in-Some-mark.field-0-0 c.arguments.rest.now c.in-Some-mark.rest.now c.args.tokens.now c.in_default.ensures c.in-Some-mark.ensures c.arguments.invariant.at)

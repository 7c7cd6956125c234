use Rattle.std.proofs.Common.{[], ◌∷◌, ◌++◌, length, ap, ◌∙◌, arith}
use Rattle.std.proofs.lemmas.Result.{err_from_is_err_and}
use Rattle.ca_grammar.specs.Reads.{passes, fails, misses}
use Rattle.ca_expressions.proofs.Following.{pass}
use Rattle.ca_phrases.proofs.Phrases.{ends_empty, first_argument, argument_fails, next_argument, arguments_end}
use Rattle.ca_phrases.proofs.calls.arguments.Goals as goal

pub returns-in-Some-clause-reads : goal.returns-in-Some-clause-reads
returns-in-Some-clause-reads c = ends_empty _ c.in-Some.field-0-0 c.args.tokens.now c.in-Some.rest.now (c.from_vec.ensures ∙ c.new-all.ensures.items) c.in-Some.ensures

pub returns-in_err-first-clause-reads : goal.returns-in_err-first-clause-reads
returns-in_err-first-clause-reads c =
    let p = err_from_is_err_and c.from_residual.result c.from_residual.ensures.1 in
    rw (p.1, p.2) (pass c.in_err-first.field-0.0 (λ r vs d. passes c.in_default.ensures (fails d)) c.in_err-first.ensures.reads)

pub arguments-init : goal.arguments-init
arguments-init c = record {
  at = first_argument _ c.in_ok-first.first c.in_ok-first.rest.now c.args.tokens.now (c.in_ok-push.ensures.items ∙ ap (λ l. l ++ (c.in_ok-first.first.exp ∷ [])) c.new-all.ensures.items) c.in_default.ensures c.in_ok-first.ensures.reads;
  shorter = c.in_ok-first.ensures.shorter;
}

pub returns-in_err-next-clause-reads : goal.returns-in_err-next-clause-reads
returns-in_err-next-clause-reads c =
    let p = err_from_is_err_and c.from_residual-in_err-next.result c.from_residual-in_err-next.ensures.1 in
    rw (p.1, p.2) (pass c.in_err-next.field-0.0
    (λ r vs d. argument_fails c.arguments.all.items c.in-Some-mark.field-0-0 c.arguments.rest.now c.in-Some-mark.after.now vs c.args.tokens.now r c.in-Some-mark.ensures d c.arguments.invariant.at)
    c.in_err-next.ensures.reads)

pub arguments-preserved : goal.arguments-preserved
arguments-preserved c = record {
  at = next_argument c.arguments.all.items _ c.in_ok-next.next c.in-Some-mark.field-0-0 c.arguments.rest.now c.in-Some-mark.after.now c.in_ok-next.after.now c.args.tokens.now
      c.in_ok-push-2.ensures.items c.in-Some-mark.ensures c.in_ok-next.ensures.reads c.arguments.invariant.at;
  shorter = omega (arith, ap length c.in-Some-mark.ensures.parts, c.in_ok-next.ensures.shorter, c.arguments.invariant.shorter);
}

pub returns-in_default-mark-2-clause-reads : goal.returns-in_default-mark-2-clause-reads
returns-in_default-mark-2-clause-reads c = c.arguments.invariant.at.no _ c.arguments.rest.now (passes c.in_default-mark.ensures (misses c.in_default-mark-2.ensures))

pub returns-clause-reads : goal.returns-clause-reads
returns-clause-reads c =
    rw c.from_vec-2.ensures (arguments_end c.arguments.all.items c.in-Some-mark-2.field-0-0 c.arguments.rest.now c.in-Some-mark-2.rest.now c.args.tokens.now c.in_default-mark.ensures c.in-Some-mark-2.ensures c.arguments.invariant.at)

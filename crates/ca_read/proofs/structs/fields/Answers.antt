use Rattle.std.proofs.Common.{refl, arith}
use Rattle.std.proofs.lemmas.Result.{err_from_is_err_and}
use Rattle.ca_grammar.specs.Reads.{takes, calls, fails, gives}
use Rattle.ca_expressions.proofs.Following.{pass}
use Rattle.ca_read.proofs.DeclarationSteps.{more_fields}
use Rattle.ca_read.proofs.structs.fields.Goals as goal

pub returns-in_err-base-clause-reads : goal.returns-in_err-base-clause-reads
returns-in_err-base-clause-reads c =
    let p = err_from_is_err_and c.from_residual.result c.from_residual.ensures.1 in
    rw (p.1, p.2) (pass c.in_err-base.field-0.0 (λ r vs d. c.fields.invariant.at.no r vs (fails d)) c.in_err-base.ensures.reads)

pub returns-in_err-declarators-clause-reads : goal.returns-in_err-declarators-clause-reads
returns-in_err-declarators-clause-reads c =
    let p = err_from_is_err_and c.from_residual-in_err-declarators.result c.from_residual-in_err-declarators.ensures.1 in
    rw (p.1, p.2) (pass c.in_err-declarators.field-0.0 (λ r vs d. c.fields.invariant.at.no r vs (calls c.in_ok-base.ensures.reads (fails d))) c.in_err-declarators.ensures.reads)

pub returns-in-Some-clause-reads : goal.returns-in-Some-clause-reads
returns-in-Some-clause-reads c =
    rw (c.from_vec.ensures, c.in_ok-push.ensures.items) (c.fields.invariant.at.yes _ _ (calls c.in_ok-base.ensures.reads (calls c.in_ok-declarators.ensures.reads (calls (takes c.in-Some.ensures refl gives) gives))))

pub fields-preserved : goal.fields-preserved
fields-preserved c = record {
  at = more_fields c.fields.before c.in_ok-declarators.count c.in_ok-base.field-0-0 c.in_ok-base.base c.in_ok-declarators.declarators c.fields.all.items _ c.fields.rest.now c.in_ok-base.after.now c.in_ok-declarators.after.now
      c.args.tokens.now c.in_ok-declarators.ensures.count c.in_ok-push.ensures.items c.in_ok-base.ensures.reads c.in_ok-declarators.ensures.reads c.in_default.ensures c.fields.invariant.at;
  shorter = omega (arith, c.in_ok-declarators.ensures.shorter, c.in_ok-base.ensures.shorter, c.fields.invariant.shorter);
  room = c.in_ok-declarators.ensures.room;
}

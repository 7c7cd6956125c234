use Rattle.std.proofs.Common.{length, ap, arith}
use Rattle.ca_grammar.specs.Reads.{passes, gives}
use Rattle.ca_phrases.proofs.Phrases.{next_star}
use Rattle.ca_phrases.proofs.types.more_stars.Goals as goal

pub stars-init : goal.stars-init
stars-init c = record {
  at = record { yes = λ n vs r. r; no = λ r vs x. x };
  shorter = omega arith;
  counts = omega arith;
}

pub stars-preserved : goal.stars-preserved
stars-preserved c = record {
  at = next_star c.stars.count _ c.args.before c.in-Some.field-0-0 c.stars.rest.now c.in-Some.after.now c.args.tokens.now (omega arith) c.in-Some.ensures c.stars.invariant.at;
  shorter = omega (arith, ap length c.in-Some.ensures.parts, c.stars.invariant.shorter);
  counts = omega (arith, ap length c.in-Some.ensures.parts, c.stars.invariant.counts);
}

pub returns-clause-reads : goal.returns-clause-reads
returns-clause-reads c = c.stars.invariant.at.yes c.stars.count c.stars.rest.now (passes c.in_default.ensures gives)

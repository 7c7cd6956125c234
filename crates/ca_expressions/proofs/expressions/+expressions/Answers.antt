use Rattle.std.proofs.Common.{◌-◌, Bool, false, length, refl, ap, arith}
use Rattle.std.proofs.lemmas.Result.{err_from_is_err_and}
use Rattle.ca_grammar.specs.Goals.{Postfixes, Postfix, Level}
use Rattle.ca_grammar.specs.Reads.{No, takes, overs, passes, wants, misses, gives, calls, fails}
use Rattle.ca_expressions.specs.Reading.{IsWithin}
use Rattle.ca_expressions.proofs.Following.{pass, read_on}
use Rattle.ca_expressions.proofs.Operands.{operator_over, operand_fails, operand_read, operators_end, level_fails, level_read, postfix_over, postfix_fails, postfix_read, index_read, field_read, arrow_read, into_parentheses, parentheses_over, operand_depth, fits_inside}
use Rattle.ca_expressions.proofs.expressions.+expressions.Goals as goal

pub behind-returns-in_err-name-in-Dot-clause-reads : goal.behind-returns-in_err-name-in-Dot-clause-reads
behind-returns-in_err-name-in-Dot-clause-reads t c =
    let p = err_from_is_err_and c.from_residual.result c.from_residual.ensures.1 in
    rw (p.1, p.2, c.in-Dot.is) (c.in_err-name-in-Dot.ensures.reads _ _)

pub behind-returns-in_err-name-in-Arrow-clause-reads : goal.behind-returns-in_err-name-in-Arrow-clause-reads
behind-returns-in_err-name-in-Arrow-clause-reads t c =
    let p = err_from_is_err_and c.from_residual-in_err-name-in-Arrow.result c.from_residual-in_err-name-in-Arrow.ensures.1 in
    rw (p.1, p.2, c.in-Arrow.is) (c.in_err-name-in-Arrow.ensures.reads _ _)

pub behind-returns-in_ok-field-in-Dot-clause-reads : goal.behind-returns-in_ok-field-in-Dot-clause-reads
behind-returns-in_ok-field-in-Dot-clause-reads t c =
    rw c.in-Dot.is (field_read c.args.outer c.args.base c.in_ok-field-in-Dot.field-0 c.in_ok-name-in-Dot.name c.in_ok-name-in-Dot.rest.now c.args.tokens.now c.in_ok-field-in-Dot.ensures c.in_ok-name-in-Dot.ensures.reads)

pub behind-returns-in_ok-arrow-in-Arrow-clause-reads : goal.behind-returns-in_ok-arrow-in-Arrow-clause-reads
behind-returns-in_ok-arrow-in-Arrow-clause-reads t c =
    rw c.in-Arrow.is (arrow_read c.args.outer c.args.base c.in_ok-arrow-in-Arrow.field-0 c.in_ok-name-in-Arrow.name c.in_ok-name-in-Arrow.rest.now c.args.tokens.now c.in_ok-arrow-in-Arrow.ensures c.in_ok-name-in-Arrow.ensures.reads)

pub indexed-returns-in_err-at-clause-reads : goal.indexed-returns-in_err-at-clause-reads
indexed-returns-in_err-at-clause-reads t c =
    let p = err_from_is_err_and c.from_residual.result c.from_residual.ensures.1 in
    rw (p.1, p.2) (pass c.in_err-at.field-0.0 (λ r vs d. fails d) c.in_err-at.ensures.reads)

pub indexed-returns-in_default-clause-reads : goal.indexed-returns-in_default-clause-reads
indexed-returns-in_default-clause-reads t c = calls c.in_ok-at.ensures.reads (misses c.in_default.ensures)

pub indexed-returns-clause-reads : goal.indexed-returns-clause-reads
indexed-returns-clause-reads t c =
    index_read c.args.outer c.args.base c.in_ok-at.at c.in_ok-index.field-0 c.in-Some.field-0-0 c.args.tokens.now c.in_ok-at.rest.now c.in-Some.rest.now c.in_ok-index.ensures c.in_ok-at.ensures.reads c.in-Some.ensures

pub operators-operators-init : goal.operators-operators-init
operators-operators-init t c = record {
  at = record { yes = λ b vs r. r; no = λ r vs x. x };
  shorter = omega arith;
  low = c.requires.low;
  fits = c.requires.fits;
  depth = λ inside h. h;
}

pub operators-returns-in-Some-exceeded-clause-reads : goal.operators-returns-in-Some-exceeded-clause-reads
operators-returns-in-Some-exceeded-clause-reads t c =
    let over = c.in-Some-exceeded.ensures in
    (over.0, operator_over c.args.top (c.args.top - 1) c.args.outer c.operators.left c.args.left _ _ c.operators.rest.now _ c.args.tokens.now over.0 (omega arith) c.in-Some.ensures over.1 c.operators.invariant.at, over.2)

pub operators-returns-in_err-right-clause-reads : goal.operators-returns-in_err-right-clause-reads
operators-returns-in_err-right-clause-reads t c =
    let p = err_from_is_err_and c.from_residual.result c.from_residual.ensures.1 in
    rw (p.1, p.2) (pass c.in_err-right.field-0.0
    (λ r vs d. operand_fails c.args.top (c.args.top - 1) c.args.outer c.operators.left c.args.left c.in-Some.field-0-0 c.in-Some.operator c.operators.rest.now c.in-Some.after.now vs c.args.tokens.now r
    (omega arith) c.in-Some.ensures c.in_default-exceeded.ensures d c.operators.invariant.at)
    c.in_err-right.ensures.reads)

pub operators-operators-preserved : goal.operators-operators-preserved
operators-operators-preserved t c =
    let fits = c.in_default-exceeded.ensures in
    let depth : (inside : Bool) → IsWithin c.args.outer inside c.in_ok-left.left = λ inside. operand_depth c.args.outer inside c.operators.left c.in_ok-right.right c.in_ok-left.left c.in-Some.operator c.in_ok-left.ensures fits c.in_ok-right.ensures.depth.1 in
    record {
      at = operand_read c.args.top (c.args.top - 1) c.args.outer c.operators.left c.args.left c.in_ok-right.right c.in_ok-left.left c.in-Some.field-0-0 c.in-Some.operator c.operators.rest.now c.in-Some.after.now
          c.in_ok-right.after.now c.args.tokens.now (omega arith) c.in_ok-left.ensures c.in-Some.ensures fits c.in_ok-right.ensures.reads c.operators.invariant.at;
      shorter = omega (arith, ap length c.in-Some.ensures.parts, c.in_ok-right.ensures.shorter, c.operators.invariant.shorter);
      low = (depth false).0;
      fits = omega (arith, (depth false).1);
      depth = λ inside h. depth inside;
    }

pub operators-returns-clause-reads : goal.operators-returns-clause-reads
operators-returns-clause-reads t c =
    operators_end c.args.top (c.args.top - 1) c.args.outer c.operators.left c.args.left c.operators.rest.now c.args.tokens.now (omega arith) c.in_default.ensures c.operators.invariant.at

pub level-returns-then-top-eq0-clause-reads : goal.level-returns-then-top-eq0-clause-reads
level-returns-then-top-eq0-clause-reads t c = rw c.if-top-eq0.true c.unary_level.ensures.reads

pub level-returns-in_err-left-clause-reads : goal.level-returns-in_err-left-clause-reads
level-returns-in_err-left-clause-reads t c =
    let p = err_from_is_err_and c.from_residual.result c.from_residual.ensures.1 in
    rw (p.1, p.2) (pass c.in_err-left.field-0.0 (λ r vs d. level_fails c.args.top (c.args.top - 1) c.args.counts.now c.args.outer c.args.inside r vs c.args.tokens.now (omega arith) d) c.in_err-left.ensures.reads)

pub level-returns-clause-reads : goal.level-returns-clause-reads
level-returns-clause-reads t c =
    level_read c.args.top (c.args.top - 1) c.args.counts.now c.args.outer c.args.inside c.in_ok-left.left c.in_ok-left.rest.now c.args.tokens.now _ c.operators.result (omega arith) c.in_ok-left.ensures.reads c.operators.ensures.reads

pub postfixes-postfixes-init : goal.postfixes-postfixes-init
postfixes-postfixes-init t c = record {
  at = record { yes = λ b vs r. r; no = λ r vs x. x };
  shorter = omega arith;
  low = c.requires.low;
  fits = c.requires.fits;
  depth = λ inside h. h;
}

pub postfixes-returns-in-Some-exceeded-clause-reads : goal.postfixes-returns-in-Some-exceeded-clause-reads
postfixes-returns-in-Some-exceeded-clause-reads t c =
    let over = c.in-Some-exceeded.ensures in
    (over.0, postfix_over c.in-Some.mark c.args.outer c.postfixes.base c.args.base c.in-Some.ensures.0 c.postfixes.rest.now _ c.args.tokens.now over.0 c.in-Some.ensures.1 over.1 c.postfixes.invariant.at, over.2)

pub postfixes-returns-in_err-base-clause-reads : goal.postfixes-returns-in_err-base-clause-reads
postfixes-returns-in_err-base-clause-reads t c =
    let p = err_from_is_err_and c.from_residual.result c.from_residual.ensures.1 in
    rw (p.1, p.2) (pass c.in_err-base.field-0.0
    (λ r vs d. postfix_fails c.in-Some.mark c.args.outer c.postfixes.base c.args.base c.in-Some.ensures.0 c.postfixes.rest.now c.in-Some.after.now vs c.args.tokens.now r
    c.in-Some.ensures.1 c.in_default-exceeded.ensures d c.postfixes.invariant.at)
    c.in_err-base.ensures.reads)

pub postfixes-postfixes-preserved : goal.postfixes-postfixes-preserved
postfixes-postfixes-preserved t c =
    let depth : (inside : Bool) → IsWithin c.args.outer inside c.in_ok-base.field-0-0 = λ inside. fits_inside c.args.outer inside c.in_ok-base.field-0-0 c.in_ok-base.ensures.depth in
    record {
      at = postfix_read c.in-Some.mark c.args.outer c.postfixes.base c.args.base c.in_ok-base.field-0-0 c.in-Some.ensures.0 c.postfixes.rest.now c.in-Some.after.now c.in_ok-base.field-0-1.now c.args.tokens.now
          c.in-Some.ensures.1 c.in_default-exceeded.ensures c.in_ok-base.ensures.reads c.postfixes.invariant.at;
      shorter = omega (arith, ap length c.in-Some.ensures.1.parts, c.in_ok-base.ensures.shorter, c.postfixes.invariant.shorter);
      low = (depth false).0;
      fits = omega (arith, (depth false).1);
      depth = λ inside h. depth inside;
    }

pub postfixes-returns-clause-reads : goal.postfixes-returns-clause-reads
postfixes-returns-clause-reads t c =
    let none = c.in_default.ensures in
    c.postfixes.invariant.at.yes c.postfixes.base c.postfixes.rest.now (passes none.0 (passes none.1 (passes none.2 gives)))

pub postfix-returns-in_err-base-clause-reads : goal.postfix-returns-in_err-base-clause-reads
postfix-returns-in_err-base-clause-reads t c =
    let p = err_from_is_err_and c.from_residual.result c.from_residual.ensures.1 in
    rw (p.1, p.2) (pass c.in_err-base.field-0.0 (λ r vs d. fails d) c.in_err-base.ensures.reads)

pub postfix-returns-clause-reads : goal.postfix-returns-clause-reads
postfix-returns-clause-reads t c =
    read_on (Postfixes c.args.outer c.in_ok-base.base) (Postfix c.args.counts.now c.args.outer c.args.inside) _ _ c.in_ok-base.rest.now c.args.tokens.now c.postfixes.result
    (λ x d. calls c.in_ok-base.ensures.reads (calls d gives)) (λ r vs d. calls c.in_ok-base.ensures.reads (fails d)) c.postfixes.ensures.reads

pub primary-returns-in_default-clause-reads : goal.primary-returns-in_default-clause-reads
primary-returns-in_default-clause-reads t c = c.bare.ensures.reads c.args.outer c.args.inside

pub primary-returns-in-Some-exceeded-clause-reads : goal.primary-returns-in-Some-exceeded-clause-reads
primary-returns-in-Some-exceeded-clause-reads t c =
    let over = c.in-Some-exceeded.ensures in
    (over.0, parentheses_over c.args.counts.now c.args.outer c.args.inside c.in_parentheses-outer.result c.in-Some.start c.args.tokens.now c.in-Some.rest.now over.0 c.in_parentheses-outer.ensures c.in-Some.ensures over.1, over.2)

pub primary-returns-in_err-inner-clause-reads : goal.primary-returns-in_err-inner-clause-reads
primary-returns-in_err-inner-clause-reads t c =
    let p = err_from_is_err_and c.from_residual.result c.from_residual.ensures.1 in
    rw (p.1, p.2) (pass c.in_err-inner.field-0.0
    (λ r vs d. into_parentheses c.args.counts.now c.args.outer c.args.inside c.in_parentheses-outer.result c.in-Some.start c.args.tokens.now c.in-Some.rest.now (No r vs) c.in_parentheses-outer.ensures c.in-Some.ensures c.in_default-exceeded.ensures (fails d))
    c.in_err-inner.ensures.reads)

pub primary-returns-in_default-mark-clause-reads : goal.primary-returns-in_default-mark-clause-reads
primary-returns-in_default-mark-clause-reads t c =
    into_parentheses c.args.counts.now c.args.outer c.args.inside c.in_parentheses-outer.result c.in-Some.start c.args.tokens.now c.in-Some.rest.now _ c.in_parentheses-outer.ensures c.in-Some.ensures c.in_default-exceeded.ensures
    (calls c.in_ok-inner.ensures.reads (misses c.in_default-mark.ensures))

pub primary-returns-clause-reads : goal.primary-returns-clause-reads
primary-returns-clause-reads t c =
    rw c.parenthesised.ensures (into_parentheses c.args.counts.now c.args.outer c.args.inside c.in_parentheses-outer.result c.in-Some.start c.args.tokens.now c.in-Some.rest.now _ c.in_parentheses-outer.ensures c.in-Some.ensures
    c.in_default-exceeded.ensures (calls c.in_ok-inner.ensures.reads (wants c.in-Some-mark.ensures refl gives)))

pub unary_level-returns-in_default-clause-reads : goal.unary_level-returns-in_default-clause-reads
unary_level-returns-in_default-clause-reads t c =
    read_on (Postfix c.args.counts.now c.args.outer c.args.inside) (Level 0 c.args.counts.now c.args.outer c.args.inside) _ _ c.args.tokens.now c.args.tokens.now c.postfix.result
    (λ x d. passes c.in_default.ensures (calls d gives)) (λ r vs d. passes c.in_default.ensures (fails d)) c.postfix.ensures.reads

pub unary_level-returns-in-Some-exceeded-clause-reads : goal.unary_level-returns-in-Some-exceeded-clause-reads
unary_level-returns-in-Some-exceeded-clause-reads t c =
    let over = c.in-Some-exceeded.ensures in
    (over.0, overs c.in-Some.ensures over.1, over.2)

pub unary_level-returns-in_err-a-clause-reads : goal.unary_level-returns-in_err-a-clause-reads
unary_level-returns-in_err-a-clause-reads t c =
    let p = err_from_is_err_and c.from_residual.result c.from_residual.ensures.1 in
    rw (p.1, p.2) (pass c.in_err-a.field-0.0 (λ r vs d. takes c.in-Some.ensures c.in_default-exceeded.ensures (fails d)) c.in_err-a.ensures.reads)

pub unary_level-returns-clause-reads : goal.unary_level-returns-clause-reads
unary_level-returns-clause-reads t c =
    rw c.in_ok-signed.ensures (takes c.in-Some.ensures c.in_default-exceeded.ensures (calls c.in_ok-a.ensures.reads gives))

use Rattle.std.proofs.Common.{length, ◌+◌, ◌*◌, ◌≤◌, Bool}
use Rattle.ca_expressions.specs.Reading.{IsWithin}
use Rattle.ca_expressions.proofs.Operands.{MoreOperators, MorePostfixes}
use Rattle.ca_expressions.proofs.expressions.+expressions.Given as goal

abbrev pub decreases-primary : goal.decreases-primary
decreases-primary l = 16 * length l.tokens.now

abbrev pub decreases-indexed : goal.decreases-indexed
decreases-indexed l = 16 * length l.tokens.now + 10

abbrev pub decreases-behind : goal.decreases-behind
decreases-behind l = 16 * length l.tokens.now + 11

abbrev pub decreases-postfix : goal.decreases-postfix
decreases-postfix l = 16 * length l.tokens.now + 1

abbrev pub decreases-unary_level : goal.decreases-unary_level
decreases-unary_level l = 16 * length l.tokens.now + 2

abbrev pub decreases-level : goal.decreases-level
decreases-level l = 16 * length l.tokens.now + 3 + l.top

abbrev pub decreases-postfixes : goal.decreases-postfixes
decreases-postfixes l = 16 * length l.tokens.now

abbrev pub decreases-operators : goal.decreases-operators
decreases-operators l = 16 * length l.tokens.now

abbrev pub invariant-operators-operators : goal.invariant-operators-operators
invariant-operators-operators l = record {
  at : MoreOperators l.top l.outer l.left l.fn.left l.rest l.tokens;
  shorter : length l.rest ≤ length l.tokens;
  low : 1 ≤ l.left.depth;
  fits : l.outer + l.left.depth ≤ 64;
  depth : (inside : Bool) → IsWithin l.outer inside l.fn.left → IsWithin l.outer inside l.left;
}

abbrev pub decreases-operators-operators : goal.decreases-operators-operators
decreases-operators-operators l = length l.rest

abbrev pub invariant-postfixes-postfixes : goal.invariant-postfixes-postfixes
invariant-postfixes-postfixes l = record {
  at : MorePostfixes l.outer l.base l.fn.base l.rest l.tokens;
  shorter : length l.rest ≤ length l.tokens;
  low : 1 ≤ l.base.depth;
  fits : l.outer + l.base.depth ≤ 64;
  depth : (inside : Bool) → IsWithin l.outer inside l.fn.base → IsWithin l.outer inside l.base;
}

abbrev pub decreases-postfixes-postfixes : goal.decreases-postfixes-postfixes
decreases-postfixes-postfixes l = length l.rest

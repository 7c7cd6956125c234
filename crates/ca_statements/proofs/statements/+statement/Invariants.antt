use Rattle.std.proofs.Common.{length, ◌+◌, ◌*◌, ◌≤◌}
use Rattle.ca_statements.proofs.StatementSteps.{AtStatements}
use Rattle.ca_statements.proofs.statements.+statement.Given as goal

abbrev pub decreases-else_part : goal.decreases-else_part
decreases-else_part l = 16 * length l.tokens.now

abbrev pub decreases-behind_if : goal.decreases-behind_if
decreases-behind_if l = 16 * length l.tokens.now

abbrev pub decreases-behind_while : goal.decreases-behind_while
decreases-behind_while l = 16 * length l.tokens.now

abbrev pub decreases-behind_do : goal.decreases-behind_do
decreases-behind_do l = 16 * length l.tokens.now + 3

abbrev pub decreases-behind_for : goal.decreases-behind_for
decreases-behind_for l = 16 * length l.tokens.now

abbrev pub decreases-braceless : goal.decreases-braceless
decreases-braceless l = 16 * length l.tokens.now + 1

abbrev pub decreases-body : goal.decreases-body
decreases-body l = 16 * length l.tokens.now + 2

abbrev pub decreases-statement : goal.decreases-statement
decreases-statement l = 16 * length l.tokens.now + 2

abbrev pub decreases-in_block : goal.decreases-in_block
decreases-in_block l = 16 * length l.tokens.now + 3

abbrev pub decreases-statements : goal.decreases-statements
decreases-statements l = 16 * length l.tokens.now + 4

abbrev pub invariant-statements-statements : goal.invariant-statements-statements
invariant-statements-statements l = record {
  at : AtStatements l.fn.in_loop l.fn.depth l.fn.of_function l.fn.items l.all.items l.number l.rest l.fn.tokens;
  room : l.number ≤ 65536;
  shorter : length l.rest ≤ length l.fn.tokens;
}

abbrev pub decreases-statements-statements : goal.decreases-statements-statements
decreases-statements-statements l = length l.rest

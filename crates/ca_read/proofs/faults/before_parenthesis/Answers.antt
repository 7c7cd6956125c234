use Rattle.std.proofs.Common.{sym, ◌∙◌}
use Rattle.ca_read.proofs.Parentheses.{found_here, found_before}
use Rattle.ca_read.proofs.faults.before_parenthesis.Goals as goal

pub tokens-preserved-then-begins_open : goal.tokens-preserved-then-begins_open
tokens-preserved-then-begins_open c = found_here c.in-Some.token.now c.tokens.invariant c.in-Some.ensures.cases.0 (sym c.if-begins_open.true ∙ c.begins_open.ensures)

pub tokens-preserved : goal.tokens-preserved
tokens-preserved c = found_before c.in-Some.token.now c.tokens.invariant c.in-Some.ensures.cases.0 (sym c.if-begins_open.false ∙ c.begins_open.ensures)

use Rattle.std.proofs.Common.{arith, sym}
use Rattle.ca_tree.specs.Lexed.{number_form, number_too_large}
use Rattle.ca_lex.proofs.Turns.{large}
use Rattle.ca_lex.proofs.steps.number.Goals as goal

pub returns-then-not-is_apart : goal.returns-then-not-is_apart
returns-then-not-is_apart c = λ fresh begins. (omega arith, λ p. number_form c.requires.found.0 _ _ c.requires.found.1 (rw (← c.split_at.ensures.back) (sym c.if-not-is_apart.ensures)))

pub returns-in-None : goal.returns-in-None
returns-in-None c = λ fresh begins. (omega arith, λ p. number_too_large c.requires.found.0 _ _ c.requires.found.1 (rw (← c.split_at.ensures.back) (sym c.if-not-is_apart.ensures)) (large _ (rw c.in-None.is at c.requires.found.2)))

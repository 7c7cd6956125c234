use Rattle.std.proofs.Common.{arith}
use Rattle.ca_tree.specs.Lexed.{open_comment}
use Rattle.ca_lex.proofs.steps.skipped.Goals as goal

pub returns-in-Open : goal.returns-in-Open
returns-in-Open c = (omega arith, λ p. open_comment c.in-Open.ensures.0 c.in-Open.ensures.1 c.in-Open.ensures.2)

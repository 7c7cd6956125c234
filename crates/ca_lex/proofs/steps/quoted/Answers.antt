use Rattle.std.proofs.Common.{arith}
use Rattle.ca_tree.specs.Lexed.{open_string, bad_escape}
use Rattle.ca_lex.proofs.Turns.{quote_first}
use Rattle.ca_lex.proofs.steps.quoted.Goals as goal

pub returns-in-Open : goal.returns-in-Open
returns-in-Open c = λ fresh begins. (omega arith, λ p. open_string _ (quote_first c.args.text.now c.requires) (rw c.in-Open.is at c.in_ok-len.ensures))

pub returns-in-Bad : goal.returns-in-Bad
returns-in-Bad c = λ fresh begins.
    let found = rw c.in-Bad.is at c.in_ok-len.ensures in
    (omega (arith, found.5), λ p. rw (found.4) (bad_escape found.0 found.1 found.2 found.3))

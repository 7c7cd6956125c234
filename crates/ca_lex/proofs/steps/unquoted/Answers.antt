use Rattle.std.proofs.Common.{arith, get_or, drop, refl}
use Rattle.ca_tree.specs.Lexed.{bad_char}
use Rattle.ca_lex.proofs.Turns.{first_byte}
use Rattle.ca_lex.proofs.steps.unquoted.Goals as goal

pub returns-in_default : goal.returns-in_default
returns-in_default c = λ fresh begins.
    let begun = first_byte c.args.text.now (get_or c.args.text.now 0 0) c.requires.some refl in
    (omega arith, λ p. bad_char (get_or c.args.text.now 0 0) (drop 1 c.args.text.now) begun (begins.no_blank _ _ begun) c.requires.no_quote c.in_default.ensures.none)

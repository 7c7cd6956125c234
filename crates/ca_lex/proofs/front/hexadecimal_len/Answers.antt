use Rattle.std.proofs.Common.{sym, arith}
use Rattle.ca_lex.proofs.Longest.{hexadecimal_at}
use Rattle.ca_lex.proofs.front.hexadecimal_len.Goals as goal

pub returns-in_default-clause-found : goal.returns-in_default-clause-found
returns-in_default-clause-found c = hexadecimal_at c.args.text.now c.hex_digits.result c.if-text-lt2.false c.if-text-ne48.false (sym c.if-not-is_x.ensures) c.hex_digits.ensures.value (omega arith)

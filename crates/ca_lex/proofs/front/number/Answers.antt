use Rattle.ca_lex.proofs.FirstBytes.{hexadecimal_front, decimal_front}
use Rattle.ca_lex.proofs.front.number.Goals as goal

pub returns-in-Some-clause-found : goal.returns-in-Some-clause-found
returns-in-Some-clause-found c = (_, hexadecimal_front c.args.text.now c.in-Some.len c.in-Some.ensures.size c.requires.begins c.in-Some.ensures.found, c.value_of.ensures)

pub returns-in-None-clause-found : goal.returns-in-None-clause-found
returns-in-None-clause-found c = (_, decimal_front c.args.text.now c.decimal_len-len.result c.requires.begins c.in-None.ensures.none c.decimal_len-len.ensures.longest, c.value_of-in-None.ensures)

use Rattle.std.proofs.Common.{sym}
use Rattle.ca_lex.proofs.FirstBytes.{name_front, mark_front}
use Rattle.ca_lex.proofs.front.longest_front.Goals as goal

pub returns-then-begins_name-clause-found : goal.returns-then-begins_name-clause-found
returns-then-begins_name-clause-found c = name_front c.args.text.now c.name_len.result (sym c.if-begins_name.ensures) c.name_len.ensures.longest

pub returns-in_ok-mark-clause-found : goal.returns-in_ok-mark-clause-found
returns-in_ok-mark-clause-found c = mark_front c.args.text.now c.in_ok-mark.mark c.in_ok-mark.len (sym c.if-begins_name.ensures) (sym c.if-is_digit.ensures) c.requires.no_string c.in_ok-mark.ensures

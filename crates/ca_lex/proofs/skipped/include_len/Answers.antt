use Rattle.ca_lex.proofs.Includes.{found_len, rest_le, none_cut, none_bare}
use Rattle.ca_lex.proofs.skipped.include_len.Goals as goal

pub returns-in_default : goal.returns-in_default
returns-in_default c = none_cut c.args.text.now c.in_default.ensures

pub overflow_sub-result : goal.overflow_sub-result
overflow_sub-result c = rest_le c.args.text.now c.in-Some.rest.now c.in-Some.ensures c.if-is_bare.ensures

pub returns-then-is_bare : goal.returns-then-is_bare
returns-then-is_bare c = found_len c.args.text.now c.in-Some.rest.now c.in-Some.ensures c.if-is_bare.ensures

pub returns-else-is_bare : goal.returns-else-is_bare
returns-else-is_bare c = none_bare c.args.text.now c.in-Some.rest.now c.in-Some.ensures c.if-is_bare.ensures

use Rattle.ca_lex.proofs.OneLexing.{one_list, one_first_fault, tokens_or_fault}
use Rattle.ca_lex.proofs.laws.a_text_is_lexed_once.Goals as goal

pub returns-clause-tokens : goal.returns-clause-tokens
returns-clause-tokens c = one_list

pub returns-clause-faults : goal.returns-clause-faults
returns-clause-faults c = one_first_fault

pub returns-clause-not_both : goal.returns-clause-not_both
returns-clause-not_both c = tokens_or_fault

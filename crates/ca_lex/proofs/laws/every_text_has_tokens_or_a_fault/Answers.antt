use Rattle.ca_lex.proofs.SomeLexing.{some_outcome}
use Rattle.ca_lex.proofs.laws.every_text_has_tokens_or_a_fault.Goals as goal

pub returns : goal.returns
returns c = some_outcome

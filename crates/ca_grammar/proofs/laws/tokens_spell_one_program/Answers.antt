use Rattle.ca_grammar.proofs.AllGoals.{back, sample}
use Rattle.ca_grammar.proofs.OneExpression.{one_program}
use Rattle.ca_grammar.proofs.Wholes.{program_reads}
use Rattle.ca_grammar.proofs.laws.tokens_spell_one_program.Goals as goal

pub returns : goal.returns
returns c = one_program back sample program_reads

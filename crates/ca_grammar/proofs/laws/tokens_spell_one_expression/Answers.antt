use Rattle.ca_grammar.proofs.AllGoals.{back, sample}
use Rattle.ca_grammar.proofs.ExpressionTheory.{reads_whole}
use Rattle.ca_grammar.proofs.OneExpression.{one_expression}
use Rattle.ca_grammar.proofs.laws.tokens_spell_one_expression.Goals as goal

pub returns : goal.returns
returns c = one_expression back sample reads_whole

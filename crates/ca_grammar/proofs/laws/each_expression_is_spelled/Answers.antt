use Rattle.ca_grammar.proofs.EveryTree.{every_tree}
use Rattle.ca_grammar.proofs.laws.each_expression_is_spelled.Goals as goal

pub returns : goal.returns
returns c = every_tree

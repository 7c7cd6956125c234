use Rattle.ca_grammar.specs.Texts.{AnExpression}
use Rattle.ca_grammar.proofs.Spreading.{expression_spreads}
use Rattle.ca_grammar.proofs.OneFault.{no_fault, one_fault}
use Rattle.ca_grammar.proofs.laws.an_expression_has_one_fault.Goals as goal

pub returns-clause-none : goal.returns-clause-none
returns-clause-none c = no_fault AnExpression expression_spreads

pub returns-clause-one : goal.returns-clause-one
returns-clause-one c = one_fault AnExpression expression_spreads

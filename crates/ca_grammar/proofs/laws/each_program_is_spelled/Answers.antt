use Rattle.ca_grammar.proofs.EveryDeclaration.{every_program}
use Rattle.ca_grammar.proofs.laws.each_program_is_spelled.Goals as goal

pub returns : goal.returns
returns c = every_program

use Rattle.ca_grammar.specs.Texts.{AProgram}
use Rattle.ca_grammar.proofs.Spreading.{program_spreads}
use Rattle.ca_grammar.proofs.OneFault.{no_fault, one_fault}
use Rattle.ca_grammar.proofs.laws.a_program_has_one_fault.Goals as goal

pub returns-clause-none : goal.returns-clause-none
returns-clause-none c = no_fault AProgram program_spreads

pub returns-clause-one : goal.returns-clause-one
returns-clause-one c = one_fault AProgram program_spreads

use Rattle.ca_grammar.specs.Texts.{AProgram}
use Rattle.ca_grammar.specs.Laws.{all_kept}
use Rattle.ca_grammar.proofs.AllGoals.{back, sample}
use Rattle.ca_grammar.proofs.Wholes.{program_reads, a_program}
use Rattle.ca_grammar.proofs.Exact.{read_spells}
use Rattle.ca_grammar.proofs.OneExpression.{one_program}
use Rattle.ca_grammar.proofs.OneFault.{no_fault}
use Rattle.ca_grammar.proofs.Spreading.{program_spreads}
use Rattle.ca_read.proofs.WholeTexts.{is_left, refused, no_text, same_fault}
use Rattle.ca_read.proofs.reading.program.Goals as goal

pub refusal-requires : goal.refusal-requires
refusal-requires c = is_left a_program c.args.tokens.now c.in-Err.stop c.in-Err.ensures c.requires

pub returns-in-Ok-clause-spelled : goal.returns-in-Ok-clause-spelled
returns-in-Ok-clause-spelled c = read_spells back sample a_program c.in-Ok.ensures c.requires

pub returns-in-Ok-clause-found : goal.returns-in-Ok-clause-found
returns-in-Ok-clause-found c a h = one_program back sample program_reads all_kept c.args.tokens.now c.in-Ok.program a (read_spells back sample a_program c.in-Ok.ensures c.requires) h

pub returns-in-Ok-clause-refused : goal.returns-in-Ok-clause-refused
returns-in-Ok-clause-refused c f h =
    no_fault AProgram program_spreads c.args.tokens.now f (c.in-Ok.program, read_spells back sample a_program c.in-Ok.ensures c.requires) h

pub returns-in-Err-clause-fault : goal.returns-in-Err-clause-fault
returns-in-Err-clause-fault c = refused a_program c.args.tokens.now c.in-Err.stop c.refusal.result c.in-Err.ensures c.requires c.refusal.ensures

pub returns-in-Err-clause-found : goal.returns-in-Err-clause-found
returns-in-Err-clause-found c a h = no_text AProgram program_spreads c.args.tokens.now c.refusal.result (refused a_program c.args.tokens.now c.in-Err.stop c.refusal.result c.in-Err.ensures c.requires c.refusal.ensures) (a, h)

pub returns-in-Err-clause-refused : goal.returns-in-Err-clause-refused
returns-in-Err-clause-refused c f h =
    same_fault AProgram program_spreads c.args.tokens.now c.refusal.result (refused a_program c.args.tokens.now c.in-Err.stop c.refusal.result c.in-Err.ensures c.requires c.refusal.ensures) f h

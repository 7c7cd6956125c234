-- Whole texts are read as they are spelled.
use Rattle.ca_grammar.proofs.ExpressionTheory.{reads_whole, reads_expression}
use Rattle.ca_grammar.proofs.PhraseReads.{reads_stars, reads_starred_name, reads_base, reads_initializer, reads_simple}
use Rattle.ca_grammar.proofs.StatementReads.{Others, reads_block}
use Rattle.ca_grammar.proofs.DeclarationReads.{reads_program}
use Rattle.ca_grammar.proofs.Exact.{IsWholeText, ReadsProgram, expressions, programs}
use Rattle.ca_grammar.specs.Goals.{Whole, A_program}
use Rattle.ca_grammar.specs.Texts.{IsExpression}
use Rattle.ca_grammar.specs.Declarations.{IsProgram}

others : Others
others = record { reads_expression = reads_expression; reads_starred_name = reads_starred_name; reads_initializer = reads_initializer; reads_simple = reads_simple }

pub program_reads : ReadsProgram
program_reads limits k a m ts us s = reads_program reads_stars reads_starred_name reads_base (reads_block others) limits k a s

pub an_expression : IsWholeText Whole IsExpression
an_expression = expressions reads_whole

pub a_program : IsWholeText A_program IsProgram
a_program = programs program_reads

-- What a call of the scanner answers.
use Rattle.ca_tree.specs.declared.token.LexFault.{LexFault}
use Rattle.ca_lex.specs.declared.scanner.LexNo.{LexNo}
use Rattle.ca_lex.specs.declared.scanner.LexNo.TheVariants as no

abbrev pub IfFault : LexNo → (LexFault → Type 0) → Type 0
IfFault (no.Fault f) P = P f
IfFault no.NoMemory P = Unit {0}

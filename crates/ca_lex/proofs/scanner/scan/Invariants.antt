use Rattle.std.proofs.Common.{◌≤◌, ◌+◌, ◌++◌, List, length, true}
use Rattle.ca_tree.specs.declared.token.Token.{Token}
use Rattle.ca_tree.specs.declared.token.LexFault.{LexFault}
use Rattle.ca_tree.specs.Places.{start}
use Rattle.ca_tree.specs.Lexed.{Lexed, Faulted}
use Rattle.ca_lex.proofs.scanner.scan.Given as goal

abbrev pub invariant-turns : goal.invariant-turns
invariant-turns l = record {
  lexed : (ts : List Token) → Lexed l.fresh l.place l.rest ts → Lexed true start l.text (l.tokens.items ++ ts);
  faulted : (f : LexFault) → Faulted l.fresh l.place l.rest f → Faulted true start l.text f;
  line : l.place.line + length l.rest ≤ length l.text + 1;
  column : l.place.column + length l.rest ≤ length l.text + 1;
}

abbrev pub decreases-turns : goal.decreases-turns
decreases-turns l = length l.rest

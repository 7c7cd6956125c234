use Rattle.std.proofs.Common.{◌≡◌, ◌<◌, ◌^◌, drop}
use Rattle.ca_tree.specs.Tokens.{value_from}
use Rattle.ca_lex.proofs.front.value_of.Given as goal

abbrev pub invariant-digits : goal.invariant-digits
invariant-digits l = record {
  small : l.value < 2 ^ 31;
  value : value_from l.base 0 l.digits ≡ value_from l.base l.value (drop l.c-index l.digits);
}

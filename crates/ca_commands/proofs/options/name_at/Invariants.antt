use Rattle.std.proofs.Common.{◌≡◌, ◌-◌, ◌≤◌, drop, slice_get}
use Rattle.ca_commands.specs.Words.{names_of}
use Rattle.ca_commands.proofs.options.name_at.Given as goal

abbrev pub invariant-pieces : goal.invariant-pieces
invariant-pieces l = record {
  before : l.before ≤ l.fn.place;
  left : slice_get (names_of (drop l.piece-index l.pieces)) (l.fn.place - l.before) ≡ slice_get (names_of l.pieces) l.fn.place;
}

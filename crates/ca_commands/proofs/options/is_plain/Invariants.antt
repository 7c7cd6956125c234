use Rattle.std.proofs.Common.{◌≡◌, ◌+◌, cond, drop}
use Rattle.ca_commands.specs.Words.{plains_of}
use Rattle.ca_commands.proofs.options.is_plain.Given as goal

abbrev pub invariant-pieces : goal.invariant-pieces
invariant-pieces l = plains_of l.pieces ≡ cond l.plain 1 0 + plains_of (drop l.piece-index l.pieces)

use Rattle.std.proofs.Common.{◌≡◌, ◌++◌, drop}
use Rattle.std.specs.Option.{option_map}
use Rattle.ca_commands.specs.Words.{values_of}
use Rattle.ca_commands.specs.Gathering.{list_of}
use Rattle.ca_commands.proofs.options.value.Given as goal

abbrev pub invariant-pieces : goal.invariant-pieces
invariant-pieces l = values_of l.fn.key l.pieces ≡ list_of (option_map (λ x. x.now) l.found) ++ values_of l.fn.key (drop l.piece-index l.pieces)

use Rattle.std.proofs.Common.{◌≡◌, [], take}
use Rattle.std.specs.Prelude.{All}
use Rattle.ca_commands.specs.Words.{values_of}
use Rattle.ca_commands.proofs.options.are_absent.Given as goal

abbrev pub invariant-keys : goal.invariant-keys
invariant-keys l = All (λ k. values_of k l.fn.pieces ≡ []) (take l.key-index l.keys)

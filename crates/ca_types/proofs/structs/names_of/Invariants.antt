use Rattle.std.proofs.Common.{◌≡◌, ◌++◌, drop, map}
use Rattle.ca_model.specs.typing.Structs.{names_of}
use Rattle.ca_types.proofs.structs.names_of.Given as goal

abbrev pub invariant-loop-group : goal.invariant-loop-group
invariant-loop-group l = map (λ n. n.now) l.names.items ++ names_of (drop l.group-index l.groups) ≡ names_of l.groups

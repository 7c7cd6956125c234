use Rattle.std.proofs.Common.{◌≡◌, ◌+◌, ◌++◌, [], drop, map, length}
use Rattle.ca_model.specs.typing.Programs.{definitions}
use Rattle.ca_types.proofs.definitions.definitions.Given as goal

abbrev pub invariant-loop-top : goal.invariant-loop-top
invariant-loop-top l = (l.functions.functions ≡ []) × (length l.functions.defined + length (definitions (drop l.top-index l.tops)) ≡ length (definitions l.tops)) × (l.functions.defined ++ map (λ f. f.name.text) (definitions (drop l.top-index l.tops)) ≡ map (λ f. f.name.text) (definitions l.tops))

use Rattle.std.proofs.Common.{◌≡◌, drop}
use Rattle.std.specs.List.{list_any}
use Rattle.ca_model.specs.typing.Programs.{definitions, is_main}
use Rattle.ca_types.proofs.definitions.defines_main.Given as goal

abbrev pub invariant-loop-top : goal.invariant-loop-top
invariant-loop-top l = list_any is_main (definitions (drop l.top-index l.tops)) ≡ list_any is_main (definitions l.tops)

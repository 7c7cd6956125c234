use Rattle.std.proofs.Common.{◌≡◌, drop}
use Rattle.std.specs.List.{list_any}
use Rattle.ca_model.specs.typing.LibraryCalls.{is_void_pointer}
use Rattle.ca_types.proofs.signatures.takes_void_pointer.Given as goal

abbrev pub invariant-loop-of : goal.invariant-loop-of
invariant-loop-of l = list_any is_void_pointer (drop l.of-index l.parameters) ≡ list_any is_void_pointer l.parameters

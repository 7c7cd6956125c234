use Rattle.std.proofs.Common.{◌≡◌, take}
use Rattle.ca_flow.proofs.code.copied.Given as goal

abbrev pub invariant-globals : goal.invariant-globals
invariant-globals l = l.copy.items ≡ take l.global-index l.globals

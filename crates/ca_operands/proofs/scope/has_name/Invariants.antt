use Rattle.std.proofs.Common.{◌≡◌, false, take}
use Rattle.std.specs.List.{list_any}
use Rattle.std.specs.Str.{bytes_eq}
use Rattle.ca_operands.specs.Shown.{shown_local}
use Rattle.ca_operands.proofs.scope.has_name.Given as goal

abbrev pub invariant-loop-local : goal.invariant-loop-local
invariant-loop-local l = list_any (λ x. bytes_eq l.name (shown_local x).0) (take l.local-index l.locals) ≡ false

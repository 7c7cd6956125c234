use Rattle.std.proofs.Common.{◌≡◌, map, drop}
use Rattle.ca_model.specs.typing.Scopes.{numbered}
use Rattle.ca_operands.specs.Shown.{shown_field}
use Rattle.ca_operands.proofs.scope.numbered.Given as goal

abbrev pub invariant-loop-field : goal.invariant-loop-field
invariant-loop-field l = (l.index ≡ l.field-index) × (numbered 0 l.name (map shown_field l.fields) ≡ numbered l.index l.name (map shown_field (drop l.index l.fields)))

use Rattle.std.proofs.Common.{◌≡◌, drop}
use Rattle.std.specs.List.{list_any}
use Rattle.std.specs.Str.{bytes_eq}
use Rattle.ca_types.proofs.structs.is_among.Given as goal

abbrev pub invariant-loop-name : goal.invariant-loop-name
invariant-loop-name l = list_any (λ n. bytes_eq l.text n.now.text) (drop l.name-index l.names) ≡ list_any (λ n. bytes_eq l.text n.now.text) l.names

use Rattle.std.proofs.Common.{◌≡◌, ◌++◌, drop, map}
use Rattle.ca_types.proofs.structs.push_names.Given as goal

abbrev pub invariant-loop-declarator : goal.invariant-loop-declarator
invariant-loop-declarator l = map (λ n. n.now) l.names.items ++ map (λ d. d.name) (drop l.declarator-index l.fn.group.declarators) ≡ map (λ n. n.now) l.fn.names.items ++ map (λ d. d.name) l.fn.group.declarators

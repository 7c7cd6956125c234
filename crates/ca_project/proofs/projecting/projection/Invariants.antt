use Rattle.std.proofs.Common.{◌≡◌, ℕ, reverse, drop}
use Rattle.std.specs.BTreeSet.{contains}
use Rattle.std.specs.Ordering.{nat_cmp}
use Rattle.ca_model.specs.Projection.{abandoned, projection}
use Rattle.ca_project.proofs.projecting.projection.Given as goal

-- what is kept of the entries behind, the last first; and which threads retry there with no save between
abbrev pub invariant-entries : goal.invariant-entries
invariant-entries l = record {
  kept : l.kept.items ≡ reverse (projection (drop l.left l.events));
  retrying : (t : ℕ) → contains nat_cmp l.retrying t ≡ abandoned t (drop l.left l.events);
}

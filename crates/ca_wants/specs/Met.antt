-- Which things were met.
use Rattle.std.specs.Prelude.{ℕ, Bool}
use Rattle.std.specs.BTreeSet.{BTreeSet, contains}
use Rattle.std.specs.Ordering.{nat_cmp}
use Rattle.ca_model.specs.declared.values.Given.{Given}
use Rattle.ca_model.specs.declared.values.Given.TheVariants as given

abbrev pub met : BTreeSet ℕ → BTreeSet ℕ → Given → Bool
met mutexes blocks (given.Mutex m) = contains nat_cmp mutexes m.0
met mutexes blocks (given.Block b) = contains nat_cmp blocks b

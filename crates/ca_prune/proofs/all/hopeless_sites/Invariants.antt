use Rattle.std.proofs.Common.{◌≡◌, ◌<◌, ◌+◌, ℕ, length}
use Rattle.std.specs.Prelude.{None, get_or}
use Rattle.ca_model.specs.Accesses.{Site}
use Rattle.ca_model.specs.Plans.{IsSite}
use Rattle.ca_prune.specs.Pruning.{Tells}
use Rattle.ca_prune.proofs.all.hopeless_sites.Given as goal

abbrev pub invariant-sites : goal.invariant-sites
invariant-sites l = record {
  count : length l.reasons.items ≡ l.k;
  told : (n : ℕ) (s : Site) → n < l.k → IsSite l.code.source s (record { 0 = n + 1 }) → Tells l.code.source l.depth s (get_or l.reasons.items n None);
}

use Rattle.std.proofs.Common.{◌≡◌, drop}
use Rattle.ca_thread.specs.Kept.{count_in}
use Rattle.ca_thread.proofs.saved.count_of.Given as goal

abbrev pub invariant-tried : goal.invariant-tried
invariant-tried l = count_in (drop l.one-index l.tried) l.site ≡ count_in l.tried l.site

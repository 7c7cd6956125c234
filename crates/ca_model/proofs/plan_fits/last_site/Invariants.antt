use Rattle.std.proofs.Common.{◌≡◌, drop}
use Rattle.ca_model.specs.Fitting.{ascending_to}
use Rattle.ca_model.proofs.plan_fits.last_site.Given as goal

abbrev pub invariant-loop-site : goal.invariant-loop-site
invariant-loop-site l = ascending_to l.last (drop l.site-index l.fn.sites) ≡ ascending_to 0 l.fn.sites

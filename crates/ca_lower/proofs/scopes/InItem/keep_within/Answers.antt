use Rattle.std.proofs.Common.{◌≡◌, ◌≤◌, true, subst}
use Rattle.ca_lower.specs.Scopes.{InItem}
use Rattle.ca_lower.specs.Acts.{fits_act}
use Rattle.ca_lower.proofs.Within.{within_fits}
use Rattle.ca_lower.proofs.scopes.InItem.keep_within.Goals as goal

pub returns-clause-fits : goal.returns-clause-fits
returns-clause-fits c =
    subst (λ (x : InItem). fits_act x.function.locals x.item.act ≡ true) c.self.view_is
    (within_fits c.self.inside.tables.now.source c.self.inside.function.now c.self.inside.item.now.act c.known.ensures.bounded (c.known.ensures.bounded.acts c.self.inside.function.now c.self.inside.item.now c.self.invariant.0 c.self.invariant.1))

pub returns-clause-few : goal.returns-clause-few
returns-clause-few c = subst (λ (x : InItem). x.function.locals ≤ 128) c.self.view_is (c.known.ensures.bounded.locals c.self.inside.function.now c.self.invariant.0).2

use Rattle.std.proofs.Common.{refl, sym, ◌∙◌, arith}
use Rattle.ca_lower.proofs.Growing.{grows_on, grows_from, counted_down, one_on}
use Rattle.ca_lower.proofs.ActsAdded.{assert_added}
use Rattle.ca_lower.proofs.builder.Builder.assert.Goals as goal

pub returns-clause-adds : goal.returns-clause-adds
returns-clause-adds c g width le stands =
    assert_added _ g _ width _ (omega (arith, c.locals-low.ensures)) _ _ _ c.take_site-site.new.self.site c.args.next _ _ _ c.home-value.result c.take_site-site.result c.requires.act (omega (arith, c.requires.site, c.take_site-site.ensures.number, c.in_ok-node.ensures.site, c.in_ok-start.ensures.site)) c.home-value.ensures c.take_site-site.ensures.site (sym c.in_ok-node.ensures.site ∙ c.in_ok-start.ensures.site) (c.in_ok-start.ensures.adds g width le stands) (c.in_ok-start.ensures.grows.stands g stands _ _ c.in_ok-node.ensures.pushed refl)

pub returns-clause-grows : goal.returns-clause-grows
returns-clause-grows c = grows_from _ _ _ _ c.take_site-site.ensures.same (grows_on _ _ _ _ c.in_ok-node.ensures.grows c.in_ok-start.ensures.grows)

pub returns-clause-sites : goal.returns-clause-sites
returns-clause-sites c = counted_down _ _ _ _ (omega (arith, c.requires.site, c.take_site-site.ensures.number, c.in_ok-node.ensures.site, c.in_ok-start.ensures.site)) (one_on _ _ _ _ _ _ _ _ _ _ c.in_ok-start.ensures.grows c.in_ok-node.ensures.pushed refl c.take_site-site.ensures.site (sym c.in_ok-node.ensures.site) c.take_site-site.ensures.number refl c.in_ok-start.ensures.sites)

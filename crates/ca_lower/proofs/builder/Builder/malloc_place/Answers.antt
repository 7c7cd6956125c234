use Rattle.std.proofs.Common.{refl, sym, ◌∙◌, arith}
use Rattle.ca_lower.proofs.Growing.{grows_on, grows_from, counted_down, access_on, sites_on}
use Rattle.ca_lower.proofs.ActsAdded.{malloc_place_added, is_among, access_is}
use Rattle.ca_lower.proofs.builder.Builder.malloc_place.Goals as goal

pub returns-clause-adds : goal.returns-clause-adds
returns-clause-adds c g width le stands =
    let by_middle = c.in_ok-start.ensures.grows.stands g stands in
    let by_node = c.in_ok-middle.ensures.grows.stands g by_middle in
    malloc_place_added _ g _ width _ (omega (arith, c.locals-low.ensures)) _ _ _ _ _ c.take_access-site.new.self.site c.args.next c.in_ok-write.write _ _ c.args.p.now _ _ _ c.base_home.result c.home.result _ _ c.index_home.result c.take_access-site.result
    (is_among _ _ _ c.requires.fits) c.requires.act
    (omega (arith, access_is c.args.p.now, c.requires.site, c.take_access-site.ensures.number, c.in_ok-write.ensures.site, c.in_ok-node.ensures.site, c.in_ok-middle.ensures.site, c.in_ok-start.ensures.site))
    c.base_home.ensures c.index_home.ensures c.home.ensures refl refl
    (omega (arith, le, c.in_ok-node.ensures.wide, c.in_ok-middle.ensures.grows.registers, c.in_ok-start.ensures.grows.registers))
    c.in_ok-start.ensures.site (sym (c.in_ok-node.ensures.site ∙ c.in_ok-write.ensures.site) ∙ c.in_ok-middle.ensures.site) c.take_access-site.ensures.site
    (c.in_ok-start.ensures.adds g width le stands)
    (c.in_ok-middle.ensures.adds g width (omega (arith, le, c.in_ok-start.ensures.grows.registers)) by_middle)
    (by_node _ _ c.in_ok-node.ensures.pushed refl)
    (c.in_ok-node.ensures.grows.stands g by_node _ _ c.in_ok-write.ensures.pushed refl)

pub returns-clause-grows : goal.returns-clause-grows
returns-clause-grows c =
    grows_from _ _ _ _ c.take_access-site.ensures.same (grows_on _ _ _ _ c.in_ok-write.ensures.grows (grows_on _ _ _ _ c.in_ok-node.ensures.grows (grows_on _ _ _ _ c.in_ok-middle.ensures.grows c.in_ok-start.ensures.grows)))

pub returns-clause-sites : goal.returns-clause-sites
returns-clause-sites c =
    counted_down _ _ _ _ (omega (arith, access_is c.args.p.now, c.requires.site, c.take_access-site.ensures.number, c.in_ok-write.ensures.site, c.in_ok-node.ensures.site, c.in_ok-middle.ensures.site, c.in_ok-start.ensures.site))
    (access_on _ _ _ _ _ _ _ _ _ _ _ (grows_on _ _ _ _ c.in_ok-node.ensures.grows (grows_on _ _ _ _ c.in_ok-middle.ensures.grows c.in_ok-start.ensures.grows)) c.in_ok-write.ensures.pushed refl c.take_access-site.ensures.site
    (sym (c.in_ok-node.ensures.site ∙ c.in_ok-write.ensures.site)) c.take_access-site.ensures.number refl
    (sites_on _ _ _ _ _ c.in_ok-start.ensures.grows refl c.in_ok-middle.ensures.sites c.in_ok-start.ensures.sites))

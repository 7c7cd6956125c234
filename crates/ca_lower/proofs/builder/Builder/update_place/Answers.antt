use Rattle.std.proofs.Common.{refl, sym, ◌∙◌, arith}
use Rattle.ca_lower.proofs.Growing.{grows_on, grows_from, counted_down, access_on, sites_on}
use Rattle.ca_lower.proofs.ActsAdded.{update_place_added, is_among, access_is}
use Rattle.ca_lower.proofs.builder.Builder.update_place.Goals as goal

pub returns-clause-adds : goal.returns-clause-adds
returns-clause-adds c g width le stands =
    let left_grows = grows_from _ c.find.new.self _ _ c.take_access-read.ensures.same c.in_ok-left.ensures.grows in
    let by_left = c.in_ok-start.ensures.grows.stands g stands in
    let by_right = left_grows.stands g by_left in
    let by_operate = c.in_ok-right.ensures.grows.stands g by_right in
    let by_write = c.in_ok-operate.ensures.grows.stands g by_operate in
    update_place_added _ g _ width _ (omega (arith, c.locals-low.ensures)) _ _ _ _ _ c.take_access-read.new.self.site c.take_access-written.new.self.site c.args.next c.in_ok-write.write c.in_ok-right.right _ _ _ _ c.args.p.now _ _
    c.base_home-base.result c.home.result _ c.index_home-index.result c.take_access-written.result c.take_access-read.result
    (is_among _ _ _ c.requires.fits) c.requires.act
    (omega (arith, access_is c.args.p.now, c.requires.site, c.take_access-written.ensures.number, c.in_ok-write.ensures.site, c.in_ok-operate.ensures.site, c.in_ok-right.ensures.site, c.take_access-read.ensures.number, c.in_ok-left.ensures.site, c.in_ok-start.ensures.site))
    c.base_home-base.ensures c.index_home-index.ensures c.home.ensures refl
    (omega (arith, le, c.in_ok-left.ensures.wide, c.in_ok-start.ensures.grows.registers))
    (sym c.in_ok-left.ensures.site ∙ c.in_ok-start.ensures.site) c.take_access-read.ensures.number (sym (c.in_ok-operate.ensures.site ∙ c.in_ok-write.ensures.site) ∙ c.in_ok-right.ensures.site)
    c.take_access-read.ensures.site c.take_access-written.ensures.site
    (c.in_ok-start.ensures.adds g width le stands)
    (c.in_ok-right.ensures.adds g width (omega (arith, le, c.in_ok-start.ensures.grows.registers, left_grows.registers)) by_right)
    (by_left _ _ c.in_ok-left.ensures.pushed refl)
    (by_operate _ _ c.in_ok-operate.ensures.pushed refl)
    (by_write _ _ c.in_ok-write.ensures.pushed refl)

pub returns-clause-grows : goal.returns-clause-grows
returns-clause-grows c =
    grows_from _ _ _ _ c.take_access-written.ensures.same (grows_on _ _ _ _ c.in_ok-write.ensures.grows (grows_on _ _ _ _ c.in_ok-operate.ensures.grows (grows_on _ _ _ _ c.in_ok-right.ensures.grows
    (grows_from _ _ _ _ c.take_access-read.ensures.same (grows_on _ _ _ _ c.in_ok-left.ensures.grows c.in_ok-start.ensures.grows)))))

pub returns-clause-sites : goal.returns-clause-sites
returns-clause-sites c =
    let from_right = grows_from _ c.find.new.self _ _ c.take_access-read.ensures.same (grows_on _ _ _ _ c.in_ok-left.ensures.grows c.in_ok-start.ensures.grows) in
    let from_write = grows_on _ _ _ _ c.in_ok-operate.ensures.grows (grows_on _ _ _ _ c.in_ok-right.ensures.grows from_right) in
    let of_read = access_on _ _ _ _ _ _ _ _ _ _ _ c.in_ok-start.ensures.grows c.in_ok-left.ensures.pushed refl c.take_access-read.ensures.site (sym c.in_ok-left.ensures.site) c.take_access-read.ensures.number refl c.in_ok-start.ensures.sites in
    counted_down _ _ _ _
    (omega (arith, access_is c.args.p.now, c.requires.site, c.take_access-written.ensures.number, c.in_ok-write.ensures.site, c.in_ok-operate.ensures.site, c.in_ok-right.ensures.site, c.take_access-read.ensures.number, c.in_ok-left.ensures.site, c.in_ok-start.ensures.site))
    (access_on _ _ _ _ _ _ _ _ _ _ _ from_write c.in_ok-write.ensures.pushed refl c.take_access-written.ensures.site (sym (c.in_ok-operate.ensures.site ∙ c.in_ok-write.ensures.site)) c.take_access-written.ensures.number refl
    (sites_on _ _ _ _ _ from_right refl c.in_ok-right.ensures.sites of_read))

use Rattle.std.proofs.Common.{arith, refl}
use Rattle.std.proofs.lemmas.List.Elements.{Contains-get_or}
use Rattle.ca_plan.proofs.Taking.{no_items, item_more, all_items_of}
use Rattle.ca_plan.proofs.taken.items_of.Goals as goal

pub sites-init : goal.sites-init
sites-init c = no_items c.args.code.now.source c.new-items.result.items c.new-items.ensures.items

pub item_of-requires : goal.item_of-requires
item_of-requires c = c.requires _ (Contains-get_or c.args.sites.now c.sites.site-index _ c.sites-test.true)

pub sites-preserved : goal.sites-preserved
sites-preserved c =
    item_more c.args.code.now.source c.args.sites.now c.sites.site-index c.sites.items.items c.push.new.self.items _ _ c.item_of.result c.sites-test.true refl c.sites.invariant c.in_ok-push.ensures.items
    (c.requires _ (Contains-get_or c.args.sites.now c.sites.site-index _ c.sites-test.true)) c.item_of.ensures

pub returns : goal.returns
returns c = all_items_of c.args.code.now.source c.args.sites.now c.sites.site-index c.sites.items.items (omega (arith, c.sites-test.false)) c.sites.invariant

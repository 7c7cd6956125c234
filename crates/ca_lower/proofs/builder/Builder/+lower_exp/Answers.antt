use Rattle.std.proofs.Common.{◌≡◌, refl, sym, ap, ◌∙◌, arith}
use Rattle.ca_model.specs.declared.tree.Exp.TheVariants as e
use Rattle.ca_lower.proofs.Added.{local_here, other_here, num_added, null_added, global_added, load_added, plain_aimed, both_and_added, both_or_added, branch_added, address_added, indexed_aimed, and_added, or_added, first_within, base_within, copy_added, negate_added, not_added, binary_added}
use Rattle.ca_lower.proofs.Growing.{grows_on, sites_on, access_on}
use Rattle.ca_lower.proofs.builder.Builder.+lower_exp.Goals as goal

pub find-returns-in-Local-clause-adds : goal.find-returns-in-Local-clause-adds
find-returns-in-Local-clause-adds t c g width le stands = local_here _ g _ _ _ _ _ _ c.in-Local.field-0 c.in-Local.is c.requires.among

pub find-returns-in_ok-start-in_default-clause-adds : goal.find-returns-in_ok-start-in_default-clause-adds
find-returns-in_ok-start-in_default-clause-adds t c g width le stands =
    other_here _ g _ _ _ _ _ _ _ c.in_default.not-Local (omega (arith, le, c.in_ok-start-in_default.ensures.wide)) (c.in_ok-start-in_default.ensures.adds g width le stands)

pub set-returns-in_ok-node-in-Num-clause-adds : goal.set-returns-in_ok-node-in-Num-clause-adds
set-returns-in_ok-node-in-Num-clause-adds t c g width le stands =
    num_added _ g _ _ _ _ _ _ c.args.next _ _ _ _ c.in-Num.is c.number-value.ensures (omega (arith, le, c.in_ok-node-in-Num.ensures.wide)) (stands _ _ c.in_ok-node-in-Num.ensures.pushed refl)

pub set-returns-in_ok-node-in-Null-clause-adds : goal.set-returns-in_ok-node-in-Null-clause-adds
set-returns-in_ok-node-in-Null-clause-adds t c g width le stands =
    null_added _ g _ _ _ _ _ _ c.args.next _ _ c.in-Null.is (omega (arith, le, c.in_ok-node-in-Null.ensures.wide)) (stands _ _ c.in_ok-node-in-Null.ensures.pushed refl)

pub set-returns-in_ok-node-in-Local-clause-adds : goal.set-returns-in_ok-node-in-Local-clause-adds
set-returns-in_ok-node-in-Local-clause-adds t c g width le stands =
    copy_added _ g _ _ _ _ _ _ c.args.next _ _ _ c.in-Local.is c.requires.among (omega (arith, le, c.in_ok-node-in-Local.ensures.wide)) (stands _ _ c.in_ok-node-in-Local.ensures.pushed refl)

pub set-returns-in_ok-node-in-Global-clause-adds : goal.set-returns-in_ok-node-in-Global-clause-adds
set-returns-in_ok-node-in-Global-clause-adds t c g width le stands =
    global_added _ g _ _ _ _ _ _ c.args.next _ _ _ c.in-Global.is (omega (arith, le, c.in_ok-node-in-Global.ensures.wide)) (stands _ _ c.in_ok-node-in-Global.ensures.pushed refl)

pub set-returns-in_ok-start-in-Negate-clause-adds : goal.set-returns-in_ok-start-in-Negate-clause-adds
set-returns-in_ok-start-in-Negate-clause-adds t c g width le stands =
    negate_added _ g _ _ _ _ _ _ _ c.args.next _ _ _ c.home-from.result _ c.home-from.ensures (c.in-Negate.is ∙ ap e.Negate (sym c.get-operand.ensures))
    (omega (arith, le, c.in_ok-node-in-Negate.ensures.wide, c.in_ok-start-in-Negate.ensures.grows.registers))
    (c.in_ok-start-in-Negate.ensures.adds g width le stands)
    (c.in_ok-start-in-Negate.ensures.grows.stands g stands _ _ c.in_ok-node-in-Negate.ensures.pushed refl)

pub set-returns-in_ok-start-in-Not-clause-adds : goal.set-returns-in_ok-start-in-Not-clause-adds
set-returns-in_ok-start-in-Not-clause-adds t c g width le stands =
    not_added _ g _ _ _ _ _ _ _ c.args.next _ _ _ c.home-from-in-Not.result _ c.home-from-in-Not.ensures (c.in-Not.is ∙ ap e.Not (sym c.get-operand-in-Not.ensures))
    (omega (arith, le, c.in_ok-node-in-Not.ensures.wide, c.in_ok-start-in-Not.ensures.grows.registers))
    (c.in_ok-start-in-Not.ensures.adds g width le stands)
    (c.in_ok-start-in-Not.ensures.grows.stands g stands _ _ c.in_ok-node-in-Not.ensures.pushed refl)

pub set-returns-in_ok-start-in-Binary-clause-adds : goal.set-returns-in_ok-start-in-Binary-clause-adds
set-returns-in_ok-start-in-Binary-clause-adds t c g width le stands =
    let in_middle = c.in_ok-start-in-Binary.ensures.grows.stands g stands in
    let first_is : c.args.e.now ≡ e.Binary c.in-Binary.op c.get-first.result.now c.get-second.result.now =
    c.in-Binary.is ∙ (ap (λ a. e.Binary c.in-Binary.op a c.in-Binary.b) (sym c.get-first.ensures) ∙ ap (λ b. e.Binary c.in-Binary.op c.get-first.result.now b) (sym c.get-second.ensures)) in
    binary_added _ g _ _ _ _ c.in_ok-middle-in-Binary.middle.0 _ _ _ _ c.args.next _ c.get-first.result.now c.get-second.result.now _ _ c.home-left.result c.home-right.result c.home-left.ensures c.home-right.ensures
    first_is
    c.requires.locals (first_within _ c.args.e.now _ _ _ first_is c.requires.among)
    (omega (arith, le, c.in_ok-node-in-Binary.ensures.wide, c.in_ok-middle-in-Binary.ensures.grows.registers, c.in_ok-start-in-Binary.ensures.grows.registers))
    c.in_ok-start-in-Binary.ensures.site
    (c.in_ok-start-in-Binary.ensures.adds g width le stands)
    (c.in_ok-middle-in-Binary.ensures.adds g width (omega (arith, le, c.in_ok-start-in-Binary.ensures.grows.registers)) in_middle)
    (c.in_ok-middle-in-Binary.ensures.grows.stands g in_middle _ _ c.in_ok-node-in-Binary.ensures.pushed refl)

pub set-returns-in_ok-start-in-Load-clause-adds : goal.set-returns-in_ok-start-in-Load-clause-adds
set-returns-in_ok-start-in-Load-clause-adds t c g width le stands =
    load_added _ g _ _ _ _ _ _ _ _ c.args.next _ _ _ _ c.base_home-base.result c.index_home-index.result c.take_access-site.result c.in-Load.is
    (omega (arith, le, c.in_ok-node-in-Load.ensures.wide, c.in_ok-start-in-Load.ensures.grows.registers))
    c.base_home-base.ensures c.index_home-index.ensures (sym c.in_ok-node-in-Load.ensures.site ∙ c.in_ok-start-in-Load.ensures.site) c.take_access-site.ensures.site
    (c.in_ok-start-in-Load.ensures.adds g width le stands)
    (c.in_ok-start-in-Load.ensures.grows.stands g stands _ _ c.in_ok-node-in-Load.ensures.pushed refl)

pub aim-returns-in_ok-start-in-None-clause-adds : goal.aim-returns-in_ok-start-in-None-clause-adds
aim-returns-in_ok-start-in-None-clause-adds t c g width le stands =
    plain_aimed _ g _ _ _ _ _ _ _ _ c.in-None.is c.get-base.ensures (c.in_ok-start-in-None.ensures.adds g width le stands)

pub decide-returns-in_ok-start-in-And-clause-adds : goal.decide-returns-in_ok-start-in-And-clause-adds
decide-returns-in_ok-start-in-And-clause-adds t c g width le stands =
    both_and_added _ g _ _ _ _ _ _ _ _ _ _ c.get-first.result.now c.get-second.result.now c.requires.locals
    (c.in-And.is ∙ (ap (λ a. e.And a c.in-And.b) (sym c.get-first.ensures) ∙ ap (λ b. e.And c.get-first.result.now b) (sym c.get-second.ensures)))
    c.in_ok-start-in-And.ensures.site (c.in_ok-start-in-And.ensures.adds g width le stands)
    (c.in_ok-middle-in-And.ensures.adds g width (omega (arith, le, c.in_ok-start-in-And.ensures.grows.registers)) (c.in_ok-start-in-And.ensures.grows.stands g stands))

pub decide-returns-in_ok-start-in_default-clause-adds : goal.decide-returns-in_ok-start-in_default-clause-adds
decide-returns-in_ok-start-in_default-clause-adds t c g width le stands =
    branch_added _ g _ _ _ _ _ _ c.args.one c.args.other _ _ c.home-value.result c.home-value.ensures (c.in_ok-start-in_default.ensures.adds g width le stands)
    (c.in_ok-start-in_default.ensures.grows.stands g stands _ _ c.in_ok-node-in_default.ensures.pushed refl)

pub decide-returns-in_ok-start-in-Or-clause-adds : goal.decide-returns-in_ok-start-in-Or-clause-adds
decide-returns-in_ok-start-in-Or-clause-adds t c g width le stands =
    both_or_added _ g _ _ _ _ _ _ _ _ _ _ c.get-first-in-Or.result.now c.get-second-in-Or.result.now c.requires.locals
    (c.in-Or.is ∙ (ap (λ a. e.Or a c.in-Or.b) (sym c.get-first-in-Or.ensures) ∙ ap (λ b. e.Or c.get-first-in-Or.result.now b) (sym c.get-second-in-Or.ensures)))
    c.in_ok-start-in-Or.ensures.site (c.in_ok-start-in-Or.ensures.adds g width le stands)
    (c.in_ok-middle-in-Or.ensures.adds g width (omega (arith, le, c.in_ok-start-in-Or.ensures.grows.registers)) (c.in_ok-start-in-Or.ensures.grows.stands g stands))

pub set-returns-in_ok-start-in-AddressOf-clause-adds : goal.set-returns-in_ok-start-in-AddressOf-clause-adds
set-returns-in_ok-start-in-AddressOf-clause-adds t c g width le stands =
    address_added _ g _ _ _ _ _ _ _ c.args.next _ _ _ c.base_home-base-in-AddressOf.result c.index_home-index-in-AddressOf.result c.in-AddressOf.is
    (omega (arith, le, c.in_ok-node-in-AddressOf.ensures.wide, c.in_ok-start-in-AddressOf.ensures.grows.registers))
    c.base_home-base-in-AddressOf.ensures c.index_home-index-in-AddressOf.ensures
    (c.in_ok-start-in-AddressOf.ensures.adds g width le stands)
    (c.in_ok-start-in-AddressOf.ensures.grows.stands g stands _ _ c.in_ok-node-in-AddressOf.ensures.pushed refl)

pub aim-returns-in_ok-start-in-Some-clause-adds : goal.aim-returns-in_ok-start-in-Some-clause-adds
aim-returns-in_ok-start-in-Some-clause-adds t c g width le stands =
    indexed_aimed _ g _ _ _ _ c.in_ok-middle-in-Some.middle.0 _ _ _ _ c.args.p.now c.get-base-in-Some.result.now _ c.get-index.result.now c.requires.locals c.in-Some.is c.get-base-in-Some.ensures c.get-index.ensures
    (base_within _ c.args.p.now c.requires.among)
    c.in_ok-start-in-Some.ensures.site (c.in_ok-start-in-Some.ensures.adds g width le stands)
    (c.in_ok-middle-in-Some.ensures.adds g width (omega (arith, le, c.in_ok-start-in-Some.ensures.grows.registers)) (c.in_ok-start-in-Some.ensures.grows.stands g stands))

pub set-returns-in_ok-start-in-And-clause-adds : goal.set-returns-in_ok-start-in-And-clause-adds
set-returns-in_ok-start-in-And-clause-adds t c g width le stands =
    let by_middle = c.in_ok-start-in-And.ensures.grows.stands g stands in
    let by_other = c.in_ok-right-in-And.ensures.grows.stands g by_middle in
    let by_one = c.in_ok-other-in-And.ensures.grows.stands g by_other in
    let is : c.args.e.now ≡ e.And c.get-first-in-And.result.now c.get-second-in-And.result.now =
    c.in-And.is ∙ (ap (λ a. e.And a c.in-And.b) (sym c.get-first-in-And.ensures) ∙ ap (λ b. e.And c.get-first-in-And.result.now b) (sym c.get-second-in-And.ensures)) in
    and_added _ g _ _ _ _ _ _ _ _ c.args.next _ _ _ _ _ is
    (omega (arith, le, c.in_ok-one-in-And.ensures.wide, c.in_ok-other-in-And.ensures.grows.registers, c.in_ok-right-in-And.ensures.grows.registers, c.in_ok-start-in-And.ensures.grows.registers))
    (both_and_added _ g _ _ _ _ _ _ _ _ _ _ c.get-first-in-And.result.now c.get-second-in-And.result.now c.requires.locals is
    c.in_ok-start-in-And.ensures.site (c.in_ok-start-in-And.ensures.adds g width le stands)
    (c.in_ok-right-in-And.ensures.adds g width (omega (arith, le, c.in_ok-start-in-And.ensures.grows.registers)) by_middle))
    (by_one _ _ c.in_ok-one-in-And.ensures.pushed refl) (by_other _ _ c.in_ok-other-in-And.ensures.pushed refl)

pub set-returns-in_ok-start-in-And-clause-grows : goal.set-returns-in_ok-start-in-And-clause-grows
set-returns-in_ok-start-in-And-clause-grows t c =
    grows_on _ _ _ _ c.in_ok-one-in-And.ensures.grows (grows_on _ _ _ _ c.in_ok-other-in-And.ensures.grows (grows_on _ _ _ _ c.in_ok-right-in-And.ensures.grows c.in_ok-start-in-And.ensures.grows))

pub set-returns-in_ok-start-in-Or-clause-adds : goal.set-returns-in_ok-start-in-Or-clause-adds
set-returns-in_ok-start-in-Or-clause-adds t c g width le stands =
    let by_middle = c.in_ok-start-in-Or.ensures.grows.stands g stands in
    let by_other = c.in_ok-middle-in-Or.ensures.grows.stands g by_middle in
    let by_one = c.in_ok-other-in-Or.ensures.grows.stands g by_other in
    let is : c.args.e.now ≡ e.Or c.get-first-in-Or.result.now c.get-second-in-Or.result.now =
    c.in-Or.is ∙ (ap (λ a. e.Or a c.in-Or.b) (sym c.get-first-in-Or.ensures) ∙ ap (λ b. e.Or c.get-first-in-Or.result.now b) (sym c.get-second-in-Or.ensures)) in
    or_added _ g _ _ _ _ _ _ _ _ c.args.next _ _ _ _ _ is
    (omega (arith, le, c.in_ok-one-in-Or.ensures.wide, c.in_ok-other-in-Or.ensures.grows.registers, c.in_ok-middle-in-Or.ensures.grows.registers, c.in_ok-start-in-Or.ensures.grows.registers))
    (both_or_added _ g _ _ _ _ _ _ _ _ _ _ c.get-first-in-Or.result.now c.get-second-in-Or.result.now c.requires.locals is
    c.in_ok-start-in-Or.ensures.site (c.in_ok-start-in-Or.ensures.adds g width le stands)
    (c.in_ok-middle-in-Or.ensures.adds g width (omega (arith, le, c.in_ok-start-in-Or.ensures.grows.registers)) by_middle))
    (by_one _ _ c.in_ok-one-in-Or.ensures.pushed refl) (by_other _ _ c.in_ok-other-in-Or.ensures.pushed refl)

pub set-returns-in_ok-start-in-Or-clause-grows : goal.set-returns-in_ok-start-in-Or-clause-grows
set-returns-in_ok-start-in-Or-clause-grows t c =
    grows_on _ _ _ _ c.in_ok-one-in-Or.ensures.grows (grows_on _ _ _ _ c.in_ok-other-in-Or.ensures.grows (grows_on _ _ _ _ c.in_ok-middle-in-Or.ensures.grows c.in_ok-start-in-Or.ensures.grows))

pub set-returns-in_ok-start-in-AddressOf-clause-grows : goal.set-returns-in_ok-start-in-AddressOf-clause-grows
set-returns-in_ok-start-in-AddressOf-clause-grows t c = grows_on _ _ _ _ c.in_ok-node-in-AddressOf.ensures.grows c.in_ok-start-in-AddressOf.ensures.grows

pub set-returns-in_ok-start-in-Negate-clause-grows : goal.set-returns-in_ok-start-in-Negate-clause-grows
set-returns-in_ok-start-in-Negate-clause-grows t c = grows_on _ _ _ _ c.in_ok-node-in-Negate.ensures.grows c.in_ok-start-in-Negate.ensures.grows

pub set-returns-in_ok-start-in-Not-clause-grows : goal.set-returns-in_ok-start-in-Not-clause-grows
set-returns-in_ok-start-in-Not-clause-grows t c = grows_on _ _ _ _ c.in_ok-node-in-Not.ensures.grows c.in_ok-start-in-Not.ensures.grows

pub set-returns-in_ok-start-in-Binary-clause-grows : goal.set-returns-in_ok-start-in-Binary-clause-grows
set-returns-in_ok-start-in-Binary-clause-grows t c = grows_on _ _ _ _ c.in_ok-node-in-Binary.ensures.grows (grows_on _ _ _ _ c.in_ok-middle-in-Binary.ensures.grows c.in_ok-start-in-Binary.ensures.grows)

pub aim-returns-in_ok-start-in-Some-clause-sites : goal.aim-returns-in_ok-start-in-Some-clause-sites
aim-returns-in_ok-start-in-Some-clause-sites t c = sites_on _ _ _ _ _ c.in_ok-start-in-Some.ensures.grows refl c.in_ok-middle-in-Some.ensures.sites c.in_ok-start-in-Some.ensures.sites

pub decide-returns-in_ok-start-in-And-clause-sites : goal.decide-returns-in_ok-start-in-And-clause-sites
decide-returns-in_ok-start-in-And-clause-sites t c = sites_on _ _ _ _ _ c.in_ok-start-in-And.ensures.grows refl c.in_ok-middle-in-And.ensures.sites c.in_ok-start-in-And.ensures.sites

pub set-returns-in_ok-start-in-And-clause-sites : goal.set-returns-in_ok-start-in-And-clause-sites
set-returns-in_ok-start-in-And-clause-sites t c = sites_on _ _ _ _ _ c.in_ok-start-in-And.ensures.grows (c.in_ok-other-in-And.ensures.site ∙ c.in_ok-one-in-And.ensures.site) c.in_ok-right-in-And.ensures.sites c.in_ok-start-in-And.ensures.sites

pub decide-returns-in_ok-start-in-Or-clause-sites : goal.decide-returns-in_ok-start-in-Or-clause-sites
decide-returns-in_ok-start-in-Or-clause-sites t c = sites_on _ _ _ _ _ c.in_ok-start-in-Or.ensures.grows refl c.in_ok-middle-in-Or.ensures.sites c.in_ok-start-in-Or.ensures.sites

pub set-returns-in_ok-start-in-Or-clause-sites : goal.set-returns-in_ok-start-in-Or-clause-sites
set-returns-in_ok-start-in-Or-clause-sites t c = sites_on _ _ _ _ _ c.in_ok-start-in-Or.ensures.grows (c.in_ok-other-in-Or.ensures.site ∙ c.in_ok-one-in-Or.ensures.site) c.in_ok-middle-in-Or.ensures.sites c.in_ok-start-in-Or.ensures.sites

pub set-returns-in_ok-start-in-Binary-clause-sites : goal.set-returns-in_ok-start-in-Binary-clause-sites
set-returns-in_ok-start-in-Binary-clause-sites t c = sites_on _ _ _ _ _ c.in_ok-start-in-Binary.ensures.grows c.in_ok-node-in-Binary.ensures.site c.in_ok-middle-in-Binary.ensures.sites c.in_ok-start-in-Binary.ensures.sites

pub set-returns-in_ok-start-in-Load-clause-sites : goal.set-returns-in_ok-start-in-Load-clause-sites
set-returns-in_ok-start-in-Load-clause-sites t c = access_on _ _ _ _ _ _ _ _ _ _ _ c.in_ok-start-in-Load.ensures.grows c.in_ok-node-in-Load.ensures.pushed refl c.take_access-site.ensures.site (sym c.in_ok-node-in-Load.ensures.site) c.take_access-site.ensures.number refl c.in_ok-start-in-Load.ensures.sites

pub decide-returns-in_ok-start-in_default-clause-grows : goal.decide-returns-in_ok-start-in_default-clause-grows
decide-returns-in_ok-start-in_default-clause-grows t c = grows_on _ _ _ _ c.in_ok-node-in_default.ensures.grows c.in_ok-start-in_default.ensures.grows

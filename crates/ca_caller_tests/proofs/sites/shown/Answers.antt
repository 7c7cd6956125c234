use Rattle.std.proofs.Common.{◌≡◌, length, arith}
use Rattle.ca_model.specs.Accesses.{all_sites}
use Rattle.ca_prune.proofs.Answering.{before_is_item}
use Rattle.ca_caller_tests.proofs.NumberedSites.{site_there}
use Rattle.ca_caller_tests.proofs.sites.shown.Goals as goal

pub points_of-requires-clause-site : goal.points_of-requires-clause-site
points_of-requires-clause-site c =
    let count : c.sites-sites.result ≡ length (all_sites c.in-Some.code.source) = c.sites-sites.ensures in
    site_there c.in-Some.code.source c.args.site (omega (arith, c.if-site-eq0.false)) (omega (arith, c.if-site-sites.false, count))

pub is_hopeless-requires-clause-site : goal.is_hopeless-requires-clause-site
is_hopeless-requires-clause-site c =
    let count : c.sites-sites.result ≡ length (all_sites c.in-Some.code.source) = c.sites-sites.ensures in
    site_there c.in-Some.code.source c.args.site (omega (arith, c.if-site-eq0.false)) (omega (arith, c.if-site-sites.false, count))

pub is_hopeless-requires-clause-items : goal.is_hopeless-requires-clause-items
is_hopeless-requires-clause-items c = λ i fits listed.
    let count : c.sites-sites.result ≡ length (all_sites c.in-Some.code.source) = c.sites-sites.ensures in
    let s = site_there c.in-Some.code.source c.args.site (omega (arith, c.if-site-eq0.false)) (omega (arith, c.if-site-sites.false, count)) in
    let j = (c.in-Ok.ensures.items s.0 s.1 i fits).0 listed in (j.0, (before_is_item c.in-Some.code.source c.args.depth s.0.item j.0 j.2, j.1))

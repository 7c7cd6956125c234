use Rattle.std.proofs.Common.{◌≡◌}
use Rattle.ca_plan.specs.Planning.{named}
use Rattle.ca_plan.proofs.Naming.{first_read, all_read}
use Rattle.ca_plan.proofs.table.site_table.Goals as goal

pub returns-in-Some-clause-no_such_site : goal.returns-in-Some-clause-no_such_site
returns-in-Some-clause-no_such_site c = λ n e.
    let same : c.in-Some.number ≡ n = cc in
    first_read c.args.checked.now.typed c.in_ok-code.code.source (named c.args.options.now.only) c.named.result.now n c.in-Some.number c.in_ok-code.ensures.source c.named.ensures same c.in-Some.ensures

pub returns-clause-all_sites : goal.returns-clause-all_sites
returns-clause-all_sites c = all_read c.args.checked.now.typed c.in_ok-code.code.source (named c.args.options.now.only) c.named.result.now c.in_ok-code.ensures.source c.named.ensures c.in_default.ensures

use Rattle.std.proofs.Common.{sym, ◌∙◌}
use Rattle.ca_shared.proofs.Openings.{opened_so}
use Rattle.ca_shared.proofs.shared.Shared.opened_as.Goals as goal

pub returns-then-count-mutexes : goal.returns-then-count-mutexes
returns-then-count-mutexes c =
    opened_so c.args.self.now c.self.inside.trace.items c.as_slice.result.now c.self.inside.globals.items c.args.globals.now c.self.inside.owners.count c.args.mutexes c.eq.result c.self.view_is c.as_slice.ensures.value
    (sym c.count.ensures ∙ c.if-count-mutexes.true) c.eq.ensures

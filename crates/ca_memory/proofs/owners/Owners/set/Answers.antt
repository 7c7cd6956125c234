use Rattle.std.proofs.Common.{◌<◌, ◌∙◌, sym, ap, subst}
use Rattle.std.specs.Prelude.{nat_lt}
use Rattle.std.specs.FinMap as map
use Rattle.std.proofs.lemmas.Bool.{cond-true, lt-ltb}
use Rattle.ca_memory.specs.Mutexes.{Mutexes}
use Rattle.ca_memory.proofs.OwnerTables.{took}
use Rattle.ca_memory.proofs.owners.Owners.set.Goals as goal

pub returns-then-m-count : goal.returns-then-m-count
returns-then-m-count c =
    let below : c.args.m.0 < c.args.self.now.count = subst (λ n. c.args.m.0 < n) c.count.ensures c.if-m-count.true in
    let within = subst (λ (v : Mutexes). c.args.m.0 < v.count) (sym c.self.view_is) below in
    took c.self.inside.owners.items c.args.m.0 c.args.t within
    ∙ (ap (λ (v : Mutexes). record { count = v.count; owners = map.insert v.owners c.args.m.0 c.args.t }) c.self.view_is
    ∙ sym (cond-true (nat_lt c.args.m.0 c.args.self.now.count) (record { count = c.args.self.now.count; owners = map.insert c.args.self.now.owners c.args.m.0 c.args.t }) c.args.self.now (lt-ltb c.args.m.0 c.args.self.now.count below)))

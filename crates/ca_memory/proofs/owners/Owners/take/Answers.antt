use Rattle.std.proofs.Common.{◌≡◌, ◌<◌, Some, None, refl, sym, ap, subst, ◌∙◌}
use Rattle.std.specs.FinMap as map
use Rattle.ca_memory.specs.Mutexes.{Mutexes}
use Rattle.ca_memory.proofs.OwnerTables.{read, took}
use Rattle.ca_memory.proofs.owners.Owners.take.Goals as goal

pub returns-in-Some-clause-err : goal.returns-in-Some-clause-err
returns-in-Some-clause-err c = (subst (λ (v : Mutexes). map.get v.owners c.args.m.0 ≡ Some c.in-Some.by) c.self.view_is (read c.self.inside.owners.items c.args.m.0 c.index.result.now (subst (λ (v : Mutexes). c.args.m.0 < v.count) (sym c.self.view_is) c.requires) c.index.ensures ∙ c.in-Some.is), refl)

pub returns-in-None-clause-ok : goal.returns-in-None-clause-ok
returns-in-None-clause-ok c =
    let lt = subst (λ (v : Mutexes). c.args.m.0 < v.count) (sym c.self.view_is) c.requires in (
      subst (λ (v : Mutexes). map.get v.owners c.args.m.0 ≡ None) c.self.view_is (read c.self.inside.owners.items c.args.m.0 c.index.result.now lt c.index.ensures ∙ c.in-None.is),
      took c.self.inside.owners.items c.args.m.0 c.args.t lt ∙ ap (λ (v : Mutexes). record { count = v.count; owners = map.insert v.owners c.args.m.0 c.args.t }) c.self.view_is,
    )

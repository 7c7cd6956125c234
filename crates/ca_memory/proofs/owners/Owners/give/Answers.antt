use Rattle.std.proofs.Common.{◌≡◌, ◌<◌, Some, refl, sym, ap, subst, ◌∙◌}
use Rattle.std.specs.FinMap as map
use Rattle.ca_memory.specs.Mutexes.{Mutexes}
use Rattle.ca_memory.proofs.OwnerTables.{read, gave, other_owner, same_owner}
use Rattle.ca_memory.proofs.owners.Owners.give.Goals as goal

pub returns-then-ne-clause-err : goal.returns-then-ne-clause-err
returns-then-ne-clause-err c = (subst (λ (v : Mutexes). map.get v.owners c.args.m.0 ≡ c.index.result.now) c.self.view_is (read c.self.inside.owners.items c.args.m.0 c.index.result.now (subst (λ (v : Mutexes). c.args.m.0 < v.count) (sym c.self.view_is) c.requires) c.index.ensures), other_owner c.index.result.now c.args.t c.if-ne.ensures, refl)

pub returns-clause-ok : goal.returns-clause-ok
returns-clause-ok c =
    let lt = subst (λ (v : Mutexes). c.args.m.0 < v.count) (sym c.self.view_is) c.requires in (
      subst (λ (v : Mutexes). map.get v.owners c.args.m.0 ≡ Some c.args.t) c.self.view_is (read c.self.inside.owners.items c.args.m.0 c.index.result.now lt c.index.ensures ∙ same_owner c.index.result.now c.args.t c.if-ne.ensures),
      gave c.self.inside.owners.items c.args.m.0 lt ∙ ap (λ (v : Mutexes). record { count = v.count; owners = map.remove v.owners c.args.m.0 }) c.self.view_is,
    )

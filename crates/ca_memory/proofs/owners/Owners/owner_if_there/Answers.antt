use Rattle.std.proofs.Common.{◌≤◌, ◌<◌, ℕ, List, Option, length, ◌∙◌, sym, ap, subst, get_or}
use Rattle.std.specs.FinMap as map
use Rattle.std.proofs.lemmas.Option.{slice_get_past}
use Rattle.ca_memory.specs.Mutexes.{Mutexes}
use Rattle.ca_memory.proofs.OwnerTables.{read, owner_at, owner_here}
use Rattle.ca_memory.proofs.owners.Owners.owner_if_there.Goals as goal

pub returns-in-Some : goal.returns-in-Some
returns-in-Some c =
    let l = c.in-Some.ensures.lookup in
    let lt = subst (λ (xs : List (Option ℕ)). c.args.m.0 < length xs) c.deref.ensures.value l.3.0 in
    let is = l.1 ∙ ap (λ (xs : List (Option ℕ)). get_or xs c.args.m.0 c.in-Some.owner.now) c.deref.ensures.value in
    sym (read c.self.inside.owners.items c.args.m.0 c.in-Some.owner.now lt is) ∙ ap (λ (v : Mutexes). map.get v.owners c.args.m.0) c.self.view_is

pub returns-in-None : goal.returns-in-None
returns-in-None c =
    let l = c.in-None.ensures.lookup in
    let le = subst (λ (xs : List (Option ℕ)). length xs ≤ c.args.m.0) c.deref.ensures.value l.3 in
    ap owner_at (sym (slice_get_past c.self.inside.owners.items c.args.m.0 le)) ∙ (sym (owner_here c.self.inside.owners.items c.args.m.0) ∙ ap (λ (v : Mutexes). map.get v.owners c.args.m.0) c.self.view_is)

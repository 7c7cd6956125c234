-- What items do, as a plan asks for it: whether they read what is shared or allocate, at all and before each of their sites.
use Rattle.std.specs.Prelude.{Bool, ◌||◌, List, [], ◌∷◌, ◌++◌, map}
use Rattle.std.specs.List.{list_any}
use Rattle.ca_model.specs.declared.tree.Act.{Act}
use Rattle.ca_model.specs.declared.tree.Item.{Item}
use Rattle.ca_model.specs.Accesses.{Access, At_site, Site, act_accesses}
use Rattle.ca_model.specs.Hopeless.{can_change}
use Rattle.ca_model.specs.Destroying.{is_lock, has_malloc}
use Rattle.ca_flow.specs.declared.changes.ItemKind.{ItemKind}

-- some access of a list is a shared read or a `malloc`
abbrev pub any_changes : List Access → Bool
any_changes = list_any can_change

abbrev pub kind_of_act : Act → ItemKind
kind_of_act a = record { is_lock = is_lock a; has_malloc = has_malloc a; can_change = any_changes (act_accesses a) }

abbrev pub kinds_of : List Item → List ItemKind
kinds_of = map (λ (i : Item). kind_of_act i.act)

-- for each of some sites, whether something earlier in its item is one
abbrev pub changes_before : List Site → List Bool
changes_before = map (λ (s : Site). any_changes s.earlier)

-- ---- access by access

-- the answers for the sites so far, and whether something in the item was one so far
pub record Seen : Type 0 where
  pub before : List Bool
  pub changed : Bool

abbrev pub seen : List Bool → Bool → Seen
seen before changed = record { before = before; changed = changed }

abbrev pub see_one : Seen → Access → Seen
see_one s (At_site k) = seen (s.before ++ s.changed ∷ []) (can_change (At_site k) || s.changed)
see_one s a = seen s.before (can_change a || s.changed)

abbrev pub see : Seen → List Access → Seen
see s [] = s
see s (a ∷ more) = see (see_one s a) more

-- The sites of a typed tree are those of its text.
use Rattle.std.specs.Prelude.{◌≡◌, List, map, Some}
use Rattle.ca_tree.specs.declared.text.Pos.{Pos}
use Rattle.ca_tree.specs.declared.tree.Exp.{Exp}
use Rattle.ca_model.specs.declared.tree.Place.{Place}
use Rattle.ca_model.specs.declared.tree.Target.TheVariants as target
use Rattle.ca_model.specs.declared.types.ObjectType.{ObjectType}
use Rattle.ca_model.specs.Accesses.{Kind, A_load, kinds, accesses, accesses_to, all_sites}
use Rattle.ca_model.specs.typing.Values.{Typed_value, also, value_of}
use Rattle.ca_model.specs.typing.Targets.{target_of}
use Rattle.ca_model.specs.typing.Scopes.{Scope}
use Rattle.ca_model.specs.typing.Expressions.{judged}
use Rattle.ca_model.specs.typing.Sources.{Source, IsChecked}
use Rattle.ca_sites.specs.SiteLists.{in_tree, in_text}
use Rattle.ca_sites.specs.TextSites.{sought, value_places, text_sites}

-- a load for each place
abbrev pub all_loads : List Pos → List Kind
all_loads ps = map (λ p. A_load) ps

-- a value has as many sites as its text has places, and each is a load
abbrev pub ValuesHavePlaces : Type 0
ValuesHavePlaces = (s : Scope) (x : Exp) (v : Typed_value) → also (judged s x).is value_of ≡ Some v → kinds (accesses v.1) ≡ all_loads (value_places x)

-- of what is assigned to: the loads to find it, and whether the access itself is a site
abbrev pub TargetsHavePlaces : Type 0
TargetsHavePlaces = (s : Scope) (x : Exp) (t : ObjectType) (p : Place) → also (judged s x).is target_of ≡ Some (t, target.Place p)
    → (kinds (accesses_to p).1 ≡ all_loads (sought x).within) × ((accesses_to p).0 ≡ (sought x).through)

-- the sites of the typed tree, in order, are the sites in the text, each of the item and the kind that it has there
abbrev pub TextShowsSites : Type 0
TextShowsSites = (x : Source) → IsChecked x → map in_tree (all_sites x.typed) ≡ map in_text (text_sites x.program)

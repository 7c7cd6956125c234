-- Tables that are kept beside graphs and code.
use Rattle.std.specs.Prelude.{◌≡◌, ◌<◌, ◌+◌, ◌==◌, ℕ, Bool, true, false, List, [], ◌∷◌, ◌++◌, map, length, get_or, slice_set, slice_get, replicate, Some, if◌then◌else◌}
use Rattle.std.specs.Global.{Vec}
use Rattle.ca_tree.specs.declared.numbers.FunId.{FunId}
use Rattle.ca_tree.specs.declared.numbers.ItemId.{ItemId}
use Rattle.ca_model.specs.declared.tree.Act.{Act}
use Rattle.ca_model.specs.declared.tree.Act.TheVariants as act
use Rattle.ca_model.specs.declared.tree.Item.{Item}
use Rattle.ca_model.specs.declared.tree.Function.{Function}
use Rattle.ca_model.specs.declared.tree.GlobalStart.{GlobalStart}
use Rattle.ca_model.specs.Accesses.{sites_after, act_accesses, all_sites}
use Rattle.ca_model.specs.Sites.{items_of}
use Rattle.ca_flow.specs.declared.instr.NodeId.{NodeId}
use Rattle.ca_flow.specs.declared.instr.Step.{Step}
use Rattle.ca_flow.specs.declared.changes.ItemKind.{ItemKind}
use Rattle.ca_flow.specs.Changes.{kind_of_act, changes_before}
use Rattle.ca_flow.specs.Graphs.{targets}
use Rattle.ca_flow.specs.Lowerings.{Lowering, StandsAt}

abbrev pub rows_of : {A : Type 0} → List (Vec A) → List (List A)
rows_of = map (λ v. v.items)

abbrev pub row : {A : Type 0} → List (List A) → ℕ → List A
row rows n = get_or rows n []

-- one thing more at the end of a row, if it is there
abbrev pub longer : {A : Type 0} → List (List A) → ℕ → A → List (List A)
longer rows n x = slice_set rows n (row rows n ++ x ∷ [])

-- ---- nodes

-- a node as often as some links lead to node n
abbrev pub as_often : NodeId → ℕ → List NodeId → List NodeId
as_often m n [] = []
as_often m n (t ∷ ts) = if t.0 == n then m ∷ as_often m n ts else as_often m n ts

-- the nodes, from number m on, from which links lead to node n
abbrev pub predecessors_from : ℕ → ℕ → List Step → List NodeId
predecessors_from m n [] = []
predecessors_from m n (s ∷ ss) = as_often (record { 0 = m }) n (targets s.links) ++ predecessors_from (m + 1) n ss

-- what a graph keeps beside its steps
pub record HasNeighbours (steps : List Step) (after before : List (List NodeId)) : Type 0 where
  pub few : length steps < 4294967296
  pub count : length before ≡ length steps
  pub after_is : after ≡ map (λ (s : Step). targets s.links) steps
  pub before_is : (n : ℕ) → n < length steps → row before n ≡ predecessors_from 0 n steps

-- ---- items

-- the function and the kind of each item so far, and for each of their sites whether something earlier in its item can change; for each function the
-- items that call it, and whether a thread is made of it
pub record Uses : Type 0 where
  pub functions : List FunId
  pub kinds : List ItemKind
  pub changes : List Bool
  pub calls : List (List ItemId)
  pub created : List Bool

abbrev pub uses : List FunId → List ItemKind → List Bool → List (List ItemId) → List Bool → Uses
uses functions kinds changes calls created = record { functions = functions; kinds = kinds; changes = changes; calls = calls; created = created }

abbrev pub with_calls : Act → ItemId → List (List ItemId) → List (List ItemId)
with_calls (act.Call x f es) i calls = longer calls f.0 i
with_calls _ i calls = calls

abbrev pub with_created : Act → List Bool → List Bool
with_created (act.Create x f e) created = slice_set created f.0 true
with_created _ created = created

-- with an item of a function
abbrev pub with_item : FunId → Uses → Item → Uses
with_item f u i = record {
  functions = u.functions ++ f ∷ [];
  kinds = u.kinds ++ kind_of_act i.act ∷ [];
  changes = u.changes ++ changes_before (sites_after i [] (act_accesses i.act));
  calls = with_calls i.act i.id u.calls;
  created = with_created i.act u.created;
}

abbrev pub with_items : FunId → Uses → List Item → Uses
with_items f u [] = u
with_items f u (i ∷ is) = with_items f (with_item f u i) is

abbrev pub with_functions : Uses → List Function → Uses
with_functions u [] = u
with_functions u (f ∷ fs) = with_functions (with_items f.id u (items_of f)) fs

-- the uses in a whole source
abbrev pub uses_of : List Function → Uses
uses_of fs = with_functions (uses [] [] [] (replicate (length fs) []) (replicate (length fs) false)) fs

-- ---- sites

-- each site of a source has its place
pub record ArePlaces (l : Lowering) (places : List (FunId × NodeId)) : Type 0 where
  pub count : length places ≡ length (all_sites l.source)
  pub each : (k : ℕ) (at : FunId × NodeId) → slice_get places k ≡ Some at → StandsAt l (record { 0 = k + 1 }) at.0 at.1

-- what code keeps beside its graphs
pub record HasTables (l : Lowering) (u : Uses) (places : List (FunId × NodeId)) (start : FunId) (opening : List GlobalStart) (mutexes limit : ℕ) : Type 0 where
  pub uses_are : u ≡ uses_of l.source.functions
  pub few : length places < 4294967296
  pub places_are : ArePlaces l places
  pub start_is : start ≡ l.source.main
  pub opening_is : opening ≡ l.source.globals
  pub mutexes_are : mutexes ≡ l.source.mutexes
  pub limit_is : limit ≡ l.plan.limit

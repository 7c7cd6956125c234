-- A graph in the making: what lowering adds to it.
use Rattle.std.specs.Prelude.{◌≡◌, ◌≤◌, ◌<◌, ◌+◌, ℕ, Bool, true, false, List, length, Option, Some, None, slice_get}
use Rattle.ca_tree.specs.declared.numbers.SiteId.{SiteId}
use Rattle.ca_model.specs.declared.tree.Exp.{Exp}
use Rattle.ca_model.specs.declared.tree.Place.{Place, out-Place, fold-Place}
use Rattle.ca_model.specs.declared.tree.Item.{Item}
use Rattle.ca_model.specs.Bounds.{exp_among, place_among, exp_depth, place_depth}
use Rattle.ca_model.specs.Frames.{Code}
use Rattle.ca_model.specs.Codes.{code_of}
use Rattle.ca_flow.specs.declared.instr.AtSite.{AtSite}
use Rattle.ca_flow.specs.declared.instr.Reg.{Reg}
use Rattle.ca_flow.specs.declared.instr.Instr.{Instr}
use Rattle.ca_flow.specs.declared.instr.Links.{Links}
use Rattle.ca_flow.specs.declared.instr.Links.TheVariants as links
use Rattle.ca_flow.specs.declared.instr.Step.{Step}
use Rattle.ca_flow.specs.Graphs.{link_count, AreLinks}
use Rattle.ca_flow.specs.Lowerings.{site_in, acquiring_in, IsSiteOf, IsShort, IsMarked, HasSite}
use Rattle.ca_lower.specs.declared.builder.Builder.{Builder}
use Rattle.ca_lower.specs.Scopes.{InFunction, InItem}
use Rattle.ca_lower.specs.Lowered.{is_pending, StandsIn, Finds, Sets, Decides, Aims, home}

abbrev pub code_at : InItem → Code
code_at x = code_of x.source x.plan

abbrev pub around : InItem → InFunction
around x = record { source = x.source; plan = x.plan; function = x.function }

abbrev pub code_in : InFunction → Code
code_in x = code_of x.source x.plan

-- ---- steps

-- the marks of an instruction of an item are the plan's, and its site is one of the item's
abbrev pub IsSiteMark : Code → Item → Option AtSite → Type 0
IsSiteMark code i None = Unit {0}
IsSiteMark code i (Some a) = IsSiteOf code i a.site × (a.planned ≡ code.planned a.site)

abbrev pub IsAcquiringMark : Code → Item → Option Bool → Type 0
IsAcquiringMark code i None = Unit {0}
IsAcquiringMark code i (Some b) = b ≡ code.acquires i.id

abbrev pub HasMarks : InItem → Instr → Type 0
HasMarks x i = IsSiteMark (code_at x) x.item (site_in i) × IsAcquiringMark (code_at x) x.item (acquiring_in i) × IsShort i

-- as many links as an instruction has, to nodes below n
abbrev pub LeadBelow : ℕ → Instr → Links → Type 0
LeadBelow n i links.Nowhere = (link_count i ≡ 0)
LeadBelow n i (links.One m) = (link_count i ≡ 1) × (m.0 < n)
LeadBelow n i (links.Two one other) = (link_count i ≡ 2) × (one.0 < n) × (other.0 < n)

abbrev pub AllMarked : InFunction → List Step → Type 0
AllMarked x g = (n : ℕ) (at : Step) → slice_get g n ≡ Some at → IsMarked (code_in x) x.function at.node

abbrev pub AllDrawn : List Step → Type 0
AllDrawn g = (n : ℕ) (at : Step) → slice_get g n ≡ Some at → is_pending at ≡ false → AreLinks (length g) at.node.instr n at.links

-- each step stays, no register goes away, there are no more than 256, and what is added is marked and drawn as it should be and has no open turn
pub record Grows (x : InFunction) (old new : Builder) : Type 0 where
  pub stands : (g : List Step) → StandsIn new.steps.items g → StandsIn old.steps.items g
  pub registers : old.registers ≤ new.registers
  pub narrow : old.registers ≤ 256 → new.registers ≤ 256
  pub longer : length old.steps.items ≤ length new.steps.items
  pub kept : (n : ℕ) (at : Step) → slice_get old.steps.items n ≡ Some at → slice_get new.steps.items n ≡ Some at
  pub pending : (n : ℕ) (at : Step) → slice_get new.steps.items n ≡ Some at → is_pending at ≡ true → slice_get old.steps.items n ≡ Some at
  pub marked : AllMarked x old.steps.items → AllMarked x new.steps.items
  pub drawn : AllDrawn old.steps.items → AllDrawn new.steps.items

-- each site from one number up to another has a node
pub record HasSites (g : List Step) (from to : ℕ) : Type 0 where
  pub there : (s : SiteId) → from ≤ s.0 → s.0 < to → HasSite g s

-- ---- places: whether their locals are among so many, and how deep they are

abbrev pub among_place : ℕ → Place → Bool
among_place n = fold-Place Bool Bool (exp_among n) place_among

abbrev pub depth_to : Place → ℕ
depth_to = fold-Place ℕ ℕ exp_depth place_depth

-- ---- expressions: code that is added, in whatever graph it stands in the end

abbrev pub AddsSet : InItem → Builder → (n next to free : ℕ) → Exp → Type 0
AddsSet x new n next to free e = (g : List Step) (width : ℕ) → new.registers ≤ width → StandsIn new.steps.items g → Sets (code_at x) g x.function.locals width free n next to e new.site

abbrev pub AddsFind : InItem → Builder → (n next free : ℕ) → Exp → Type 0
AddsFind x new n next free e = (g : List Step) (width : ℕ) → new.registers ≤ width → StandsIn new.steps.items g → Finds (code_at x) g x.function.locals width free n next (home e free) e new.site

abbrev pub index_home : Option (Exp × ℕ) → ℕ → Option (Reg × ℕ)
index_home None l = None
index_home (Some i) l = Some (record { 0 = home i.0 (l + 1) }, i.1)

abbrev pub AddsAim : InItem → Builder → (n next free : ℕ) → Place → Type 0
AddsAim x new n next free p =
    (g : List Step) (width : ℕ) → new.registers ≤ width → StandsIn new.steps.items g
    → Aims (code_at x) g x.function.locals width free n next (record { 0 = home (out-Place p).base free }) (index_home (out-Place p).index free) (out-Place p).field p new.site

abbrev pub AddsDecide : InItem → Builder → (n one other free : ℕ) → Exp → Type 0
AddsDecide x new n one other free e = (g : List Step) (width : ℕ) → new.registers ≤ width → StandsIn new.steps.items g → Decides (code_at x) g x.function.locals width free n one other e new.site

-- Types, calls, right sides and simple statements by their trees alone.
use Rattle.std.specs.Prelude.{◌≡◌, ◌≤◌, ℕ, Bool, true, false, nat_le, length, All, IfSome}
use Rattle.ca_tree.specs.declared.text.Pos.{Pos}
use Rattle.ca_tree.specs.declared.tree.Base.{Base}
use Rattle.ca_tree.specs.declared.tree.Base.TheVariants as base
use Rattle.ca_tree.specs.declared.tree.«Type».{«Type» as CType}
use Rattle.ca_tree.specs.declared.tree.Call.{Call}
use Rattle.ca_tree.specs.declared.tree.Malloc.{Malloc}
use Rattle.ca_tree.specs.declared.tree.Right.{Right}
use Rattle.ca_tree.specs.declared.tree.Right.TheVariants as right
use Rattle.ca_tree.specs.declared.tree.Library.{Library}
use Rattle.ca_tree.specs.declared.tree.Library.TheVariants as library
use Rattle.ca_tree.specs.declared.tree.Simple.{Simple}
use Rattle.ca_tree.specs.declared.tree.Simple.TheVariants as simple
use Rattle.ca_tree.specs.declared.counted.Counted.TheVariants as counted
use Rattle.ca_tree.specs.Counts.{most}
use Rattle.ca_tree.specs.Names.{is_library_word}
use Rattle.ca_tree.specs.TreeWords.{Words}
use Rattle.ca_tree.specs.ExpressionTrees.{IsName, IsWhole}

-- a struct as a field, a parameter, a result or a local has a star
abbrev pub has_star : Base → ℕ → Bool
has_star base.Int k = true
has_star (base.Struct n) k = nat_le 1 k

abbrev pub IsBase : Words → Base → Type 0
IsBase words base.Int = Unit {0}
IsBase words (base.Struct n) = IsName words n

abbrev pub IsType : Words → CType → Type 0
IsType words t = IsBase words t.base

-- a call of a function whose name is no call of the library
pub record IsCall (words : Words) (c : Call) : Type 0 where
  pub name : IsName words c.name
  pub of_the_source : is_library_word c.name.text ≡ false
  pub arguments : All (IsWhole words) c.arguments

pub record IsMalloc (words : Words) (m : Malloc) : Type 0 where
  pub cast : IfSome m.cast (IsType words)
  pub count : IfSome m.count (IsWhole words)
  pub of : IsType words m.of

abbrev pub IsRight : Words → Right → Type 0
IsRight words (right.Value a) = IsWhole words a
IsRight words (right.Call c) = IsCall words c
IsRight words (right.Malloc m) = IsMalloc words m

abbrev pub IsLibrary : Words → Library → Type 0
IsLibrary words (library.Lock n) = IsName words n
IsLibrary words (library.Unlock n) = IsName words n
IsLibrary words (library.Create n f a) = IsName words n × IsName words f × IsWhole words a
IsLibrary words (library.Join a) = IsWhole words a
IsLibrary words (library.Free a) = IsWhole words a
IsLibrary words (library.Assert a) = IsWhole words a
IsLibrary words (library.Print p t more) = words.IsString t × (length t ≤ most counted.StringBytes) × (length more ≤ most counted.Arguments) × All (IsWhole words) more

abbrev pub IsSimple : Words → Simple → Type 0
IsSimple words (simple.Set a r) = IsWhole words a × IsRight words r
IsSimple words (simple.Update a o b) = IsWhole words a × IsWhole words b
IsSimple words (simple.Call c) = IsCall words c
IsSimple words (simple.Library c) = IsLibrary words c

-- a call begins at its name, and what else there is at any place
abbrev pub CanBegin : Simple → Pos → Type 0
CanBegin (simple.Call c) p = p ≡ c.name.pos
CanBegin a p = Unit {0}

-- What every typed source has beside its numbers: it names its own globals alone, and these open with numbers.
use Rattle.std.specs.Prelude.{◌≡◌, ℕ, ℤ, Bool, true, ◌&&◌, nat_lt, List, [], ◌∷◌, length, Option, Some, None, Contains}
use Rattle.ca_model.specs.declared.values.Value.TheVariants as v
use Rattle.ca_model.specs.declared.tree.Exp.{Exp, fold-Exp}
use Rattle.ca_model.specs.declared.tree.Exp.TheOpen.{Exp-F, Place-F}
use Rattle.ca_model.specs.declared.tree.Place.{Place, fold-Place}
use Rattle.ca_model.specs.declared.tree.Target.{Target}
use Rattle.ca_model.specs.declared.tree.Target.TheVariants as target
use Rattle.ca_model.specs.declared.tree.Act.{Act}
use Rattle.ca_model.specs.declared.tree.Act.TheVariants as act
use Rattle.ca_model.specs.declared.tree.Item.{Item}
use Rattle.ca_model.specs.declared.tree.GlobalStart.{GlobalStart}
use Rattle.ca_model.specs.Codes.{Typed}
use Rattle.ca_model.specs.Sites.{all_items}

-- the globals that an expression names are there: they are numbered from 0
abbrev pub exp_within : ℕ → Exp-F Bool Bool → Bool
exp_within n (Exp-F.Num k) = true
exp_within n Exp-F.Null = true
exp_within n (Exp-F.Local x) = true
exp_within n (Exp-F.Global g) = nat_lt g.0 n
exp_within n (Exp-F.Load p k) = p
exp_within n (Exp-F.AddressOf p) = p
exp_within n (Exp-F.Negate a) = a
exp_within n (Exp-F.Not a) = a
exp_within n (Exp-F.Binary o a b) = a && b
exp_within n (Exp-F.And a b) = a && b
exp_within n (Exp-F.Or a b) = a && b

abbrev pub index_within : Option (Bool × ℕ) → Bool
index_within None = true
index_within (Some i) = i.0

abbrev pub place_within : Place-F Bool Bool → Bool
place_within p = p.base && index_within p.index

abbrev pub within : ℕ → Exp → Bool
within n = fold-Exp Bool Bool (exp_within n) place_within

abbrev pub within_place : ℕ → Place → Bool
within_place n = fold-Place Bool Bool (exp_within n) place_within

abbrev pub within_all : ℕ → List Exp → Bool
within_all n [] = true
within_all n (e ∷ es) = within n e && within_all n es

abbrev pub within_target : ℕ → Target → Bool
within_target n (target.Local x) = true
within_target n (target.Place p) = within_place n p

abbrev pub if_within : ℕ → Option Exp → Bool
if_within n None = true
if_within n (Some e) = within n e

-- and so of an item
abbrev pub act_within : ℕ → Act → Bool
act_within n (act.Set t e) = within_target n t && within n e
act_within n (act.Update t o e) = within_target n t && within n e
act_within n (act.Malloc t c k) = within_target n t && within n c
act_within n (act.Call x f es) = within_all n es
act_within n (act.Create x f e) = within n e
act_within n (act.Join e) = within n e
act_within n (act.Free e) = within n e
act_within n (act.Assert e) = within n e
act_within n (act.Print t es) = within_all n es
act_within n (act.Return e) = if_within n e
act_within n (act.Cond e) = within n e
act_within n _ = true

-- each global that the source names is one of its globals, and each global opens with a number
pub record KnowsItsGlobals (p : Typed) : Type 0 where
  pub names : (i : Item) → Contains (all_items p.functions) i → act_within (length p.globals) i.act ≡ true
  pub starts : (g : GlobalStart) → Contains p.globals g → (n : ℤ) × (g.first ≡ v.Num n)

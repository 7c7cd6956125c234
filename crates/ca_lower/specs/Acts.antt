-- Items: within which limits they are lowered, and what lowering adds for them.
use Rattle.std.specs.Prelude.{◌≡◌, ◌≤◌, ◌<◌, drop, ℕ, ◌+◌, Bool, true, ◌&&◌, nat_lt, nat_le, List, [], ◌∷◌, length, Option, Some, None}
use Rattle.ca_tree.specs.declared.numbers.VarId.{VarId}
use Rattle.ca_model.specs.declared.tree.Exp.{Exp}
use Rattle.ca_model.specs.declared.tree.Place.{Place}
use Rattle.ca_model.specs.declared.tree.Target.{Target}
use Rattle.ca_model.specs.declared.tree.Target.TheVariants as target
use Rattle.ca_model.specs.declared.tree.Act.{Act}
use Rattle.ca_model.specs.declared.tree.Act.TheVariants as act
use Rattle.ca_model.specs.Bounds.{among, depth}
use Rattle.ca_model.specs.Sites.{act_sites, sites_of_all}
use Rattle.ca_flow.specs.declared.instr.Step.{Step}
use Rattle.ca_lower.specs.declared.builder.Builder.{Builder}
use Rattle.ca_lower.specs.Scopes.{InItem}
use Rattle.ca_lower.specs.Lowered.{StandsIn, FindsAll, Works, Ends, Chooses}
use Rattle.ca_lower.specs.Building.{code_at, around, among_place, depth_to, Grows, HasSites}

-- ---- within limits: locals are among those of the function, expressions are no deeper than 64, and arguments no more than 16

abbrev pub is_shallow : ℕ → Exp → Bool
is_shallow low e = among low e && nat_le (depth e) 64

abbrev pub is_shallow_place : ℕ → Place → Bool
is_shallow_place low p = among_place low p && nat_le (depth_to p) 64

abbrev pub are_shallow : ℕ → List Exp → Bool
are_shallow low [] = true
are_shallow low (e ∷ es) = is_shallow low e && are_shallow low es

abbrev pub fits_target : ℕ → Target → Bool
fits_target low (target.Local x) = nat_lt x.0 low
fits_target low (target.Place p) = is_shallow_place low p

abbrev pub fits_result : ℕ → Option VarId → Bool
fits_result low None = true
fits_result low (Some x) = nat_lt x.0 low

abbrev pub fits_arguments : ℕ → List Exp → Bool
fits_arguments low es = are_shallow low es && nat_le (length es) 16

abbrev pub fits_act : ℕ → Act → Bool
fits_act low (act.Zero x) = nat_lt x.0 low
fits_act low (act.Set t e) = fits_target low t && is_shallow low e
fits_act low (act.Update t o e) = fits_target low t && is_shallow low e
fits_act low (act.Malloc t c n) = fits_target low t && is_shallow low c
fits_act low (act.Call x f es) = fits_result low x && fits_arguments low es
fits_act low (act.Lock m) = true
fits_act low (act.Unlock m) = true
fits_act low (act.Create x f e) = nat_lt x.0 low && is_shallow low e
fits_act low (act.Join e) = is_shallow low e
fits_act low (act.Free e) = is_shallow low e
fits_act low (act.Assert e) = is_shallow low e
fits_act low (act.Print t es) = are_shallow low es && (nat_le (length t) 256 && nat_le (length es) 8)
fits_act low (act.Return None) = true
fits_act low (act.Return (Some e)) = is_shallow low e
fits_act low (act.Cond e) = is_shallow low e
fits_act low act.Close = true

-- what an item sets, where it has a target
abbrev pub targets : Act → Option Target
targets (act.Set t e) = Some t
targets (act.Update t o e) = Some t
targets (act.Malloc t c n) = Some t
targets _ = None

-- ---- code that is added

abbrev pub AddsFindAll : InItem → Builder → (n next free : ℕ) → List Exp → Type 0
AddsFindAll x new n next free es = (g : List Step) (width : ℕ) → new.registers ≤ width → StandsIn new.steps.items g → FindsAll (code_at x) g x.function.locals width free n next es new.site

abbrev pub AddsWork : InItem → Builder → (n next : ℕ) → Type 0
AddsWork x new n next = (g : List Step) (width : ℕ) → new.registers ≤ width → StandsIn new.steps.items g → Works (code_at x) g x.function.locals width n next x.item

abbrev pub AddsEnd : InItem → Builder → ℕ → Type 0
AddsEnd x new n = (g : List Step) (width : ℕ) → new.registers ≤ width → StandsIn new.steps.items g → Ends (code_at x) g x.function.locals width n x.item

abbrev pub AddsChoice : InItem → Builder → (n one other : ℕ) → Type 0
AddsChoice x new n one other = (g : List Step) (width : ℕ) → new.registers ≤ width → StandsIn new.steps.items g → Chooses (code_at x) g x.function.locals width n one other x.item

-- the numbers of the sites of an item
abbrev pub first_of : InItem → ℕ
first_of x = (code_at x).first_site x.item.id

abbrev pub behind_of : InItem → ℕ
behind_of x = (code_at x).first_site x.item.id + act_sites x.item.act

-- code of the arguments from number k on, so far
pub record FindsFrom (x : InItem) (old new : Builder) (n next free k : ℕ) (es : List Exp) : Type 0 where
  pub adds : AddsFindAll x new n next (free + k) (drop k es)
  pub grows : Grows (around x) old new
  pub entry : n < length new.steps.items
  pub site : old.site ≡ new.site + sites_of_all (drop k es)
  pub sites : HasSites new.steps.items new.site old.site

-- What every typed source has: its numbers, and acts that stand where they may.
use Rattle.std.specs.Prelude.{◌≡◌, ◌<◌, ℕ, ◌+◌, Bool, true, false, not, ◌&&◌, nat_lt, List, [], ◌∷◌, map, length, Option, Some, None, slice_get, Contains}
use Rattle.ca_model.specs.declared.tree.Act.{Act}
use Rattle.ca_model.specs.declared.tree.Act.TheVariants as act
use Rattle.ca_model.specs.declared.tree.Item.{Item}
use Rattle.ca_model.specs.declared.tree.Stmt.{Stmt, fold-Stmt}
use Rattle.ca_model.specs.declared.tree.Stmt.TheOpen.{Stmt-F}
use Rattle.ca_model.specs.declared.tree.Function.{Function}
use Rattle.ca_model.specs.Codes.{Typed}
use Rattle.ca_model.specs.Sites.{all_items}
use Rattle.ca_model.specs.Destroying.{is_last}

-- an act of a statement: neither a condition nor a closing brace
abbrev pub is_simple : Act → Bool
is_simple (act.Cond e) = false
is_simple act.Close = false
is_simple _ = true

abbrev pub is_condition : Act → Bool
is_condition (act.Cond e) = true
is_condition _ = false

-- the functions and mutexes that an act names are there
abbrev pub knows : Typed → Act → Bool
knows p (act.Call x f es) = nat_lt f.0 (length p.functions)
knows p (act.Create x f e) = nat_lt f.0 (length p.functions)
knows p (act.Lock m) = nat_lt m.0 p.mutexes
knows p (act.Unlock m) = nat_lt m.0 p.mutexes
knows p _ = true

-- the initialiser and the step of a `for`
abbrev pub is_in_head : Typed → Option Item → Bool
is_in_head p None = true
is_in_head p (Some i) = is_simple i.act && (not (is_last i.act) && knows p i.act)

abbrev pub all_placed : List (Bool → Bool) → Bool → Bool
all_placed [] in_loop = true
all_placed (x ∷ xs) in_loop = x in_loop && all_placed xs in_loop

abbrev pub if_placed : Option (Bool → Bool) → Bool → Bool
if_placed None in_loop = true
if_placed (Some x) in_loop = x in_loop

-- conditions are conditions, and `break` and `continue` stand in loops (C11 6.8.6.2, 6.8.6.3)
abbrev pub placed_step : Typed → Stmt-F (Bool → Bool) → Bool → Bool
placed_step p (Stmt-F.Item i) in_loop = is_simple i.act && knows p i.act
placed_step p (Stmt-F.Block xs) in_loop = all_placed xs in_loop
placed_step p (Stmt-F.If c a b) in_loop = is_condition c.act && (a in_loop && if_placed b in_loop)
placed_step p (Stmt-F.While c a) in_loop = is_condition c.act && a true
placed_step p (Stmt-F.Do a c) in_loop = is_condition c.act && a true
placed_step p (Stmt-F.For i c s a) in_loop = is_in_head p i && (is_condition c.act && (is_in_head p s && a true))
placed_step p Stmt-F.Break in_loop = in_loop
placed_step p Stmt-F.Continue in_loop = in_loop

abbrev pub is_placed : Typed → Stmt → Bool → Bool
is_placed p = fold-Stmt (Bool → Bool) (placed_step p)

pub record IsWellFormed (p : Typed) : Type 0 where
  -- items are numbered from 1 in the order of the text, and functions from 0 in the order of their definitions
  pub items : (k : ℕ) (i : Item) → slice_get (all_items p.functions) k ≡ Some i → i.id.0 ≡ k + 1
  pub functions : (k : ℕ) (f : Function) → slice_get p.functions k ≡ Some f → f.id.0 ≡ k
  pub main : p.main.0 < length p.functions
  pub placed : (f : Function) → Contains p.functions f → all_placed (map (is_placed p) f.body) false ≡ true
  pub closed : (f : Function) → Contains p.functions f → f.close.act ≡ act.Close

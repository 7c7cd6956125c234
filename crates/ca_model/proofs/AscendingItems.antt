-- Each item asks with its sites in ascending order.
use Rattle.std.proofs.Common.{◌≡◌, ℕ, ◌+◌, Bool, true, false, List, [], ◌∷◌, Option, Some, None, refl, sym, subst, arith}
use Rattle.ca_tree.specs.declared.numbers.ItemId.{ItemId}
use Rattle.ca_tree.specs.declared.numbers.VarId.{VarId}
use Rattle.ca_model.specs.declared.values.Value.{Value}
use Rattle.ca_model.specs.declared.tree.Exp.{Exp}
use Rattle.ca_model.specs.declared.tree.Target.{Target}
use Rattle.ca_model.specs.declared.tree.Target.TheVariants as target
use Rattle.ca_model.specs.declared.tree.Act.{Act}
use Rattle.ca_model.specs.declared.tree.Act.TheVariants as act
use Rattle.ca_model.specs.Asks.{Want, Asks, ◌>>=◌, give, ask, result}
use Rattle.ca_model.specs.Eval.{part, spot, eval_all, access, site_id}
use Rattle.ca_model.specs.Items.{Aim, At_local, At_cell, aim, aim_sites, access_sites, read, write, keep_result, assert, value_or_null, act_run}
use Rattle.ca_model.specs.Sites.{sites_of_all, or_zero, act_sites}
use Rattle.ca_model.proofs.Chains.{then_then}
use Rattle.ca_model.proofs.Ascending.{Ascends, AsksWithin, ascends_then, ascends_give, ascends_result, ascends_ask, access_within, exp_ascends, place_ascends}

-- what a target is found to be
abbrev IsAimOf : Target → Aim → Type 0
IsAimOf (target.Local x) (At_local y) = Unit {0}
IsAimOf (target.Place p) (At_cell at by t) = t ≡ (spot p).through
IsAimOf _ _ = ⊥

aim_then : {B : Type 0} {n m : ℕ} (t : Target) (l : List Value) (s : ℕ) (go : Aim → Asks B) → ((a : Aim) → IsAimOf t a → Ascends (s + aim_sites t) n (go a)) → m ≡ aim_sites t + n → Ascends s m (aim t l s >>= go)
aim_then {n = n} {m = m} (target.Local x) l s go k e =
    let first : s + 0 ≡ s = omega arith in
    let count : n ≡ m = omega (arith, e) in
    subst (λ j. Ascends j m (go (At_local x))) first (subst (λ j. Ascends (s + 0) j (go (At_local x))) count (k (At_local x) tt))
aim_then {n = n} {m = m} (target.Place p) l s go k e =
    let run : Asks _ = (spot p).run l s in
    let at_once : Ascends s m (run >>= (λ at. go (At_cell at.0 at.1 (spot p).through))) = ascends_then run _ (place_ascends p l s) (λ at. k (At_cell at.0 at.1 (spot p).through) refl) refl e in
    subst (Ascends s m) (λ i xs. sym (then_then (run xs) (λ at. give (At_cell at.0 at.1 (spot p).through)) go) i) at_once

read_ascends : (t : Target) (a : Aim) → IsAimOf t a → (l : List Value) (s : ℕ) → Ascends s (access_sites t) (read a l s)
read_ascends (target.Local x) (At_local y) w l s = ascends_give s 0 _
read_ascends (target.Local x) (At_cell at by t) w l s = absurd w
read_ascends (target.Place p) (At_local y) w l s = absurd w
read_ascends (target.Place p) (At_cell at by t) w l s = subst (λ u. Ascends s (access u) (read (At_cell at by t) l s)) w (ascends_ask s (access t) _ (access_within t s))

write_ascends : (t : Target) (a : Aim) → IsAimOf t a → (y : Value) (l : List Value) (s : ℕ) → Ascends s (access_sites t) (write a y l s)
write_ascends (target.Local x) (At_local z) w y l s = ascends_give s 0 _
write_ascends (target.Local x) (At_cell at by t) w y l s = absurd w
write_ascends (target.Place p) (At_local z) w y l s = absurd w
write_ascends (target.Place p) (At_cell at by t) w y l s =
    subst (λ u. Ascends s (access u) (write (At_cell at by t) y l s)) w
    (ascends_then _ _ (ascends_ask s (access t) _ (access_within t s)) (λ x. ascends_give (s + access t) 0 _) refl (omega arith))

result_then : {A B : Type 0} (o : Option A) (s n : ℕ) (go : A → Asks B) → ((x : A) → Ascends s n (go x)) → Ascends s n (result o >>= go)
result_then None s n go k = ascends_result s n None
result_then (Some x) s n go k = k x

-- an event at no site, with what follows it
ask_then : {B : Type 0} (w : Want) (s n : ℕ) (go : Value → Asks B) → AsksWithin s 0 w → ((x : Value) → Ascends s n (go x)) → Ascends s n (ask w >>= go)
ask_then w s n go h k = ascends_then _ _ (ascends_ask s 0 w h) k (omega arith) (omega arith)

all_ascend : (es : List Exp) (l : List Value) (s : ℕ) → Ascends s (sites_of_all es) (eval_all l es s)
all_ascend [] l s = ascends_give s 0 _
all_ascend (e ∷ es) l s =
    let m : ℕ = s + (part e).sites in
    ascends_then _ _ (exp_ascends e l s) (λ x. ascends_then {m = sites_of_all es} _ _ (all_ascend es l m) (λ xs. ascends_give (m + sites_of_all es) 0 _) refl (omega arith)) refl refl

null_ascends : (e : Option Exp) (l : List Value) (s : ℕ) → Ascends s (or_zero e) (value_or_null e l s)
null_ascends None l s = ascends_give s 0 _
null_ascends (Some e) l s = exp_ascends e l s

kept_ascends : (x : Option VarId) (y : Value) (l : List Value) (s : ℕ) → Ascends s 0 (keep_result x y l)
kept_ascends None y l s = ascends_give s 0 _
kept_ascends (Some x) y l s = ascends_give s 0 _

assert_ascends : (b : Bool) (l : List Value) (s : ℕ) → Ascends s 1 (assert b (site_id s) l)
assert_ascends true l s = ascends_give s 1 _
assert_ascends false l s = ascends_then _ _ (ascends_ask s 1 _ (omega arith, omega arith)) (λ x. ascends_give (s + 1) 0 _) refl refl

pub act_ascends : (a : Act) (i : ItemId) (l : List Value) (s : ℕ) → Ascends s (act_sites a) (act_run a i l s)
act_ascends (act.Zero x) i l s = ascends_give s 0 _
act_ascends (act.Set t e) i l s =
    aim_then {n = (part e).sites + access_sites t} t l s _ (λ a w. ascends_then _ _ (exp_ascends e l (s + aim_sites t)) (λ x. write_ascends t a w x l _) refl refl) (omega arith)
act_ascends (act.Update t o e) i l s =
    let m : ℕ = s + aim_sites t + access_sites t + (part e).sites in
    aim_then {n = access_sites t + ((part e).sites + access_sites t)} t l s _ (λ a w.
    ascends_then _ _ (read_ascends t a w l (s + aim_sites t)) (λ x.
    ascends_then {m = (part e).sites + access_sites t} _ _ (exp_ascends e l (s + aim_sites t + access_sites t)) (λ y.
    result_then _ m (access_sites t) _ (λ z. write_ascends t a w z l m)) refl refl) refl refl) (omega arith)
act_ascends (act.Malloc t c n) i l s =
    let m : ℕ = s + aim_sites t + (part c).sites in
    aim_then {n = (part c).sites + access_sites t} t l s _ (λ a w.
    ascends_then _ _ (exp_ascends c l (s + aim_sites t)) (λ x. ask_then _ m (access_sites t) _ tt (λ y. write_ascends t a w y l m)) refl refl) (omega arith)
act_ascends (act.Call x f es) i l s = ascends_then _ _ (all_ascend es l s) (λ xs. ask_then _ (s + sites_of_all es) 0 _ tt (λ y. kept_ascends x y l _)) refl (omega arith)
act_ascends (act.Lock m) i l s = ascends_then _ _ (ascends_ask s 1 _ (omega arith, omega arith)) (λ x. ascends_give (s + 1) 0 _) refl refl
act_ascends (act.Unlock m) i l s = ask_then _ s 0 _ tt (λ x. ascends_give s 0 _)
act_ascends (act.Create x f e) i l s = ascends_then _ _ (exp_ascends e l s) (λ y. ask_then _ (s + (part e).sites) 0 _ tt (λ n. ascends_give _ 0 _)) refl (omega arith)
act_ascends (act.Join e) i l s = ascends_then _ _ (exp_ascends e l s) (λ y. ask_then _ (s + (part e).sites) 0 _ tt (λ n. ascends_give _ 0 _)) refl (omega arith)
act_ascends (act.Free e) i l s =
    let m : ℕ = s + (part e).sites in
    ascends_then _ _ (exp_ascends e l s) (λ x. ascends_then {m = 1} _ _ (ascends_ask m 1 _ (omega arith, omega arith)) (λ y. ascends_give (m + 1) 0 _) refl refl) refl refl
act_ascends (act.Assert e) i l s = ascends_then _ _ (exp_ascends e l s) (λ x. assert_ascends _ l (s + (part e).sites)) refl refl
act_ascends (act.Print t es) i l s = ascends_then _ _ (all_ascend es l s) (λ xs. ask_then _ (s + sites_of_all es) 0 _ tt (λ n. ascends_give _ 0 _)) refl (omega arith)
act_ascends (act.Return e) i l s = ascends_then _ _ (null_ascends e l s) (λ y. ask_then _ (s + or_zero e) 0 _ tt (λ n. ascends_give _ 0 _)) refl (omega arith)
act_ascends (act.Cond e) i l s = ascends_then _ _ (exp_ascends e l s) (λ x. ascends_give (s + (part e).sites) 0 _) refl (omega arith)
act_ascends act.Close i l s = ask_then _ s 0 _ tt (λ x. ascends_give s 0 _)

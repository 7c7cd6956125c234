-- The destroying effect of an item is its last one.
use Rattle.std.proofs.Common.{◌≡◌, ℕ, Bool, true, false, List, [], ◌∷◌, ◌++◌, Option, Some, None, refl, sym, subst}
use Rattle.ca_tree.specs.declared.numbers.ItemId.{ItemId}
use Rattle.ca_tree.specs.declared.numbers.SiteId.{SiteId}
use Rattle.ca_tree.specs.declared.numbers.VarId.{VarId}
use Rattle.ca_model.specs.declared.values.Value.{Value}
use Rattle.ca_model.specs.declared.tree.Exp.{Exp}
use Rattle.ca_model.specs.declared.tree.Target.{Target}
use Rattle.ca_model.specs.declared.tree.Target.TheVariants as target
use Rattle.ca_model.specs.declared.tree.Act.{Act}
use Rattle.ca_model.specs.declared.tree.Act.TheVariants as act
use Rattle.ca_model.specs.Asks.{Want, Got, Is, Wants, No_result, Asks, then, ◌>>=◌, ask, result}
use Rattle.ca_model.specs.Eval.{eval, eval_all}
use Rattle.ca_model.specs.Items.{Aim, At_local, At_cell, aim, read, write, keep_result, assert, value_or_null, act_run}
use Rattle.ca_model.specs.Laws.{Extended, InOrder, OnWants, AsksOnly}
use Rattle.ca_model.specs.Destroying.{ends_item, IsDone, DestroysLast}
use Rattle.ca_model.proofs.Answered.{keeps_ask, keeps_result, eval_keeps_rest}
use Rattle.ca_model.proofs.Silent.{all_in_order, aim_in_order, read_in_order, null_in_order}
use Rattle.ca_model.proofs.OwnWants.{only_then, only_ask, only_result, exp_only, place_only, all_only, read_only, null_only}

abbrev Continues : Want → Type 0
Continues w = ends_item w ≡ false

-- a part before the last effect: it takes its answers in order, and none of its wants ends the item
pub record IsBefore {A : Type 0} (p : Asks A) : Type 0 where
  pub order : InOrder p
  pub wants : AsksOnly Continues p

then_last : {A B : Type 0} (g g' : Got A) (go : A → Asks B) (w : Want) (x : Value) → OnWants Continues g → Extended g (x ∷ []) g' → ((y : A) → DestroysLast (go y))
    → then g go ≡ Wants w → ends_item w ≡ true → IsDone (then g' go)
then_last (Is y rest) g' go w x only more k is ends = subst (λ z. IsDone (then z go)) (sym more) (k y rest w is ends x)
then_last (Wants v) g' go w x only more k is ends = cc
then_last No_result g' go w x only more k is ends = cc

-- one part and then the last one
last_then : {A B : Type 0} (p : Asks A) (go : A → Asks B) → IsBefore p → ((y : A) → DestroysLast (go y)) → DestroysLast (p >>= go)
last_then p go before k xs w is ends x = then_last (p xs) (p (xs ++ x ∷ [])) go w x (before.wants xs) (before.order.more xs (x ∷ [])) k is ends

-- a part that asks for nothing: it is done at once, with its answers left over
abbrev Leaves : {A : Type 0} → List Value → Got A → Type 0
Leaves xs (Is x rest) = rest ≡ xs
Leaves xs _ = ⊥

leaves_last : {A : Type 0} (g : Got A) (xs : List Value) (w : Want) → Leaves xs g → g ≡ Wants w → ⊥
leaves_last (Is x rest) xs w h is = cc
leaves_last (Wants v) xs w h is = h
leaves_last No_result xs w h is = h

leaves_done : {A : Type 0} (g : Got A) → Leaves [] g → IsDone g
leaves_done (Is x rest) h = h
leaves_done (Wants v) h = h
leaves_done No_result h = h

last_quiet : {A : Type 0} (p : Asks A) → ((xs : List Value) → Leaves xs (p xs)) → DestroysLast p
last_quiet p h xs w is ends x = absurd (leaves_last (p xs) xs w (h xs) is)

last_ask : {A : Type 0} (w : Want) (go : Value → Asks A) → ((y : Value) (xs : List Value) → Leaves xs (go y xs)) → DestroysLast (ask w >>= go)
last_ask w go h [] v is ends x = leaves_done (go x []) (h x [])
last_ask w go h (y ∷ ys) v is ends x = absurd (leaves_last (go y ys) ys v (h y ys) is)

-- the parts of items
exp_before : (e : Exp) (l : List Value) (s : ℕ) → IsBefore (eval l e s)
exp_before e l s = record { order = eval_keeps_rest e l s; wants = exp_only Continues (λ at by k n. refl) e l s }

all_before : (es : List Exp) (l : List Value) (s : ℕ) → IsBefore (eval_all l es s)
all_before es l s = record { order = all_in_order es l s; wants = all_only Continues (λ at by k n. refl) es l s }

null_before : (e : Option Exp) (l : List Value) (s : ℕ) → IsBefore (value_or_null e l s)
null_before e l s = record { order = null_in_order e l s; wants = null_only Continues (λ at by k n. refl) e l s }

aim_only : (t : Target) (l : List Value) (s : ℕ) → AsksOnly Continues (aim t l s)
aim_only (target.Local x) l s = λ xs. tt
aim_only (target.Place p) l s = only_then Continues _ _ (place_only Continues (λ at by k n. refl) p l s) (λ at xs. tt)

aim_before : (t : Target) (l : List Value) (s : ℕ) → IsBefore (aim t l s)
aim_before t l s = record { order = aim_in_order t l s; wants = aim_only t l s }

read_before : (a : Aim) (l : List Value) (s : ℕ) → IsBefore (read a l s)
read_before a l s = record { order = read_in_order a l s; wants = read_only Continues (λ at by k n. refl) a l s }

result_before : {A : Type 0} (o : Option A) → IsBefore (result o)
result_before o = record { order = keeps_result o; wants = only_result Continues o }

ask_before : (w : Want) → Continues w → IsBefore (ask w)
ask_before w h = record { order = keeps_ask w; wants = only_ask Continues w h }

write_last : (a : Aim) (y : Value) (l : List Value) (s : ℕ) → DestroysLast (write a y l s)
write_last (At_local x) y l s = last_quiet _ (λ xs. refl)
write_last (At_cell at by t) y l s = last_ask _ _ (λ x xs. refl)

kept_quiet : (x : Option VarId) (y : Value) (l xs : List Value) → Leaves xs (keep_result x y l xs)
kept_quiet None y l xs = refl
kept_quiet (Some x) y l xs = refl

assert_last : (b : Bool) (i : SiteId) (l : List Value) → DestroysLast (assert b i l)
assert_last true i l = last_quiet _ (λ xs. refl)
assert_last false i l = last_ask _ _ (λ x xs. refl)

pub act_last : (a : Act) (i : ItemId) (l : List Value) (s : ℕ) → DestroysLast (act_run a i l s)
act_last (act.Zero x) i l s = last_quiet _ (λ xs. refl)
act_last (act.Set t e) i l s = last_then _ _ (aim_before t l s) (λ a. last_then _ _ (exp_before e l _) (λ x. write_last a x l _))
act_last (act.Update t o e) i l s =
    last_then _ _ (aim_before t l s) (λ a. last_then _ _ (read_before a l _) (λ x. last_then _ _ (exp_before e l _) (λ y. last_then _ _ (result_before _) (λ z. write_last a z l _))))
act_last (act.Malloc t c n) i l s =
    last_then _ _ (aim_before t l s) (λ a. last_then _ _ (exp_before c l _) (λ x. last_then _ _ (ask_before _ refl) (λ y. write_last a y l _)))
act_last (act.Call x f es) i l s = last_then _ _ (all_before es l s) (λ xs. last_ask _ _ (λ y ys. kept_quiet x y l ys))
act_last (act.Lock m) i l s = last_ask _ _ (λ x xs. refl)
act_last (act.Unlock m) i l s = last_ask _ _ (λ x xs. refl)
act_last (act.Create x f e) i l s = last_then _ _ (exp_before e l s) (λ y. last_ask _ _ (λ n xs. refl))
act_last (act.Join e) i l s = last_then _ _ (exp_before e l s) (λ y. last_ask _ _ (λ n xs. refl))
act_last (act.Free e) i l s = last_then _ _ (exp_before e l s) (λ y. last_ask _ _ (λ n xs. refl))
act_last (act.Assert e) i l s = last_then _ _ (exp_before e l s) (λ x. assert_last _ _ l)
act_last (act.Print t es) i l s = last_then _ _ (all_before es l s) (λ y. last_ask _ _ (λ n xs. refl))
act_last (act.Return e) i l s = last_then _ _ (null_before e l s) (λ y. last_ask _ _ (λ n xs. refl))
act_last (act.Cond e) i l s = last_then _ _ (exp_before e l s) (λ x. last_quiet _ (λ xs. refl))
act_last act.Close i l s = last_ask _ _ (λ x xs. refl)

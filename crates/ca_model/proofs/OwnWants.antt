-- What the parts of an item want is of a kind, where what the item itself wants is.
use Rattle.std.proofs.Common.{ℕ, Bool, true, false, List, [], ◌∷◌, Option, Some, None, sym, subst}
use Rattle.std.specs.Prelude.{ℤ}
use Rattle.ca_tree.specs.declared.numbers.ItemId.{ItemId}
use Rattle.ca_tree.specs.declared.numbers.SiteId.{SiteId}
use Rattle.ca_tree.specs.declared.numbers.VarId.{VarId}
use Rattle.ca_model.specs.declared.values.Value.{Value}
use Rattle.ca_model.specs.declared.tree.LoadKind.{LoadKind}
use Rattle.ca_model.specs.declared.tree.Exp.{Exp, roll-Exp, map-Exp}
use Rattle.ca_model.specs.declared.tree.Exp.TheOpen.{Exp-F, Place-F}
use Rattle.ca_model.specs.declared.tree.Place.{Place, roll-Place, map-Place}
use Rattle.ca_model.specs.declared.tree.Target.{Target}
use Rattle.ca_model.specs.declared.tree.Target.TheVariants as target
use Rattle.ca_model.specs.declared.tree.Act.{Act}
use Rattle.ca_model.specs.declared.tree.Act.TheVariants as act
use Rattle.ca_model.specs.Arith.{truth}
use Rattle.ca_model.specs.Asks.{Want, Reads, Writes, Locks, Unlocks, Mallocs, Frees, Prints, Creates, Joins, Calls, Returns, Fails, Got, Is, Wants, No_result, Asks, then, ◌>>=◌, give, ask, result}
use Rattle.ca_model.specs.Eval.{Part, Spot, part, spot, exp_run, place_run, index_run, unless, flag, eval_all}
use Rattle.ca_model.specs.Items.{Aim, At_local, At_cell, aim, read, write, keep_result, assert, value_or_null, act_run}
use Rattle.ca_model.specs.Laws.{OnWants, AsksOnly}
use Rattle.ca_model.proofs.Chains.{then_then}
use Rattle.ca_model.proofs.Induction.{Held, Held_index, Held_place, exp_ind, place_ind, part_roll, spot_roll}

module _ (P : Want → Type 0) where
  then_only : {A B : Type 0} (g : Got A) (go : A → Asks B) → OnWants P g → ((x : A) → AsksOnly P (go x)) → OnWants P (then g go)
  then_only (Is x rest) go h k = k x rest
  then_only (Wants w) go h k = h
  then_only No_result go h k = tt

  pub only_then : {A B : Type 0} (p : Asks A) (go : A → Asks B) → AsksOnly P p → ((x : A) → AsksOnly P (go x)) → AsksOnly P (p >>= go)
  only_then p go h k xs = then_only (p xs) go (h xs) k

  pub only_ask : (w : Want) → P w → AsksOnly P (ask w)
  only_ask w h [] = h
  only_ask w h (x ∷ xs) = tt

  pub only_result : {A : Type 0} (o : Option A) → AsksOnly P (result o)
  only_result None xs = tt
  only_result (Some x) xs = tt

  only_unless : (b c : Bool) (p : Asks Value) → AsksOnly P p → AsksOnly P (unless b c p)
  only_unless true c p h = λ xs. tt
  only_unless false c p h = only_then p (λ y. give (flag (truth y))) h (λ y ys. tt)

  -- what an item itself wants, beside the reads of its expressions
  abbrev pub OwnStores : Target → Type 0
  OwnStores (target.Local x) = Unit {0}
  OwnStores (target.Place p) = (at : Value) (by : ℤ) (x : Value) (s : Option SiteId) → P (Writes at by x s)

  abbrev pub OwnWants : Act → ItemId → Type 0
  OwnWants (act.Zero x) i = Unit {0}
  OwnWants (act.Set t e) i = OwnStores t
  OwnWants (act.Update t o e) i = OwnStores t
  OwnWants (act.Malloc t c n) i = ((cells : ℤ) → P (Mallocs cells i)) × OwnStores t
  OwnWants (act.Call x f es) i = (xs : List Value) → P (Calls f xs)
  OwnWants (act.Lock m) i = (s : SiteId) → P (Locks m s i)
  OwnWants (act.Unlock m) i = P (Unlocks m)
  OwnWants (act.Create x f e) i = (y : Value) → P (Creates f y)
  OwnWants (act.Join e) i = (n : ℤ) → P (Joins n)
  OwnWants (act.Free e) i = (x : Value) (s : SiteId) → P (Frees x s)
  OwnWants (act.Assert e) i = (s : SiteId) → P (Fails s)
  OwnWants (act.Print t es) i = (text : List ℕ) → P (Prints text)
  OwnWants (act.Return e) i = (x : Value) → P (Returns x)
  OwnWants (act.Cond e) i = Unit {0}
  OwnWants act.Close i = (x : Value) → P (Returns x)

  module _ (reads : (at : Value) (by : ℤ) (k : LoadKind) (s : Option SiteId) → P (Reads at by k s)) where
    abbrev GoodExp : Exp → Type 0
    GoodExp x = (l : List Value) (s : ℕ) → AsksOnly P ((part x).run l s)

    abbrev GoodPlace : Place → Type 0
    GoodPlace p = (l : List Value) (s : ℕ) → AsksOnly P ((spot p).run l s)

    exp_good : (x : Exp-F Exp Place) → Held GoodExp GoodPlace x → (l : List Value) (s : ℕ) → AsksOnly P (exp_run (map-Exp Exp Place Part Spot part spot x) l s)
    exp_good (Exp-F.Num n) h l s = λ xs. tt
    exp_good Exp-F.Null h l s = λ xs. tt
    exp_good (Exp-F.Local x) h l s = λ xs. tt
    exp_good (Exp-F.Global g) h l s = λ xs. tt
    exp_good (Exp-F.Load p k) h l s = only_then _ _ (h l s) (λ at. only_ask _ (reads _ _ _ _))
    exp_good (Exp-F.AddressOf p) h l s = only_then _ _ (h l s) (λ at. only_result _)
    exp_good (Exp-F.Negate a) h l s = only_then _ _ (h l s) (λ x. only_result _)
    exp_good (Exp-F.Not a) h l s = only_then _ _ (h l s) (λ x ys. tt)
    exp_good (Exp-F.Binary o a b) h l s = only_then _ _ (h.0 l s) (λ x. only_then _ _ (h.1 l _) (λ y. only_result _))
    exp_good (Exp-F.And a b) h l s = only_then _ _ (h.0 l s) (λ x. only_unless _ _ _ (h.1 l _))
    exp_good (Exp-F.Or a b) h l s = only_then _ _ (h.0 l s) (λ x. only_unless _ _ _ (h.1 l _))

    index_good : (i : Option (Exp × ℕ)) (f : ℕ) (t : Bool) (b : Exp) → Held_index GoodExp GoodPlace i → (l : List Value) (s : ℕ)
        → AsksOnly P (index_run ((map-Place Exp Place Part Spot part spot (record { base = b; index = i; field = f; through = t })).index) l s)
    index_good None f t b h l s = λ xs. tt
    index_good (Some i) f t b h l s = only_then _ _ (h l s) (λ x ys. tt)

    place_good : (p : Place-F Exp Place) → Held_place GoodExp GoodPlace p → (l : List Value) (s : ℕ) → AsksOnly P (place_run (map-Place Exp Place Part Spot part spot p) l s)
    place_good p h l s = only_then _ _ (h.0 l s) (λ x. only_then _ _ (index_good p.index p.field p.through p.base h.1 l _) (λ i ys. tt))

    rolled : (x : Exp-F Exp Place) → Held GoodExp GoodPlace x → GoodExp (roll-Exp x)
    rolled x h l s = subst (λ p. AsksOnly P (p.run l s)) (sym (part_roll x)) (exp_good x h l s)

    rolled_place : (p : Place-F Exp Place) → Held_place GoodExp GoodPlace p → GoodPlace (roll-Place p)
    rolled_place p h l s = subst (λ q. AsksOnly P (q.run l s)) (sym (spot_roll p)) (place_good p h l s)

    pub exp_only : (x : Exp) → GoodExp x
    exp_only = exp_ind GoodExp GoodPlace rolled rolled_place

    pub place_only : (p : Place) → GoodPlace p
    place_only = place_ind GoodExp GoodPlace rolled rolled_place

    pub all_only : (es : List Exp) (l : List Value) (s : ℕ) → AsksOnly P (eval_all l es s)
    all_only [] l s = λ xs. tt
    all_only (e ∷ es) l s = only_then _ _ (exp_only e l s) (λ x. only_then _ _ (all_only es l _) (λ xs ys. tt))

    pub read_only : (a : Aim) (l : List Value) (s : ℕ) → AsksOnly P (read a l s)
    read_only (At_local x) l s = λ xs. tt
    read_only (At_cell at by t) l s = only_ask _ (reads _ _ _ _)

    -- a target that is stored to
    stored : {A : Type 0} (t : Target) (l : List Value) (s : ℕ) (y : Aim → Asks A) → OwnStores t
        → ((a : Aim) → ((x : Value) (m : List Value) (n : ℕ) → AsksOnly P (write a x m n)) → AsksOnly P (y a)) → AsksOnly P (aim t l s >>= y)
    stored (target.Local x) l s y h k = λ xs. k (At_local x) (λ z m n ys. tt) xs
    stored (target.Place p) l s y h k = λ xs.
        subst (OnWants P) (sym (then_then ((spot p).run l s xs) (λ at. give (At_cell at.0 at.1 (spot p).through)) y))
        (only_then _ (λ at. y (At_cell at.0 at.1 (spot p).through)) (place_only p l s) (λ at. k (At_cell at.0 at.1 (spot p).through) (λ z m n. only_then _ _ (only_ask _ (h _ _ _ _)) (λ u ys. tt))) xs)

    kept_only : (x : Option VarId) (y : Value) (l : List Value) → AsksOnly P (keep_result x y l)
    kept_only None y l = λ xs. tt
    kept_only (Some x) y l = λ xs. tt

    assert_only : (b : Bool) (i : SiteId) (l : List Value) → P (Fails i) → AsksOnly P (assert b i l)
    assert_only true i l h = λ xs. tt
    assert_only false i l h = only_then _ _ (only_ask _ h) (λ x ys. tt)

    pub null_only : (e : Option Exp) (l : List Value) (s : ℕ) → AsksOnly P (value_or_null e l s)
    null_only None l s = λ xs. tt
    null_only (Some e) l s = exp_only e l s

    pub act_only : (a : Act) (i : ItemId) → OwnWants a i → (l : List Value) (s : ℕ) → AsksOnly P (act_run a i l s)
    act_only (act.Zero x) i h l s = λ xs. tt
    act_only (act.Set t e) i h l s = stored t l s _ h (λ a w. only_then _ _ (exp_only e l _) (λ x. w x l _))
    act_only (act.Update t o e) i h l s =
        stored t l s _ h (λ a w. only_then _ _ (read_only a l _) (λ x. only_then _ _ (exp_only e l _) (λ y. only_then _ _ (only_result _) (λ z. w z l _))))
    act_only (act.Malloc t c n) i h l s = stored t l s _ h.1 (λ a w. only_then _ _ (exp_only c l _) (λ x. only_then _ _ (only_ask _ (h.0 _)) (λ y. w y l _)))
    act_only (act.Call x f es) i h l s = only_then _ _ (all_only es l s) (λ xs. only_then _ _ (only_ask _ (h xs)) (λ y. kept_only x y l))
    act_only (act.Lock m) i h l s = only_then _ _ (only_ask _ (h _)) (λ x ys. tt)
    act_only (act.Unlock m) i h l s = only_then _ _ (only_ask _ h) (λ x ys. tt)
    act_only (act.Create x f e) i h l s = only_then _ _ (exp_only e l s) (λ y. only_then _ _ (only_ask _ (h y)) (λ n ys. tt))
    act_only (act.Join e) i h l s = only_then _ _ (exp_only e l s) (λ y. only_then _ _ (only_ask _ (h _)) (λ n ys. tt))
    act_only (act.Free e) i h l s = only_then _ _ (exp_only e l s) (λ y. only_then _ _ (only_ask _ (h _ _)) (λ n ys. tt))
    act_only (act.Assert e) i h l s = only_then _ _ (exp_only e l s) (λ x. assert_only _ _ l (h _))
    act_only (act.Print t es) i h l s = only_then _ _ (all_only es l s) (λ y. only_then _ _ (only_ask _ (h _)) (λ n ys. tt))
    act_only (act.Return e) i h l s = only_then _ _ (null_only e l s) (λ y. only_then _ _ (only_ask _ (h _)) (λ n ys. tt))
    act_only (act.Cond e) i h l s = only_then _ _ (exp_only e l s) (λ x ys. tt)
    act_only act.Close i h l s = only_then _ _ (only_ask _ (h _)) (λ x ys. tt)

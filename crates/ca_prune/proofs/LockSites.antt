-- A lock is the only site of its item, and no other item has one.
use Rattle.std.proofs.Common.{◌≡◌, ℕ, zero, suc, Bool, true, false, List, [], ◌∷◌, ◌++◌, length, Option, Some, None, refl, sym, ap, subst, inl, inr}
use Rattle.std.specs.Prelude.{slice_get}
use Rattle.std.proofs.lemmas.Bool.{cases_lt}
use Rattle.ca_tree.specs.declared.numbers.SiteId.{SiteId}
use Rattle.ca_model.specs.declared.tree.Exp.{Exp, roll-Exp, fold-roll-Exp}
use Rattle.ca_model.specs.declared.tree.Exp.TheOpen.{Exp-F, Place-F}
use Rattle.ca_model.specs.declared.tree.Place.{Place, roll-Place, map-Place, fold-roll-Place}
use Rattle.ca_model.specs.declared.tree.Target.{Target}
use Rattle.ca_model.specs.declared.tree.Target.TheVariants as target
use Rattle.ca_model.specs.declared.tree.Act.{Act}
use Rattle.ca_model.specs.declared.tree.Act.TheVariants as act
use Rattle.ca_model.specs.declared.tree.Item.{Item}
use Rattle.ca_model.specs.Accesses.{Kind, An_assertion, A_free, A_lock, Access, At_site, Named_load, Named_store, Allocates, Site, loads, stores, exp_accesses, index_accesses, place_accesses, accesses, accesses_to, accesses_of_all, aim_accesses, target_loads, target_stores, if_written, act_accesses, sites_after, sites_in, all_sites, numbered}
use Rattle.ca_model.specs.Codes.{Typed}
use Rattle.ca_model.specs.Sites.{all_items}
use Rattle.ca_model.specs.Plans.{IsSite}
use Rattle.ca_model.specs.Destroying.{is_lock}
use Rattle.ca_model.proofs.Equations.{by_accesses}
use Rattle.ca_model.proofs.Induction.{Held, Held_index, Held_place, exp_ind, place_ind}
use Rattle.ca_flow.proofs.SiteItems.{get_first, get_second}

-- each site among some accesses is of such a kind
abbrev All_kinds : (Kind → Type 0) → List Access → Type 0
All_kinds P [] = Unit {0}
All_kinds P (At_site k ∷ xs) = P k × All_kinds P xs
All_kinds P (Named_load ∷ xs) = All_kinds P xs
All_kinds P (Named_store ∷ xs) = All_kinds P xs
All_kinds P (Allocates ∷ xs) = All_kinds P xs

module _ (P : Kind → Type 0) where
  both : (xs ys : List Access) → All_kinds P xs → All_kinds P ys → All_kinds P (xs ++ ys)
  both [] ys h k = k
  both (At_site a ∷ xs) ys h k = (h.0, both xs ys h.1 k)
  both (Named_load ∷ xs) ys h k = both xs ys h k
  both (Named_store ∷ xs) ys h k = both xs ys h k
  both (Allocates ∷ xs) ys h k = both xs ys h k

  of_site : (i : Item) (done xs : List Access) (q : ℕ) (s : Site) → All_kinds P xs → slice_get (sites_after i done xs) q ≡ Some s → P s.kind
  of_site i done [] q s h is = absurd (cc)
  of_site i done (At_site k ∷ xs) zero s h is = subst P (ap (λ (o : Option Site). elim o [ None ↦ k | Some y ↦ y.kind ]) is) h.0
  of_site i done (At_site k ∷ xs) (suc q) s h is = of_site i (done ++ (At_site k ∷ [])) xs q s h.1 is
  of_site i done (Named_load ∷ xs) q s h is = of_site i (done ++ (Named_load ∷ [])) xs q s h is
  of_site i done (Named_store ∷ xs) q s h is = of_site i (done ++ (Named_store ∷ [])) xs q s h is
  of_site i done (Allocates ∷ xs) q s h is = of_site i (done ++ (Allocates ∷ [])) xs q s h is

-- ---- expressions

abbrev pub IsOther : Kind → Type 0
IsOther A_lock = ⊥
IsOther _ = Unit {0}

abbrev NoLock : List Access → Type 0
NoLock = All_kinds IsOther

abbrev In_exp : Exp → Type 0
In_exp x = NoLock (accesses x)

abbrev In_place : Place → Type 0
In_place p = NoLock (accesses_to p).1

join : (xs ys : List Access) → NoLock xs → NoLock ys → NoLock (xs ++ ys)
join = both IsOther

a_load : (b : Bool) → NoLock (loads b)
a_load true = (tt, tt)
a_load false = tt

a_store : (b : Bool) → NoLock (stores b)
a_store true = (tt, tt)
a_store false = tt

in_level : (x : Exp-F Exp Place) → Held In_exp In_place x → NoLock (by_accesses x)
in_level (Exp-F.Num n) h = tt
in_level Exp-F.Null h = tt
in_level (Exp-F.Local x) h = tt
in_level (Exp-F.Global g) h = tt
in_level (Exp-F.Load p k) h = join (accesses_to p).1 (loads (accesses_to p).0) h (a_load (accesses_to p).0)
in_level (Exp-F.AddressOf p) h = h
in_level (Exp-F.Negate a) h = h
in_level (Exp-F.Not a) h = h
in_level (Exp-F.Binary o a b) h = join (accesses a) (accesses b) h.0 h.1
in_level (Exp-F.And a b) h = join (accesses a) (accesses b) h.0 h.1
in_level (Exp-F.Or a b) h = join (accesses a) (accesses b) h.0 h.1

exp_level : (x : Exp-F Exp Place) → Held In_exp In_place x → In_exp (roll-Exp x)
exp_level x h = subst NoLock (sym (fold-roll-Exp (List Access) (Bool × List Access) exp_accesses place_accesses x)) (in_level x h)

abbrev index_does : Option (Exp × ℕ) → ℕ → Bool → Exp → List Access
index_does i f t b = index_accesses ((map-Place Exp Place (List Access) (Bool × List Access) accesses accesses_to (record { base = b; index = i; field = f; through = t })).index)

in_index : (i : Option (Exp × ℕ)) (f : ℕ) (t : Bool) (b : Exp) → Held_index In_exp In_place i → NoLock (index_does i f t b)
in_index None f t b h = tt
in_index (Some i) f t b h = h

place_level : (p : Place-F Exp Place) → Held_place In_exp In_place p → In_place (roll-Place p)
place_level p h =
    subst (λ (a : Bool × List Access). NoLock a.1) (sym (fold-roll-Place (List Access) (Bool × List Access) exp_accesses place_accesses p))
    (join (accesses p.base) (index_does p.index p.field p.through p.base) h.0 (in_index p.index p.field p.through p.base h.1))

in_exp : (x : Exp) → In_exp x
in_exp = exp_ind In_exp In_place exp_level place_level

in_place : (p : Place) → In_place p
in_place = place_ind In_exp In_place exp_level place_level

in_all : (es : List Exp) → NoLock (accesses_of_all es)
in_all [] = tt
in_all (e ∷ es) = join (accesses e) (accesses_of_all es) (in_exp e) (in_all es)

in_aim : (t : Target) → NoLock (aim_accesses t)
in_aim (target.Local x) = tt
in_aim (target.Place p) = in_place p

in_loads : (t : Target) → NoLock (target_loads t)
in_loads (target.Local x) = tt
in_loads (target.Place p) = a_load (accesses_to p).0

in_stores : (t : Target) → NoLock (target_stores t)
in_stores (target.Local x) = tt
in_stores (target.Place p) = a_store (accesses_to p).0

in_written : (o : Option Exp) → NoLock (if_written o)
in_written None = tt
in_written (Some e) = in_exp e

-- ---- items

-- the kind of a site of an act
abbrev pub Fits_test : Bool → Kind → Type 0
Fits_test true k = k ≡ A_lock
Fits_test false k = IsOther k

abbrev pub Fits_act : Act → Kind → Type 0
Fits_act a k = Fits_test (is_lock a) k

in_act : (a : Act) → All_kinds (Fits_act a) (act_accesses a)
in_act (act.Zero x) = tt
in_act (act.Set t e) = join (aim_accesses t) (accesses e ++ target_stores t) (in_aim t) (join (accesses e) (target_stores t) (in_exp e) (in_stores t))
in_act (act.Update t o e) =
    join (aim_accesses t) (target_loads t ++ (accesses e ++ target_stores t)) (in_aim t)
    (join (target_loads t) (accesses e ++ target_stores t) (in_loads t) (join (accesses e) (target_stores t) (in_exp e) (in_stores t)))
in_act (act.Malloc t c n) = join (aim_accesses t) (accesses c ++ (Allocates ∷ target_stores t)) (in_aim t) (join (accesses c) (Allocates ∷ target_stores t) (in_exp c) (in_stores t))
in_act (act.Call x f es) = in_all es
in_act (act.Lock m) = (refl, tt)
in_act (act.Unlock m) = tt
in_act (act.Create x f e) = in_exp e
in_act (act.Join e) = in_exp e
in_act (act.Free e) = join (accesses e) (At_site A_free ∷ []) (in_exp e) (tt, tt)
in_act (act.Assert e) = join (accesses e) (At_site An_assertion ∷ []) (in_exp e) (tt, tt)
in_act (act.Print t es) = in_all es
in_act (act.Return e) = in_written e
in_act (act.Cond e) = in_exp e
in_act act.Close = tt

item_of_site : (i : Item) (done xs : List Access) (q : ℕ) (s : Site) → slice_get (sites_after i done xs) q ≡ Some s → s.item ≡ i
item_of_site i done [] q s is = absurd (cc)
item_of_site i done (At_site k ∷ xs) zero s is = ap (λ (o : Option Site). elim o [ None ↦ i | Some y ↦ y.item ]) (sym is)
item_of_site i done (At_site k ∷ xs) (suc q) s is = item_of_site i (done ++ (At_site k ∷ [])) xs q s is
item_of_site i done (Named_load ∷ xs) q s is = item_of_site i (done ++ (Named_load ∷ [])) xs q s is
item_of_site i done (Named_store ∷ xs) q s is = item_of_site i (done ++ (Named_store ∷ [])) xs q s is
item_of_site i done (Allocates ∷ xs) q s is = item_of_site i (done ++ (Allocates ∷ [])) xs q s is

site_fits : (is : List Item) (q : ℕ) (s : Site) → slice_get (sites_in is) q ≡ Some s → Fits_act s.item.act s.kind
site_fits [] q s at = absurd (cc)
site_fits (i ∷ is) q s at =
    let mine : List Site = sites_after i [] (act_accesses i.act) in
    elim (cases_lt q (length mine)) [
      | inl less ↦
          let here = get_first mine (sites_in is) q s less at in
          subst (λ (j : Item). Fits_act j.act s.kind) (sym (item_of_site i [] (act_accesses i.act) q s here)) (of_site (Fits_act i.act) i [] (act_accesses i.act) q s (in_act i.act) here)
      | inr more ↦ site_fits is _ s (get_second mine (sites_in is) q s more at)
    ]

pub kind_fits : (p : Typed) (n : SiteId) (s : Site) → IsSite p s n → Fits_act s.item.act s.kind
kind_fits p n s is = at n.0 is
  where
    at : (k : ℕ) → numbered (all_sites p) k ≡ Some s → Fits_act s.item.act s.kind
    at zero h = absurd (cc)
    at (suc k) h = site_fits (all_items p.functions) k s h

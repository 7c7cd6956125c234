-- What is seen of accesses, by their parts, and what it says of sites.
use Rattle.std.proofs.Common.{inl, inr, ◌≡◌, ℕ, Bool, true, false, ◌+◌, ◌<◌, List, [], ◌∷◌, ◌++◌, length, drop, get_or, Option, Some, refl, sym, ap, subst, ◌∙◌, append_assoc}
use Rattle.std.specs.Prelude.{◌⊎◌, ◌||◌, Result, IfOk}
use Rattle.std.proofs.lemmas.Result.{IfOk-weaker}
use Rattle.std.proofs.lemmas.List.{append-nil}
use Rattle.std.proofs.lemmas.List.Folds.{list_any-append}
use Rattle.ca_model.specs.declared.tree.BinOp.{BinOp}
use Rattle.ca_model.specs.declared.tree.LoadKind.{LoadKind}
use Rattle.ca_model.specs.declared.tree.Exp.{Exp, out-Exp, fold_out-Exp}
use Rattle.ca_model.specs.declared.tree.Exp.TheVariants as e
use Rattle.ca_model.specs.declared.tree.Place.{Place, out-Place, map-Place, fold_out-Place}
use Rattle.ca_model.specs.declared.tree.Act.{Act}
use Rattle.ca_model.specs.declared.tree.Item.{Item}
use Rattle.ca_model.specs.Accesses.{Kind, Access, At_site, Named_load, Named_store, Allocates, sites_after, exp_accesses, place_accesses, loads, accesses, accesses_to, accesses_of_all, act_accesses}
use Rattle.ca_model.specs.Destroying.{is_lock, has_malloc}
use Rattle.ca_model.specs.Hopeless.{can_change}
use Rattle.ca_model.proofs.Equations.{by_accesses, accesses_load, accesses_binary}
use Rattle.ca_flow.specs.declared.changes.ItemKind.{ItemKind}
use Rattle.ca_flow.specs.Changes.{any_changes, kind_of_act, changes_before, Seen, seen, see_one, see}
use Rattle.ca_flow.proofs.UsesOfItems.{from_next}

pub see_append : (u : Seen) (xs ys : List Access) → see u (xs ++ ys) ≡ see (see u xs) ys
see_append u [] ys = refl
see_append u (x ∷ xs) ys = see_append (see_one u x) xs ys

accesses_out : (x : Exp) (l : _) → out-Exp x ≡ l → accesses x ≡ by_accesses l
accesses_out x l is = fold_out-Exp (List Access) (Bool × List Access) exp_accesses place_accesses x ∙ ap by_accesses is

-- what a last part makes known, if memory is there
abbrev pub Makes : {E : Type 0} → Result Bool E → List Bool → Seen → List Access → Type 0
Makes r m u xs = IfOk r (λ b. seen m b ≡ see u xs)

-- two parts one after another
pub seen_two : {E : Type 0} (r : Result Bool E) (m : List Bool) (u v : Seen) (xs ys zs : List Access) → xs ≡ ys ++ zs → v ≡ see u ys → Makes r m v zs → Makes r m u xs
seen_two r m u v xs ys zs are first second =
    IfOk-weaker r (λ b. seen m b ≡ see v zs) (λ b. seen m b ≡ see u xs) (λ b h. h ∙ ap (λ v. see v zs) first ∙ sym (see_append u ys zs) ∙ ap (see u) (sym are)) second

pub seen_load : {E : Type 0} (r : Result Bool E) (m : List Bool) (x : Exp) (p : Place) (k : LoadKind) (u v : Seen) → x ≡ e.Load p k → v ≡ see u (accesses_to p).1 → Makes r m v (loads (out-Place p).through) → Makes r m u (accesses x)
seen_load r m x p k u v is first second =
    let through : (accesses_to p).0 ≡ (out-Place p).through = ap (λ (a : Bool × List Access). a.0) (fold_out-Place (List Access) (Bool × List Access) exp_accesses place_accesses p) in
    seen_two r m u v (accesses x) (accesses_to p).1 (loads (accesses_to p).0) (ap accesses is ∙ accesses_load p k) first (subst (λ b. Makes r m v (loads b)) (sym through) second)

-- operands from left to right
both_accesses : (x a b : Exp) → ((o : BinOp) × (x ≡ e.Binary o a b)) ⊎ ((x ≡ e.And a b) ⊎ (x ≡ e.Or a b)) → accesses x ≡ accesses a ++ accesses b
both_accesses x a b (inl (o, is)) = ap accesses is ∙ accesses_binary o a b
both_accesses x a b (inr (inl is)) = ap accesses is ∙ accesses_out (e.And a b) _ (e.outs-And a b)
both_accesses x a b (inr (inr is)) = ap accesses is ∙ accesses_out (e.Or a b) _ (e.outs-Or a b)

pub seen_both : {E : Type 0} (r : Result Bool E) (m : List Bool) (x a b c d : Exp) (u v : Seen) → ((o : BinOp) × (x ≡ e.Binary o a b)) ⊎ ((x ≡ e.And a b) ⊎ (x ≡ e.Or a b)) → c ≡ a → d ≡ b → v ≡ see u (accesses c) → Makes r m v (accesses d) → Makes r m u (accesses x)
seen_both r m x a b c d u v is left right first second =
    seen_two r m u v (accesses x) (accesses a) (accesses b) (both_accesses x a b is) (first ∙ ap (λ y. see u (accesses y)) left) (subst (λ y. Makes r m v (accesses y)) right second)

-- the base of a place, and its index
abbrev with_index : Place → Option (Exp × ℕ) → List Access
with_index p o = (place_accesses (map-Place Exp Place (List Access) (Bool × List Access) accesses accesses_to (record { base = (out-Place p).base; index = o; field = (out-Place p).field; through = (out-Place p).through }))).1

place_is : (p : Place) → (accesses_to p).1 ≡ with_index p (out-Place p).index
place_is p = ap (λ (a : Bool × List Access). a.1) (fold_out-Place (List Access) (Bool × List Access) exp_accesses place_accesses p)

pub seen_place : {E : Type 0} (r : Result Bool E) (m : List Bool) (p : Place) (b c d : Exp) (k : ℕ) (u v : Seen) → (out-Place p).index ≡ Some (b, k) → c ≡ (out-Place p).base → d ≡ b → v ≡ see u (accesses c) → Makes r m v (accesses d) → Makes r m u (accesses_to p).1
seen_place r m p b c d k u v at left right first second =
    seen_two r m u v (accesses_to p).1 (accesses (out-Place p).base) (accesses b) (place_is p ∙ ap (with_index p) at) (first ∙ ap (λ y. see u (accesses y)) left) (subst (λ y. Makes r m v (accesses y)) right second)

-- the next one of some expressions
pub next_seen : (es : List Exp) (u v : Seen) (j : ℕ) (x : Exp) (whole : Seen) → j < length es → x ≡ get_or es j x → see u (accesses_of_all (drop j es)) ≡ whole → v ≡ see u (accesses x) → see v (accesses_of_all (drop (j + 1) es)) ≡ whole
next_seen es u v j x whole lt is before here =
    ap (λ u. see u (accesses_of_all (drop (j + 1) es))) here ∙ sym (see_append u (accesses x) (accesses_of_all (drop (j + 1) es))) ∙ ap (λ ys. see u (accesses_of_all ys)) (sym (from_next es j x lt is)) ∙ before

-- a site that reads nothing, behind some accesses
pub site_behind : (k : Kind) (m n : List Bool) (b : Bool) (u : Seen) (xs : List Access) → can_change (At_site k) ≡ false → seen m b ≡ see u xs → n ≡ m ++ b ∷ [] → seen n b ≡ see u (xs ++ At_site k ∷ [])
site_behind k m n b u xs none first is =
    ap (λ (n : List Bool). seen n b) is ∙ ap (λ c. seen (m ++ b ∷ []) (c || b)) (sym none) ∙ ap (λ v. see v (At_site k ∷ [])) first ∙ sym (see_append u xs (At_site k ∷ []))

-- ---- sites

or_turned : (b c : Bool) → (b || (c || false)) ≡ (c || b)
or_turned true true = refl
or_turned true false = refl
or_turned false true = refl
or_turned false false = refl

any_last : (done : List Access) (a : Access) → any_changes (done ++ a ∷ []) ≡ (can_change a || any_changes done)
any_last done a = list_any-append can_change done (a ∷ []) ∙ or_turned (any_changes done) (can_change a)

-- one that is no site
other_seen : (i : Item) (l : List Bool) (done : List Access) (a : Access) (xs : List Access) → see (seen l (any_changes (done ++ a ∷ []))) xs ≡ seen (l ++ changes_before (sites_after i (done ++ a ∷ []) xs)) (any_changes ((done ++ a ∷ []) ++ xs))
    → see (seen l (can_change a || any_changes done)) xs ≡ seen (l ++ changes_before (sites_after i (done ++ a ∷ []) xs)) (any_changes (done ++ a ∷ xs))
other_seen i l done a xs more =
    ap (λ b. see (seen l b) xs) (sym (any_last done a)) ∙ more ∙ ap (λ as'. seen (l ++ changes_before (sites_after i (done ++ a ∷ []) xs)) (any_changes as')) (append_assoc done (a ∷ []) xs)

-- after some accesses of an item, what its further ones make known
sites_seen : (i : Item) (l : List Bool) (done xs : List Access) → see (seen l (any_changes done)) xs ≡ seen (l ++ changes_before (sites_after i done xs)) (any_changes (done ++ xs))
sites_seen i l done [] = ap (λ (k : List Bool). seen k (any_changes done)) (sym (append-nil l)) ∙ ap (λ as'. seen (l ++ []) (any_changes as')) (sym (append-nil done))
sites_seen i l done (At_site k ∷ xs) =
    let a : Access = At_site k in
    let flag : Bool = any_changes done in
    ap (λ b. see (seen (l ++ flag ∷ []) b) xs) (sym (any_last done a)) ∙ sites_seen i (l ++ flag ∷ []) (done ++ a ∷ []) xs
    ∙ ap (λ (m : List Bool). seen m (any_changes ((done ++ a ∷ []) ++ xs))) (append_assoc l (flag ∷ []) (changes_before (sites_after i (done ++ a ∷ []) xs)))
    ∙ ap (λ as'. seen (l ++ flag ∷ changes_before (sites_after i (done ++ a ∷ []) xs)) (any_changes as')) (append_assoc done (a ∷ []) xs)
sites_seen i l done (Named_load ∷ xs) = other_seen i l done Named_load xs (sites_seen i l (done ++ Named_load ∷ []) xs)
sites_seen i l done (Named_store ∷ xs) = other_seen i l done Named_store xs (sites_seen i l (done ++ Named_store ∷ []) xs)
sites_seen i l done (Allocates ∷ xs) = other_seen i l done Allocates xs (sites_seen i l (done ++ Allocates ∷ []) xs)

-- of a whole item
pub changed_of_item : (i : Item) (l m : List Bool) (b : Bool) (xs : List Access) → seen m b ≡ see (seen l false) xs → b ≡ any_changes xs
changed_of_item i l m b xs is = ap (λ (u : Seen). u.changed) (is ∙ sites_seen i l [] xs)

pub sites_of_item : (i : Item) (l m : List Bool) (b : Bool) (xs : List Access) → seen m b ≡ see (seen l false) xs → m ≡ l ++ changes_before (sites_after i [] xs)
sites_of_item i l m b xs is = ap (λ (u : Seen). u.before) (is ∙ sites_seen i l [] xs)

pub kind_is : (a : Act) (x y z : Bool) → x ≡ is_lock a → y ≡ has_malloc a → z ≡ any_changes (act_accesses a) → ◌≡◌ {A = ItemKind} (record { is_lock = x; has_malloc = y; can_change = z }) (kind_of_act a)
kind_is a x y z lock malloc changes =
    ap (λ (b : Bool). let k : ItemKind = record { is_lock = b; has_malloc = y; can_change = z } in k) lock
    ∙ ap (λ (b : Bool). let k : ItemKind = record { is_lock = is_lock a; has_malloc = b; can_change = z } in k) malloc
    ∙ ap (λ (b : Bool). let k : ItemKind = record { is_lock = is_lock a; has_malloc = has_malloc a; can_change = b } in k) changes

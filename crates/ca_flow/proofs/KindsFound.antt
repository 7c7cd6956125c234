-- What the tables of items and sites say of the source.
use Rattle.std.proofs.Common.{arith, ◌≡◌, ℕ, suc, zero, ◌+◌, ◌-◌, ◌<◌, Bool, false, List, [], ◌∷◌, ◌++◌, map, length, replicate, None, Some, refl, sym, ap, ◌∙◌, subst, append_assoc}
use Rattle.std.specs.Prelude.{get_or, slice_get}
use Rattle.std.proofs.lemmas.List.{append-nil, map-append}
use Rattle.ca_tree.specs.declared.numbers.FunId.{FunId}
use Rattle.ca_tree.specs.declared.numbers.ItemId.{ItemId}
use Rattle.ca_tree.specs.declared.numbers.SiteId.{SiteId}
use Rattle.ca_model.specs.declared.tree.Item.{Item}
use Rattle.ca_model.specs.declared.tree.Function.{Function}
use Rattle.ca_model.specs.Accesses.{Site, act_accesses, sites_after, sites_in, all_sites, numbered}
use Rattle.ca_model.specs.Codes.{Typed}
use Rattle.ca_model.specs.Sites.{items_of, all_items}
use Rattle.ca_model.specs.Plans.{IsItem, IsSite}
use Rattle.ca_model.specs.WellFormed.{IsWellFormed}
use Rattle.ca_flow.specs.declared.changes.ItemKind.{ItemKind}
use Rattle.ca_flow.specs.Changes.{any_changes, kind_of_act, kinds_of, changes_before}
use Rattle.ca_flow.specs.Tables.{Uses, uses, with_item, with_items, with_functions, uses_of}
use Rattle.ca_flow.proofs.FunctionItems.{all_numbered, place_of}

-- ---- items

items_have : (f : FunId) (u : Uses) (is : List Item) → (with_items f u is).kinds ≡ u.kinds ++ kinds_of is
items_have f u [] = sym (append-nil u.kinds)
items_have f u (i ∷ is) = items_have f (with_item f u i) is ∙ append_assoc u.kinds (kind_of_act i.act ∷ []) (kinds_of is)

functions_have : (u : Uses) (fs : List Function) → (with_functions u fs).kinds ≡ u.kinds ++ kinds_of (all_items fs)
functions_have u [] = sym (append-nil u.kinds)
functions_have u (f ∷ fs) =
    functions_have (with_items f.id u (items_of f)) fs ∙ ap (λ ks. ks ++ kinds_of (all_items fs)) (items_have f.id u (items_of f)) ∙ append_assoc u.kinds (kinds_of (items_of f)) (kinds_of (all_items fs))
    ∙ ap (λ ks. u.kinds ++ ks) (sym (map-append (λ (i : Item). kind_of_act i.act) (items_of f) (all_items fs)))

pub kinds_are : (fs : List Function) → (uses_of fs).kinds ≡ kinds_of (all_items fs)
kinds_are fs = functions_have (uses [] [] [] (replicate (length fs) []) (replicate (length fs) false)) fs

-- ---- sites

sites_join : (is js : List Item) → sites_in (is ++ js) ≡ sites_in is ++ sites_in js
sites_join [] js = refl
sites_join (i ∷ is) js = ap (λ ss. sites_after i [] (act_accesses i.act) ++ ss) (sites_join is js) ∙ sym (append_assoc (sites_after i [] (act_accesses i.act)) (sites_in is) (sites_in js))

before_join : (xs ys : List Site) → changes_before (xs ++ ys) ≡ changes_before xs ++ changes_before ys
before_join = map-append (λ (s : Site). any_changes s.earlier)

items_tell : (f : FunId) (u : Uses) (is : List Item) → (with_items f u is).changes ≡ u.changes ++ changes_before (sites_in is)
items_tell f u [] = sym (append-nil u.changes)
items_tell f u (i ∷ is) =
    let here : List Site = sites_after i [] (act_accesses i.act) in
    items_tell f (with_item f u i) is ∙ append_assoc u.changes (changes_before here) (changes_before (sites_in is)) ∙ ap (λ bs. u.changes ++ bs) (sym (before_join here (sites_in is)))

functions_tell : (u : Uses) (fs : List Function) → (with_functions u fs).changes ≡ u.changes ++ changes_before (sites_in (all_items fs))
functions_tell u [] = sym (append-nil u.changes)
functions_tell u (f ∷ fs) =
    functions_tell (with_items f.id u (items_of f)) fs ∙ ap (λ bs. bs ++ changes_before (sites_in (all_items fs))) (items_tell f.id u (items_of f))
    ∙ append_assoc u.changes (changes_before (sites_in (items_of f))) (changes_before (sites_in (all_items fs)))
    ∙ ap (λ bs. u.changes ++ bs) (sym (before_join (sites_in (items_of f)) (sites_in (all_items fs)))) ∙ ap (λ ss. u.changes ++ changes_before ss) (sym (sites_join (items_of f) (all_items fs)))

pub changes_are : (fs : List Function) → (uses_of fs).changes ≡ changes_before (sites_in (all_items fs))
changes_are fs = functions_tell (uses [] [] [] (replicate (length fs) []) (replicate (length fs) false)) fs

-- ---- by their numbers

mapped_at : {A B : Type 0} (h : A → B) (xs : List A) (k : ℕ) (x : A) (d : B) → slice_get xs k ≡ Some x → (k < length (map h xs)) × (get_or (map h xs) k d ≡ h x)
mapped_at h [] k x d at = absurd (cc)
mapped_at h (y ∷ xs) zero x d at = (omega arith, ap (λ o. elim o [ None ↦ h y | Some z ↦ h z ]) at)
mapped_at h (y ∷ xs) (suc k) x d at = let more = mapped_at h xs k x d at in let lt : k < length (map h xs) = more.0 in (omega (arith, lt), more.1)

-- the kind of an item stands at its place
pub kind_at : (p : Typed) (ks : List ItemKind) (i : ItemId) (x : Item) (d : ItemKind) → IsWellFormed p → ks ≡ (uses_of p.functions).kinds → IsItem p x i → (i.0 - 1 < length ks) × (get_or ks (i.0 - 1) d ≡ kind_of_act x.act)
kind_at p ks i x d formed is own =
    let at = place_of (all_items p.functions) x own.0 in
    let place : x.id.0 ≡ 0 + at.0 + 1 = all_numbered p formed at.0 x at.1 in
    let same : x.id.0 ≡ i.0 = ap (λ (n : ItemId). n.0) own.1 in
    let here : i.0 - 1 ≡ at.0 = omega (arith, place, same) in
    subst (λ (l : List ItemKind). (i.0 - 1 < length l) × (get_or l (i.0 - 1) d ≡ kind_of_act x.act)) (sym (is ∙ kinds_are p.functions))
    (mapped_at (λ (j : Item). kind_of_act j.act) (all_items p.functions) (i.0 - 1) x d (ap (slice_get (all_items p.functions)) here ∙ at.1))

-- and so does what stands before a site
pub change_at : (p : Typed) (bs : List Bool) (n : SiteId) (s : Site) (d : Bool) → bs ≡ (uses_of p.functions).changes → IsSite p s n → (n.0 - 1 < length bs) × (get_or bs (n.0 - 1) d ≡ any_changes s.earlier)
change_at p bs n s d is own =
    subst (λ (l : List Bool). (n.0 - 1 < length l) × (get_or l (n.0 - 1) d ≡ any_changes s.earlier)) (sym (is ∙ changes_are p.functions))
    (mapped_at (λ (s : Site). any_changes s.earlier) (all_sites p) (n.0 - 1) s d (at n.0 own))
  where
    at : (k : ℕ) → numbered (all_sites p) k ≡ Some s → slice_get (all_sites p) (k - 1) ≡ Some s
    at zero h = absurd (cc)
    at (suc k) h = let same : suc k - 1 ≡ k = omega arith in ap (slice_get (all_sites p)) same ∙ h

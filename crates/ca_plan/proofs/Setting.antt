-- Flags of the items that acquire, and the list of them.
use Rattle.std.proofs.Common.{arith, ◌≡◌, ◌<◌, ◌≤◌, ◌+◌, ◌-◌, ℕ, zero, suc, Bool, true, false, List, [], ◌∷◌, ◌++◌, map, length, take, get_or, refl, sym, ap, ◌∙◌, subst, inl, inr, replicate}
use Rattle.std.specs.Prelude.{Contains, ◌↔◌, ◌⊎◌}
use Rattle.std.proofs.lemmas.List.{take_more}
use Rattle.std.proofs.lemmas.List.Elements.{Contains-get_or, Contains-append_left, Contains-append_right, Contains-append_cases}
use Rattle.ca_tree.specs.declared.numbers.ItemId.{ItemId}
use Rattle.ca_reach.specs.Reach.{IsSet}
use Rattle.ca_model.specs.declared.tree.Act.{Act}
use Rattle.ca_model.specs.declared.tree.Item.{Item}
use Rattle.ca_model.specs.Codes.{Typed}
use Rattle.ca_model.specs.Sites.{all_items}
use Rattle.ca_model.specs.Destroying.{has_malloc}
use Rattle.ca_model.specs.Plans.{IsItem, can_acquire}
use Rattle.ca_model.specs.Bounds.{IsBounded}
use Rattle.ca_model.specs.WellFormed.{IsWellFormed}
use Rattle.ca_model.proofs.Members.{in_none, in_one, at_head}
use Rattle.ca_flow.proofs.FunctionItems.{all_numbered, number_within}
use Rattle.std.proofs.lemmas.List.{length-map, length-replicate}
use Rattle.ca_flow.specs.declared.changes.ItemKind.{ItemKind}
use Rattle.ca_flow.specs.Changes.{kind_of_act, kinds_of}
use Rattle.ca_plan.specs.Planning.{AreItems, IsAmong, Sets, AreAcquiring}

abbrev item_id : ℕ → ItemId
item_id n = record { 0 = n }

pub kinds_many : (p : Typed) (kinds : List ItemKind) → kinds ≡ kinds_of (all_items p.functions) → length kinds + 1 ≡ length (all_items p.functions) + 1
kinds_many p kinds is = ap (λ (ks : List ItemKind). length ks + 1) is ∙ ap (λ n. n + 1) (length-map (all_items p.functions) (λ (i : Item). kind_of_act i.act))

module _ (p : Typed) (test : Act → Bool) where
  pub none_put : (f : List Bool) → Sets f f (IsAmong p [] test)
  none_put f m = ((λ is. inl is), λ e. elim e [ inl is ↦ is | inr (h, lt) ↦ absurd (in_none h.0.id h.2) ])

  pub put_turn : (f f' f'' : List Bool) (items : List ItemId) (k : ℕ) (d i : ItemId) (b : Bool) → k < length items → get_or items k d ≡ i → AreItems p items → length f' ≡ length f → Sets f f' (IsAmong p (take k items) test)
      → ((x : Item) → IsItem p x i → b ≡ test x.act) → Sets f' f'' (λ m. (b ≡ true) × (m ≡ i.0)) → Sets f f'' (IsAmong p (take (k + 1) items) test)
  put_turn f f' f'' items k d i b lt read are same before tells sets m =
      subst (λ l. IsSet f'' m ↔ (IsSet f m ⊎ (IsAmong p l test m × (m < length f)))) (sym more) (
        (λ is. elim ((sets m).0 is) [
          | inl old ↦ elim ((before m).0 old) [
            | inl first ↦ inl first
            | inr (h, small) ↦ inr ((h.0, h.1, Contains-append_left (take k items) (i ∷ []) h.0.id h.2, h.3, h.4), small)
          ]
          | inr ((passed, at), small) ↦ inr ((x, (own.0, refl), subst (Contains (take k items ++ i ∷ [])) (sym own.1) (Contains-append_right (take k items) (i ∷ []) i (at_head i [])), sym (tells x own) ∙ passed, ap (λ (j : ItemId). j.0) own.1 ∙ sym at), omega (arith, small, same))
        ]),
        (λ e. (sets m).1 (elim e [
          | inl first ↦ inl ((before m).1 (inl first))
          | inr (h, small) ↦ elim (Contains-append_cases (take k items) (i ∷ []) h.0.id h.2) [
            | inl old ↦ inl ((before m).1 (inr ((h.0, h.1, old, h.3, h.4), small)))
            | inr new ↦
                let is : i ≡ h.0.id = in_one i h.0.id new in
                inr ((tells h.0 (h.1.0, sym is) ∙ h.3, sym h.4 ∙ ap (λ (j : ItemId). j.0) (sym is)), omega (arith, small, same))
          ]
        ])),
      )
    where
      more : take (k + 1) items ≡ take k items ++ i ∷ []
      more = take_more items k d lt ∙ ap (λ x. take k items ++ x ∷ []) read

      listed : Contains items i
      listed = subst (Contains items) read (Contains-get_or items k d lt)

      x : Item
      x = (are i listed).0

      own : IsItem p x i
      own = (are i listed).1

  items_end : (items : List ItemId) (k : ℕ) → length items ≤ k → take k items ≡ items
  items_end [] zero past = refl
  items_end [] (suc k) past = refl
  items_end (x ∷ xs) zero past = absurd (omega (arith, past))
  items_end (x ∷ xs) (suc k) past = ap (λ ys. x ∷ ys) (items_end xs k (omega (arith, past)))

  pub put_end : (f f' : List Bool) (items : List ItemId) (k : ℕ) → length items ≤ k → Sets f f' (IsAmong p (take k items) test) → Sets f f' (IsAmong p items test)
  put_end f f' items k past sets = subst (λ l. Sets f f' (IsAmong p l test)) (items_end items k past) sets

-- things that are read one by one have numbers that fit
module _ (A : Type 0) (number : A → ℕ) where
  abbrev pub Fit : List A → Type 0
  Fit xs = (x : A) → Contains xs x → number x < 4294967296

  pub none_fits : Fit []
  none_fits x c = absurd (in_none x c)

  pub fits_more : (xs : List A) (k : ℕ) (d x : A) → k < length xs → get_or xs k d ≡ x → number x < 4294967296 → Fit (take k xs) → Fit (take (k + 1) xs)
  fits_more xs k d x lt read fits before y c =
      let more : take (k + 1) xs ≡ take k xs ++ x ∷ [] = take_more xs k d lt ∙ ap (λ z. take k xs ++ z ∷ []) read in
      elim (Contains-append_cases (take k xs) (x ∷ []) y (subst (λ l. Contains l y) more c)) [
        | inl old ↦ before y old
        | inr new ↦ subst (λ z. number z < 4294967296) (in_one x y new) fits
      ]

  all_there : (xs : List A) (k : ℕ) → length xs ≤ k → take k xs ≡ xs
  all_there [] zero past = refl
  all_there [] (suc k) past = refl
  all_there (x ∷ xs) zero past = absurd (omega (arith, past))
  all_there (x ∷ xs) (suc k) past = ap (λ ys. x ∷ ys) (all_there xs k (omega (arith, past)))

  pub all_fit : (xs : List A) (k : ℕ) → length xs ≤ k → Fit (take k xs) → Fit xs
  all_fit xs k past before = subst Fit (all_there xs k past) before

-- ---- the list

not_set : (n m : ℕ) → IsSet (replicate n false) m → ⊥
not_set zero m is = absurd (cc)
not_set (suc n) zero is = absurd (cc)
not_set (suc n) (suc m) is = not_set n m is

contains_number : (items : List ItemId) (n : ℕ) → Contains (map (λ i. i.0) items) n → Contains items (item_id n)
contains_number [] n c = absurd (in_none n c)
contains_number (x ∷ xs) n (zero, lt, is) = (0, omega arith, ap item_id is)
contains_number (x ∷ xs) n (suc k, lt, is) =
    let rest = contains_number xs n (k, omega (arith, lt), is) in
    (suc rest.0, let here : rest.0 < length xs = rest.1 in omega (arith, here), rest.2)

number_contained : (items : List ItemId) (i : ItemId) → Contains items i → Contains (map (λ i. i.0) items) i.0
number_contained [] i c = absurd (in_none i c)
number_contained (x ∷ xs) i (zero, lt, is) = (0, omega arith, ap (λ (i : ItemId). i.0) is)
number_contained (x ∷ xs) i (suc k, lt, is) =
    let rest = number_contained xs i (k, omega (arith, lt), is) in
    (suc rest.0, let here : rest.0 < length (map (λ (i : ItemId). i.0) xs) = rest.1 in omega (arith, here), rest.2)

module _ (p : Typed) (formed : IsWellFormed p) (bounded : IsBounded p) where
  fits : (x : Item) → Contains (all_items p.functions) x → (x.id.0 < length (all_items p.functions) + 1) × (x.id.0 < 4294967296)
  fits x own =
      let low : x.id.0 ≤ length (all_items p.functions) = (number_within (all_items p.functions) (all_numbered p formed) x own).1 in
      (omega (arith, low), omega (arith, low, bounded.items))

  listed_so : (n : ℕ) (f g h : List Bool) (before own items : List ItemId) → n ≡ length (all_items p.functions) + 1 → f ≡ replicate n false → length f ≡ n → length g ≡ length f
      → Sets f g (IsAmong p before can_acquire) → Sets g h (IsAmong p own has_malloc)
      → ((n : ℕ) → n < 4294967296 → Contains (map (λ i. i.0) items) n ↔ ((0 ≤ n) × IsSet h (n - 0))) → ((i : ItemId) → Contains items i → i.0 < 4294967296) → AreAcquiring p before own items
  listed_so n f g h before own items size begun long same first second listed small i = (
    (λ c.
        let is : IsSet h i.0 = subst (IsSet h) (let e : i.0 - 0 ≡ i.0 = omega arith in e) ((listed i.0 (small i c)).0 (number_contained items i c)).1 in
        elim ((second i.0).0 is) [
          | inl old ↦ elim ((first i.0).0 old) [
            | inl none ↦ absurd (not_set n i.0 (subst (λ l. IsSet l i.0) begun none))
            | inr (x, lt) ↦ let e : x.0.id ≡ i = ap item_id x.4 in (x.0, (x.1.0, e), inl (x.3, subst (Contains before) e x.2))
          ]
          | inr (x, lt) ↦ let e : x.0.id ≡ i = ap item_id x.4 in (x.0, (x.1.0, e), inr (x.3, subst (Contains own) e x.2))
        ]),
    (λ x.
        let (y, at, passes) = x in
        let number : y.id.0 ≡ i.0 = ap (λ (i : ItemId). i.0) at.1 in
        let range = fits y at.0 in
        let low : y.id.0 < length (all_items p.functions) + 1 = range.0 in
        let high : y.id.0 < 4294967296 = range.1 in
        let is : IsSet h i.0 = elim passes [
          | inl (acquires, c) ↦ (second i.0).1 (inl ((first i.0).1 (inr ((y, (at.0, refl), subst (Contains before) (sym at.1) c, acquires, number), omega (arith, low, number, size, long)))))
          | inr (allocates, c) ↦ (second i.0).1 (inr ((y, (at.0, refl), subst (Contains own) (sym at.1) c, allocates, number), omega (arith, low, number, size, long, same)))
        ] in
        contains_number items i.0 ((listed i.0 (omega (arith, high, number))).1 (omega arith, subst (IsSet h) (let e : i.0 ≡ i.0 - 0 = omega arith in e) is))),
  )

  pub acquiring_listed : (n : ℕ) (f g h : List Bool) (before own items : List ItemId) (read : List Bool) (read' : List ItemId) → n ≡ length (all_items p.functions) + 1 → f ≡ replicate n false → length g ≡ length f
      → Sets f g (IsAmong p before can_acquire) → Sets g h (IsAmong p own has_malloc)
      → read ≡ h → read' ≡ items → ((n : ℕ) → n < 4294967296 → Contains (map (λ i. i.0) items) n ↔ ((0 ≤ n) × IsSet read (n - 0))) → ((i : ItemId) → Contains read' i → i.0 < 4294967296) → AreAcquiring p before own items
  acquiring_listed n f g h before own items read read' size begun same first second flags-is items-is listed' small' =
      listed_so n f g h before own items size begun (ap length begun ∙ length-replicate n false) same first second (subst (λ l. (n : ℕ) → n < 4294967296 → Contains (map (λ (i : ItemId). i.0) items) n ↔ ((0 ≤ n) × IsSet l (n - 0))) flags-is listed')
      (λ i c. small' i (subst (λ l. Contains l i) (sym items-is) c))

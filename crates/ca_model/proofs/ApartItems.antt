-- In a well-formed source two items with one number are one item, and two functions with one first item are one function.
use Rattle.std.proofs.Common.{arith, ◌≡◌, ℕ, suc, ◌+◌, List, [], ◌∷◌, ◌++◌, length, Some, refl, sym, ap, ◌∙◌, subst, inl, inr}
use Rattle.std.specs.Prelude.{Contains, slice_get}
use Rattle.std.proofs.lemmas.Option.{slice_get_read}
use Rattle.std.proofs.lemmas.List.Elements.{Contains-append_left, Contains-append_right}
use Rattle.ca_model.specs.declared.tree.Item.{Item}
use Rattle.ca_model.specs.declared.tree.Function.{Function}
use Rattle.ca_model.specs.Codes.{Typed}
use Rattle.ca_model.specs.Sites.{items_of, all_items}
use Rattle.ca_model.specs.Links.{first_item, Next}
use Rattle.ca_model.specs.WellFormed.{IsWellFormed}
use Rattle.ca_model.proofs.Members.{in_none}
use Rattle.ca_model.proofs.Members.{in_cons}
use Rattle.ca_model.proofs.FlowItems.{function_flows}

-- no two places have one number
abbrev pub AreApart : List Item → Type 0
AreApart [] = Unit {0}
AreApart (x ∷ xs) = ((y : Item) → Contains xs y → x.id.0 ≡ y.id.0 → ⊥) × AreApart xs

pub numbered_apart : (xs : List Item) (n : ℕ) → ((k : ℕ) (i : Item) → slice_get xs k ≡ Some i → i.id.0 ≡ n + k) → AreApart xs
numbered_apart [] n numbered = tt
numbered_apart (x ∷ xs) n numbered = (
  (λ y c same.
      let first : x.id.0 ≡ n + 0 = numbered 0 x refl in
      let later : y.id.0 ≡ n + suc c.0 = numbered (suc c.0) y (slice_get_read xs (length xs) c.0 y refl c.1 (sym c.2)) in
      omega arith),
  numbered_apart xs (suc n) (λ k i is. let h : i.id.0 ≡ n + suc k = numbered (suc k) i is in omega arith),
)

left_apart : (xs ys : List Item) → AreApart (xs ++ ys) → AreApart xs
left_apart [] ys apart = tt
left_apart (x ∷ xs) ys apart = ((λ y c. apart.0 y (Contains-append_left xs ys y c)), left_apart xs ys apart.1)

right_apart : (xs ys : List Item) → AreApart (xs ++ ys) → AreApart ys
right_apart [] ys apart = apart
right_apart (x ∷ xs) ys apart = right_apart xs ys apart.1

sides_apart : (xs ys : List Item) → AreApart (xs ++ ys) → (a b : Item) → Contains xs a → Contains ys b → a.id.0 ≡ b.id.0 → ⊥
sides_apart [] ys apart a b left right same = in_none a left
sides_apart (x ∷ xs) ys apart a b left right same = elim (in_cons x xs a left) [
  | inl is ↦ apart.0 b (Contains-append_right xs ys b right) (ap (λ i. i.id.0) is ∙ same)
  | inr more ↦ sides_apart xs ys apart.1 a b more right same
]

one_item : (xs : List Item) → AreApart xs → (a b : Item) → Contains xs a → Contains xs b → a.id.0 ≡ b.id.0 → a ≡ b
one_item [] apart a b c d same = absurd (in_none a c)
one_item (x ∷ xs) apart a b c d same = elim (in_cons x xs a c) [
  | inl is ↦ elim (in_cons x xs b d) [
    | inl also ↦ sym is ∙ also
    | inr more ↦ absurd (apart.0 b more (ap (λ i. i.id.0) is ∙ same))
  ]
  | inr more ↦ elim (in_cons x xs b d) [
    | inl is ↦ absurd (apart.0 a more (ap (λ i. i.id.0) is ∙ sym same))
    | inr also ↦ one_item xs apart.1 a b more also same
  ]
]

-- items of functions
of_function : (fs : List Function) (f : Function) (i : Item) → Contains fs f → Contains (items_of f) i → Contains (all_items fs) i
of_function [] f i c within = absurd (in_none f c)
of_function (g ∷ fs) f i c within = elim (in_cons g fs f c) [
  | inl is ↦ Contains-append_left (items_of g) (all_items fs) i (subst (λ h. Contains (items_of h) i) (sym is) within)
  | inr more ↦ Contains-append_right (items_of g) (all_items fs) i (of_function fs f i more within)
]

one_function : (fs : List Function) → AreApart (all_items fs) → (f g : Function) (i : Item) → Contains fs f → Contains fs g → Contains (items_of f) i → Contains (items_of g) i → f ≡ g
one_function [] apart f g i c d p q = absurd (in_none f c)
one_function (h ∷ fs) apart f g i c d p q = elim (in_cons h fs f c) [
  | inl is ↦ elim (in_cons h fs g d) [
    | inl also ↦ sym is ∙ also
    | inr more ↦ absurd (sides_apart (items_of h) (all_items fs) apart i i (subst (λ h. Contains (items_of h) i) (sym is) p) (of_function fs g i more q) refl)
  ]
  | inr more ↦ elim (in_cons h fs g d) [
    | inl is ↦ absurd (sides_apart (items_of h) (all_items fs) apart i i (subst (λ h. Contains (items_of h) i) (sym is) q) (of_function fs f i more p) refl)
    | inr also ↦ one_function fs (right_apart (items_of h) (all_items fs) apart) f g i more also p q
  ]
]

pub first_is_own : (f : Function) → Contains (items_of f) (first_item f)
first_is_own f = (function_flows (Contains (items_of f)) f (λ i c. c)).0

module _ (p : Typed) where
  pub first_is_item : (f : Function) → Contains p.functions f → Contains (all_items p.functions) (first_item f)
  first_is_item f c = of_function p.functions f (first_item f) c (first_is_own f)

  pub links_are_items : (i j : Item) → Next p i j → Contains (all_items p.functions) i × Contains (all_items p.functions) j
  links_are_items i j (f, c, l) = (function_flows (Contains (all_items p.functions)) f (λ i within. of_function p.functions f i c within)).1 i j l

  module _ (is : IsWellFormed p) where
    all_apart : AreApart (all_items p.functions)
    all_apart = numbered_apart (all_items p.functions) 1 (λ k i at. let h : i.id.0 ≡ k + 1 = is.items k i at in omega arith)

    pub one_item_a_number : (a b : Item) → Contains (all_items p.functions) a → Contains (all_items p.functions) b → a.id.0 ≡ b.id.0 → a ≡ b
    one_item_a_number = one_item (all_items p.functions) all_apart

    pub one_function_a_first : (f g : Function) → Contains p.functions f → Contains p.functions g → first_item f ≡ first_item g → f ≡ g
    one_function_a_first f g c d same = one_function p.functions all_apart f g (first_item f) c d (first_is_own f) (subst (Contains (items_of g)) (sym same) (first_is_own g))

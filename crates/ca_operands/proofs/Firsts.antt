-- The fault that is left when all are noted is the first.
use Rattle.std.proofs.Common.{◌≡◌, ◌⊎◌, inl, inr, Bool, true, false, List, [], ◌∷◌, Some, None, Option, refl, sym, subst}
use Rattle.std.specs.Prelude.{Contains, MatchOption, if◌then◌else◌}
use Rattle.ca_model.specs.declared.types.TypeFault.{TypeFault}
use Rattle.ca_model.specs.typing.Faults.{is_before, IsFirst}
use Rattle.ca_model.proofs.FirstFaults.{not_before_itself, not_before_through, before_one_way}
use Rattle.ca_model.proofs.Members.{in_cons, in_one, at_head, at_tail}
use Rattle.ca_operands.specs.Noted.{sooner, noted}

-- of x and f the sooner is first, where that is first of the sooner and xs
after_one : (f x s : TypeFault) (xs : List TypeFault) (r : TypeFault) → IsFirst (s ∷ xs) r → ((s ≡ x) × (is_before f x ≡ false)) ⊎ ((s ≡ f) × (is_before x f ≡ false)) → IsFirst (f ∷ x ∷ xs) r
after_one f x s xs r first which = record {
  is_one = elim which [
    | inl h ↦ at_tail f (x ∷ xs) r (subst (λ s. Contains (s ∷ xs) r) h.0 first.is_one)
    | inr h ↦ elim (in_cons f xs r (subst (λ s. Contains (s ∷ xs) r) h.0 first.is_one)) [
      | inl is ↦ subst (Contains (f ∷ x ∷ xs)) is (at_head f (x ∷ xs))
      | inr more ↦ at_tail f (x ∷ xs) r (at_tail x xs r more)
    ]
  ];
  least = λ y at. elim (in_cons f (x ∷ xs) y at) [
    | inl is ↦ subst (λ y. is_before y r ≡ false) is (elim which [
      | inl h ↦ not_before_through f x r h.1 (subst (λ s. is_before s r ≡ false) h.0 (first.least s (at_head s xs)))
      | inr h ↦ subst (λ s. is_before s r ≡ false) h.0 (first.least s (at_head s xs))
    ])
    | inr more ↦ elim (in_cons x xs y more) [
      | inl is ↦ subst (λ y. is_before y r ≡ false) is (elim which [
        | inl h ↦ subst (λ s. is_before s r ≡ false) h.0 (first.least s (at_head s xs))
        | inr h ↦ not_before_through x f r h.1 (subst (λ s. is_before s r ≡ false) h.0 (first.least s (at_head s xs)))
      ])
      | inr rest ↦ first.least y (at_tail s xs y rest)
    ]
  ];
}

which_is : (f x : TypeFault) (b : Bool) → is_before x f ≡ b → (((if b then x else f) ≡ x) × (is_before f x ≡ false)) ⊎ (((if b then x else f) ≡ f) × (is_before x f ≡ false))
which_is f x true h = inl (refl, before_one_way x f h)
which_is f x false h = inr (refl, h)

least_of : (f : TypeFault) (xs : List TypeFault) (r : TypeFault) → noted (Some f) xs ≡ Some r → IsFirst (f ∷ xs) r
least_of f [] r h = let same : f ≡ r = cc in record { is_one = subst (Contains (f ∷ [])) same (at_head f []); least = λ y at. subst (λ y. is_before y r ≡ false) (in_one f y at) (subst (λ r. is_before f r ≡ false) same (not_before_itself f)) }
least_of f (x ∷ xs) r h = after_one f x (sooner (Some f) x) xs r (least_of (sooner (Some f) x) xs r h) (which_is f x (is_before x f) refl)

-- what is left when all faults are noted is the first of them
pub first_of : (xs : List TypeFault) (r : TypeFault) → noted None xs ≡ Some r → IsFirst xs r
first_of [] r h = cc
first_of (x ∷ xs) r h = least_of x xs r h

some_left : (f : TypeFault) (xs : List TypeFault) → noted (Some f) xs ≡ None → ⊥
some_left f [] h = cc
some_left f (x ∷ xs) h = some_left (sooner (Some f) x) xs h

-- and where nothing is left, there is none
pub none_of : (xs : List TypeFault) → noted None xs ≡ None → xs ≡ []
none_of [] h = refl
none_of (x ∷ xs) h = absurd (some_left x xs h)

pub answer_of : (xs : List TypeFault) (r : Option TypeFault) → r ≡ noted None xs → MatchOption r (xs ≡ []) (IsFirst xs)
answer_of xs None h = none_of xs (sym h)
answer_of xs (Some x) h = first_of xs x (sym h)

-- What a search has found, and that it is all in the end.
use Rattle.std.proofs.Common.{◌≡◌, ◌<◌, ℕ, zero, suc, replicate, Bool, true, false, List, [], ◌∷◌, ◌++◌, length, refl, sym, ap, ◌∙◌, subst, inl, inr, arith}
use Rattle.std.specs.Prelude.{Contains, ◌⊎◌, ◌↔◌}
use Rattle.std.proofs.lemmas.List.Elements.{Contains-append_left, Contains-append_right, Contains-append_cases}
use Rattle.std.proofs.lemmas.Option.{slice_get_within}
use Rattle.std.proofs.lemmas.List.{length-replicate}
use Rattle.std.specs.Global.{Vec}
use Rattle.ca_reach.specs.Reach.{Table, row, rows_of, Reached, IsSet, Spreads}
use Rattle.ca_reach.proofs.Spreading.{in_none, in_one}

-- what is found is reached, and closed under links but for what is still to do
pub record Searching (links : Table) (starts : List ℕ) (flags : List Bool) (todo : List ℕ) : Type 0 where
  pub same_length : length flags ≡ length links
  pub sound : (n : ℕ) → IsSet flags n → Reached links starts n
  pub within : (n : ℕ) → Contains todo n → IsSet flags n
  pub has : (n : ℕ) → Contains starts n → n < length links → IsSet flags n
  pub closed : (n : ℕ) → IsSet flags n → Contains todo n ⊎ ((m : ℕ) → Contains (row links n) m → m < length links → IsSet flags m)

module _ (links : Table) (starts : List ℕ) where
  pub begun : (f f' : List Bool) (t' : List ℕ) → length f ≡ length links → ((n : ℕ) → IsSet f n → ⊥) → Spreads f [] f' t' starts → Searching links starts f' t'
  begun f f' t' same none s = record {
    same_length = s.same_length ∙ same;
    sound = λ n is. elim (s.only n is) [
      | inl before ↦ absurd (none n before)
      | inr new ↦ Reached.begins new.0 (let lt = slice_get_within f' n true is in omega (arith, lt, s.same_length, same))
    ];
    within = λ n c. elim (s.todo_only n c) [ inl before ↦ absurd (in_none n before) | inr is ↦ is ];
    has = λ n c lt. s.has n c (subst (λ k. n < k) (sym same) lt);
    closed = λ n is. elim (s.only n is) [ inl before ↦ absurd (none n before) | inr new ↦ inl new.1 ];
  }

  pub turned : (f f' : List Bool) (t t' : List ℕ) (a : ℕ) → Searching links starts f (t ++ a ∷ []) → Spreads f t f' t' (row links a) → Searching links starts f' t'
  turned f f' t t' a h s = record {
    same_length = s.same_length ∙ h.same_length;
    sound = λ n is. elim (s.only n is) [
      | inl before ↦ h.sound n before
      | inr new ↦ Reached.goes (h.sound a (h.within a (Contains-append_right t (a ∷ []) a (0, omega arith, refl)))) new.0 (let lt = slice_get_within f' n true is in omega (arith, lt, s.same_length, h.same_length))
    ];
    within = λ n c. elim (s.todo_only n c) [ inl before ↦ s.kept n (h.within n (Contains-append_left t (a ∷ []) n before)) | inr is ↦ is ];
    has = λ n c lt. s.kept n (h.has n c lt);
    closed = λ n is. elim (s.only n is) [
      | inl before ↦ elim (h.closed n before) [
        | inl open' ↦ elim (Contains-append_cases t (a ∷ []) n open') [
          | inl still ↦ inl (s.todo_kept n still)
          | inr here ↦ inr (λ m c lt. s.has m (subst (λ k. Contains (row links k) m) (sym (in_one a n here)) c) (subst (λ k. m < k) (sym h.same_length) lt))
        ]
        | inr done ↦ inr (λ m c lt. s.kept m (done m c lt))
      ]
      | inr new ↦ inl new.1
    ];
  }

  complete : (f : List Bool) (n : ℕ) → Searching links starts f [] → Reached links starts n → IsSet f n
  complete f n h (Reached.begins c lt) = h.has n c lt
  complete f n h (Reached.goes {n = k} r c lt) = elim (h.closed k (complete f k h r)) [ inl open' ↦ absurd (in_none k open') | inr done ↦ done n c lt ]

  pub ended : (f : List Bool) → Searching links starts f [] → (n : ℕ) → IsSet f n ↔ Reached links starts n
  ended f h n = (h.sound n, complete f n h)

pub none_set : (n m : ℕ) → IsSet (replicate n false) m → ⊥
none_set zero m is = cc
none_set (suc n) zero is = cc
none_set (suc n) (suc m) is = none_set n m is

module _ (links : Table) (starts : List ℕ) where
  pub begun_with : (n : ℕ) (f f' : List Bool) (t t' : List ℕ) → f ≡ replicate n false → n ≡ length links → t ≡ [] → Spreads f t f' t' starts → Searching links starts f' t'
  begun_with n f f' t t' are same empty s =
      begun links starts f f' t' (ap length are ∙ (length-replicate n false ∙ same)) (λ m is. none_set n m (subst (λ g. IsSet g m) are is)) (subst (λ u. Spreads f u f' t' starts) empty s)

  pub turned_with : (f f' : List Bool) (all t t' numbers : List ℕ) (a : ℕ) → all ≡ t ++ a ∷ [] → numbers ≡ row links a → Searching links starts f all → Spreads f t f' t' numbers → Searching links starts f' t'
  turned_with f f' all t t' numbers a are is h s =
      turned links starts f f' t t' a (subst (λ u. Searching links starts f u) are h) (subst (λ ns. Spreads f t f' t' ns) is s)

  pub ended_with : (f : List Bool) (t : List ℕ) → length t ≡ 0 → Searching links starts f t → (n : ℕ) → IsSet f n ↔ Reached links starts n
  ended_with f [] none h = ended links starts f h
  ended_with f (a ∷ t) none h = absurd (omega (arith, none))

pub rows_length : (vs : List (Vec ℕ)) → length (rows_of vs) ≡ length vs
rows_length [] = refl
rows_length (v ∷ vs) = ap suc (rows_length vs)

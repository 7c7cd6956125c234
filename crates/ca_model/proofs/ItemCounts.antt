-- How often an item stands in a list, by its number.
use Rattle.std.proofs.Common.{◌≡◌, ◌≢◌, ◌<◌, ◌≤◌, ℕ, zero, suc, ◌+◌, cond, eqb, List, [], ◌∷◌, ◌++◌, map, Some, None, refl, ap, ◌∙◌, inl, inr, arith}
use Rattle.std.specs.Prelude.{slice_get}
use Rattle.std.proofs.lemmas.Bool.Decides.{eqb_tells}
use Rattle.ca_model.specs.declared.tree.Item.{Item}
use Rattle.ca_model.specs.declared.tree.Stmt.{Stmt}
use Rattle.ca_model.specs.declared.tree.Function.{Function}
use Rattle.ca_model.specs.Sites.{joined, items_in, items_in_all, items_of, all_items}
use Rattle.ca_model.specs.Begun.{EachOnce}

-- whether an item has the number
pub has_number : ℕ → Item → ℕ
has_number m i = cond (eqb i.id.0 m) 1 0

pub number_same : (m : ℕ) (i : Item) → i.id.0 ≡ m → has_number m i ≡ 1
unfolding has_number
number_same m i same =
    elim (eqb_tells i.id.0 m) [ inl (is, e) ↦ ap (λ b. cond b 1 0) is | inr (is, other) ↦ absurd (other same) ]

pub number_other : (m : ℕ) (i : Item) → i.id.0 ≢ m → has_number m i ≡ 0
unfolding has_number
number_other m i other =
    elim (eqb_tells i.id.0 m) [ inl (is, e) ↦ absurd (other e) | inr (is, e) ↦ ap (λ b. cond b 1 0) is ]

abbrev pub times : ℕ → List Item → ℕ
times m [] = 0
times m (i ∷ is) = has_number m i + times m is

pub times_join : (m : ℕ) (is js : List Item) → times m (is ++ js) ≡ times m is + times m js
times_join m [] js = omega arith
times_join m (i ∷ is) js = omega (arith, times_join m is js)

-- an item that is there is counted
counted : (is : List Item) (j : ℕ) (x : Item) → slice_get is j ≡ Some x → 1 ≤ times x.id.0 is
counted [] j x at = cc
counted (i ∷ is) zero x at = let here : i.id.0 ≡ x.id.0 = ap (λ o. elim o [ None ↦ 0 | Some y ↦ y.id.0 ]) at in omega (arith, number_same x.id.0 i here)
counted (i ∷ is) (suc j) x at = omega (arith, counted is j x at)

twice : (is : List Item) (j k : ℕ) (x y : Item) → j < k → slice_get is j ≡ Some x → slice_get is k ≡ Some y → x.id.0 ≡ y.id.0 → 2 ≤ times y.id.0 is
twice [] j k x y lt first second same = cc
twice (i ∷ is) j zero x y lt first second same = absurd (let no : ⊥ = omega (arith, lt) in no)
twice (i ∷ is) zero (suc k) x y lt first second same =
    let here : i.id.0 ≡ x.id.0 = ap (λ o. elim o [ None ↦ 0 | Some z ↦ z.id.0 ]) first in
    omega (arith, number_same y.id.0 i (here ∙ same), counted is k y second)
twice (i ∷ is) (suc j) (suc k) x y lt first second same = omega (arith, twice is j k x y (omega (arith, lt)) first second same)

-- no number is there twice, so no item is
pub each_once : (is : List Item) → ((m : ℕ) → times m is ≤ 1) → EachOnce is
each_once is few j k x y lt first second same = let no : ⊥ = omega (arith, twice is j k x y lt first second same, few y.id.0) in no

abbrev IsNumbered : ℕ → List Item → Type 0
IsNumbered n is = (k : ℕ) (i : Item) → slice_get is k ≡ Some i → i.id.0 ≡ k + (n + 1)

numbered_rest : (n : ℕ) (i : Item) (is : List Item) → IsNumbered n (i ∷ is) → IsNumbered (n + 1) is
numbered_rest n i is numbers k x at = omega (arith, numbers (suc k) x at)

none_below : (n m : ℕ) (is : List Item) → IsNumbered n is → m ≤ n → times m is ≡ 0
none_below n m [] numbers le = refl
none_below n m (i ∷ is) numbers le =
    let here : i.id.0 ≡ 0 + (n + 1) = numbers 0 i refl in
    omega (arith, number_other m i (λ e. let no : ⊥ = omega (arith, here, le, e) in no), none_below (n + 1) m is (numbered_rest n i is numbers) (omega (arith, le)))

-- items that are numbered one after another are there once
pub numbered_once : (n m : ℕ) (is : List Item) → IsNumbered n is → times m is ≤ 1
numbered_once n m [] numbers = omega arith
numbered_once n m (i ∷ is) numbers =
    let here : i.id.0 ≡ 0 + (n + 1) = numbers 0 i refl in
    elim (eqb_tells i.id.0 m) [
      | inl (equal, same) ↦ omega (arith, number_same m i same, none_below (n + 1) m is (numbered_rest n i is numbers) (omega (arith, here, same)))
      | inr (unequal, other) ↦ omega (arith, number_other m i other, numbered_once (n + 1) m is (numbered_rest n i is numbers))
    ]

-- of statements in a row, and of one function among all
pub joined_all : (ss : List Stmt) → joined (map items_in ss) ≡ items_in_all ss
joined_all [] = refl
joined_all (s ∷ ss) = ap (λ is. items_in s ++ is) (joined_all ss)

pub function_counted : (fs : List Function) (k : ℕ) (f : Function) (m : ℕ) → slice_get fs k ≡ Some f → times m (items_of f) ≤ times m (all_items fs)
function_counted [] k f m at = cc
function_counted (g ∷ gs) zero f m at =
    let here : times m (items_of g) ≡ times m (items_of f) = ap (λ o. elim o [ None ↦ 0 | Some h ↦ times m (items_of h) ]) at in
    omega (arith, here, times_join m (items_of g) (all_items gs))
function_counted (g ∷ gs) (suc k) f m at = omega (arith, times_join m (items_of g) (all_items gs), function_counted gs k f m at)

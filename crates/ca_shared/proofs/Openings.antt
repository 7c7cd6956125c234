-- Equal lists of globals.
use Rattle.std.proofs.Common.{◌≡◌, ◌≤◌, ◌+◌, arith, ℕ, Bool, true, List, [], ◌∷◌, refl, sym, ap, ◌∙◌}
use Rattle.std.specs.Prelude.{sum_by, All, ◌&&◌, ◌==◌, ◌↔◌}
use Rattle.std.specs.Bool.{IsTrue}
use Rattle.std.proofs.lemmas.Bool.{and_parts, and_from, eqb-true, eq-eqb}
use lib.Pointwise.{pointwise}
use Rattle.std.proofs.lemmas.List.Sums.{sum_by-cons}
use Rattle.std.proofs.lemmas.List.Elements.{All-nil, All-cons, All-weaker}
use Rattle.ca_model.specs.declared.tree.GlobalStart.{GlobalStart}
use Rattle.ca_model.specs.declared.values.Value.{Value}
use Rattle.ca_model.specs.declared.values.Value.TheVariants as v
use Rattle.ca_model.specs.declared.values.Event.{Event}
use Rattle.ca_model.specs.contracts.tree.GlobalStartPartialEq as start_eq
use Rattle.ca_model.specs.Arith.{same}
use Rattle.ca_model.proofs.Entries.{same_is, same_self}
use Rattle.ca_shared.specs.Histories.{History}

abbrev eq : GlobalStart → GlobalStart → Bool
eq a b = start_eq.TheImpl.eq-value.it a b

eq_is : (c d : ℕ) (x y : Value) → eq (record { cells = c; first = x }) (record { cells = d; first = y }) ≡ ((c == d) && same x y)
eq_is c d (v.Num m) (v.Num n) = refl
eq_is c d (v.Num m) (v.Addr b) = refl
eq_is c d (v.Addr a) (v.Num n) = refl
eq_is c d (v.Addr a) (v.Addr b) = refl

same_start : (a b : GlobalStart) → eq a b ≡ true → a ≡ b
same_start a b h =
    let two = and_parts (a.cells == b.cells) (same a.first b.first) (sym (eq_is a.cells b.cells a.first b.first) ∙ h) in
    let cells : a.cells ≡ b.cells = eqb-true a.cells b.cells two.0 in
    let first : a.first ≡ b.first = same_is a.first b.first two.1 in
    λ i. record { cells = cells i; first = first i }

start_self : (a : GlobalStart) → eq a a ≡ true
start_self a = eq_is a.cells a.cells a.first a.first ∙ and_from (a.cells == a.cells) (same a.first a.first) (eq-eqb a.cells a.cells refl) (same_self a.first)

same_list : (xs ys : List GlobalStart) → pointwise eq xs ys ≡ true → xs ≡ ys
same_list [] [] h = refl
same_list [] (y ∷ ys) h = absurd cc
same_list (x ∷ xs) [] h = absurd cc
same_list (x ∷ xs) (y ∷ ys) h =
    let two = and_parts (eq x y) (pointwise eq xs ys) h in
    let one : x ≡ y = same_start x y two.0 in
    let more : xs ≡ ys = same_list xs ys two.1 in
    λ i. one i ∷ more i

list_self : (xs : List GlobalStart) → pointwise eq xs xs ≡ true
list_self [] = refl
list_self (x ∷ xs) = and_from (eq x x) (pointwise eq xs xs) (start_self x) (list_self xs)

pub opened_so : (h : History) (tr : List Event) (xs gs ys : List GlobalStart) (m n : ℕ) (r : Bool) → record { globals = gs; mutexes = m; trace = tr } ≡ h → xs ≡ gs → m ≡ n → r ≡ pointwise eq xs ys
    → IsTrue r ↔ ((h.globals ≡ ys) × (h.mutexes ≡ n))
opened_so h tr xs gs ys m n r is same count told = (
  λ yes'. (
    sym (ap (λ (k : History). k.globals) is) ∙ (sym same ∙ same_list xs ys (sym told ∙ yes')),
    sym (ap (λ (k : History). k.mutexes) is) ∙ count,
  ),
  λ both. told ∙ (ap (λ l. pointwise eq l ys) (same ∙ (ap (λ (k : History). k.globals) is ∙ both.0)) ∙ list_self ys),
)

-- globals that have few cells together have few each
pub few_each : (gs : List GlobalStart) (n : ℕ) → sum_by (λ (g : GlobalStart). g.cells) gs ≤ n → All (λ (g : GlobalStart). g.cells ≤ n) gs
few_each [] n h = All-nil (λ (g : GlobalStart). g.cells ≤ n)
few_each (g ∷ gs) n h =
    let sum : sum_by (λ (g : GlobalStart). g.cells) (g ∷ gs) ≡ g.cells + sum_by (λ (g : GlobalStart). g.cells) gs = sum_by-cons (λ (g : GlobalStart). g.cells) g gs in
    All-cons (λ (g : GlobalStart). g.cells ≤ n) g gs (omega (arith, sum, h)) (few_each gs n (omega (arith, sum, h)))

pub fewer_each : (gs : List GlobalStart) (n m : ℕ) → n ≤ m → All (λ (g : GlobalStart). g.cells ≤ n) gs → All (λ (g : GlobalStart). g.cells ≤ m) gs
fewer_each gs n m le h = All-weaker (λ (g : GlobalStart). g.cells ≤ n) (λ (g : GlobalStart). g.cells ≤ m) (λ g k. omega (arith, le, k)) gs h

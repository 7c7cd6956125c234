-- A source whose bodies are items one after another is well-formed where tests on lists say so.
use Rattle.std.proofs.Common.{◌≡◌, ℕ, zero, suc, ◌+◌, ◌<◌, Bool, true, false, List, [], ◌∷◌, ◌++◌, length, map, Some, refl, sym, ap, ◌∙◌, subst, inl, inr, arith, length-append}
use Rattle.std.specs.Prelude.{slice_get, nat_eq, ◌&&◌, Contains}
use Rattle.std.proofs.lemmas.Bool.{and_parts, eqb-true}
use Rattle.ca_model.specs.declared.tree.Item.{Item}
use Rattle.ca_model.specs.declared.tree.Function.{Function}
use Rattle.ca_model.specs.declared.tree.Act.TheVariants as act
use Rattle.ca_model.specs.declared.tree.Stmt.{Stmt, out-Stmt, map-Stmt, fold_out-Stmt}
use Rattle.ca_model.specs.declared.tree.Stmt.TheOpen.{Stmt-F}
use Rattle.ca_model.specs.declared.tree.Stmt.TheVariants as s
use Rattle.ca_model.specs.Codes.{Typed}
use Rattle.ca_model.specs.Sites.{items_in_all, items_of, all_items}
use Rattle.ca_model.specs.WellFormed.{placed_step, is_placed, all_placed, IsWellFormed}
use Rattle.ca_model.proofs.Equations.{items_items}
use Rattle.ca_model.proofs.Law.{one_of}
use Rattle.ca_model.proofs.Members.{in_none, in_cons}

-- items are numbered from n on
abbrev pub numbered : ℕ → List Item → Bool
numbered n [] = true
numbered n (i ∷ is) = nat_eq i.id.0 n && numbered (n + 1) is

pub number_at : (n : ℕ) (is : List Item) (k : ℕ) (i : Item) → numbered n is ≡ true → slice_get is k ≡ Some i → i.id.0 ≡ n + k
number_at n [] k i h at = absurd (cc)
number_at n (x ∷ is) zero i h at =
    let here : x.id.0 ≡ n = eqb-true x.id.0 n (and_parts (nat_eq x.id.0 n) _ h).0 in
    let same : x.id.0 ≡ i.id.0 = ap (λ y. y.id.0) (one_of x i at) in
    omega (arith, here, same)
number_at n (x ∷ is) (suc k) i h at = omega (arith, number_at (n + 1) is k i (and_parts (nat_eq x.id.0 n) _ h).1 at)

numbered_join : (n m : ℕ) (xs ys : List Item) → m ≡ n + length xs → numbered n xs ≡ true → numbered m ys ≡ true → numbered n (xs ++ ys) ≡ true
numbered_join n m [] ys is h more = let same : m ≡ n = omega (arith, is) in subst (λ k. numbered k ys ≡ true) same more
numbered_join n m (x ∷ xs) ys is h more =
    let parts = and_parts (nat_eq x.id.0 n) _ h in
    ap (λ b. b && numbered (n + 1) (xs ++ ys)) parts.0 ∙ numbered_join (n + 1) m xs ys (omega (arith, is)) parts.1 more

-- each item stands where it may, outside loops
abbrev pub are_placed : Typed → List Item → Bool
are_placed p is = all_placed (map (λ i. placed_step p (Stmt-F.Item i)) is) false

pub placed_out : (p : Typed) (x : Stmt) (l : Stmt-F Stmt) → out-Stmt x ≡ l → is_placed p x ≡ placed_step p (map-Stmt Stmt (Bool → Bool) (is_placed p) l)
placed_out p x l is = fold_out-Stmt (Bool → Bool) (placed_step p) x ∙ ap (λ y. placed_step p (map-Stmt Stmt (Bool → Bool) (is_placed p) y)) is

pub placed_item : (p : Typed) (i : Item) → is_placed p (s.Item i) ≡ placed_step p (Stmt-F.Item i)
placed_item p i = placed_out p (s.Item i) _ (s.outs-Item i)

pub placed_items : (p : Typed) (is : List Item) → map (is_placed p) (map s.Item is) ≡ map (λ i. placed_step p (Stmt-F.Item i)) is
placed_items p [] = refl
placed_items p (i ∷ is) = ap (λ x. x ∷ map (is_placed p) (map s.Item is)) (placed_item p i) ∙ ap (λ xs. placed_step p (Stmt-F.Item i) ∷ xs) (placed_items p is)

-- function number k, whose body is these items, numbered from n on
pub record IsStraight (p : Typed) (n k : ℕ) (is : List Item) (f : Function) : Type 0 where
  pub body : f.body ≡ map s.Item is
  pub id : f.id.0 ≡ k
  pub numbers : numbered n (is ++ f.close ∷ []) ≡ true
  pub placed : are_placed p is ≡ true
  pub close : f.close.act ≡ act.Close

abbrev pub AreStraight : Typed → ℕ → ℕ → List Function → Type 0
AreStraight p n k [] = Unit {0}
AreStraight p n k (f ∷ fs) = (is : List Item) × IsStraight p n k is f × AreStraight p (n + length is + 1) (k + 1) fs

all_numbered : (p : Typed) (n k : ℕ) (fs : List Function) → AreStraight p n k fs → numbered n (all_items fs) ≡ true
all_numbered p n k [] h = refl
all_numbered p n k (f ∷ fs) (is, one, more) =
    let items : items_of f ≡ is ++ f.close ∷ [] = ap (λ xs. items_in_all xs ++ f.close ∷ []) one.body ∙ ap (λ xs. xs ++ f.close ∷ []) (items_items is) in
    let m : ℕ = n + length is + 1 in
    subst (λ xs. numbered n (xs ++ all_items fs) ≡ true) (sym items)
    (numbered_join n m (is ++ f.close ∷ []) (all_items fs) (omega (arith, length-append is (f.close ∷ []))) one.numbers (all_numbered p m (k + 1) fs more))

function_at : (p : Typed) (n k : ℕ) (fs : List Function) (j : ℕ) (f : Function) → AreStraight p n k fs → slice_get fs j ≡ Some f → f.id.0 ≡ k + j
function_at p n k [] j f h at = absurd (cc)
function_at p n k (g ∷ fs) zero f (is, one, more) at = let same : g.id.0 ≡ f.id.0 = ap (λ x. x.id.0) (one_of g f at) in omega (arith, one.id, same)
function_at p n k (g ∷ fs) (suc j) f (is, one, more) at = omega (arith, function_at p (n + length is + 1) (k + 1) fs j f more at)

each : (p : Typed) (n k : ℕ) (fs : List Function) (f : Function) → AreStraight p n k fs → Contains fs f → (m j : ℕ) × (is : List Item) × IsStraight p m j is f
each p n k [] f h c = absurd (in_none f c)
each p n k (g ∷ fs) f (is, one, more) c = elim (in_cons g fs f c) [
  | inl same ↦ (n, k, is, subst (IsStraight p n k is) same one)
  | inr later ↦ each p (n + length is + 1) (k + 1) fs f more later
]

pub straight_is_formed : (p : Typed) → AreStraight p 1 0 p.functions → p.main.0 < length p.functions → IsWellFormed p
straight_is_formed p h main = record {
  items = λ k i at. omega (arith, number_at 1 (all_items p.functions) k i (all_numbered p 1 0 p.functions h) at);
  functions = λ k f at. omega (arith, function_at p 1 0 p.functions k f h at);
  main = main;
  placed = λ f c.
      let one = each p 1 0 p.functions f h c in
      ap (λ b. all_placed (map (is_placed p) b) false) one.3.body ∙ (ap (λ xs. all_placed xs false) (placed_items p one.2) ∙ one.3.placed);
  closed = λ f c. (each p 1 0 p.functions f h c).3.close;
}

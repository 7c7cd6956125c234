-- The number behind the last site of an item, in a list of items that are numbered in order.
use Rattle.std.proofs.Common.{◌≡◌, ℕ, suc, ◌+◌, List, [], ◌∷◌, Some, refl, sym, ap, ◌∙◌, inl, inr, arith}
use Rattle.std.specs.Prelude.{Contains, cond, slice_get}
use Rattle.std.proofs.lemmas.Bool.{eq-eqb, ne_eqb}
use Rattle.ca_model.specs.declared.tree.Item.{Item}
use Rattle.ca_model.specs.Codes.{Typed}
use Rattle.ca_model.specs.Sites.{all_items, act_sites, first_from}
use Rattle.ca_model.specs.WellFormed.{IsWellFormed}
use Rattle.ca_model.proofs.Members.{in_none, in_cons}
use Rattle.ca_tables.specs.Counted.{behind_each}

abbrev AreNumbered : ℕ → List Item → Type 0
AreNumbered from is = (k : ℕ) (i : Item) → slice_get is k ≡ Some i → i.id.0 ≡ from + k

abbrev IsAt : ℕ → List ℕ → Item → ℕ → Type 0
IsAt from behind i n = (k : ℕ) × (i.id.0 ≡ from + k) × (slice_get behind k ≡ Some n)

behind_at : (is : List Item) (n m from : ℕ) (i : Item) → m ≡ n + 1 → AreNumbered from is → Contains is i → IsAt from (behind_each m is) i (first_from n is i.id + act_sites i.act)
behind_at [] n m from i e numbered c = absurd (in_none i c)
behind_at (x ∷ xs) n m from i e numbered c = elim (in_cons x xs i c) [
  | inl same ↦
      let first : first_from n (x ∷ xs) i.id ≡ m = ap (λ b. cond b (n + 1) (first_from (n + act_sites x.act) xs i.id)) (eq-eqb x.id.0 i.id.0 (ap (λ z. z.id.0) same)) ∙ sym e in
      (0, ap (λ z. z.id.0) (sym same) ∙ numbered 0 x refl, ap Some (ap (λ z. m + act_sites z.act) same ∙ ap (λ k. k + act_sites i.act) (sym first)))
  | inr more ↦
      let later : IsAt (from + 1) (behind_each (m + act_sites x.act) xs) i (first_from (n + act_sites x.act) xs i.id + act_sites i.act) =
      behind_at xs (n + act_sites x.act) (m + act_sites x.act) (from + 1) i (omega (arith, e)) (λ k j at. let h : j.id.0 ≡ from + suc k = numbered (suc k) j at in omega (arith, h)) more in
      let here : x.id.0 ≡ from + 0 = numbered 0 x refl in
      let first : first_from n (x ∷ xs) i.id ≡ first_from (n + act_sites x.act) xs i.id = ap (λ b. cond b (n + 1) (first_from (n + act_sites x.act) xs i.id)) (ne_eqb x.id.0 i.id.0 (λ h. let no' : ⊥ = omega (arith, later.1, here, h) in no')) in
      (suc later.0, omega (arith, later.1), later.2 ∙ ap Some (ap (λ k. k + act_sites i.act) (sym first)))
]

pub stands_behind : (p : Typed) (behind : List ℕ) (i : Item) → IsWellFormed p → behind ≡ 1 ∷ behind_each 1 (all_items p.functions) → Contains (all_items p.functions) i
    → slice_get behind i.id.0 ≡ Some (first_from 0 (all_items p.functions) i.id + act_sites i.act)
stands_behind p behind i w is here =
    let at = behind_at (all_items p.functions) 0 1 1 i refl (λ k j h. let e : j.id.0 ≡ k + 1 = w.items k j h in omega (arith, e)) here in
    let place : i.id.0 ≡ suc at.0 = omega (arith, at.1) in
    ap (λ xs. slice_get xs i.id.0) is ∙ ap (slice_get (1 ∷ behind_each 1 (all_items p.functions))) place ∙ at.2

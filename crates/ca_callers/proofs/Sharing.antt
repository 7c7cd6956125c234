-- An item with one link back, from an item that doesn't destroy, has that item's points.
use Rattle.std.proofs.Common.{◌≡◌, ℕ, true, false, refl, sym, ap, ◌∙◌, subst, inl, inr}
use Rattle.std.specs.Prelude.{◌⊎◌, ◌↔◌}
use Rattle.ca_model.specs.declared.tree.Item.{Item}
use Rattle.ca_model.specs.declared.tree.Function.{Function}
use Rattle.ca_model.specs.Codes.{Typed}
use Rattle.ca_model.specs.Links.{Next, first_item}
use Rattle.ca_model.specs.Destroying.{destroys}
use Rattle.ca_model.specs.Paths.{Stop, Goes, OnPath, begins, goes, PointAfter, PointAtEntry}
use Rattle.ca_callers.specs.Runs.{IsInRun}

module _ (p : Typed) (depth : ℕ) (i j : Item) (is : IsInRun p i j) where
  over : (a b : Stop) → Goes p depth b a → (b ≡ (i, 0)) ⊎ OnPath p depth j b → OnPath p depth j a
  over a b go (inr on) = goes on go
  over a b (inl (next, d, k)) (inl at) =
      let item : j ≡ a.0 = sym (is.only a.0 (subst (Next p a.0) (ap (λ (x : Stop). x.0) at) next)) in
      let level : 0 ≡ a.1 = sym (k ∙ ap (λ (x : Stop). x.1) at) in
      subst (λ n. OnPath p depth j (a.0, n)) level (subst (λ x. OnPath p depth j (x, 0)) item begins)
  over a b (inr (f, of, first, threads, call, lt, k)) (inl at) = absurd (is.inner f of (first ∙ ap (λ (x : Stop). x.0) at))

  pub on_after : (a : Stop) → OnPath p depth i a → (a ≡ (i, 0)) ⊎ OnPath p depth j a
  on_after a begins = inl refl
  on_after a (goes {a = b} on go) = inr (over a b go (on_after b on))

  pub on_before : (a : Stop) → OnPath p depth j a → OnPath p depth i a
  on_before a begins = goes begins (inl (is.next, is.harmless, refl))
  on_before a (goes {a = b} on go) = goes (on_before b on) go

  pub same_after : (k : Item) → PointAfter p depth i k ↔ PointAfter p depth j k
  same_after k = (
    (λ h. elim (on_after h.0 h.1) [
      | inl at ↦ let same : k ≡ j = is.only k (subst (Next p k) (ap (λ (x : Stop). x.0) at) h.2) in absurd (never (sym h.3 ∙ (ap (λ (x : Item). destroys x.act) same ∙ is.harmless)))
      | inr on ↦ (h.0, on, h.2, h.3)
    ]),
    (λ h. (h.0, on_before h.0 h.1, h.2, h.3)),
  )
    where
      never : true ≡ false → ⊥
      never e = cc

  pub same_entries : (f : Function) → PointAtEntry p depth i f ↔ PointAtEntry p depth j f
  same_entries f = (
    (λ h. elim (on_after (first_item f, h.1.0) h.1.1) [
      | inl at ↦ absurd (is.inner f h.0 (ap (λ (x : Stop). x.0) at))
      | inr on ↦ (h.0, (h.1.0, on, h.1.2))
    ]),
    (λ h. (h.0, (h.1.0, on_before (first_item f, h.1.0) h.1.1, h.1.2))),
  )

-- The threads of a group, and those that are enabled.
use Rattle.std.proofs.Common.{◌≡◌, ◌<◌, ◌≤◌, ◌+◌, ℕ, Bool, true, false, List, [], ◌∷◌, ◌++◌, length, refl, sym, subst, arith, inl, inr, get_or}
use Rattle.std.specs.Prelude.{IsTrue, not, Contains, All, ◌⊎◌, ◌↔◌}
use Rattle.std.specs.List.Sorted.{IsStrictlyIncreasing}
use Rattle.std.proofs.lemmas.Bool.{cases_lt}
use Rattle.std.proofs.lemmas.Grind.{common_steps}
use Rattle.std.proofs.lemmas.List.Elements.{Contains-append_left, Contains-append_right, Contains-append_cases}
use Rattle.ca_model.specs.Codes.{code_of}
use Rattle.ca_model.specs.Hardened.{Hardened}
use Rattle.ca_model.specs.Machine.{State}
use Rattle.ca_model.specs.declared.values.EventAct.{EventAct}
use Rattle.ca_model.specs.Runner.{AreEnabled, IsEnabled, Comes, since_last}
use Rattle.ca_model.proofs.Members.{in_none, in_one, at_head}
use Rattle.ca_machine.specs.Machines.{Traced}
use Rattle.ca_machine.specs.Coming.{IsStatusOf}
use Rattle.ca_machine.specs.declared.coming.Status.{Status}
use Rattle.ca_machine.specs.declared.coming.Status.TheVariants as status
use Rattle.ca_machine.specs.Runs.{Passes, AreBelow}

pub up_push : (xs : List ℕ) (t : ℕ) → IsStrictlyIncreasing xs → All (λ u. u < t) xs → IsStrictlyIncreasing (xs ++ t ∷ [])
up_push xs t up below = λ k lt. grind (arith, common_steps, up k, below k 0)

pub below_push : (xs : List ℕ) (t : ℕ) → All (λ u. u < t) xs → All (λ u. u < t + 1) (xs ++ t ∷ [])
below_push xs t below = λ k d lt. grind (arith, common_steps, below k d)

pub below_later : (xs : List ℕ) (t : ℕ) → All (λ u. u < t) xs → All (λ u. u < t + 1) xs
below_later xs t below = λ k d lt. let h : get_or xs k d < t = below k d lt in omega arith

pub below_or : (t n : ℕ) → t < n + 1 → (t < n) ⊎ (t ≡ n)
below_or t n lt = elim (cases_lt t n) [ inl h ↦ inl h | inr h ↦ inr (omega (arith, h)) ]

-- by what a thread may do
module _ (events patience : ℕ) (m : Traced) (s : State Hardened) (t : ℕ) where
  abbrev Is : Status → Type 0
  Is x = IsStatusOf (code_of m.source m.plan) events patience s t x

  pub rests_passes : (late : Bool) → Is status.Rests → Passes events patience m s late t → ⊥
  rests_passes false st (inl w) = st.0 w
  rests_passes false st (inr w) = st.1 w.0
  rests_passes true st w = st.1 w

  moves_early : Is status.Moves → Passes events patience m s false t
  moves_early st = inl st.0

  moves_late : Is status.Moves → Passes events patience m s true t → ⊥
  moves_late st w = st.1 w

  pub moves_passes : (late : Bool) → Is status.Moves → IsTrue (not late) ↔ Passes events patience m s late t
  moves_passes false st = ((λ e. moves_early st), (λ w. refl))
  moves_passes true st = ((λ e. absurd cc), (λ w. absurd (moves_late st w)))

  pub late_passes : Is status.TimesOut → Passes events patience m s true t
  late_passes st = st.1

  pub waited_passes : Is status.TimesOut → patience ≤ since_last 0 t m.trace → Passes events patience m s false t
  waited_passes st le = inr (st.1, le)

  pub early_passes : Is status.TimesOut → Passes events patience m s false t → patience ≤ since_last 0 t m.trace
  early_passes st (inl w) = absurd (st.0 w)
  early_passes st (inr w) = w.1

  -- an enabled thread has an entry
  pub enabled_entry : IsEnabled (code_of m.source m.plan) events patience s m.trace t → (a : EventAct) × (new : State Hardened) × Comes (code_of m.source m.plan) events patience s t a new
  enabled_entry (inl (inl w)) = (w.0, w.1, w.2)
  enabled_entry (inl (inr w)) = (w.0.0, w.0.1, w.0.2)
  enabled_entry (inr w) = (w.1.0, w.1.1, w.1.2)

module _ (events patience : ℕ) (m : Traced) (s : State Hardened) (late : Bool) (n : ℕ) (list : List ℕ) (so : AreBelow events patience m s late n list) where
  pub one_in : Passes events patience m s late n → AreBelow events patience m s late (n + 1) (list ++ n ∷ [])
  one_in here t = (
    (λ c. elim (Contains-append_cases list (n ∷ []) t c) [
      | inl a ↦ let b = (so t).0 a in (omega (arith, b.0), b.1)
      | inr a ↦ let e : t ≡ n = is_head a in (omega (arith, e), subst (Passes events patience m s late) (sym e) here)
    ]),
    (λ h. elim (below_or t n h.0) [
      | inl lt ↦ Contains-append_left list (n ∷ []) t ((so t).1 (lt, h.1))
      | inr e ↦ subst (Contains (list ++ n ∷ [])) (sym e) (Contains-append_right list (n ∷ []) n (at_head n []))
    ]),
  )
    where
      is_head : {t : ℕ} → Contains (n ∷ []) t → t ≡ n
      is_head {t} a = sym (in_one n t a)

  pub none_in : (Passes events patience m s late n → ⊥) → AreBelow events patience m s late (n + 1) list
  none_in no' t = (
    (λ c. let b = (so t).0 c in (omega (arith, b.0), b.1)),
    (λ h. elim (below_or t n h.0) [
      | inl lt ↦ (so t).1 (lt, h.1)
      | inr e ↦ absurd (no' (subst (Passes events patience m s late) e h.1))
    ]),
  )

module _ (events patience : ℕ) (m : Traced) (s : State Hardened) where
  there : (late : Bool) (t : ℕ) → Passes events patience m s late t → t < s.shared.threads
  there false t (inl h) = h.2.step.legal.there
  there false t (inr h) = h.0.2.step.legal.there
  there true t h = h.2.step.legal.there

  member : (xs : List ℕ) → 0 < length xs → (x : ℕ) × Contains xs x
  member [] lt = absurd (omega arith)
  member (x ∷ xs) lt = (x, at_head x xs)

  pub ready_enabled : (list : List ℕ) → IsStrictlyIncreasing list → AreBelow events patience m s false s.shared.threads list → 0 < length list → AreEnabled (code_of m.source m.plan) events patience s m.trace list
  ready_enabled list up so some = record {
    ascend = up;
    exactly = λ t. (
      (λ c. inl ((so t).0 c).1),
      (λ e. elim e [
        | inl r ↦ (so t).1 (there false t r, r)
        | inr l ↦ let x = member list some in absurd (l.0 x.0 ((so x.0).0 x.1).1)
      ]),
    );
  }

  none_ready : (list : List ℕ) → AreBelow events patience m s false s.shared.threads list → length list ≡ 0 → (t : ℕ) → Passes events patience m s false t → ⊥
  none_ready [] so none t r = in_none t ((so t).1 (there false t r, r))
  none_ready (x ∷ xs) so none t r = omega arith

  pub late_enabled : (list late : List ℕ) → AreBelow events patience m s false s.shared.threads list → length list ≡ 0 → IsStrictlyIncreasing late → AreBelow events patience m s true s.shared.threads late → AreEnabled (code_of m.source m.plan) events patience s m.trace late
  late_enabled list late first none up so = record {
    ascend = up;
    exactly = λ t. (
      (λ c. inr (none_ready list first none, ((so t).0 c).1)),
      (λ e. elim e [
        | inl r ↦ absurd (none_ready list first none t r)
        | inr l ↦ (so t).1 (there true t l.1, l.1)
      ]),
    );
  }

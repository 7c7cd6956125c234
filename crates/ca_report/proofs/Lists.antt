-- The lines of the threads that are left.
use Rattle.std.proofs.Common.{◌≡◌, ◌≤◌, ◌+◌, ℕ, zero, suc, true, false, cond, List, [], ◌∷◌, ◌++◌, length, drop, map, Some, refl, sym, ap, ◌∙◌, append_assoc, add-one, arith}
use Rattle.std.specs.Prelude.{slice_get}
use Rattle.std.specs.FinSet as set
use Rattle.ca_model.specs.Hardened.{Hardened}
use Rattle.ca_model.specs.Machine.{Rules, State}
use Rattle.ca_model.specs.Reports.{wait_line, waits_from}
use Rattle.ca_model.proofs.Law.{one_of}

drop_at : {A : Type 0} (xs : List A) (t : ℕ) (x : A) → slice_get xs t ≡ Some x → drop t xs ≡ x ∷ drop (suc t) xs
drop_at [] t x e = absurd cc
drop_at (y ∷ ys) zero x e = ap (λ z. z ∷ ys) (one_of y x e)
drop_at (y ∷ ys) (suc t) x e = drop_at ys t x e

pub none_left : {A : Type 0} (xs : List A) (t : ℕ) → length xs ≤ t → drop t xs ≡ []
none_left [] zero le = refl
none_left [] (suc t) le = refl
none_left (x ∷ xs) zero le = absurd (omega arith)
none_left (x ∷ xs) (suc t) le = none_left xs t (omega arith)

mapped : {A B : Type 0} (f : A → B) (xs : List A) (x : A) → map f (xs ++ x ∷ []) ≡ map f xs ++ f x ∷ []
mapped f [] x = refl
mapped f (y ∷ ys) x = ap (λ z. f y ∷ z) (mapped f ys x)

module _ (r : Rules Hardened) (s : State Hardened) (t : ℕ) (h : Hardened) (at : slice_get s.threads t ≡ Some h) where
  step : waits_from r s.shared t (drop t s.threads) ≡ cond (set.contains s.shared.ended t) (waits_from r s.shared (t + 1) (drop (t + 1) s.threads)) (wait_line s.shared t (r.want h) ∷ waits_from r s.shared (t + 1) (drop (t + 1) s.threads))
  step = ap (waits_from r s.shared t) (drop_at s.threads t h at) ∙ ap (λ n. cond (set.contains s.shared.ended t) (waits_from r s.shared (t + 1) (drop n s.threads)) (wait_line s.shared t (r.want h) ∷ waits_from r s.shared (t + 1) (drop n s.threads))) (sym (add-one t))

  module _ (whole before : List (List ℕ)) (done : before ++ waits_from r s.shared t (drop t s.threads) ≡ whole) where
    pub one_ended : set.contains s.shared.ended t ≡ true → before ++ waits_from r s.shared (t + 1) (drop (t + 1) s.threads) ≡ whole
    one_ended is = ap (λ l. before ++ l) (sym (step ∙ ap (λ b. cond b (waits_from r s.shared (t + 1) (drop (t + 1) s.threads)) (wait_line s.shared t (r.want h) ∷ waits_from r s.shared (t + 1) (drop (t + 1) s.threads))) is)) ∙ done

    pub one_waits : (line : List ℕ) → line ≡ wait_line s.shared t (r.want h) → set.contains s.shared.ended t ≡ false → (before ++ line ∷ []) ++ waits_from r s.shared (t + 1) (drop (t + 1) s.threads) ≡ whole
    one_waits line e is =
        append_assoc before (line ∷ []) (waits_from r s.shared (t + 1) (drop (t + 1) s.threads))
        ∙ (ap (λ x. before ++ (x ∷ waits_from r s.shared (t + 1) (drop (t + 1) s.threads))) e
        ∙ (ap (λ l. before ++ l) (sym (step ∙ ap (λ b. cond b (waits_from r s.shared (t + 1) (drop (t + 1) s.threads)) (wait_line s.shared t (r.want h) ∷ waits_from r s.shared (t + 1) (drop (t + 1) s.threads))) is)) ∙ done))

pub pushed : {A B : Type 0} (f : A → B) (xs ys : List A) (x : A) → ys ≡ xs ++ x ∷ [] → map f ys ≡ map f xs ++ f x ∷ []
pushed f xs ys x e = ap (map f) e ∙ mapped f xs x

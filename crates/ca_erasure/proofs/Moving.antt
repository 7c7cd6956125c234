-- Where the threads of a state stand after a step; places and heads of lists.
use Rattle.std.proofs.Common.{◌≡◌, ◌≢◌, ℕ, zero, suc, List, [], ◌∷◌, Some, refl, ap, ◌∙◌}
use Rattle.std.specs.Prelude.{slice_get, slice_set}
use Rattle.ca_model.specs.declared.values.Event.{Event}
use Rattle.ca_model.specs.Machine.{Rules, State, Step}
use Rattle.ca_model.proofs.Steps.{get_left}

-- a place of a list that is set
pub set_here : {A : Type 0} (xs : List A) (t : ℕ) (x y : A) → slice_get xs t ≡ Some x → slice_get (slice_set xs t y) t ≡ Some y
set_here [] t x y h = cc
set_here (z ∷ xs) zero x y h = refl
set_here (z ∷ xs) (suc t) x y h = set_here xs t x y h

pub set_there : {A : Type 0} (xs : List A) (t q : ℕ) (y : A) → q ≢ t → slice_get (slice_set xs t y) q ≡ slice_get xs q
set_there [] t q y ne = refl
set_there (z ∷ xs) zero zero y ne = absurd (ne refl)
set_there (z ∷ xs) zero (suc q) y ne = refl
set_there (z ∷ xs) (suc t) zero y ne = refl
set_there (z ∷ xs) (suc t) (suc q) y ne = set_there xs t q y (λ e. ne (ap suc e))

-- the first of a list, and what follows it
pub head_of : {A : Type 0} (x y : A) (xs ys : List A) → x ∷ xs ≡ y ∷ ys → x ≡ y
head_of x y xs ys e = cc

pub tail_of : {A : Type 0} (x y : A) (xs ys : List A) → x ∷ xs ≡ y ∷ ys → xs ≡ ys
tail_of x y xs ys e = cc

-- the thread that makes an entry, and the others
module _ {T : Type 0} (r : Rules T) where
  pub stands_after : (s mid : State T) (e : Event) (st : Step r s e mid) → slice_get mid.threads e.thread ≡ Some st.after
  stands_after s mid e st = ap (λ ts. slice_get ts e.thread) st.threads ∙ get_left (slice_set s.threads e.thread st.after) _ e.thread st.after (set_here s.threads e.thread st.before st.after st.stands)

  pub others_stay : (s mid : State T) (e : Event) (st : Step r s e mid) (q : ℕ) (x : T) → q ≢ e.thread → slice_get s.threads q ≡ Some x → slice_get mid.threads q ≡ Some x
  others_stay s mid e st q x ne at = ap (λ ts. slice_get ts q) st.threads ∙ get_left (slice_set s.threads e.thread st.after) _ q x (set_there s.threads e.thread q st.after ne ∙ at)

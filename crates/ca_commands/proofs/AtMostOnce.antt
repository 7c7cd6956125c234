-- What stands there at most once, and names by their places.
use Rattle.std.proofs.Common.{◌≡◌, ℕ, List, [], ◌∷◌, Option, Some, None, refl, slice_get}
use Rattle.ca_commands.specs.Words.{IsRead}
use Rattle.ca_commands.specs.Gathering.{list_of}

pub not_twice : {A : Type 0} (P : List ℕ → A → Type 0) (vs : List (List ℕ)) → ((t : Option (List ℕ)) → vs ≡ list_of t → ⊥) → (o : Option A) → IsRead P vs o → ⊥
not_twice P [] twice o is = twice None refl
not_twice P (t ∷ []) twice o is = twice (Some t) refl
not_twice P (t ∷ u ∷ vs) twice None is = is
not_twice P (t ∷ u ∷ vs) twice (Some x) is = is

pub one_of : (ns : List (List ℕ)) (a : List ℕ) → slice_get ns 0 ≡ Some a → slice_get ns 1 ≡ None → ns ≡ a ∷ []
one_of [] a first none = absurd cc
one_of (n ∷ []) a first none = let same : n ≡ a = cc in cc
one_of (n ∷ m ∷ ns) a first none = absurd cc

pub two_of : (ns : List (List ℕ)) (a b : List ℕ) → slice_get ns 0 ≡ Some a → slice_get ns 1 ≡ Some b → slice_get ns 2 ≡ None → ns ≡ a ∷ b ∷ []
two_of [] a b first second none = absurd cc
two_of (n ∷ []) a b first second none = absurd cc
two_of (n ∷ m ∷ []) a b first second none = let same : n ≡ a = cc in let other : m ≡ b = cc in cc
two_of (n ∷ m ∷ k ∷ ns) a b first second none = absurd cc

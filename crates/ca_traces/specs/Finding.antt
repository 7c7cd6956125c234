-- What a reader of a part of a text answers.
use Rattle.std.specs.Prelude.{◌≡◌, ℕ, ◌==◌, Bool, true, not, List, ◌∷◌, ◌++◌, Option, Some, None}
use Rattle.std.specs.List.{list_all}

-- one that has the property, or nothing where there is none
abbrev pub Finds : {X : Type 0} → (X → Type 0) → Option X → Type 0
Finds P (Some x) = P x
Finds P None = (x : _) → P x → ⊥

-- whether no byte of the text is this one
abbrev pub lacks : ℕ → List ℕ → Bool
lacks c text = list_all (λ b. not (b == c)) text

-- the text is a front, the first byte of this kind, and a rest
abbrev pub IsCut : ℕ → List ℕ → List ℕ → List ℕ → Type 0
IsCut c text front rest = (lacks c front ≡ true) × (text ≡ front ++ c ∷ rest)

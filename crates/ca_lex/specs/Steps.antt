-- What one turn of the scanner finds at the front of a text.
use Rattle.std.specs.Prelude.{◌≡◌, ◌≤◌, ◌<◌, ℕ, Bool, false, List, ◌∷◌, length, take, drop}
use Rattle.ca_tree.specs.declared.text.Pos.{Pos}
use Rattle.ca_tree.specs.Places.{after}
use Rattle.ca_tree.specs.Tokens.{is_blank}
use Rattle.ca_tree.specs.Lexed.{BeginsComment, IsDropped, IsSkipped, IsToken, IsWrong}
use Rattle.ca_lex.specs.declared.steps.Step.{Step}
use Rattle.ca_lex.specs.declared.steps.Step.TheVariants as step

abbrev pub IsCut : List ℕ → ℕ → Type 0
IsCut text len = (0 < len) × (len ≤ length text)

abbrev pub IsStep : Bool → List ℕ → Step → Type 0
IsStep fresh text (step.Skipped len) = IsCut text len × IsSkipped fresh text (take len text) (drop len text)
IsStep fresh text (step.Token len word) = IsCut text len × IsToken fresh text word (take len text) (drop len text)
IsStep fresh text (step.Wrong at kind) = (at ≤ length text) × ((p : Pos) → IsWrong p text (record { pos = after p (take at text); kind = kind }))

-- nothing that is skipped begins a text
pub record BeginsToken (fresh : Bool) (text : List ℕ) : Type 0 where
  pub no_blank : (b : ℕ) (more : List ℕ) → text ≡ b ∷ more → is_blank b ≡ false
  pub no_comment : BeginsComment text → ⊥
  pub not_dropped : IsDropped fresh text → ⊥

-- what is found where nothing is skipped
abbrev pub IsTokenStep : List ℕ → Step → Type 0
IsTokenStep text s = (fresh : Bool) → BeginsToken fresh text → IsStep fresh text s

-- The words of a text, without their places.
use Rattle.std.specs.Prelude.{◌≡◌, ℕ, Bool, List, map}
use Rattle.ca_tree.specs.declared.text.Pos.{Pos}
use Rattle.ca_tree.specs.declared.token.Word.{Word}
use Rattle.ca_tree.specs.declared.token.Token.{Token}
use Rattle.ca_tree.specs.Lexed.{Lexed}

abbrev pub words : List Token → List Word
words ts = map (λ t. t.word) ts

-- the words of a text, at whichever place it begins
abbrev pub HasWords : Bool → List ℕ → List Word → Type 0
HasWords fresh text ws = (p : Pos) → (ts : List Token) × Lexed fresh p text ts × (words ts ≡ ws)

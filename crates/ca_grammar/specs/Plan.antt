-- How a reader goes, one token after another.
use Rattle.std.specs.Prelude.{ℕ, List, [], ◌∷◌, ◌++◌, length, Option, Some}
use Rattle.ca_tree.specs.declared.text.Pos.{Pos}
use Rattle.ca_grammar.specs.declared.faults.Count.{Count}
use Rattle.ca_tree.specs.declared.counted.Counted.{Counted}
use Rattle.ca_tree.specs.declared.counted.Counted.TheVariants.{NameBytes}
use Rattle.ca_grammar.specs.Words.{Class, Of}
use Rattle.ca_grammar.specs.Limits.{Depth, Firm}
use Rattle.ca_grammar.specs.Goals.{Goal, Tree}

-- What is left to do for a goal: give the tree; step over a token of a class if one is there, and else go on without it; step over one that has
-- to be there; or read another goal. A step says how deep an expression is at least that has this token, and what is counted at it.
pub data Plan : Goal → Type 0 where
  give : {g : Goal} → Tree g → Plan g
  take : {g : Goal} (c : Class) (firm : Option Firm) (counts : Of c → List Count) (on : Pos → Of c → Plan g) (otherwise : Plan g) → Plan g
  want : {g : Goal} (c : Class) (counts : Of c → List Count) (on : Pos → Of c → Plan g) → Plan g
  call : {g : Goal} (q : Goal) (on : Tree q → Plan g) → Plan g

-- an expression with this token is at least so deep
abbrev pub deep : ℕ → Option Firm
deep n = Some (Depth, n)

abbrev pub no_counts : {X : Type 0} → X → List Count
no_counts x = []

abbrev pub these : {X : Type 0} → List Count → X → List Count
these cs x = cs

abbrev pub bytes_of_name : List ℕ → Count
bytes_of_name t = record { of = NameBytes; number = length t }

abbrev pub and_name : List Count → List ℕ → List Count
and_name cs t = cs ++ (bytes_of_name t ∷ [])

-- a goal whose tree is the answer
abbrev pub last : (q g : Goal) → (Tree q → Tree g) → Plan g
last q g f = call q (λ a. give (f a))

-- the how many-th thing of a kind
abbrev pub counted : Counted → ℕ → Count
counted of n = record { of = of; number = n }

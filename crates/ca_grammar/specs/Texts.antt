-- Texts that are an expression, or a program, and nothing else, with the end behind it.
use Rattle.std.specs.Prelude.{◌≡◌, List, [], ◌∷◌}
use Rattle.ca_tree.specs.declared.text.Pos.{Pos}
use Rattle.ca_tree.specs.declared.token.Word.TheVariants as word
use Rattle.ca_tree.specs.declared.token.Token.{Token}
use Rattle.ca_tree.specs.declared.tree.Program.{Program}
use Rattle.ca_grammar.specs.declared.operand.Operand.{Operand}
use Rattle.ca_grammar.specs.Words.{The_end, Takes}
use Rattle.ca_grammar.specs.Limits.{Allowed}
use Rattle.ca_grammar.specs.Expressions.{Spells, Expression}
use Rattle.ca_grammar.specs.Declarations.{IsProgram}

-- an expression, and then the end
pub record SpellsWhole (allowed : Allowed) (a : Operand) (ts vs : List Token) : Type 0 where
  pub us : List Token
  pub p : Pos
  pub spells : Spells allowed Expression a ts us
  pub end : Takes The_end us p tt vs

-- these tokens, the end last, are an expression in which only what is allowed is counted
abbrev pub IsExpression : Allowed → Operand → List Token → Type 0
IsExpression allowed a ts = SpellsWhole allowed a ts []

abbrev pub AnExpression : Allowed → List Token → Type 0
AnExpression allowed ts = (a : Operand) × IsExpression allowed a ts

abbrev pub AProgram : Allowed → List Token → Type 0
AProgram allowed ts = (a : Program) × IsProgram allowed a ts

-- the end stands last, and only there
abbrev pub EndsOnce : List Token → Type 0
EndsOnce [] = ⊥
EndsOnce (u ∷ []) = u.word ≡ word.End
EndsOnce (u ∷ v ∷ us) = (u.word ≡ word.End → ⊥) × EndsOnce (v ∷ us)

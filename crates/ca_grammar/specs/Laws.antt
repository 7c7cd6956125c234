-- Laws of the grammar.
use Rattle.std.specs.Prelude.{◌≡◌, ◌≤◌, ℕ, true, List}
use Rattle.ca_tree.specs.declared.token.Token.{Token}
use Rattle.ca_tree.specs.declared.tree.Exp.{Exp}
use Rattle.ca_tree.specs.declared.tree.Program.{Program}
use Rattle.ca_grammar.specs.declared.faults.ReadFault.{ReadFault}
use Rattle.ca_grammar.specs.declared.operand.Operand.{Operand}
use Rattle.ca_tree.specs.TreeWords.{any_words}
use Rattle.ca_tree.specs.ExpressionTrees.{depth, has_names}
use Rattle.ca_tree.specs.ProgramTrees.{IsProgramTree}
use Rattle.ca_grammar.specs.Limits.{Rule, Allowed, the_limits, kept}
use Rattle.ca_grammar.specs.Declarations.{IsProgram}
use Rattle.ca_grammar.specs.Texts.{IsExpression}
use Rattle.ca_grammar.specs.Faults.{IsFault}

-- what one allows the other allows too
abbrev pub AllowsMore : Allowed → Allowed → Type 0
AllowsMore allowed more = (r : Rule) (n : ℕ) (ts : List Token) → allowed r n ts ≡ true → more r n ts ≡ true

-- the limits are kept
abbrev pub all_kept : Allowed
all_kept = kept the_limits 0

abbrev pub OneExpression : Type 0
OneExpression = (allowed : Allowed) (ts : List Token) (a b : Operand) → IsExpression allowed a ts → IsExpression allowed b ts → a ≡ b

abbrev pub OneProgram : Type 0
OneProgram = (allowed : Allowed) (ts : List Token) (a b : Program) → IsProgram allowed a ts → IsProgram allowed b ts → a ≡ b

-- tokens that spell an expression, and keep the limits
pub record Spelling (a : Exp) : Type 0 where
  pub operand : Operand
  pub is : operand.exp ≡ a
  pub tokens : List Token
  pub spells : IsExpression all_kept operand tokens

abbrev pub EachIsSpelled : Type 0
EachIsSpelled = (a : Exp) → depth a ≤ 64 → has_names any_words a ≡ true → Spelling a

-- each program within the limits has tokens
abbrev pub EachProgramIsSpelled : Type 0
EachProgramIsSpelled = (a : Program) → IsProgramTree a → (ts : List Token) × IsProgram all_kept a ts

-- texts in which more may be counted are texts still
abbrev pub Spreads : (Allowed → List Token → Type 0) → Type 0
Spreads texts = (allowed more : Allowed) (ts : List Token) → AllowsMore allowed more → texts allowed ts → texts more ts

-- tokens that are a text have no fault, and others at most one
abbrev pub NoFault : Type 1
NoFault = (texts : Allowed → List Token → Type 0) → Spreads texts → (ts : List Token) (f : ReadFault) → texts all_kept ts → IsFault texts ts f → ⊥

abbrev pub OneFault : Type 1
OneFault = (texts : Allowed → List Token → Type 0) → Spreads texts → (ts : List Token) (f g : ReadFault) → IsFault texts ts f → IsFault texts ts g → f ≡ g

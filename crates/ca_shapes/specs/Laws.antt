-- Laws of the trees that tokens spell.
use Rattle.std.specs.Prelude.{ℕ, List}
use Rattle.ca_tree.specs.declared.token.Token.{Token}
use Rattle.ca_tree.specs.declared.tree.Program.{Program}
use Rattle.ca_tree.specs.Lexed.{HasTokens}
use Rattle.ca_tree.specs.ProgramTrees.{IsProgramTree, IsWrittenProgram}
use Rattle.ca_grammar.specs.Declarations.{IsProgram}
use Rattle.ca_grammar.specs.Laws.{all_kept}

-- each program of the grammar within the limits is one by its tree alone
abbrev pub EachProgramIsATree : Type 0
EachProgramIsATree = (a : Program) (ts : List Token) → IsProgram all_kept a ts → IsProgramTree a

-- and of a text its words are those of a text
abbrev pub EachProgramOfATextIsWritten : Type 0
EachProgramOfATextIsWritten = (text : List ℕ) (ts : List Token) (a : Program) → HasTokens text ts → IsProgram all_kept a ts → IsWrittenProgram a

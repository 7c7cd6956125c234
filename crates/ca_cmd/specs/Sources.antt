-- What the bytes of a file are as a source: an accepted one, or one with its first fault.
use Rattle.std.specs.Prelude.{ℕ, List}
use Rattle.ca_tree.specs.declared.token.Token.{Token}
use Rattle.ca_tree.specs.declared.tree.Program.{Program}
use Rattle.ca_tree.specs.Lexed.{HasTokens}
use Rattle.ca_grammar.specs.declared.faults.ReadFault.{ReadFault}
use Rattle.ca_grammar.specs.Declarations.{IsProgram}
use Rattle.ca_grammar.specs.Laws.{all_kept}
use Rattle.ca_grammar.specs.Texts.{AProgram}
use Rattle.ca_grammar.specs.Faults as reading
use Rattle.ca_model.specs.declared.types.TypeFault.{TypeFault}
use Rattle.ca_model.specs.typing.Sources.{Source}
use Rattle.ca_model.specs.typing.Typing as typing
use Rattle.ca_model.specs.typing.Typing.{IsTyping}

-- the bytes have tokens, and these are this program within the limits
pub record IsTextOf (a : Program) (bytes : List ℕ) : Type 0 where
  pub tokens : List Token
  pub lexed : HasTokens bytes tokens
  pub read : IsProgram all_kept a tokens

-- an accepted source: a program with its typing
pub record IsSource (bytes : List ℕ) (x : Source) : Type 0 where
  pub text : IsTextOf x.program bytes
  pub typing : IsTyping x.program x.typed

-- tokens that are no program within the limits, with the first fault
pub record HasReadFault (bytes : List ℕ) (f : ReadFault) : Type 0 where
  pub tokens : List Token
  pub lexed : HasTokens bytes tokens
  pub fault : reading.IsFault AProgram tokens f

-- a program without a typing, with the first fault
pub record HasTypeFault (bytes : List ℕ) (f : TypeFault) : Type 0 where
  pub program : Program
  pub text : IsTextOf program bytes
  pub fault : typing.IsFault program f

-- Where the fault of tokens stands that are no text, and which fault it is. Texts are programs, or parts of them: `texts allowed ts` says that ts are a
-- text in which only what is allowed is counted.
use Rattle.std.specs.Prelude.{◌≡◌, ◌<◌, ◌+◌, Bool, true, false, not, List, [], ◌∷◌, ◌++◌, length, Option, Some, None, if◌then◌else◌, ◌⊎◌}
use Rattle.ca_tree.specs.declared.token.Mark.{Mark}
use Rattle.ca_tree.specs.declared.token.Mark.TheVariants as mark
use Rattle.ca_tree.specs.declared.token.Word.{Word}
use Rattle.ca_tree.specs.declared.token.Word.TheVariants as word
use Rattle.ca_tree.specs.declared.token.Token.{Token}
use Rattle.ca_tree.specs.declared.counted.Counted.TheVariants as counted
use Rattle.ca_tree.specs.Names.{is_left_out, is_reserved}
use Rattle.ca_grammar.specs.declared.faults.LeftOut.TheVariants as left_out
use Rattle.ca_grammar.specs.declared.faults.ReadKind.{ReadKind}
use Rattle.ca_grammar.specs.declared.faults.ReadKind.TheVariants.{Grammar, LeftOut, TooMany}
use Rattle.ca_grammar.specs.declared.faults.ReadFault.{ReadFault}
use Rattle.ca_grammar.specs.Limits.{Rule, Limit, Depth, Star, Limits, no_rules, only, order, the_limits, Allowed, kept}

abbrev pub first : List Token → Option Token
first [] = None
first (u ∷ us) = Some u

abbrev pub latest : List Token → Option Token
latest [] = None
latest (u ∷ []) = Some u
latest (u ∷ us) = latest us

-- some text begins with these tokens, and keeps the limits in them
abbrev pub Begins : (Allowed → List Token → Type 0) → Limits → List Token → Type 0
Begins texts limits front = (more : List Token) × texts (kept limits (length more + 1)) (front ++ more)

-- some text goes on behind them with the next token, and keeps the limits through it
abbrev pub GoesOn : (Allowed → List Token → Type 0) → Limits → List Token → List Token → Type 0
GoesOn texts limits front rest = (more : List Token) × (first more ≡ first rest) × texts (kept limits (length more)) (front ++ more)

-- another mark of C, or an `&`
abbrev pub is_left_out_mark : Mark → Bool
is_left_out_mark mark.Ampersand = true
is_left_out_mark mark.Pipe = true
is_left_out_mark mark.Caret = true
is_left_out_mark mark.Tilde = true
is_left_out_mark mark.ShiftLeft = true
is_left_out_mark mark.ShiftRight = true
is_left_out_mark mark.Question = true
is_left_out_mark mark.Colon = true
is_left_out_mark mark.ShiftLeftAssign = true
is_left_out_mark mark.ShiftRightAssign = true
is_left_out_mark mark.AmpersandAssign = true
is_left_out_mark mark.PipeAssign = true
is_left_out_mark mark.CaretAssign = true
is_left_out_mark mark.Ellipsis = true
is_left_out_mark m = false

abbrev pub is_name_word : Word → Bool
is_name_word (word.Name t) = not (is_reserved t)
is_name_word w = false

abbrev pub is_name : Option Token → Bool
is_name None = false
is_name (Some u) = is_name_word u.word

-- the kind of a fault at a mark, behind a name or not
abbrev pub kind_at_mark : Bool → Mark → ReadKind
kind_at_mark behind_name mark.Hash = LeftOut left_out.Preprocessor
kind_at_mark true mark.OpenParen = LeftOut left_out.InnerCall
kind_at_mark behind_name m = if is_left_out_mark m then LeftOut left_out.Operator else Grammar

-- the kind of a fault at a token, or at the end
abbrev pub kind_at : Bool → Word → ReadKind
kind_at behind_name (word.Mark m) = kind_at_mark behind_name m
kind_at behind_name (word.Name t) = if is_left_out t then LeftOut left_out.Keyword else Grammar
kind_at behind_name w = Grammar

-- what is answered where a rule is broken
abbrev pub kind_of : Rule → ReadKind
kind_of (Limit of) = TooMany of
kind_of Depth = TooMany counted.Nesting
kind_of Star = Grammar

abbrev pub is_open_paren_word : Word → Bool
is_open_paren_word (word.Mark mark.OpenParen) = true
is_open_paren_word w = false

abbrev pub is_open_paren : Option Token → Bool
is_open_paren None = false
is_open_paren (Some u) = is_open_paren_word u.word

abbrev pub or_before : Option Token → Token → Option Token → Option Token
or_before (Some v) u next = Some v
or_before None u next = if is_open_paren next then Some u else None

-- the last name that a `(` follows directly, which in front of the body of a function is the function's
abbrev pub before_parenthesis : List Token → Option Token
before_parenthesis [] = None
before_parenthesis (u ∷ us) = or_before (before_parenthesis us) u (first us)

-- a token, or the next one
abbrev pub or_first : Option Token → List Token → Option Token
or_first None rest = first rest
or_first (Some u) rest = Some u

-- the token where the fault of a broken rule stands: where a function, a global, a struct or a result without its star was named, which is always before; and else the
-- next token
abbrev pub place_of : Rule → (front rest : List Token) → Option Token
place_of (Limit counted.Functions) front rest = or_first (before_parenthesis front) rest
place_of (Limit counted.Globals) front rest = or_first (latest front) rest
place_of (Limit counted.Structs) front rest = or_first (latest front) rest
place_of Star front rest = or_first (latest front) rest
place_of r front rest = first rest

-- no text goes on with the next token
pub record IsUnknown (texts : Allowed → List Token → Type 0) (front rest : List Token) (f : ReadFault) : Type 0 where
  pub unknown : GoesOn texts no_rules front rest → ⊥
  pub next : Token
  pub at : first rest ≡ Some next
  pub pos : f.pos ≡ next.pos
  pub kind : f.kind ≡ kind_at (is_name (latest front)) next.word

-- texts go on with the next token, and each of them breaks a rule, the first one for which this holds
pub record IsBroken (texts : Allowed → List Token → Type 0) (front rest : List Token) (f : ReadFault) : Type 0 where
  pub known : GoesOn texts no_rules front rest
  pub rule : Rule
  pub broken : GoesOn texts (only rule) front rest → ⊥
  pub earlier : (r : Rule) → order r < order rule → GoesOn texts (only r) front rest
  pub place : Token
  pub at : place_of rule front rest ≡ Some place
  pub pos : f.pos ≡ place.pos
  pub kind : f.kind ≡ kind_of rule

-- the first fault of tokens: the tokens before begin a text within the limits, and with the next token none goes on
pub record IsFault (texts : Allowed → List Token → Type 0) (ts : List Token) (f : ReadFault) : Type 0 where
  pub front : List Token
  pub rest : List Token
  pub parts : ts ≡ front ++ rest
  pub before : Begins texts the_limits front
  pub cause : IsUnknown texts front rest f ⊎ IsBroken texts front rest f

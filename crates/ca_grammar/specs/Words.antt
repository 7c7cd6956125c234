-- What one token may have to be: a mark, a word, a number, a string, a name or an operator.
use Rattle.std.specs.Prelude.{◌≡◌, ℕ, ℤ, Bool, false, List, [], ◌∷◌, Option, Some, None, codes, true}
use Rattle.ca_tree.specs.declared.text.Pos.{Pos}
use Rattle.ca_tree.specs.declared.token.Mark.{Mark}
use Rattle.ca_tree.specs.declared.token.Mark.TheVariants as mark
use Rattle.ca_tree.specs.declared.token.Word.{Word}
use Rattle.ca_tree.specs.declared.token.Word.TheVariants as word
use Rattle.ca_tree.specs.declared.token.Token.{Token}
use Rattle.ca_tree.specs.declared.tree.UnaryOp.{UnaryOp}
use Rattle.ca_tree.specs.declared.tree.UnaryOp.TheVariants.{Negate, Not, Deref, AddressOf}
use Rattle.ca_tree.specs.declared.tree.BinaryOp.{BinaryOp}
use Rattle.ca_tree.specs.declared.tree.BinaryOp.TheVariants as op
use Rattle.ca_tree.specs.declared.tree.UpdateOp.{UpdateOp}
use Rattle.ca_tree.specs.declared.tree.UpdateOp.TheVariants as update
use Rattle.ca_tree.specs.Lexed.{token}
use Rattle.ca_tree.specs.Names.{is_reserved, is_library_word}
use Rattle.ca_tree.specs.TreeWords.{is_natural}

abbrev pub unary_operator : Word → Option UnaryOp
unary_operator (word.Mark mark.Minus) = Some Negate
unary_operator (word.Mark mark.Not) = Some Not
unary_operator (word.Mark mark.Star) = Some Deref
unary_operator (word.Mark mark.Ampersand) = Some AddressOf
unary_operator w = None

abbrev pub binary_operator : Word → Option BinaryOp
binary_operator (word.Mark mark.Star) = Some op.Mul
binary_operator (word.Mark mark.Slash) = Some op.Div
binary_operator (word.Mark mark.Percent) = Some op.Rem
binary_operator (word.Mark mark.Plus) = Some op.Add
binary_operator (word.Mark mark.Minus) = Some op.Sub
binary_operator (word.Mark mark.Less) = Some op.Less
binary_operator (word.Mark mark.More) = Some op.More
binary_operator (word.Mark mark.LessSame) = Some op.LessSame
binary_operator (word.Mark mark.MoreSame) = Some op.MoreSame
binary_operator (word.Mark mark.Same) = Some op.Same
binary_operator (word.Mark mark.Differs) = Some op.Differs
binary_operator (word.Mark mark.And) = Some op.And
binary_operator (word.Mark mark.Or) = Some op.Or
binary_operator w = None

-- products bind tightest, then sums, orders, equalities, `&&` and `||`
abbrev pub level : BinaryOp → ℕ
level op.Mul = 1
level op.Div = 1
level op.Rem = 1
level op.Add = 2
level op.Sub = 2
level op.Less = 3
level op.More = 3
level op.LessSame = 3
level op.MoreSame = 3
level op.Same = 4
level op.Differs = 4
level op.And = 5
level op.Or = 6

abbrev pub update_operator : Word → Option UpdateOp
update_operator (word.Mark mark.PlusAssign) = Some update.Add
update_operator (word.Mark mark.MinusAssign) = Some update.Sub
update_operator (word.Mark mark.StarAssign) = Some update.Mul
update_operator (word.Mark mark.SlashAssign) = Some update.Div
update_operator (word.Mark mark.PercentAssign) = Some update.Rem
update_operator w = None

-- `++` and `--`
abbrev pub step_operator : Word → Option UpdateOp
step_operator (word.Mark mark.Increment) = Some update.Add
step_operator (word.Mark mark.Decrement) = Some update.Sub
step_operator w = None

-- what a token may have to be
pub data Class : Type 0 where
  The_mark : (m : Mark) → Class
  -- a keyword or another word that is spelled so
  The_word : (t : List ℕ) → Class
  A_number : Class
  A_string : Class
  A_name : Class
  -- a name that is no call of the library
  A_name_of_the_source : Class
  A_unary_operator : Class
  A_binary_operator : (l : ℕ) → Class
  An_update_operator : Class
  A_step_operator : Class
  The_end : Class

-- what such a token tells
abbrev pub Of : Class → Type 0
Of (The_mark m) = Unit {0}
Of (The_word t) = Unit {0}
Of A_number = ℤ
Of A_string = List ℕ
Of A_name = List ℕ
Of A_name_of_the_source = List ℕ
Of A_unary_operator = UnaryOp
Of (A_binary_operator l) = BinaryOp
Of An_update_operator = UpdateOp
Of A_step_operator = UpdateOp
Of The_end = Unit {0}

abbrev pub Is : (c : Class) → Word → Of c → Type 0
Is (The_mark m) w x = w ≡ word.Mark m
Is (The_word t) w x = w ≡ word.Name t
Is A_number w n = (w ≡ word.Number n) × (is_natural n ≡ true)
Is A_string w t = w ≡ word.Str t
Is A_name w t = (w ≡ word.Name t) × (is_reserved t ≡ false)
Is A_name_of_the_source w t = (w ≡ word.Name t) × (is_reserved t ≡ false) × (is_library_word t ≡ false)
Is A_unary_operator w o = unary_operator w ≡ Some o
Is (A_binary_operator l) w o = (binary_operator w ≡ Some o) × (level o ≡ l)
Is An_update_operator w o = update_operator w ≡ Some o
Is A_step_operator w o = step_operator w ≡ Some o
Is The_end w x = w ≡ word.End

abbrev pub null_word : Class
null_word = The_word (codes "NULL")

-- tokens begin with one of a class, at a place, that tells x; and us follow
pub record Takes (c : Class) (ts : List Token) (p : Pos) (x : Of c) (us : List Token) : Type 0 where
  pub first : Word
  pub parts : ts ≡ token p first ∷ us
  pub fits : Is c first x

-- tokens begin with none of a class
abbrev pub Lacks : (c : Class) → List Token → Type 0
Lacks c ts = (p : Pos) (x : Of c) (us : List Token) → Takes c ts p x us → ⊥

-- a step over one of a class, whatever it tells
abbrev pub Skips : Class → List Token → List Token → Type 0
Skips c ts us = (p : Pos) × (x : Of c) × Takes c ts p x us

-- where tokens begin
abbrev pub place : List Token → Option Pos
place [] = None
place (u ∷ us) = Some u.pos

abbrev pub is_library_call : Word → Bool
is_library_call (word.Name t) = is_library_word t
is_library_call w = false

-- whether tokens begin with a call of the library
abbrev pub begins_library_call : List Token → Bool
begins_library_call [] = false
begins_library_call (u ∷ us) = is_library_call u.word

abbrev pub open_paren : Class
open_paren = The_mark mark.OpenParen

abbrev pub close_paren : Class
close_paren = The_mark mark.CloseParen

abbrev pub open_brace : Class
open_brace = The_mark mark.OpenBrace

abbrev pub close_brace : Class
close_brace = The_mark mark.CloseBrace

abbrev pub comma : Class
comma = The_mark mark.Comma

abbrev pub semicolon : Class
semicolon = The_mark mark.Semicolon

abbrev pub star : Class
star = The_mark mark.Star

abbrev pub assign : Class
assign = The_mark mark.Assign

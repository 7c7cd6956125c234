-- What the tokens of an expression are (C11 6.5). `Spells allowed p a ts us`: the tokens ts begin with a spelling of a as a p, in which only what is
-- allowed is counted, and us follow.
use Rattle.std.specs.Prelude.{◌≡◌, ℕ, ℤ, suc, ◌+◌, max, true, false, List, length, if◌then◌else◌}
use Rattle.ca_tree.specs.declared.text.Pos.{Pos}
use Rattle.ca_tree.specs.declared.token.Mark.TheVariants as mark
use Rattle.ca_tree.specs.declared.token.Token.{Token}
use Rattle.ca_tree.specs.declared.tree.Name.{Name}
use Rattle.ca_tree.specs.declared.tree.UnaryOp.{UnaryOp}
use Rattle.ca_tree.specs.declared.tree.BinaryOp.{BinaryOp}
use Rattle.ca_tree.specs.declared.tree.Exp.{Exp}
use Rattle.ca_tree.specs.declared.tree.Exp.TheVariants as e
use Rattle.ca_tree.specs.declared.counted.Counted.TheVariants.{NameBytes}
use Rattle.ca_grammar.specs.declared.operand.Operand.{Operand}
use Rattle.ca_grammar.specs.Words.{The_mark, A_number, A_name, A_unary_operator, A_binary_operator, Takes, null_word}
use Rattle.ca_grammar.specs.Limits.{Allowed, Limit, Depth}

abbrev pub name : Pos → List ℕ → Name
name p t = record { pos = p; text = t }

-- a number, `NULL` or a name
abbrev pub leaf : Pos → Exp → Operand
leaf p a = record { exp = a; pos = p; start = p; depth = 1; in_parentheses = false }

abbrev pub more_depth : Operand → ℕ
more_depth a = if a.in_parentheses then 1 else 0

abbrev pub parenthesised : Pos → Operand → Operand
parenthesised p a = record { exp = a.exp; pos = a.pos; start = p; depth = a.depth + more_depth a; in_parentheses = true }

-- an operator or a postfix, which is one deeper than its deepest part
abbrev pub deeper : Exp → Pos → ℕ → Operand
deeper a p depth = record { exp = a; pos = p; start = p; depth = depth + 1; in_parentheses = false }

abbrev pub unary : Pos → UnaryOp → Operand → Operand
unary p o a = deeper (e.Unary p o a.exp) p a.depth

abbrev pub binary : BinaryOp → Operand → Operand → Operand
binary o a b = deeper (e.Binary a.start o a.exp b.exp) a.start (max a.depth b.depth)

abbrev pub index : Operand → Operand → Operand
index a i = deeper (e.Index a.start a.exp i.exp) a.start (max a.depth i.depth)

abbrev pub field : Operand → Name → Operand
field a n = deeper (e.Field a.start a.exp n) a.start a.depth

abbrev pub arrow : Operand → Name → Operand
arrow a n = deeper (e.Arrow a.start a.exp n) a.start a.depth

-- what can be spelled
pub data Part : Type 0 where
  Primary : Part
  -- from a on, what stands behind a primary
  Postfixes : (a : Operand) → Part
  Postfix : Part
  -- with operators of levels up to l; 0 is a unary, and 6 any expression
  Level : (l : ℕ) → Part
  -- from a on, operators of level l with their right operands: they group to the left
  Operators : (l : ℕ) (a : Operand) → Part
  -- a unary or an expression that is part of no other, and so counted for its own depth
  Unary : Part
  Expression : Part

pub data Spells (allowed : Allowed) : Part → Operand → List Token → List Token → Type 0 where
  -- primary = number | "NULL" | name | "(" exp ")"
  a_number : {p : Pos} {n : ℤ} {ts us : List Token} → Takes A_number ts p n us → Spells allowed Primary (leaf p (e.Number p n)) ts us
  a_null : {p : Pos} {ts us : List Token} → Takes null_word ts p tt us → Spells allowed Primary (leaf p (e.Null p)) ts us
  a_name : {p : Pos} {t : List ℕ} {ts us : List Token} → Takes A_name ts p t us → allowed (Limit NameBytes) (length t) ts ≡ true
      → Spells allowed Primary (leaf p (e.Name (name p t))) ts us
  parentheses : {p q : Pos} {a : Operand} {ts us vs ws : List Token} → Takes (The_mark mark.OpenParen) ts p tt us → Spells allowed (Level 6) a us vs
      → Takes (The_mark mark.CloseParen) vs q tt ws → Spells allowed Primary (parenthesised p a) ts ws
  -- postfix = primary { "[" exp "]" | "." name | "->" name }
  postfix : {a b : Operand} {ts us vs : List Token} → Spells allowed Primary a ts us → Spells allowed (Postfixes a) b us vs → Spells allowed Postfix b ts vs
  no_postfix : {a : Operand} {us : List Token} → Spells allowed (Postfixes a) a us us
  an_index : {p q : Pos} {a i b : Operand} {ts us vs ws xs : List Token} → Takes (The_mark mark.OpenBracket) ts p tt us → Spells allowed (Level 6) i us vs
      → Takes (The_mark mark.CloseBracket) vs q tt ws → Spells allowed (Postfixes (index a i)) b ws xs → Spells allowed (Postfixes a) b ts xs
  a_field : {p q : Pos} {t : List ℕ} {a b : Operand} {ts us vs ws : List Token} → Takes (The_mark mark.Dot) ts p tt us → Takes A_name us q t vs
      → allowed (Limit NameBytes) (length t) us ≡ true → Spells allowed (Postfixes (field a (name q t))) b vs ws → Spells allowed (Postfixes a) b ts ws
  an_arrow : {p q : Pos} {t : List ℕ} {a b : Operand} {ts us vs ws : List Token} → Takes (The_mark mark.Arrow) ts p tt us → Takes A_name us q t vs
      → allowed (Limit NameBytes) (length t) us ≡ true → Spells allowed (Postfixes (arrow a (name q t))) b vs ws → Spells allowed (Postfixes a) b ts ws
  -- unary = ( "-" | "!" | "*" | "&" ) unary | postfix
  a_unary : {p : Pos} {o : UnaryOp} {a : Operand} {ts us vs : List Token} → Takes A_unary_operator ts p o us → Spells allowed (Level 0) a us vs
      → Spells allowed (Level 0) (unary p o a) ts vs
  a_postfix : {a : Operand} {ts us : List Token} → Spells allowed Postfix a ts us → Spells allowed (Level 0) a ts us
  -- product = unary { ( "*" | "/" | "%" ) unary }, and so on to exp = and { "||" and }
  operands : {l : ℕ} {a b : Operand} {ts us vs : List Token} → Spells allowed (Level l) a ts us → Spells allowed (Operators (suc l) a) b us vs
      → Spells allowed (Level (suc l)) b ts vs
  no_operator : {l : ℕ} {a : Operand} {us : List Token} → Spells allowed (Operators l a) a us us
  an_operator : {l : ℕ} {p : Pos} {o : BinaryOp} {a b c : Operand} {ts us vs ws : List Token} → Takes (A_binary_operator (suc l)) ts p o us
      → Spells allowed (Level l) b us vs → Spells allowed (Operators (suc l) (binary o a b)) c vs ws → Spells allowed (Operators (suc l) a) c ts ws
  -- one that stands by itself
  a_whole_unary : {a : Operand} {ts us : List Token} → Spells allowed (Level 0) a ts us → allowed Depth a.depth ts ≡ true → Spells allowed Unary a ts us
  an_expression : {a : Operand} {ts us : List Token} → Spells allowed (Level 6) a ts us → allowed Depth a.depth ts ≡ true → Spells allowed Expression a ts us

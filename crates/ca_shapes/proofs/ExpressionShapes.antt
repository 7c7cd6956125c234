-- What tokens spell as an expression is one by its tree alone.
use Rattle.std.proofs.Common.{◌≡◌, ℕ, ℤ, ◌≤◌, Bool, true, List, [], arith, refl, sym, ap, ◌∙◌, subst}
use Rattle.std.proofs.lemmas.Bool.{and_from, leb-true}
use Rattle.ca_tree.specs.declared.text.Pos.{Pos}
use Rattle.ca_tree.specs.declared.token.Token.{Token}
use Rattle.ca_tree.specs.declared.tree.Name.{Name}
use Rattle.ca_tree.specs.declared.tree.Exp.{Exp, roll-Exp, map-Exp, fold-Exp, fold-roll-Exp}
use Rattle.ca_tree.specs.declared.tree.Exp.TheOpen.{Exp-F}
use Rattle.ca_tree.specs.declared.tree.Exp.TheVariants as e
use Rattle.ca_tree.specs.TreeWords.{Words}
use Rattle.ca_tree.specs.ExpressionTrees.{depth_step, depth, is_short_name, names_step, has_names, place_step, place_of, IsName, IsWhole}
use Rattle.ca_grammar.specs.declared.operand.Operand.{Operand}
use Rattle.ca_grammar.specs.Expressions.{leaf, parenthesised, Part, Primary, Postfixes, Postfix, Level, Operators, Unary, Expression, Spells}
use Rattle.ca_grammar.specs.Expressions as g
use Rattle.ca_grammar.specs.Laws.{all_kept}
use Rattle.ca_shapes.proofs.TokenWords.{IsWordOf, AreWords, taken, behind, taken_name}

-- its words may stand in a tree; it is no deeper than is told, and where it is told
pub record Shape (words : Words) (a : Operand) : Type 0 where
  pub names : has_names words a.exp ≡ true
  pub deep : depth a.exp ≤ a.depth
  pub at : place_of a.exp ≡ a.pos

folded : (B : Type 0) (step : Exp-F B → B) (x : Exp-F Exp) (a : Exp) → roll-Exp x ≡ a → fold-Exp B step a ≡ step (map-Exp Exp B (fold-Exp B step) x)
folded B step x a is = ap (fold-Exp B step) (sym is) ∙ fold-roll-Exp B step x

shape : (words : Words) (x : Exp-F Exp) (a : Operand) → roll-Exp x ≡ a.exp → names_step words (map-Exp Exp Bool (has_names words) x) ≡ true → depth_step (map-Exp Exp ℕ depth x) ≤ a.depth
    → place_step (map-Exp Exp Pos place_of x) ≡ a.pos → Shape words a
shape words x a is names deep at =
    record {
      names = folded Bool (names_step words) x a.exp is ∙ names;
      deep = subst (λ d. d ≤ a.depth) (sym (folded ℕ depth_step x a.exp is)) deep;
      at = folded Pos place_step x a.exp is ∙ at;
    }

-- ---- what is made of parts

number_shape : (words : Words) (p : Pos) (n : ℤ) → words.is_number n ≡ true → Shape words (leaf p (e.Number p n))
number_shape words p n h = shape words (Exp-F.Number p n) (leaf p (e.Number p n)) (e.rolls-Number p n) h (omega arith) refl

parentheses_shape : (words : Words) (p : Pos) (a : Operand) → Shape words a → Shape words (parenthesised p a)
parentheses_shape words p a x = record { names = x.names; deep = omega (arith, x.deep); at = x.at }

index_shape : (words : Words) (a i : Operand) → Shape words a → Shape words i → Shape words (g.index a i)
index_shape words a i x y =
    shape words (Exp-F.Index a.start a.exp i.exp) (g.index a i) (e.rolls-Index a.start a.exp i.exp) (and_from (has_names words a.exp) (has_names words i.exp) x.names y.names)
    (omega (arith, x.deep, y.deep)) refl

field_shape : (words : Words) (a : Operand) (n : Name) → Shape words a → IsName words n → Shape words (g.field a n)
field_shape words a n x h =
    shape words (Exp-F.Field a.start a.exp n) (g.field a n) (e.rolls-Field a.start a.exp n) (and_from (has_names words a.exp) (is_short_name words n) x.names h) (omega (arith, x.deep)) refl

arrow_shape : (words : Words) (a : Operand) (n : Name) → Shape words a → IsName words n → Shape words (g.arrow a n)
arrow_shape words a n x h =
    shape words (Exp-F.Arrow a.start a.exp n) (g.arrow a n) (e.rolls-Arrow a.start a.exp n) (and_from (has_names words a.exp) (is_short_name words n) x.names h) (omega (arith, x.deep)) refl

-- ---- each part

abbrev pub Shaped : Words → Part → Operand → Type 0
Shaped words Primary b = Shape words b
Shaped words (Postfixes a) b = Shape words a → Shape words b
Shaped words Postfix b = Shape words b
Shaped words (Level l) b = Shape words b
Shaped words (Operators l a) b = Shape words a → Shape words b
Shaped words Unary b = Shape words b × (b.depth ≤ 64)
Shaped words Expression b = Shape words b × (b.depth ≤ 64)

pub shaped : (words : Words) {P : Part} {b : Operand} {ts us : List Token} → Spells all_kept P b ts us → AreWords words ts → Shaped words P b × AreWords words us
shaped words (g.a_number {p} {n} t) h =
    let x = taken words t h in
    (number_shape words p n (subst (IsWordOf words) t.fits.0 x.0 t.fits.1), x.1)
shaped words (g.a_null {p} t) h = (shape words (Exp-F.Null p) (leaf p (e.Null p)) (e.rolls-Null p) refl (omega arith) refl, behind words t h)
shaped words (g.a_name {p} {t = n} t w) h =
    (shape words (Exp-F.Name (g.name p n)) (leaf p (e.Name (g.name p n))) (e.rolls-Name (g.name p n)) (taken_name words t w h) (omega arith) refl, behind words t h)
shaped words (g.parentheses {p} {a = a} t s c) h =
    let x = shaped words s (behind words t h) in
    (parentheses_shape words p a x.0, behind words c x.1)
shaped words (g.postfix s r) h =
    let x = shaped words s h in
    let y = shaped words r x.1 in
    (y.0 x.0, y.1)
shaped words g.no_postfix h = (λ x. x, h)
shaped words (g.an_index {a = a} {i} t s c r) h =
    let x = shaped words s (behind words t h) in
    let y = shaped words r (behind words c x.1) in
    (λ b. y.0 (index_shape words a i b x.0), y.1)
shaped words (g.a_field {q = q} {t = n} {a} t m w r) h =
    let i = behind words t h in
    let y = shaped words r (behind words m i) in
    (λ b. y.0 (field_shape words a (g.name q n) b (taken_name words m w i)), y.1)
shaped words (g.an_arrow {q = q} {t = n} {a} t m w r) h =
    let i = behind words t h in
    let y = shaped words r (behind words m i) in
    (λ b. y.0 (arrow_shape words a (g.name q n) b (taken_name words m w i)), y.1)
shaped words (g.a_unary {p} {o} {a} t s) h =
    let x = shaped words s (behind words t h) in
    (shape words (Exp-F.Unary p o a.exp) (g.unary p o a) (e.rolls-Unary p o a.exp) x.0.names (omega (arith, x.0.deep)) refl, x.1)
shaped words (g.a_postfix s) h = shaped words s h
shaped words (g.operands s r) h =
    let x = shaped words s h in
    let y = shaped words r x.1 in
    (y.0 x.0, y.1)
shaped words g.no_operator h = (λ x. x, h)
shaped words (g.an_operator {o = o} {a} {b} t s r) h =
    let x = shaped words s (behind words t h) in
    let y = shaped words r x.1 in (
      λ z. y.0 (shape words (Exp-F.Binary a.start o a.exp b.exp) (g.binary o a b) (e.rolls-Binary a.start o a.exp b.exp)
          (and_from (has_names words a.exp) (has_names words b.exp) z.names x.0.names) (omega (arith, z.deep, x.0.deep)) refl),
      y.1,
    )
shaped words (g.a_whole_unary {a} s w) h =
    let x = shaped words s h in
    ((x.0, leb-true a.depth 64 w), x.1)
shaped words (g.an_expression {a} s w) h =
    let x = shaped words s h in
    ((x.0, leb-true a.depth 64 w), x.1)

-- ---- one that stands by itself

pub record Whole (words : Words) (a : Operand) (us : List Token) : Type 0 where
  pub is_whole : IsWhole words a.exp
  pub at : place_of a.exp ≡ a.pos
  pub behind : AreWords words us

whole : (words : Words) (a : Operand) (us : List Token) → (Shape words a × (a.depth ≤ 64)) × AreWords words us → Whole words a us
whole words a us x = record { is_whole = record { names = x.0.0.names; shallow = omega (arith, x.0.0.deep, x.0.1) }; at = x.0.0.at; behind = x.1 }

pub expression : (words : Words) {a : Operand} {ts us : List Token} → Spells all_kept Expression a ts us → AreWords words ts → Whole words a us
expression words {a} {us = us} s h = whole words a us (shaped words s h)

pub unary : (words : Words) {a : Operand} {ts us : List Token} → Spells all_kept Unary a ts us → AreWords words ts → Whole words a us
unary words {a} {us = us} s h = whole words a us (shaped words s h)

-- a number that no token is
pub plain_number : (words : Words) (p : Pos) (n : ℤ) → words.is_number n ≡ true → IsWhole words (e.Number p n)
plain_number words p n h = (whole words (leaf p (e.Number p n)) [] ((number_shape words p n h, omega arith), tt)).is_whole

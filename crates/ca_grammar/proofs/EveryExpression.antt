-- Each expression is spelled in parentheses, with its own place, whatever follows.
use Rattle.std.proofs.Common.{◌≡◌, ℕ, zero, suc, ◌+◌, Bool, true, false, not, List, ◌∷◌, length, Some, nat_le, nat_lt, codes, arith, refl, sym, subst, ◌∙◌}
use Rattle.std.proofs.lemmas.Bool.{le-leb, not-true, and_parts, or_right}
use Rattle.ca_tree.specs.declared.text.Pos.{Pos}
use Rattle.ca_tree.specs.declared.token.Mark.{Mark}
use Rattle.ca_tree.specs.declared.token.Mark.TheVariants as mark
use Rattle.ca_tree.specs.declared.token.Word.{Word}
use Rattle.ca_tree.specs.declared.token.Word.TheVariants as word
use Rattle.ca_tree.specs.declared.token.Token.{Token}
use Rattle.ca_tree.specs.declared.tree.Name.{Name}
use Rattle.ca_tree.specs.declared.tree.UnaryOp.{UnaryOp}
use Rattle.ca_tree.specs.declared.tree.UnaryOp.TheVariants.{Negate, Not, Deref, AddressOf}
use Rattle.ca_tree.specs.declared.tree.BinaryOp.{BinaryOp}
use Rattle.ca_tree.specs.declared.tree.BinaryOp.TheVariants as op
use Rattle.ca_tree.specs.declared.tree.Exp.{Exp, roll-Exp, ind-Exp, map-Exp, fold-roll-Exp}
use Rattle.ca_tree.specs.declared.tree.Exp.TheOpen.{Exp-F}
use Rattle.ca_tree.specs.declared.tree.Exp.TheVariants as e
use Rattle.ca_tree.specs.Lexed.{token}
use Rattle.ca_tree.specs.Places.{start}
use Rattle.ca_tree.specs.declared.counted.Counted.TheVariants.{NameBytes}
use Rattle.ca_tree.specs.Names.{is_reserved}
use Rattle.ca_tree.specs.TreeWords.{any_words}
use Rattle.ca_tree.specs.ExpressionTrees.{depth_step, depth, is_short_name, names_step, has_names, place_step, place_of, IsWhole}
use Rattle.ca_grammar.specs.declared.operand.Operand.{Operand}
use Rattle.ca_grammar.specs.Words.{Class, The_mark, A_name, Of, Is, Takes, unary_operator, binary_operator, level}
use Rattle.ca_grammar.specs.Limits.{Limit}
use Rattle.ca_grammar.specs.Expressions.{Primary, Level, Spells}
use Rattle.ca_grammar.specs.Expressions as g
use Rattle.ca_grammar.specs.Phrases.{Expression, Unary}
use Rattle.ca_grammar.specs.Laws.{all_kept}

-- ---- tokens

pub at_first : {c : Class} (p : Pos) (w : Word) (x : Of c) (us : List Token) → Is c w x → Takes c (token p w ∷ us) p x us
at_first p w x us h = record { first = w; parts = refl; fits = h }

pub of_mark : (m : Mark) (p : Pos) (us : List Token) → Takes (The_mark m) (token p (word.Mark m) ∷ us) p tt us
of_mark m p us = at_first p (word.Mark m) tt us refl

-- the mark that is read as an operator
record MarkOfUnary (o : UnaryOp) : Type 0 where
  sign : Mark
  reads : unary_operator (word.Mark sign) ≡ Some o

mark_of_unary : (o : UnaryOp) → MarkOfUnary o
mark_of_unary Negate = record { sign = mark.Minus; reads = refl }
mark_of_unary Not = record { sign = mark.Not; reads = refl }
mark_of_unary Deref = record { sign = mark.Star; reads = refl }
mark_of_unary AddressOf = record { sign = mark.Ampersand; reads = refl }

-- its mark, the level below its own, and how many levels are above
record MarkOfBinary (o : BinaryOp) : Type 0 where
  sign : Mark
  below : ℕ
  above : ℕ
  reads : binary_operator (word.Mark sign) ≡ Some o
  levelled : level o ≡ suc below
  six : above + suc below ≡ 6

mark_of_binary : (o : BinaryOp) → MarkOfBinary o
mark_of_binary op.Mul = record { sign = mark.Star; below = 0; above = 5; reads = refl; levelled = refl; six = refl }
mark_of_binary op.Div = record { sign = mark.Slash; below = 0; above = 5; reads = refl; levelled = refl; six = refl }
mark_of_binary op.Rem = record { sign = mark.Percent; below = 0; above = 5; reads = refl; levelled = refl; six = refl }
mark_of_binary op.Add = record { sign = mark.Plus; below = 1; above = 4; reads = refl; levelled = refl; six = refl }
mark_of_binary op.Sub = record { sign = mark.Minus; below = 1; above = 4; reads = refl; levelled = refl; six = refl }
mark_of_binary op.Less = record { sign = mark.Less; below = 2; above = 3; reads = refl; levelled = refl; six = refl }
mark_of_binary op.More = record { sign = mark.More; below = 2; above = 3; reads = refl; levelled = refl; six = refl }
mark_of_binary op.LessSame = record { sign = mark.LessSame; below = 2; above = 3; reads = refl; levelled = refl; six = refl }
mark_of_binary op.MoreSame = record { sign = mark.MoreSame; below = 2; above = 3; reads = refl; levelled = refl; six = refl }
mark_of_binary op.Same = record { sign = mark.Same; below = 3; above = 2; reads = refl; levelled = refl; six = refl }
mark_of_binary op.Differs = record { sign = mark.Differs; below = 3; above = 2; reads = refl; levelled = refl; six = refl }
mark_of_binary op.And = record { sign = mark.And; below = 4; above = 1; reads = refl; levelled = refl; six = refl }
mark_of_binary op.Or = record { sign = mark.Or; below = 5; above = 0; reads = refl; levelled = refl; six = refl }

-- ---- names

pub name_taken : (n : Name) (us : List Token) → is_short_name any_words n ≡ true → Takes A_name (token n.pos (word.Name n.text) ∷ us) n.pos n.text us
name_taken n us h = at_first n.pos (word.Name n.text) n.text us (refl, not-true (is_reserved n.text) (and_parts (not (is_reserved n.text)) (nat_le (length n.text) 63) h).0)

pub name_kept : (n : Name) (us : List Token) → is_short_name any_words n ≡ true → all_kept (Limit NameBytes) (length n.text) (token n.pos (word.Name n.text) ∷ us) ≡ true
name_kept n us h = or_right (nat_lt (length (token n.pos (word.Name n.text) ∷ us)) 0) (nat_le (length n.text) 63) (and_parts (not (is_reserved n.text)) (nat_le (length n.text) 63) h).1

-- ---- levels

at_level : {a : Operand} {ts us : List Token} (l : ℕ) → Spells all_kept Primary a ts us → Spells all_kept (Level l) a ts us
at_level zero s = g.a_postfix (g.postfix s g.no_postfix)
at_level (suc l) s = g.operands (at_level l s) g.no_operator

up_to_six : {a : Operand} {ts us : List Token} (n l : ℕ) → n + l ≡ 6 → Spells all_kept (Level l) a ts us → Spells all_kept (Level 6) a ts us
up_to_six {a} {ts} {us} zero l h s = subst (λ k. Spells all_kept (Level k) a ts us) (omega (arith, h)) s
up_to_six (suc n) l h s = up_to_six n (suc l) (omega (arith, h)) (g.operands s g.no_operator)

-- ---- an expression in parentheses

abbrev plain : Pos → ℕ → Exp → Operand
plain q d a = record { exp = a; pos = q; start = q; depth = d; in_parentheses = false }

abbrev enclosed : Pos → Pos → ℕ → Exp → Operand
enclosed p q d a = record { exp = a; pos = q; start = p; depth = d; in_parentheses = true }

abbrev pub opened : Pos → List Token → List Token
opened p us = token p (word.Mark mark.OpenParen) ∷ us

abbrev closed : List Token → List Token
closed us = token start (word.Mark mark.CloseParen) ∷ us

-- at each place a spelling in parentheses, whatever follows
record Enclosed (a : Exp) (d : ℕ) (q : Pos) : Type 0 where
  inside : List Token → List Token
  spells : (p : Pos) (us : List Token) → Spells all_kept Primary (enclosed p q d a) (opened p (inside us)) us

-- what stands in none of its own is as firm in parentheses as without them
enclose : {a b : Exp} {d : ℕ} {q : Pos} {tokens : List Token → List Token} → ((us : List Token) → Spells all_kept (Level 6) (plain q d a) (tokens us) us) → b ≡ a → Enclosed b d q
enclose {a} {b} {d} {q} {tokens} s same =
    record {
      inside = λ us. tokens (closed us);
      spells = λ p us. subst (λ x. Spells all_kept Primary (enclosed p q d x) (opened p (tokens (closed us))) us) (sym same)
          (subst (λ n. Spells all_kept Primary (enclosed p q n a) (opened p (tokens (closed us))) us) (omega arith)
          (g.parentheses (of_mark mark.OpenParen p _) (s (closed us)) (of_mark mark.CloseParen start us)));
    }

-- an expression for whose names there is such a spelling
abbrev Such : Type 0
Such = (a : Exp) × (has_names any_words a ≡ true → Enclosed a (depth a) (place_of a))

abbrev tree : Exp-F Such → Exp-F Exp
tree x = map-Exp Such Exp (λ a. a.0) x

abbrev SuchOf : Exp-F Exp → Type 0
SuchOf x = Enclosed (roll-Exp x) (depth_step (map-Exp Exp ℕ depth x)) (place_step (map-Exp Exp Pos place_of x))

-- one whose parts have such a spelling has one
each : (x : Exp-F Such) → names_step any_words (map-Exp Exp Bool (has_names any_words) (tree x)) ≡ true → SuchOf (tree x)
each (Exp-F.Number p n) h = enclose (λ us. at_level 6 (g.a_number (at_first p (word.Number n) n us (refl, h)))) (e.rolls-Number p n)
each (Exp-F.Null p) h = enclose (λ us. at_level 6 (g.a_null (at_first p (word.Name (codes "NULL")) tt us refl))) (e.rolls-Null p)
each (Exp-F.Name n) h = enclose (λ us. at_level 6 (g.a_name (name_taken n us h) (name_kept n us h))) (e.rolls-Name n)
each (Exp-F.Unary p o a) h =
    let m = mark_of_unary o in
    let x = a.1 h in
    enclose (λ us. up_to_six 6 0 refl (g.a_unary (at_first p (word.Mark m.sign) o _ m.reads) (at_level 0 (x.spells p us)))) (e.rolls-Unary p o a.0)
each (Exp-F.Binary p o a b) h =
    let m = mark_of_binary o in
    let both = and_parts (has_names any_words a.0) (has_names any_words b.0) h in
    let x = a.1 both.0 in
    let y = b.1 both.1 in
    enclose
    (λ us. up_to_six m.above (suc m.below) m.six
    (g.operands (at_level m.below (x.spells p _))
    (g.an_operator (at_first p (word.Mark m.sign) o _ (m.reads, m.levelled)) (at_level m.below (y.spells p us)) g.no_operator)))
    (e.rolls-Binary p o a.0 b.0)
each (Exp-F.Index p a i) h =
    let both = and_parts (has_names any_words a.0) (has_names any_words i.0) h in
    let x = a.1 both.0 in
    let y = i.1 both.1 in
    enclose
    (λ us. up_to_six 6 0 refl (g.a_postfix (g.postfix (x.spells p _)
    (g.an_index (of_mark mark.OpenBracket p _) (at_level 6 (y.spells p _)) (of_mark mark.CloseBracket p us) g.no_postfix))))
    (e.rolls-Index p a.0 i.0)
each (Exp-F.Field p a n) h =
    let both = and_parts (has_names any_words a.0) (is_short_name any_words n) h in
    let x = a.1 both.0 in
    enclose
    (λ us. up_to_six 6 0 refl (g.a_postfix (g.postfix (x.spells p _) (g.a_field (of_mark mark.Dot p _) (name_taken n us both.1) (name_kept n us both.1) g.no_postfix))))
    (e.rolls-Field p a.0 n)
each (Exp-F.Arrow p a n) h =
    let both = and_parts (has_names any_words a.0) (is_short_name any_words n) h in
    let x = a.1 both.0 in
    enclose
    (λ us. up_to_six 6 0 refl (g.a_postfix (g.postfix (x.spells p _) (g.an_arrow (of_mark mark.Arrow p _) (name_taken n us both.1) (name_kept n us both.1) g.no_postfix))))
    (e.rolls-Arrow p a.0 n)

enclosed_if_named : (x : Exp-F Exp) → (names_step any_words (map-Exp Exp Bool (has_names any_words) x) ≡ true → SuchOf x) → has_names any_words (roll-Exp x) ≡ true → Enclosed (roll-Exp x) (depth (roll-Exp x)) (place_of (roll-Exp x))
enclosed_if_named x s h =
    subst (λ q. Enclosed (roll-Exp x) (depth (roll-Exp x)) q) (sym (fold-roll-Exp Pos place_step x))
    (subst (λ d. Enclosed (roll-Exp x) d (place_step (map-Exp Exp Pos place_of x))) (sym (fold-roll-Exp ℕ depth_step x)) (s (sym (fold-roll-Exp Bool (names_step any_words) x) ∙ h)))

abbrev IsEnclosed : Exp → Type 0
IsEnclosed a = has_names any_words a ≡ true → Enclosed a (depth a) (place_of a)

every_enclosed : (a : Exp) → IsEnclosed a
every_enclosed = ind-Exp IsEnclosed (λ x y is. subst (λ z. IsEnclosed (roll-Exp z)) is (enclosed_if_named (tree y) (each y)))

-- ---- one that stands by itself

abbrev pub in_parentheses : Pos → Exp → Operand
in_parentheses p a = enclosed p (place_of a) (depth a) a

pub record Whole (a : Exp) : Type 0 where
  pub inside : List Token → List Token
  pub expression : (p : Pos) (us : List Token) → Expression all_kept (in_parentheses p a) (opened p (inside us)) us
  pub unary : (p : Pos) (us : List Token) → Unary all_kept (in_parentheses p a) (opened p (inside us)) us

pub whole : (a : Exp) → IsWhole any_words a → Whole a
whole a h =
    let x = every_enclosed a h.names in
    let shallow = le-leb (depth a) 64 h.shallow in
    record {
      inside = x.inside;
      expression = λ p us. g.an_expression (at_level 6 (x.spells p us)) shallow;
      unary = λ p us. g.a_whole_unary (at_level 0 (x.spells p us)) shallow;
    }

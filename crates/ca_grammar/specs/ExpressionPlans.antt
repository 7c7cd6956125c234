-- How expressions are read.
use Rattle.std.specs.Prelude.{ℕ, suc, ◌+◌, Bool, true, false, List, [], None, if◌then◌else◌}
use Rattle.ca_tree.specs.declared.text.Pos.{Pos}
use Rattle.ca_tree.specs.declared.token.Mark.TheVariants as mark
use Rattle.ca_tree.specs.declared.tree.Exp.TheVariants as e
use Rattle.ca_grammar.specs.declared.faults.Count.{Count}
use Rattle.ca_grammar.specs.declared.operand.Operand.{Operand}
use Rattle.ca_grammar.specs.Words.{The_mark, A_number, A_name, A_unary_operator, A_binary_operator, null_word}
use Rattle.ca_grammar.specs.Expressions.{name, leaf, parenthesised, unary, binary, index, field, arrow}
use Rattle.ca_grammar.specs.Goals.{Primary, Postfixes, Postfix, Level, Operators, From, Nameless_unary}
use Rattle.ca_grammar.specs.Plan.{Plan, give, take, want, call, last, deep, no_counts, these, and_name}

abbrev pub one_more : Bool → ℕ
one_more inside = if inside then 1 else 0

abbrev pub in_parentheses : (cs : List Count) (v : ℕ) (inside : Bool) (p : Pos) → Plan (Primary cs v inside)
in_parentheses cs v inside p = call (Level 6 [] (v + one_more inside) true) (λ a. want (The_mark mark.CloseParen) no_counts (λ q x. give (parenthesised p a)))

abbrev pub on_primary : (cs : List Count) (v : ℕ) (inside : Bool) → Plan (Primary cs v inside)
on_primary cs v inside =
    take (The_mark mark.OpenParen) (deep (v + one_more inside + 1)) (these cs) (λ p x. in_parentheses cs v inside p)
    (take null_word None (these cs) (λ p x. give (leaf p (e.Null p)))
    (take A_name None (and_name cs) (λ p t. give (leaf p (e.Name (name p t))))
    (want A_number (these cs) (λ p n. give (leaf p (e.Number p n))))))

abbrev pub more_postfixes : (v : ℕ) (a b : Operand) → Plan (Postfixes v a)
more_postfixes v a b = last (Postfixes v b) (Postfixes v a) (λ c. c)

abbrev pub on_postfixes : (v : ℕ) (a : Operand) → Plan (Postfixes v a)
on_postfixes v a =
    take (The_mark mark.OpenBracket) (deep (v + a.depth + 1)) no_counts
    (λ p x. call (Level 6 [] (v + 1) false) (λ i. want (The_mark mark.CloseBracket) no_counts (λ q y. more_postfixes v a (index a i))))
    (take (The_mark mark.Dot) (deep (v + a.depth + 1)) no_counts (λ p x. want A_name (and_name []) (λ q t. more_postfixes v a (field a (name q t))))
    (take (The_mark mark.Arrow) (deep (v + a.depth + 1)) no_counts (λ p x. want A_name (and_name []) (λ q t. more_postfixes v a (arrow a (name q t))))
    (give a)))

abbrev pub on_unary : (cs : List Count) (v : ℕ) (inside : Bool) → Plan (Level 0 cs v inside)
on_unary cs v inside =
    take A_unary_operator (deep (v + 2)) (these cs) (λ p o. last (Level 0 [] (v + 1) false) (Level 0 cs v inside) (unary p o))
    (last (Postfix cs v inside) (Level 0 cs v inside) (λ a. a))

abbrev pub on_operators : (l : ℕ) (v : ℕ) (a : Operand) → Plan (Operators (suc l) v a)
on_operators l v a =
    take (A_binary_operator (suc l)) (deep (v + a.depth + 1)) no_counts
    (λ p o. call (Level l [] (v + 1) false) (λ b. last (Operators (suc l) v (binary o a b)) (Operators (suc l) v a) (λ c. c)))
    (give a)

abbrev pub from_leaf : (cs : List Count) → Operand → Plan (Nameless_unary cs)
from_leaf cs a = last (From 0 a) (Nameless_unary cs) (λ b. b)

abbrev pub on_nameless_unary : (cs : List Count) → Plan (Nameless_unary cs)
on_nameless_unary cs =
    take A_unary_operator (deep 2) (these cs) (λ p o. last (Level 0 [] 1 false) (Nameless_unary cs) (unary p o))
    (take (The_mark mark.OpenParen) (deep 1) (these cs) (λ p x. call (Level 6 [] 0 true) (λ a. want (The_mark mark.CloseParen) no_counts (λ q y. from_leaf cs (parenthesised p a))))
    (take null_word None (these cs) (λ p x. from_leaf cs (leaf p (e.Null p)))
    (want A_number (these cs) (λ p n. from_leaf cs (leaf p (e.Number p n))))))

-- Operands in their loops: the postfixes behind one, and the operators of a level with their right operands.
use Rattle.std.proofs.Common.{◌≡◌, ℕ, suc, ◌+◌, ◌≤◌, ◌&&◌, Bool, true, false, List, [], Option, Some, None, Result, refl, sym, subst, arith}
use Rattle.std.proofs.lemmas.Bool.Decides.{nat_tests}
use Rattle.ca_tree.specs.declared.text.Pos.{Pos}
use Rattle.ca_tree.specs.declared.token.Mark.TheVariants as mark
use Rattle.ca_tree.specs.declared.token.Token.{Token}
use Rattle.ca_tree.specs.declared.tree.Name.{Name}
use Rattle.ca_tree.specs.declared.tree.BinaryOp.{BinaryOp}
use Rattle.ca_grammar.specs.declared.faults.Count.{Count}
use Rattle.ca_grammar.specs.declared.operand.Operand.{Operand}
use Rattle.ca_grammar.specs.Words.{The_mark, A_name, A_binary_operator, Takes, Lacks}
use Rattle.ca_grammar.specs.Limits.{Rule, the_limits}
use Rattle.ca_grammar.specs.Expressions.{name, parenthesised, binary, index, field, arrow}
use Rattle.ca_grammar.specs.Goals.{Goal, Primary, Postfixes, Level, Operators, Behind}
use Rattle.ca_grammar.specs.Plan.{Plan, give, take, want, call, no_counts, and_name, deep}
use Rattle.ca_grammar.specs.ExpressionPlans.{more_postfixes, one_more}
use Rattle.ca_grammar.specs.Reads.{plan, Outcome, Yes, No, Reads, exceeded, gives, takes, overs, passes, wants, calls, fails}
use Rattle.ca_expressions.specs.declared.stop.Stop.{Stop}
use Rattle.ca_expressions.specs.declared.expressions.PostfixMark.{PostfixMark}
use Rattle.ca_expressions.specs.declared.expressions.PostfixMark.TheVariants.{OpenBracket, Dot, Arrow}
use Rattle.ca_expressions.specs.Reading.{Reading, IsWithin, Onward, mark_of, behind}
use Rattle.ca_expressions.proofs.Following.{Fails, Gives, read_on, other_mark}

-- ---- parentheses

-- behind the `(`, where w is how deep the expression stands in it
pub into_parentheses : (cs : List Count) (v : ℕ) (inside : Bool) (w : ℕ) (p : Pos) (ts us : List Token) (o : Outcome (Primary cs v inside)) → w ≡ v + one_more inside → Takes (The_mark mark.OpenParen) ts p tt us
    → exceeded the_limits cs (deep (w + 1)) ≡ None → Reads the_limits (Primary cs v inside) (call (Level 6 [] w true) (λ a. want (The_mark mark.CloseParen) no_counts (λ q x. give (parenthesised p a)))) us o
    → Reads the_limits (Primary cs v inside) (plan (Primary cs v inside)) ts o
into_parentheses cs v inside w p ts us o e t x d = takes t (rw e at x) (rw e at d)

pub parentheses_over : (cs : List Count) (v : ℕ) (inside : Bool) (w : ℕ) (p : Pos) (ts us : List Token) (r : Rule) → w ≡ v + one_more inside → Takes (The_mark mark.OpenParen) ts p tt us
    → exceeded the_limits cs (deep (w + 1)) ≡ Some r → Fails (Primary cs v inside) (Some r) ts ts
parentheses_over cs v inside w p ts us r e t x = overs t (rw e at x)

-- ---- operators of a level

abbrev pub MoreOperators : (l v : ℕ) (b a : Operand) (us ts : List Token) → Type 0
MoreOperators l v b a us ts = Onward (Operators l v b) (Operators l v a) (λ c. c) (plan (Operators l v a)) us ts

pub operator_over : (l k v : ℕ) (b a : Operand) (p : Pos) (o : BinaryOp) (us vs ts : List Token) (r : Rule) → suc k ≡ l → Takes (A_binary_operator l) us p o vs
    → exceeded the_limits [] (deep (v + b.depth + 1)) ≡ Some r → MoreOperators l v b a us ts → Fails (Operators l v a) (Some r) ts us
operator_over l k v b a p o us vs ts r e =
    subst (λ l. Takes (A_binary_operator l) us p o vs → exceeded the_limits [] (deep (v + b.depth + 1)) ≡ Some r → MoreOperators l v b a us ts → Fails (Operators l v a) (Some r) ts us) e (λ t x h. h.no (Some r) us (overs t x))

pub operand_fails : (l k v : ℕ) (b a : Operand) (p : Pos) (o : BinaryOp) (us vs ws ts : List Token) (r : Option Rule) → suc k ≡ l → Takes (A_binary_operator l) us p o vs
    → exceeded the_limits [] (deep (v + b.depth + 1)) ≡ None → Fails (Level k [] (v + 1) false) r vs ws → MoreOperators l v b a us ts → Fails (Operators l v a) r ts ws
operand_fails l k v b a p o us vs ws ts r e =
    subst (λ l. Takes (A_binary_operator l) us p o vs → exceeded the_limits [] (deep (v + b.depth + 1)) ≡ None → Fails (Level k [] (v + 1) false) r vs ws → MoreOperators l v b a us ts → Fails (Operators l v a) r ts ws) e
    (λ t x d h. h.no r ws (takes t x (fails d)))

pub operand_read : (l k v : ℕ) (b a c d : Operand) (p : Pos) (o : BinaryOp) (us vs ws ts : List Token) → suc k ≡ l → d ≡ binary o b c → Takes (A_binary_operator l) us p o vs
    → exceeded the_limits [] (deep (v + b.depth + 1)) ≡ None → Gives (Level k [] (v + 1) false) c vs ws → MoreOperators l v b a us ts → MoreOperators l v d a ws ts
operand_read l k v b a c d p o us vs ws ts e i t x g h =
    subst (λ d. MoreOperators l v d a ws ts) (sym i)
    (subst (λ l. Takes (A_binary_operator l) us p o vs → MoreOperators l v b a us ts → MoreOperators l v (binary o b c) a ws ts) e
    (λ t h. record {
      yes = λ c xs r. h.yes c xs (takes t x (calls g (calls r gives)));
      no = λ r xs y. h.no r xs (takes t x (calls g (fails y)));
    }) t h)

pub operators_end : (l k v : ℕ) (b a : Operand) (us ts : List Token) → suc k ≡ l → Lacks (A_binary_operator l) us → MoreOperators l v b a us ts → Gives (Operators l v a) b ts us
operators_end l k v b a us ts e = subst (λ l. Lacks (A_binary_operator l) us → MoreOperators l v b a us ts → Gives (Operators l v a) b ts us) e (λ n h. h.yes b us (passes n gives))

-- a level above the lowest: what its first operand is, and the operators behind it
pub level_fails : (l k : ℕ) (cs : List Count) (v : ℕ) (inside : Bool) (r : Option Rule) (us ts : List Token) → suc k ≡ l → Fails (Level k cs v inside) r ts us → Fails (Level l cs v inside) r ts us
level_fails l k cs v inside r us ts e d = subst (λ l. Fails (Level l cs v inside) r ts us) e (fails d)

pub level_read : {X : Type 0} (l k : ℕ) (cs : List Count) (v : ℕ) (inside : Bool) (a : Operand) (us ts : List Token) (view : X → Operand × List Token) (r : Result X Stop) → suc k ≡ l
    → Gives (Level k cs v inside) a ts us → Reading (Operators l v a) view us r → Reading (Level l cs v inside) view ts r
level_read l k cs v inside a us ts view r e d =
    subst (λ l. Reading (Operators l v a) view us r → Reading (Level l cs v inside) view ts r) e
    (read_on (Operators (suc k) v a) (Level (suc k) cs v inside) view view us ts r (λ x w. calls d (calls w gives)) (λ r vs w. calls d (fails w)))

pub behind_fails : (l k : ℕ) (a : Operand) (r : Option Rule) (us ts : List Token) → suc k ≡ l → Fails (Behind k a) r ts us → Fails (Behind l a) r ts us
behind_fails l k a r us ts e d = subst (λ l. Fails (Behind l a) r ts us) e (fails d)

pub behind_read : {X : Type 0} (l k : ℕ) (a b : Operand) (us ts : List Token) (view : X → Operand × List Token) (r : Result X Stop) → suc k ≡ l → Gives (Behind k a) b ts us
    → Reading (Operators l 0 b) view us r → Reading (Behind l a) view ts r
behind_read l k a b us ts view r e d =
    subst (λ l. Reading (Operators l 0 b) view us r → Reading (Behind l a) view ts r) e
    (read_on (Operators (suc k) 0 b) (Behind (suc k) a) view view us ts r (λ x w. calls d (calls w gives)) (λ r vs w. calls d (fails w)))

-- ---- postfixes

abbrev pub MorePostfixes : (v : ℕ) (b a : Operand) (us ts : List Token) → Type 0
MorePostfixes v b a us ts = Onward (Postfixes v b) (Postfixes v a) (λ c. c) (plan (Postfixes v a)) us ts

-- a postfix's step is reached past those of the marks before it
to_mark : (m : PostfixMark) (v : ℕ) (a : Operand) (p : Pos) (us vs : List Token) (o : Outcome (Postfixes v a)) → Takes (The_mark (mark_of m)) us p tt vs
    → ((k : Plan (Postfixes v a)) → Reads the_limits (Postfixes v a) (take (The_mark (mark_of m)) (deep (v + a.depth + 1)) no_counts (λ p x. behind m v a) k) us o)
    → Reads the_limits (Postfixes v a) (plan (Postfixes v a)) us o
to_mark OpenBracket v a p us vs o t f = f _
to_mark Dot v a p us vs o t f = passes (other_mark mark.Dot mark.OpenBracket p us vs (λ e. absurd cc) t) (f _)
to_mark Arrow v a p us vs o t f = passes (other_mark mark.Arrow mark.OpenBracket p us vs (λ e. absurd cc) t) (passes (other_mark mark.Arrow mark.Dot p us vs (λ e. absurd cc) t) (f _))

pub postfix_over : (m : PostfixMark) (v : ℕ) (b a : Operand) (p : Pos) (us vs ts : List Token) (r : Rule) → Takes (The_mark (mark_of m)) us p tt vs → exceeded the_limits [] (deep (v + b.depth + 1)) ≡ Some r
    → MorePostfixes v b a us ts → Fails (Postfixes v a) (Some r) ts us
postfix_over m v b a p us vs ts r t e h = h.no (Some r) us (to_mark m v b p us vs (No (Some r) us) t (λ k. overs t e))

pub postfix_fails : (m : PostfixMark) (v : ℕ) (b a : Operand) (p : Pos) (us vs ws ts : List Token) (r : Option Rule) → Takes (The_mark (mark_of m)) us p tt vs → exceeded the_limits [] (deep (v + b.depth + 1)) ≡ None
    → Reads the_limits (Postfixes v b) (behind m v b) vs (No r ws) → MorePostfixes v b a us ts → Fails (Postfixes v a) r ts ws
postfix_fails m v b a p us vs ws ts r t e d h = h.no r ws (to_mark m v b p us vs (No r ws) t (λ k. takes t e d))

pub postfix_read : (m : PostfixMark) (v : ℕ) (b a c : Operand) (p : Pos) (us vs ws ts : List Token) → Takes (The_mark (mark_of m)) us p tt vs → exceeded the_limits [] (deep (v + b.depth + 1)) ≡ None
    → Onward (Postfixes v c) (Postfixes v b) (λ c. c) (behind m v b) ws vs → MorePostfixes v b a us ts → MorePostfixes v c a ws ts
postfix_read m v b a c p us vs ws ts t e d h = record {
  yes = λ c xs r. h.yes c xs (to_mark m v b p us vs (Yes c xs) t (λ k. takes t e (d.yes c xs r)));
  no = λ r xs x. h.no r xs (to_mark m v b p us vs (No r xs) t (λ k. takes t e (d.no r xs x)));
}

-- an operand with an index, behind the `[`
pub index_read : (v : ℕ) (a i b : Operand) (p : Pos) (ts us vs : List Token) → b ≡ index a i → Gives (Level 6 [] (v + 1) false) i ts us → Takes (The_mark mark.CloseBracket) us p tt vs
    → Onward (Postfixes v b) (Postfixes v a) (λ c. c) (behind OpenBracket v a) vs ts
index_read v a i b p ts us vs e d t = subst (λ b. Onward (Postfixes v b) (Postfixes v a) (λ c. c) (behind OpenBracket v a) vs ts) (sym e) (record {
  yes = λ c xs r. calls d (wants t refl (calls r gives));
  no = λ r xs x. calls d (wants t refl (fails x));
})

-- a name is read that has to be there
abbrev pub NameRead : Name → (us ts : List Token) → Type 0
NameRead n us ts = (g : Goal) (on : Pos → List ℕ → Plan g) (o : Outcome g) → Reads the_limits g (on n.pos n.text) us o → Reads the_limits g (want A_name (and_name []) on) ts o

pub field_read : (v : ℕ) (a b : Operand) (n : Name) (us ts : List Token) → b ≡ field a n → NameRead n us ts → Onward (Postfixes v b) (Postfixes v a) (λ c. c) (behind Dot v a) us ts
field_read v a b n us ts e w = subst (λ b. Onward (Postfixes v b) (Postfixes v a) (λ c. c) (behind Dot v a) us ts) (sym e) (record {
  yes = λ c xs r. w (Postfixes v a) (λ q t. more_postfixes v a (field a (name q t))) (Yes c xs) (calls r gives);
  no = λ r xs y. w (Postfixes v a) (λ q t. more_postfixes v a (field a (name q t))) (No r xs) (fails y);
})

pub arrow_read : (v : ℕ) (a b : Operand) (n : Name) (us ts : List Token) → b ≡ arrow a n → NameRead n us ts → Onward (Postfixes v b) (Postfixes v a) (λ c. c) (behind Arrow v a) us ts
arrow_read v a b n us ts e w = subst (λ b. Onward (Postfixes v b) (Postfixes v a) (λ c. c) (behind Arrow v a) us ts) (sym e) (record {
  yes = λ c xs r. w (Postfixes v a) (λ q t. more_postfixes v a (arrow a (name q t))) (Yes c xs) (calls r gives);
  no = λ r xs y. w (Postfixes v a) (λ q t. more_postfixes v a (arrow a (name q t))) (No r xs) (fails y);
})

-- ---- depths

no_more : (inside : Bool) → one_more (inside && false) ≡ 0
no_more true = refl
no_more false = refl

-- a depth that exceeds no limit
pub within_depth : (n : ℕ) → exceeded the_limits [] (deep n) ≡ None → n ≤ 64
within_depth n h = grind (arith, nat_tests)

-- an operand with its right one
pub operand_depth : (v : ℕ) (inside : Bool) (b c d : Operand) (o : BinaryOp) → d ≡ binary o b c → exceeded the_limits [] (deep (v + b.depth + 1)) ≡ None → v + 1 + (c.depth + 0) ≤ 64 → IsWithin v inside d
operand_depth v inside b c d o e x h =
    let w = within_depth (v + b.depth + 1) x in
    subst (λ d. IsWithin v inside d) (sym e) (omega arith, rw (no_more inside) (omega arith))

-- an operand that would fit in parentheses fits
pub fits_inside : (v : ℕ) (inside : Bool) (a : Operand) → IsWithin v true a → IsWithin v inside a
fits_inside v true a h = h
fits_inside v false a h = (h.0, omega (arith, h.1))

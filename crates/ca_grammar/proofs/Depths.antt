-- How deep what is spelled is, and what a place of a depth lets stand there.
use Rattle.std.proofs.Common.{◌≡◌, ◌⊎◌, inl, inr, ℕ, ◌<◌, ◌≤◌, ◌+◌, max, Bool, true, false, ◌&&◌, List, Option, Some, None, if◌then◌else◌, arith, refl, sym, subst}
use Rattle.std.proofs.lemmas.Bool.{leb-true, le-leb}
use Rattle.ca_tree.specs.declared.token.Token.{Token}
use Rattle.ca_grammar.specs.declared.operand.Operand.{Operand}
use Rattle.ca_grammar.specs.Limits.{Depth, Limits, within, Allowed}
use Rattle.ca_grammar.specs.Expressions.{Part, Primary, Postfixes, Postfix, Level, Operators, Unary, Expression, Spells}
use Rattle.ca_grammar.specs.Expressions as g
use Rattle.ca_grammar.specs.ExpressionPlans.{one_more}
use Rattle.ca_grammar.proofs.Loose.{Fits}

-- what is spelled is at least one deep, and at least as deep as what it goes on from
abbrev pub Deep : Part → Operand → Type 0
Deep Primary b = 1 ≤ b.depth
Deep (Postfixes a) b = a.depth ≤ b.depth
Deep Postfix b = 1 ≤ b.depth
Deep (Level l) b = 1 ≤ b.depth
Deep (Operators l a) b = a.depth ≤ b.depth
Deep Unary b = 1 ≤ b.depth
Deep Expression b = 1 ≤ b.depth

pub deep : {allowed : Allowed} {P : Part} {b : Operand} {ts us : List Token} → Spells allowed P b ts us → Deep P b
deep (g.a_number t) = omega arith
deep (g.a_null t) = omega arith
deep (g.a_name t n) = omega arith
deep (g.parentheses t s e) = omega (arith, deep s)
deep (g.postfix s r) = omega (arith, deep s, deep r)
deep g.no_postfix = omega arith
deep (g.an_index t s e r) = omega (arith, deep r)
deep (g.a_field t m n r) = omega (arith, deep r)
deep (g.an_arrow t m n r) = omega (arith, deep r)
deep (g.a_unary t s) = omega (arith, deep s)
deep (g.a_postfix s) = deep s
deep (g.operands s r) = omega (arith, deep s, deep r)
deep g.no_operator = omega arith
deep (g.an_operator t s r) = omega (arith, deep r)
deep (g.a_whole_unary s w) = deep s
deep (g.an_expression s w) = deep s

pub at_most : (limit : Option ℕ) (m n : ℕ) → within limit n ≡ true → m ≤ n → within limit m ≡ true
at_most None m n h e = refl
at_most (Some k) m n h e = le-leb m k (omega (arith, leb-true n k h))

-- what is one deeper than two that fit one deeper
pub room_for_both : (limit : Option ℕ) (v m n : ℕ) → within limit (v + m + 1) ≡ true → within limit (v + 1 + (n + 0)) ≡ true → within limit (v + (max m n + 1)) ≡ true
room_for_both None v m n h i = refl
room_for_both (Some k) v m n h i = le-leb (v + (max m n + 1)) k (omega (arith, leb-true (v + m + 1) k h, leb-true (v + 1 + (n + 0)) k i))

-- what isn't in parentheses weighs its depth alone
pub no_more : (inside : Bool) → one_more (inside && false) ≡ 0
no_more true = refl
no_more false = refl

pub one_at_most : (b : Bool) → one_more b ≤ 1
one_at_most true = omega arith
one_at_most false = omega arith

-- parentheses round an expression weigh what it weighs inside them
pub round : (v d : ℕ) (inside b : Bool) → v + one_more inside + (d + one_more (true && b)) ≡ v + (d + (if b then 1 else 0) + one_more (inside && true))
round v d true true = omega arith
round v d true false = omega arith
round v d false true = omega arith
round v d false false = omega arith

pub plain_fits : (limit : Option ℕ) (v d : ℕ) (inside : Bool) → within limit (v + d) ≡ true → within limit (v + (d + one_more (inside && false))) ≡ true
plain_fits limit v d inside h = at_most limit (v + (d + one_more (inside && false))) (v + d) h (omega (arith, no_more inside))

-- what goes on from an operand is that operand, or deeper and not in parentheses
abbrev pub Grows : Operand → Operand → Type 0
Grows a b = (a ≡ b) ⊎ ((a.depth < b.depth) × (b.in_parentheses ≡ false))

abbrev pub GrowsFrom : Part → Operand → Type 0
GrowsFrom (Postfixes a) b = Grows a b
GrowsFrom (Operators l a) b = Grows a b
GrowsFrom P b = Unit {0}

grows_by : (a b c : Operand) → a.depth < b.depth → b.in_parentheses ≡ false → Grows b c → Grows a c
grows_by a b c h i (inl e) = inr (subst (λ (x : Operand). a.depth < x.depth) e h, subst (λ (x : Operand). x.in_parentheses ≡ false) e i)
grows_by a b c h i (inr g) = inr (omega (arith, g.0), g.1)

pub grows : {allowed : Allowed} {P : Part} {b : Operand} {ts us : List Token} → Spells allowed P b ts us → GrowsFrom P b
grows g.no_postfix = inl refl
grows (g.an_index {a = a} {i} {b} t s e r) = grows_by a (g.index a i) b (omega arith) refl (grows r)
grows (g.a_field {q = q} {t = n} {a = a} {b} t m w r) = grows_by a (g.field a (g.name q n)) b (omega arith) refl (grows r)
grows (g.an_arrow {q = q} {t = n} {a = a} {b} t m w r) = grows_by a (g.arrow a (g.name q n)) b (omega arith) refl (grows r)
grows g.no_operator = inl refl
grows (g.an_operator {o = o} {a} {b} {c} t s r) = grows_by a (g.binary o a b) c (omega arith) refl (grows r)
grows _ = tt

-- it fits at the place of that operand
pub grown_fits : (limits : Limits) (v : ℕ) (inside : Bool) (a b : Operand) → Grows a b → Fits limits v inside a → Fits limits v false b → Fits limits v inside b
grown_fits limits v inside a b (inl e) h i = subst (λ (x : Operand). Fits limits v inside x) e h
grown_fits limits v inside a b (inr g) h i =
    subst (λ x. within (limits Depth) (v + (b.depth + one_more (inside && x))) ≡ true) (sym g.1)
    (plain_fits (limits Depth) v b.depth inside (at_most (limits Depth) (v + b.depth) (v + (b.depth + 0)) i (omega arith)))

-- and where it fits, so does that operand
pub base_fits : (limits : Limits) (v : ℕ) (inside : Bool) (a b : Operand) → Grows a b → Fits limits v inside b → Fits limits v inside a
base_fits limits v inside a b (inl e) h = subst (λ (x : Operand). Fits limits v inside x) (sym e) h
base_fits limits v inside a b (inr g) h =
    at_most (limits Depth) (v + (a.depth + one_more (inside && a.in_parentheses))) (v + (b.depth + one_more (inside && b.in_parentheses))) h
    (omega (arith, g.0, one_at_most (inside && a.in_parentheses)))

-- What a reader of the code answers.
use Rattle.std.specs.Prelude.{◌≡◌, ◌≤◌, ℕ, ◌+◌, Bool, ◌&&◌, false, List, [], Option, Some, None, Result, Ok, Err, MatchResult}
use Rattle.std.specs.Borrow.{Bor}
use Rattle.ca_tree.specs.declared.text.Pos.{Pos}
use Rattle.ca_tree.specs.declared.token.Token.{Token}
use Rattle.ca_tree.specs.declared.token.Mark.{Mark}
use Rattle.ca_tree.specs.declared.token.Mark.TheVariants as mark
use Rattle.ca_tree.specs.declared.tree.Name.{Name}
use Rattle.ca_grammar.specs.declared.faults.Count.{Count}
use Rattle.ca_tree.specs.declared.counted.Counted.{Counted}
use Rattle.ca_grammar.specs.declared.faults.ReadKind.TheVariants.{TooMany}
use Rattle.ca_grammar.specs.declared.operand.Operand.{Operand}
use Rattle.ca_grammar.specs.Words.{The_mark, A_name}
use Rattle.ca_grammar.specs.Limits.{Rule, Firm, Star, the_limits}
use Rattle.ca_grammar.specs.Faults.{kind_of}
use Rattle.ca_grammar.specs.Expressions.{name, index, field, arrow}
use Rattle.ca_grammar.specs.Goals.{Goal, Postfixes, Level, Tree}
use Rattle.ca_grammar.specs.Plan.{deep, Plan, want, call, no_counts, and_name}
use Rattle.ca_grammar.specs.ExpressionPlans.{more_postfixes, one_more}
use Rattle.ca_grammar.specs.Reads.{plan, Outcome, Yes, No, Reads, exceeded}
use Rattle.ca_expressions.specs.declared.stop.Stop.{Stop}
use Rattle.ca_expressions.specs.declared.stop.Stop.TheVariants.{At, Over, Starless, NoMemory}
use Rattle.ca_expressions.specs.declared.expressions.PostfixMark.{PostfixMark}
use Rattle.ca_expressions.specs.declared.expressions.PostfixMark.TheVariants.{OpenBracket, Dot, Arrow}

-- a plan comes to a stop
abbrev pub StopsIn : (g : Goal) → Plan g → List Token → Stop → Type 0
StopsIn g k ts (At us) = Reads the_limits g k ts (No None us.now)
StopsIn g k ts (Over c us) = (r : Rule) × Reads the_limits g k ts (No (Some r) us.now) × (kind_of r ≡ TooMany c)
StopsIn g k ts (Starless us) = Reads the_limits g k ts (No (Some Star) us.now)
StopsIn g k ts NoMemory = Unit {0}

abbrev pub Stops : (g : Goal) → List Token → Stop → Type 0
Stops g ts s = StopsIn g (plan g) ts s

-- what a plan of a goal comes to that is followed to its end: a tree with the tokens behind it, or a stop
abbrev pub Following : {X : Type 0} (g : Goal) → Plan g → (X → Tree g × List Token) → List Token → Result X Stop → Type 0
Following g k view ts (Ok x) = Reads the_limits g k ts (Yes (view x).0 (view x).1)
Following g k view ts (Err e) = StopsIn g k ts e

abbrev pub Reading : {X : Type 0} (g : Goal) → (X → Tree g × List Token) → List Token → Result X Stop → Type 0
Reading g view ts r = Following g (plan g) view ts r

-- a plan is followed at its beginning, whatever it does then with what is read there
abbrev pub Beginning : {A X : Type 0} → ((g : Goal) → (A → Plan g) → Plan g) → (X → A × List Token) → List Token → Result X Stop → Type 0
Beginning {A = A} k view ts (Ok x) = (g : Goal) (on : A → Plan g) (o : Outcome g) → Reads the_limits g (on (view x).0) (view x).1 o → Reads the_limits g (k g on) ts o
Beginning {A = A} k view ts (Err e) = (g : Goal) (on : A → Plan g) → StopsIn g (k g on) ts e

abbrev pub at_depth : Option ℕ → Option Firm
at_depth None = None
at_depth (Some n) = deep n

-- the first rule that a step breaks, as what there are too many of
abbrev pub IsExceeded : List Count → Option ℕ → Option Counted → Type 0
IsExceeded cs depth None = exceeded the_limits cs (at_depth depth) ≡ None
IsExceeded cs depth (Some c) = (r : Rule) × (exceeded the_limits cs (at_depth depth) ≡ Some r) × (kind_of r ≡ TooMany c)

-- an operand that stands v deep, and maybe directly in parentheses, is no deeper than an expression may be
abbrev pub IsWithin : (v : ℕ) (inside : Bool) → Operand → Type 0
IsWithin v inside a = (1 ≤ a.depth) × (v + (a.depth + one_more (inside && a.in_parentheses)) ≤ 64)

-- Where q is read at us, a plan is read at ts: it comes to q, with nothing behind it.
pub record Onward (q g : Goal) (turn : Tree q → Tree g) (k : Plan g) (us ts : List Token) : Type 0 where
  pub yes : (a : Tree q) (vs : List Token) → Reads the_limits q (plan q) us (Yes a vs) → Reads the_limits g k ts (Yes (turn a) vs)
  pub no : (r : Option Rule) (vs : List Token) → Reads the_limits q (plan q) us (No r vs) → Reads the_limits g k ts (No r vs)

-- a name is read that has to be there, with what is counted at it, whatever the plan does with it
abbrev pub WantsName : List Count → List Token → Result (Name × Bor (List Token)) Stop → Type 0
WantsName cs ts (Ok x) = (g : Goal) (on : Pos → List ℕ → Plan g) (o : Outcome g) → Reads the_limits g (on x.0.pos x.0.text) x.1.now o → Reads the_limits g (want A_name (and_name cs) on) ts o
WantsName cs ts (Err e) = (g : Goal) (on : Pos → List ℕ → Plan g) → StopsIn g (want A_name (and_name cs) on) ts e

abbrev pub mark_of : PostfixMark → Mark
mark_of OpenBracket = mark.OpenBracket
mark_of Dot = mark.Dot
mark_of Arrow = mark.Arrow

-- what the plan of postfixes does behind the mark of one
abbrev pub behind : PostfixMark → (v : ℕ) (a : Operand) → Plan (Postfixes v a)
behind OpenBracket v a = call (Level 6 [] (v + 1) false) (λ i. want (The_mark mark.CloseBracket) no_counts (λ q y. more_postfixes v a (index a i)))
behind Dot v a = want A_name (and_name []) (λ q t. more_postfixes v a (field a (name q t)))
behind Arrow v a = want A_name (and_name []) (λ q t. more_postfixes v a (arrow a (name q t)))

-- a postfix is read behind its mark, and the operand with it is what further ones are read from
abbrev pub Postfixed : PostfixMark → (v : ℕ) (a : Operand) → List Token → Result (Operand × Bor (List Token)) Stop → Type 0
Postfixed m v a ts r = MatchResult r (λ x. Onward (Postfixes v x.0) (Postfixes v a) (λ c. c) (behind m v a) x.1.now ts) (λ e. StopsIn (Postfixes v a) (behind m v a) ts e)

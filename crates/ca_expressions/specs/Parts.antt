-- Parts of expressions that begin something larger.
use Rattle.std.specs.Prelude.{List, [], None, true, false}
use Rattle.ca_tree.specs.declared.text.Pos.{Pos}
use Rattle.ca_tree.specs.declared.tree.UnaryOp.{UnaryOp}
use Rattle.ca_tree.specs.declared.tree.Exp.TheVariants as e
use Rattle.ca_grammar.specs.declared.faults.Count.{Count}
use Rattle.ca_grammar.specs.declared.operand.Operand.{Operand}
use Rattle.ca_grammar.specs.Words.{A_number, null_word, close_paren}
use Rattle.ca_grammar.specs.Expressions.{leaf, parenthesised, unary}
use Rattle.ca_grammar.specs.Goals.{Goal, Level}
use Rattle.ca_grammar.specs.Plan.{Plan, take, want, call, these}
use Rattle.ca_grammar.specs.PhrasePlans.{must}

-- a number or `NULL`
abbrev pub on_literal : (cs : List Count) (g : Goal) → (Operand → Plan g) → Plan g
on_literal cs g on = take null_word None (these cs) (λ p x. on (leaf p (e.Null p))) (want A_number (these cs) (λ p n. on (leaf p (e.Number p n))))

-- behind the `(` of an expression, or an operator of one operand
abbrev pub on_inner : (p : Pos) (g : Goal) → (Operand → Plan g) → Plan g
on_inner p g on = call (Level 6 [] 0 true) (λ a. must close_paren (on (parenthesised p a)))

abbrev pub on_signed : (p : Pos) (o : UnaryOp) (g : Goal) → (Operand → Plan g) → Plan g
on_signed p o g on = call (Level 0 [] 1 false) (λ a. on (unary p o a))

use Rattle.std.proofs.Common.{true, false, codes, refl, sym, subst}
use Rattle.ca_grammar.specs.Words.{The_word}
use Rattle.ca_grammar.specs.Goals.{Braceless}
use Rattle.ca_grammar.specs.StatementPlans.{in_loops, simply_said}
use Rattle.ca_grammar.specs.Reads.{passes}
use Rattle.ca_expressions.specs.Reading.{Following}
use Rattle.ca_statements.specs.StatementReading.{branch_and_rest}
use Rattle.ca_expressions.proofs.Following.{follow_on}
use Rattle.ca_statements.proofs.StatementSteps.{continue_or_simple}
use Rattle.ca_statements.proofs.statements.in_loops.Goals as goal

pub returns-then-not-in_loop-clause-reads : goal.returns-then-not-in_loop-clause-reads
returns-then-not-in_loop-clause-reads c =
    subst (λ b. Following (Braceless b c.args.depth c.args.items) (in_loops b c.args.depth c.args.items) branch_and_rest c.args.tokens.now c.simply_said.result) (sym c.if-not-in_loop.true) (c.simply_said.ensures.reads false)

pub returns-in-Some-clause-reads : goal.returns-in-Some-clause-reads
returns-in-Some-clause-reads c =
    subst (λ b. Following (Braceless b c.args.depth c.args.items) (in_loops b c.args.depth c.args.items) branch_and_rest c.args.tokens.now c.leap.result) (sym c.if-not-in_loop.false)
    (c.leap.ensures.reads true (The_word (codes "break")) _ (continue_or_simple c.args.depth c.args.items) c.in-Some.pos tt c.in-Some.ensures refl)

pub returns-in-Some-word-clause-reads : goal.returns-in-Some-word-clause-reads
returns-in-Some-word-clause-reads c =
    let g = Braceless true c.args.depth c.args.items in
    subst (λ b. Following (Braceless b c.args.depth c.args.items) (in_loops b c.args.depth c.args.items) branch_and_rest c.args.tokens.now c.leap-in-Some-word.result) (sym c.if-not-in_loop.false)
    (follow_on g g (continue_or_simple c.args.depth c.args.items) (in_loops true c.args.depth c.args.items) branch_and_rest branch_and_rest c.args.tokens.now c.args.tokens.now c.leap-in-Some-word.result
    (λ x d. passes c.in_default.ensures d) (λ r vs d. passes c.in_default.ensures d)
    (c.leap-in-Some-word.ensures.reads true (The_word (codes "continue")) _ (simply_said true c.args.depth c.args.items) c.in-Some-word.pos tt c.in-Some-word.ensures refl))

pub returns-clause-reads : goal.returns-clause-reads
returns-clause-reads c =
    let g = Braceless true c.args.depth c.args.items in
    subst (λ b. Following (Braceless b c.args.depth c.args.items) (in_loops b c.args.depth c.args.items) branch_and_rest c.args.tokens.now c.simply_said-2.result) (sym c.if-not-in_loop.false)
    (follow_on g g (simply_said true c.args.depth c.args.items) (in_loops true c.args.depth c.args.items) branch_and_rest branch_and_rest c.args.tokens.now c.args.tokens.now c.simply_said-2.result
    (λ x d. passes c.in_default.ensures (passes c.in_default-word.ensures d)) (λ r vs d. passes c.in_default.ensures (passes c.in_default-word.ensures d)) (c.simply_said-2.ensures.reads true))

use Rattle.std.proofs.Common.{refl}
use Rattle.ca_grammar.specs.Goals.{Braceless}
use Rattle.ca_grammar.specs.Reads.{overs, wants, misses, gives}
use Rattle.ca_statements.proofs.StatementSteps.{answers, leaps}
use Rattle.ca_statements.proofs.statements.leap.Goals as goal

pub returns-in-Some-clause-reads : goal.returns-in-Some-clause-reads
returns-in-Some-clause-reads c =
    let over = c.in-Some.ensures.exceeded in
    λ in_loop k on otherwise p x t e. (over.0, overs t over.1, over.2)

pub returns-in_default-mark-clause-reads : goal.returns-in_default-mark-clause-reads
returns-in_default-mark-clause-reads c = λ in_loop k on otherwise p x t e. leaps in_loop c.args.depth c.args.items k on otherwise p x _ _ c.args.tokens.now c.args.rest.now _ t e c.in_default.ensures.exceeded (misses c.in_default-mark.ensures)

pub returns-clause-reads : goal.returns-clause-reads
returns-clause-reads c =
    λ in_loop k on otherwise p x t e. answers (Braceless in_loop c.args.depth c.args.items) _ c.args.tokens.now _ _ _ c.closed.ensures
    (leaps in_loop c.args.depth c.args.items k on otherwise p x _ _ c.args.tokens.now c.args.rest.now _ t e c.in_default.ensures.exceeded (wants c.in-Some-mark.ensures refl gives))

use Rattle.std.proofs.Common.{false}
use Rattle.ca_grammar.specs.Goals.{Level, Unary}
use Rattle.ca_grammar.specs.Reads.{calls, fails, gives}
use Rattle.ca_expressions.proofs.Following.{read_on}
use Rattle.ca_expressions.proofs.expressions.unary.Goals as goal

pub returns-clause-reads : goal.returns-clause-reads
returns-clause-reads c = read_on (Level 0 c.args.counts.now 0 false) (Unary c.args.counts.now) _ _ c.args.tokens.now c.args.tokens.now c.level.result (λ x d. calls d gives) (λ r vs d. fails d) c.level.ensures.reads

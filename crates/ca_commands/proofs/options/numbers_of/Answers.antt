use Rattle.ca_commands.specs.Words.{IsNumbers, values_of}
use Rattle.ca_commands.proofs.AtMostOnce.{not_twice}
use Rattle.ca_commands.proofs.options.numbers_of.Goals as goal

pub returns-in-Err-clause-misworded : goal.returns-in-Err-clause-misworded
returns-in-Err-clause-misworded c = λ no'. not_twice (IsNumbers c.args.count c.args.most) (values_of c.args.key c.args.pieces.now) c.in-Err.ensures.twice

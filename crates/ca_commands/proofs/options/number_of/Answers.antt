use Rattle.ca_commands.specs.Words.{IsNumber, values_of}
use Rattle.ca_commands.proofs.AtMostOnce.{not_twice}
use Rattle.ca_commands.proofs.options.number_of.Goals as goal

pub returns-in-Err-clause-misworded : goal.returns-in-Err-clause-misworded
returns-in-Err-clause-misworded c = not_twice (IsNumber c.args.least c.args.most) (values_of c.args.key c.args.pieces.now) c.in-Err.ensures.twice

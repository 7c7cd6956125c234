use Rattle.ca_commands.specs.Words.{names_of}
use Rattle.std.proofs.Common.{sym}
use Rattle.ca_commands.proofs.AtMostOnce.{one_of}
use Rattle.ca_commands.proofs.words.one_name.Goals as goal

pub returns-in-None-clause-found : goal.returns-in-None-clause-found
returns-in-None-clause-found c = one_of (names_of c.args.pieces.now) c.in-Some.name.now (sym c.in-Some.ensures) (sym c.in-None.ensures)

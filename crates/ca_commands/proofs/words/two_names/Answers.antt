use Rattle.ca_commands.specs.Words.{names_of}
use Rattle.std.proofs.Common.{sym}
use Rattle.ca_commands.proofs.AtMostOnce.{two_of}
use Rattle.ca_commands.proofs.words.two_names.Goals as goal

pub returns-in-None-clause-found : goal.returns-in-None-clause-found
returns-in-None-clause-found c = two_of (names_of c.args.pieces.now) c.in-Some.first.now c.in-Some-name_at.second.now (sym c.in-Some.ensures) (sym c.in-Some-name_at.ensures) (sym c.in-None.ensures)

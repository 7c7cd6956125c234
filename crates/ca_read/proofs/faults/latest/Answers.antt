use Rattle.std.proofs.Common.{sym}
use Rattle.ca_read.proofs.Fronts.{place_of_latest}
use Rattle.ca_read.proofs.faults.latest.Goals as goal

pub returns-in-Some : goal.returns-in-Some
returns-in-Some c = place_of_latest c.args.tokens.now c.in-Some.token.now (sym c.in-Some.ensures.value)

use Rattle.ca_lex.proofs.Cuts.{stuck_at_end}
use Rattle.ca_lex.proofs.skipped.after_front.Goals as goal

pub returns-in_default : goal.returns-in_default
returns-in_default c =
    let stuck = stuck_at_end c.args.front.now c.front.rest.now c.front.c-index c.front-test.true c.in_default.ensures.cases in
    cc

use Rattle.std.proofs.Common.{◌≤◌, arith}
use Rattle.ca_commands.proofs.PartTexts.{part_at}
use Rattle.ca_commands.proofs.numbers.each.Goals as goal

pub returns-in_default-clause-none : goal.returns-in_default-clause-none
returns-in_default-clause-none c = λ ns same small.
    let at = part_at c.args.most (λ p. p.now) c.args.parts.now ns c.parts.part-index _ same c.parts-test.true small in
    let above : 0 ≤ at.0 = omega arith in
    absurd (c.in_default.ensures.none at.0 (record { spelled = at.1; above = above; below = at.2 }))

use Rattle.ca_traces.proofs.Numerals.{nothing}
use Rattle.ca_traces.proofs.Parts.{allocation_parts}
use Rattle.ca_traces.proofs.acts.allocation.Goals as goal

pub returns-in_err-cells : goal.returns-in_err-cells
returns-in_err-cells c = nothing _ _ c.from_residual-in_err-cells.ensures (λ a is.
    let t = allocation_parts a c.args.words.now c.in_ok-count.count.now c.in_ok-count.given.now is.0 is.1 c.in_ok-count.ensures in
    c.in_err-cells.ensures t.cells (t.count, t.first))

pub returns-in_err-at : goal.returns-in_err-at
returns-in_err-at c = nothing _ _ c.from_residual-in_err-at.ensures (λ a is.
    let t = allocation_parts a c.args.words.now c.in_ok-count.count.now c.in_ok-count.given.now is.0 is.1 c.in_ok-count.ensures in
    c.in_err-at.ensures t.at (t.start, t.second))

use Rattle.ca_traces.proofs.Numerals.{nothing, address_parts}
use Rattle.ca_traces.proofs.numbers.address.Goals as goal

pub returns-in_err-block : goal.returns-in_err-block
returns-in_err-block c = nothing _ _ c.from_residual-in_err-block.ensures (λ a is.
    let t = address_parts a c.args.word.now c.in_ok-digits.digits.now c.in_ok-front.front.now c.in_ok-front.rest.now is.0 is.1 c.in_ok-digits.ensures c.in_ok-front.ensures in
    c.in_err-block.ensures a.block (is.0.0, t.0))

pub returns-in_err-offset : goal.returns-in_err-offset
returns-in_err-offset c = nothing _ _ c.from_residual-in_err-offset.ensures (λ a is.
    let t = address_parts a c.args.word.now c.in_ok-digits.digits.now c.in_ok-front.front.now c.in_ok-front.rest.now is.0 is.1 c.in_ok-digits.ensures c.in_ok-front.ensures in
    c.in_err-offset.ensures a.offset (is.0.1, t.1))

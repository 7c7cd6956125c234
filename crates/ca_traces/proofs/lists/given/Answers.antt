use Rattle.ca_traces.proofs.Numerals.{nothing, no_word}
use Rattle.ca_traces.proofs.Things.{no_block, no_start}
use Rattle.ca_traces.proofs.lists.given.Goals as goal

pub returns-in_err-block : goal.returns-in_err-block
returns-in_err-block c = nothing _ _ c.from_residual-in_err-block.ensures (λ g is.
    no_block g c.args.word.now c.in_ok-place.place.now c.in_ok-digits.digits.now c.in_ok-digits.offset.now c.in_default.ensures c.in_ok-place.ensures c.in_ok-digits.ensures c.in_err-block.ensures is)

pub returns-else-eq : goal.returns-else-eq
returns-else-eq c = λ g is.
    no_start g c.args.word.now c.in_ok-place.place.now c.in_ok-digits.digits.now c.in_ok-digits.offset.now c.in_default.ensures c.in_ok-place.ensures c.in_ok-digits.ensures (no_word c.in_ok-digits.offset.now _ _ _ c.eq.ensures c.if-eq.false c.as_slice.ensures) is

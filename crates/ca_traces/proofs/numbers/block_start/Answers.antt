use Rattle.std.proofs.Common.{◌∙◌, ℤ, refl, sym, ap}
use Rattle.std.specs.Int.{w32}
use mir.Val.{of_z}
use Rattle.ca_traces.proofs.Numerals.{nothing, no_start, inside, zero_text, is_word, no_word}
use Rattle.ca_traces.proofs.numbers.block_start.Goals as goal

pub returns-then-eq : goal.returns-then-eq
returns-then-eq c = (refl, zero_text ∙ sym (is_word c.args.word.now _ _ _ c.eq.ensures c.if-eq.true c.as_slice.ensures))

pub returns-in_err-at : goal.returns-in_err-at
returns-in_err-at c = nothing _ _ c.from_residual.ensures (λ x is.
    no_start x c.args.word.now c.in_err-at.ensures (no_word c.args.word.now _ _ _ c.eq.ensures c.if-eq.false c.as_slice.ensures) is)

pub returns-else-at-eq0 : goal.returns-else-at-eq0
returns-else-at-eq0 c = λ x is.
    inside x c.args.word.now c.in_ok-at.at c.in_ok-at.ensures (λ e. c.if-at-eq0.false (ap (λ (z : ℤ). of_z w32 z) e)) (no_word c.args.word.now _ _ _ c.eq.ensures c.if-eq.false c.as_slice.ensures) is

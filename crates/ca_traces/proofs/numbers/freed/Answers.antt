use Rattle.std.proofs.Common.{◌∙◌, refl, sym}
use Rattle.ca_traces.proofs.Numerals.{no_freed, zero_text, is_word, no_word}
use Rattle.ca_traces.proofs.numbers.freed.Goals as goal

pub returns-then-eq : goal.returns-then-eq
returns-then-eq c = (refl, zero_text ∙ sym (is_word c.args.word.now _ _ _ c.eq.ensures c.if-eq.true c.as_slice.ensures))

pub returns-else-eq : goal.returns-else-eq
returns-else-eq c = λ x is.
    no_freed x c.args.word.now c.in_default.ensures (no_word c.args.word.now _ _ _ c.eq.ensures c.if-eq.false c.as_slice.ensures) is

use Rattle.ca_traces.proofs.Numerals.{no_word}
use Rattle.ca_traces.proofs.Parts.{no_first}
use Rattle.ca_traces.proofs.acts.act.Goals as goal

pub returns-in_default-spelled : goal.returns-in_default-spelled
returns-in_default-spelled c = λ a is.
    no_first a c.args.words.now c.in-Some.word.now c.in-Some.rest.now c.in-Some.ensures c.in_default-spelled.ensures
    (no_word c.in-Some.word.now _ _ _ c.eq.ensures c.if-eq.false c.as_slice.ensures)
    (no_word c.in-Some.word.now _ _ _ c.eq-2.ensures c.if-eq-2.false c.as_slice-2.ensures) is

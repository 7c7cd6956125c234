use Rattle.ca_traces.proofs.Numerals.{no_word}
use Rattle.ca_traces.proofs.Bytes.{no_output}
use Rattle.ca_traces.proofs.lists.printed.Goals as goal

pub returns-in_default : goal.returns-in_default
returns-in_default c = λ a is. no_output a c.args.word.now (no_word c.args.word.now _ _ _ c.eq.ensures c.if-eq.false c.as_slice.ensures) (rw c.in_default.is at c.in_ok-bytes.ensures) is

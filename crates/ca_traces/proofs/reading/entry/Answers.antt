use Rattle.ca_traces.proofs.Lines.{no_line}
use Rattle.ca_traces.proofs.reading.entry.Goals as goal

pub returns-in_default-2 : goal.returns-in_default-2
returns-in_default-2 c = λ e more fits is. no_line e c.args.text.now c.in-Some.line.now c.in-Some.rest.now more c.in-Some.ensures (rw c.in_default-2.is at c.in_ok-event.ensures) fits is

use Rattle.ca_traces.proofs.Lines.{never_alone, entry_parts}
use Rattle.ca_traces.proofs.reading.event.Goals as goal

pub returns-in_default : goal.returns-in_default
returns-in_default c = λ e is. never_alone e c.args.line.now c.in_default.ensures is

pub returns-in_default-unsigned : goal.returns-in_default-unsigned
returns-in_default-unsigned c = λ e is.
    c.in_default-unsigned.ensures e.thread (is.0.0, (entry_parts e c.args.line.now c.in-Some.word.now c.in-Some.words.now c.in-Some.ensures is).0)

pub returns-in_default-2 : goal.returns-in_default-2
returns-in_default-2 c = λ e is.
    let none = rw c.in_default-2.is at c.in_ok-act.ensures in
    none e.act (is.0.1, (entry_parts e c.args.line.now c.in-Some.word.now c.in-Some.words.now c.in-Some.ensures is).1)

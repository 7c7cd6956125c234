use Rattle.ca_traces.proofs.Things.{retry_alone, no_site, no_things}
use Rattle.ca_traces.proofs.lists.retry.Goals as goal

pub returns-in_default-numbered : goal.returns-in_default-numbered
returns-in_default-numbered c = λ a is. retry_alone a c.args.words.now c.in_default.ensures c.in_default-numbered.ensures is

pub returns-in_default-numbered-2 : goal.returns-in_default-numbered-2
returns-in_default-numbered-2 c = λ a is. no_site a c.args.words.now c.in-Some.word.now c.in-Some.things.now c.in-Some.ensures c.in_default-numbered-2.ensures is

pub returns-in_default-2 : goal.returns-in_default-2
returns-in_default-2 c = λ a is. no_things a c.args.words.now c.in-Some.word.now c.in-Some.things.now c.in-Some.ensures (rw c.in_default-2.is at c.in_ok-gives.ensures) is

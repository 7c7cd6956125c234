use Rattle.ca_traces.proofs.Cutting.{cut_found, cut_none}
use Rattle.ca_traces.proofs.numbers.cut.Goals as goal

pub returns-then-len-text : goal.returns-then-len-text
returns-then-len-text c = cut_found c.args.at c.args.text.now c.front_len-len.result c.front_len-len.ensures c.if-len-text.true

pub returns-else-len-text : goal.returns-else-len-text
returns-else-len-text c = cut_none c.args.at c.args.text.now c.front_len-len.result c.front_len-len.ensures c.if-len-text.false

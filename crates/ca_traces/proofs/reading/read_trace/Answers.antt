use Rattle.ca_traces.proofs.OneReading.{only_list, only_line}
use Rattle.ca_traces.proofs.reading.read_trace.Goals as goal

pub returns-clause-ok : goal.returns-clause-ok
returns-clause-ok c = λ events is. only_list c.args.text.now c.read.result events c.read.ensures is

pub returns-clause-fault : goal.returns-clause-fault
returns-clause-fault c = λ line is. only_line c.args.text.now c.read.result line c.read.ensures is

use Rattle.ca_operands.proofs.Firsts.{answer_of}
use Rattle.ca_operands.proofs.faults.Faults.answer.Goals as goal

pub returns : goal.returns
returns c = λ all is. answer_of all c.args.self.now.first is

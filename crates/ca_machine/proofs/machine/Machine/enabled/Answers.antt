use Rattle.std.proofs.Common.{sym, subst}
use Rattle.ca_model.specs.Codes.{code_of}
use Rattle.ca_model.specs.Runner.{AreEnabled}
use Rattle.ca_machine.proofs.machine.Machine.enabled.Goals as goal

pub returns-in-Ok : goal.returns-in-Ok
returns-in-Ok c = λ events s run. subst (AreEnabled (code_of c.args.self.now.source c.args.self.now.plan) events c.args.patience s c.args.self.now.trace) (sym c.from_vec.ensures) (c.in-Ok.ensures events s run)

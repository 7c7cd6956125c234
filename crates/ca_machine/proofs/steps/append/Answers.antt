use Rattle.std.proofs.Common.{refl}
use Rattle.ca_machine.proofs.steps.append.Goals as goal

pub returns-in-Err-clause-kept : goal.returns-in-Err-clause-kept
returns-in-Err-clause-kept c = (refl, (c.args.own.now.prepared, refl))

use Rattle.std.proofs.Common.{sym, subst}
use Rattle.ca_machine.specs.Runs.{IsAlong}
use Rattle.ca_machine.proofs.Along.{along_none, along_more, along_ended}
use Rattle.ca_machine.proofs.machine.Machine.run_alone.Goals as goal

pub turns-init : goal.turns-init
turns-init c = record { within = c.requires.within; along = λ s run. along_none c.args.events c.args.patience c.args.self.now c.args.schedule.now s run }

pub turns-preserved : goal.turns-preserved
turns-preserved c = record {
  within = (rw c.in-Ok-None.field-0-is at c.in-Ok-None.ensures.longer).1;
  along = λ s run. along_more c.args.events c.args.patience c.args.self.now c.turns.self c.turn.new.machine c.args.schedule.now c.turns.schedule c.turn.new.schedule s (c.turns.invariant.along s run) (rw c.in-Ok-None.field-0-is at c.in-Ok-None.ensures.on);
}

pub returns-in-Ok-Some-clause-ran : goal.returns-in-Ok-Some-clause-ran
returns-in-Ok-Some-clause-ran c = λ s run. along_ended c.args.events c.args.patience c.args.self.now c.turns.self c.turn.new.machine c.args.schedule.now c.turns.schedule s c.in-Ok-Some.end (c.turns.invariant.along s run) (rw c.in-Ok-Some.field-0-is at c.in-Ok-Some.ensures.over)

pub returns-in-Err-clause-cut : goal.returns-in-Err-clause-cut
returns-in-Err-clause-cut c = λ s run. (c.turns.schedule, subst (λ n. IsAlong c.args.events c.args.patience c.args.self.now n c.args.schedule.now c.turns.schedule s) (sym c.in-Err.ensures.err) (c.turns.invariant.along s run))

use Rattle.ca_check.proofs.Following.{no_step}
use Rattle.ca_check.proofs.Onward.{saved_on, comes_next, beside_on}
use Rattle.ca_check.proofs.lifting.save.Goals as goal

pub saves-preserved : goal.saves-preserved
saves-preserved c =
    let reached = c.shared.ensures.runs in
    record {
      beside = beside_on c.args.machine.now c.saves.machine c.follow.new.self _ c.saves.invariant.beside c.in-Ok.ensures.made;
      on = λ events left e own way. saved_on c.saves.machine c.follow.new.self c.args.thread reached.0 reached.1 c.in-Ok.ensures.made (c.in-Ok.ensures.exact reached.0 reached.1) events left e own (c.saves.invariant.on events left e own way);
    }

pub returns-in-Err-NotAStep-clause-next : goal.returns-in-Err-NotAStep-clause-next
returns-in-Err-NotAStep-clause-next c =
    let reached = c.shared.ensures.runs in
    let none = no_step (Unit {0}) _ c.in-Err-NotAStep.field-0 c.in-Err-NotAStep.field-0-is (c.in-Err-NotAStep.ensures.exact reached.0 reached.1) in
    λ events left e own way. comes_next c.saves.machine c.follow.new.self c.args.thread reached.0 reached.1 c.in-Err-NotAStep.ensures.unchanged none events left e own (c.saves.invariant.on events left e own way)

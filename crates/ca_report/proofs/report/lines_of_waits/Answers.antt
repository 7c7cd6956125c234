use Rattle.std.proofs.Common.{◌≡◌, map, string_bytes, sym, subst}
use Rattle.std.specs.Prelude.{IfOk}
use Rattle.ca_model.specs.Hardened.{Hardened}
use Rattle.ca_model.specs.Machine.{State}
use Rattle.ca_model.specs.Reports.{wait_lines}
use Rattle.ca_machine.specs.Machines.{Reaches, rules}
use Rattle.ca_report.proofs.report.lines_of_waits.Goals as goal

pub returns-in-Deadlock : goal.returns-in-Deadlock
returns-in-Deadlock c =
    let m = c.args.machine.now in
    subst (λ e. IfOk c.wait_lines.result (λ lines. (s : State Hardened) → Reaches m s → map string_bytes lines.items ≡ wait_lines (rules m) s e)) (sym c.in-Deadlock.is) c.wait_lines.ensures

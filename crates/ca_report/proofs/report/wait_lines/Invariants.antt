use Rattle.std.proofs.Common.{◌≡◌, ◌++◌, map, drop, string_bytes}
use Rattle.ca_model.specs.Hardened.{Hardened}
use Rattle.ca_model.specs.Machine.{State}
use Rattle.ca_model.specs.Reports.{waits_from}
use Rattle.ca_machine.specs.Machines.{Reaches, rules}
use Rattle.ca_report.proofs.report.wait_lines.Given as goal

-- the lines so far, and those of the threads that are left
abbrev pub invariant-threads : goal.invariant-threads
invariant-threads l = (s : State Hardened) → Reaches l.machine s → map string_bytes l.lines.items ++ waits_from (rules l.machine) s.shared l.thread (drop l.thread s.threads) ≡ waits_from (rules l.machine) s.shared 0 s.threads

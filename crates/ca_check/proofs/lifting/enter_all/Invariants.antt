use Rattle.std.proofs.Common.{drop}
use Rattle.ca_check.specs.Ways.{IsOnWay, IsBeside}
use Rattle.ca_check.proofs.lifting.enter_all.Given as goal

abbrev pub invariant-entries : goal.invariant-entries
invariant-entries l = record {
  beside : IsBeside l.initial.machine l.machine;
  on : IsOnWay l.machine l.events (drop l.event-index l.events);
}

use Rattle.std.proofs.Common.{◌≡◌, length, take}
use Rattle.ca_model.specs.Plans.{can_acquire}
use Rattle.ca_plan.specs.Planning.{IsAmong, Sets}
use Rattle.ca_plan.proofs.acquiring.put_acquiring.Given as goal

abbrev pub invariant-items : goal.invariant-items
invariant-items l = record {
  long : length l.flags.items ≡ length l.fn.flags.items;
  sets : Sets l.fn.flags.items l.flags.items (IsAmong l.code.source (take l.item-index l.fn.items) can_acquire);
}

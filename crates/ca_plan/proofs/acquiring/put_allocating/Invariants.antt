use Rattle.std.proofs.Common.{◌≡◌, length, take}
use Rattle.ca_model.specs.Destroying.{has_malloc}
use Rattle.ca_plan.specs.Planning.{IsAmong, Sets}
use Rattle.ca_plan.proofs.acquiring.put_allocating.Given as goal

abbrev pub invariant-items : goal.invariant-items
invariant-items l = record {
  long : length l.flags.items ≡ length l.fn.flags.items;
  sets : Sets l.fn.flags.items l.flags.items (IsAmong l.code.source (take l.item-index l.fn.items) has_malloc);
}

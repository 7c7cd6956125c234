-- A shared state may cross threads, and be shared among them.
use denote.Param.Send.{IsSend, IsSync, sendable}
use Rattle.std.proofs.Crossing.{crosses}
use Rattle.std.proofs.MapsCrossing as maps
use Rattle.ca_model.specs.contracts.values.Value as value
use Rattle.ca_model.specs.contracts.values.Given as given
use Rattle.ca_model.specs.contracts.values.EventAct as act
use Rattle.ca_model.specs.contracts.values.Event as event
use Rattle.ca_model.specs.contracts.tree.GlobalStart as start
use Rattle.ca_memory.specs.contracts.blocks.Cells as cells
use Rattle.ca_memory.specs.contracts.blocks.Slot as slot
use Rattle.ca_memory.specs.contracts.memory.Memory as memory
use Rattle.ca_memory.specs.contracts.owners.Owners as owners
use Rattle.ca_shared.specs.contracts.threads.Progress as progress
use Rattle.ca_shared.specs.contracts.shared.Shared as shared
use Rattle.ca_model.proofs.CrossingTrees.{list_send, list_sync}

-- ---- moved to another thread

value_send : IsSend (value.the_field).row
value_send = search (sendable, crosses) depth 40 fits 100000

given_send : IsSend (given.the_field).row
given_send = search (sendable, crosses) depth 40 fits 100000

act_send : IsSend (act.the_field).row
act_send = search (sendable, crosses, value_send, given_send, list_send) depth 40 fits 100000

event_send : IsSend (event.the_field).row
event_send = search (sendable, crosses, act_send) depth 40 fits 100000

start_send : IsSend (start.the_field).row
start_send = search (sendable, crosses, value_send) depth 40 fits 100000

cells_send : IsSend (cells.the_field).row
cells_send = search (sendable, crosses, value_send) depth 40 fits 100000

slot_send : IsSend (slot.the_field).row
slot_send = search (sendable, crosses, cells_send) depth 40 fits 100000

memory_send : IsSend memory.the_row
memory_send = search (sendable, crosses, maps.crosses, slot_send) depth 40 fits 100000

owners_send : IsSend owners.the_row
owners_send = search (sendable, crosses) depth 40 fits 100000

progress_send : IsSend (progress.the_field).row
progress_send = search (sendable, crosses) depth 40 fits 100000

pub shared_send : IsSend shared.the_row
shared_send = search (sendable, crosses, memory_send, owners_send, event_send, start_send, progress_send) depth 40 fits 100000

-- ---- shared with another thread

value_sync : IsSync (value.the_field).row
value_sync = search (sendable, crosses) depth 40 fits 100000

given_sync : IsSync (given.the_field).row
given_sync = search (sendable, crosses) depth 40 fits 100000

act_sync : IsSync (act.the_field).row
act_sync = search (sendable, crosses, value_sync, given_sync, list_sync) depth 40 fits 100000

event_sync : IsSync (event.the_field).row
event_sync = search (sendable, crosses, act_sync) depth 40 fits 100000

start_sync : IsSync (start.the_field).row
start_sync = search (sendable, crosses, value_sync) depth 40 fits 100000

cells_sync : IsSync (cells.the_field).row
cells_sync = search (sendable, crosses, value_sync) depth 40 fits 100000

slot_sync : IsSync (slot.the_field).row
slot_sync = search (sendable, crosses, cells_sync) depth 40 fits 100000

memory_sync : IsSync memory.the_row
memory_sync = search (sendable, crosses, maps.crosses, slot_sync) depth 40 fits 100000

owners_sync : IsSync owners.the_row
owners_sync = search (sendable, crosses) depth 40 fits 100000

progress_sync : IsSync (progress.the_field).row
progress_sync = search (sendable, crosses) depth 40 fits 100000

pub shared_sync : IsSync shared.the_row
shared_sync = search (sendable, crosses, memory_sync, owners_sync, event_sync, start_sync, progress_sync) depth 40 fits 100000

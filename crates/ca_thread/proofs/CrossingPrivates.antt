-- Private states may cross threads, and be shared among them.
use denote.Param.Send.{IsSend, IsSync, sendable}
use Rattle.std.proofs.Crossing.{crosses}
use Rattle.ca_model.specs.contracts.values.Event as event
use Rattle.ca_thread.specs.contracts.frames.Row as row
use Rattle.ca_thread.specs.contracts.frames.RunningFrame as running
use Rattle.ca_thread.specs.contracts.saved.SavedState as saved
use Rattle.ca_thread.specs.contracts.private.Private as private

-- ---- moved to another thread

event_send : IsSend (event.the_field).row
event_send = search (sendable, crosses) depth 40 fits 100000

row_send : IsSend row.the_row
row_send = search (sendable, crosses) depth 40 fits 100000

running_send : IsSend (running.the_field).row
running_send = search (sendable, crosses, row_send) depth 40 fits 100000

saved_send : IsSend (saved.the_field).row
saved_send = search (sendable, crosses, running_send) depth 40 fits 100000

pub private_send : IsSend private.the_row
private_send = search (sendable, crosses, event_send, running_send, saved_send) depth 40 fits 100000

-- ---- shared with another thread

event_sync : IsSync (event.the_field).row
event_sync = search (sendable, crosses) depth 40 fits 100000

row_sync : IsSync row.the_row
row_sync = search (sendable, crosses) depth 40 fits 100000

running_sync : IsSync (running.the_field).row
running_sync = search (sendable, crosses, row_sync) depth 40 fits 100000

saved_sync : IsSync (saved.the_field).row
saved_sync = search (sendable, crosses, running_sync) depth 40 fits 100000

pub private_sync : IsSync private.the_row
private_sync = search (sendable, crosses, event_sync, running_sync, saved_sync) depth 40 fits 100000

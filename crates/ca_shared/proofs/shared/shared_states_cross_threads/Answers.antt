use Rattle.ca_shared.proofs.Crossing.{shared_send, shared_sync}
use Rattle.ca_shared.proofs.shared.shared_states_cross_threads.Goals as goal

pub returns-clause-moves : goal.returns-clause-moves
returns-clause-moves c = shared_send

pub returns-clause-is_shared : goal.returns-clause-is_shared
returns-clause-is_shared c = shared_sync

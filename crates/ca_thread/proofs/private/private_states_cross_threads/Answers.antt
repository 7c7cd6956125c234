use Rattle.ca_thread.proofs.CrossingPrivates.{private_send, private_sync}
use Rattle.ca_thread.proofs.private.private_states_cross_threads.Goals as goal

pub returns-clause-moves : goal.returns-clause-moves
returns-clause-moves c = private_send

pub returns-clause-is_shared : goal.returns-clause-is_shared
returns-clause-is_shared c = private_sync

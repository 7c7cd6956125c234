use Rattle.ca_flow.proofs.CrossingCode.{code_send, code_sync}
use Rattle.ca_flow.proofs.code.code_crosses_threads.Goals as goal

pub returns-clause-moves : goal.returns-clause-moves
returns-clause-moves c = code_send

pub returns-clause-is_shared : goal.returns-clause-is_shared
returns-clause-is_shared c = code_sync

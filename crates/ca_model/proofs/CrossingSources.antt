-- A checked source may cross threads, and be shared among them.
use denote.Param.Send.{IsSend, IsSync, sendable}
use Rattle.std.proofs.Crossing.{crosses}
use Rattle.ca_model.specs.contracts.tree.Exp as exp
use Rattle.ca_model.specs.contracts.tree.Place as place
use Rattle.ca_model.specs.contracts.tree.Target as target
use Rattle.ca_model.specs.contracts.tree.Act as act
use Rattle.ca_model.specs.contracts.tree.Item as item
use Rattle.ca_model.specs.contracts.tree.Stmt as stmt
use Rattle.ca_model.specs.contracts.tree.Function as function
use Rattle.ca_model.specs.contracts.checked.Checked as checked
use Rattle.ca_model.proofs.tree.Exp.TheLaws.TheKnot as exp_knot
use Rattle.ca_model.proofs.tree.Stmt.TheLaws.TheKnot as stmt_knot
use Rattle.ca_model.proofs.CrossingTrees.{list_send, list_sync, box_send, box_sync, program_send, program_sync}

-- ---- moved to another thread

pub exp_send : IsSend (exp.the_field).row
exp_send = search (sendable, crosses, exp_knot.crosses) depth 40 fits 100000

pub place_send : IsSend (place.the_field).row
place_send = search (sendable, crosses, exp_knot.crosses) depth 40 fits 100000

pub target_send : IsSend (target.the_field).row
target_send = search (sendable, crosses, place_send) depth 40 fits 100000

pub act_send : IsSend (act.the_field).row
act_send = search (sendable, crosses, exp_send, target_send, list_send) depth 40 fits 100000

pub item_send : IsSend (item.the_field).row
item_send = search (sendable, crosses, act_send) depth 40 fits 100000

pub stmt_send : IsSend (stmt.the_field).row
stmt_send = stmt_knot.send-Stmt item_send list_send box_send (λ h s. search (sendable, crosses, box_send) depth 40) (search (sendable, crosses, item_send) depth 40)

pub function_send : IsSend (function.the_field).row
function_send = search (sendable, crosses, stmt_send, item_send, list_send) depth 40 fits 100000

pub checked_send : IsSend checked.the_row
checked_send = search (sendable, crosses, program_send, function_send) depth 40 fits 100000

-- ---- shared with another thread

pub exp_sync : IsSync (exp.the_field).row
exp_sync = search (sendable, crosses, exp_knot.crosses) depth 40 fits 100000

pub place_sync : IsSync (place.the_field).row
place_sync = search (sendable, crosses, exp_knot.crosses) depth 40 fits 100000

pub target_sync : IsSync (target.the_field).row
target_sync = search (sendable, crosses, place_sync) depth 40 fits 100000

pub act_sync : IsSync (act.the_field).row
act_sync = search (sendable, crosses, exp_sync, target_sync, list_sync) depth 40 fits 100000

pub item_sync : IsSync (item.the_field).row
item_sync = search (sendable, crosses, act_sync) depth 40 fits 100000

pub stmt_sync : IsSync (stmt.the_field).row
stmt_sync = stmt_knot.sync-Stmt item_sync list_sync box_sync (λ h s. search (sendable, crosses, box_sync) depth 40) (search (sendable, crosses, item_sync) depth 40)

pub function_sync : IsSync (function.the_field).row
function_sync = search (sendable, crosses, stmt_sync, item_sync, list_sync) depth 40 fits 100000

pub checked_sync : IsSync checked.the_row
checked_sync = search (sendable, crosses, program_sync, function_sync) depth 40 fits 100000

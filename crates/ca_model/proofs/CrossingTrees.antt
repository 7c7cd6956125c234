-- A program as it is read may cross threads, and be shared among them.
use denote.RattleType.{RattleType}
use denote.Param.Send.{IsSend, IsSync, sendable}
use Rattle.std.proofs.Crossing.{crosses}
use Rattle.ca_tree.specs.contracts.listed.Listed as Listed
use Rattle.ca_tree.specs.contracts.tree.Exp as exp
use Rattle.ca_tree.specs.contracts.tree.Call as call
use Rattle.ca_tree.specs.contracts.tree.Malloc as malloc
use Rattle.ca_tree.specs.contracts.tree.Right as right
use Rattle.ca_tree.specs.contracts.tree.Library as library
use Rattle.ca_tree.specs.contracts.tree.Simple as simple
use Rattle.ca_tree.specs.contracts.tree.LocalDeclarator as local
use Rattle.ca_tree.specs.contracts.tree.Locals as locals
use Rattle.ca_tree.specs.contracts.tree.ForFirst as first
use Rattle.ca_tree.specs.contracts.tree.ForHead as head
use Rattle.ca_tree.specs.contracts.tree.Stmt as stmt
use Rattle.ca_tree.specs.contracts.tree.Body as body
use Rattle.ca_tree.specs.contracts.tree.Function as function
use Rattle.ca_tree.specs.contracts.tree.Top as top
use Rattle.ca_tree.specs.contracts.tree.Program as program
use Rattle.sqlite_items.specs.contracts.boxed.Boxed as Boxed
use Rattle.ca_tree.proofs.listed.Listed.TheSendSync as listed
use Rattle.sqlite_items.proofs.boxed.Boxed.TheSendSync as boxed
use Rattle.ca_tree.proofs.tree.Exp.TheLaws.TheKnot as exp_knot
use Rattle.ca_tree.proofs.tree.Stmt.TheLaws.TheKnot as stmt_knot

-- ---- moved to another thread

pub list_send : (h : RattleType) → IsSend h → IsSend (Listed.the_row h)
list_send h s = search (sendable, crosses, listed.the_send) depth 40 fits 100000

pub box_send : (h : RattleType) → IsSend h → IsSend (Boxed.the_row h)
box_send h s = search (sendable, crosses, boxed.the_send) depth 40 fits 100000

exp_send : IsSend (exp.the_field).row
exp_send = search (sendable, crosses, exp_knot.crosses) depth 40 fits 100000

call_send : IsSend (call.the_field).row
call_send = search (sendable, crosses, exp_send, list_send) depth 40 fits 100000

malloc_send : IsSend (malloc.the_field).row
malloc_send = search (sendable, crosses, exp_send, list_send) depth 40 fits 100000

right_send : IsSend (right.the_field).row
right_send = search (sendable, crosses, exp_send, call_send, malloc_send) depth 40 fits 100000

library_send : IsSend (library.the_field).row
library_send = search (sendable, crosses, exp_send, list_send) depth 40 fits 100000

simple_send : IsSend (simple.the_field).row
simple_send = search (sendable, crosses, exp_send, right_send, call_send, library_send) depth 40 fits 100000

local_send : IsSend (local.the_field).row
local_send = search (sendable, crosses, right_send, list_send) depth 40 fits 100000

locals_send : IsSend (locals.the_field).row
locals_send = search (sendable, crosses, local_send, list_send) depth 40 fits 100000

first_send : IsSend (first.the_field).row
first_send = search (sendable, crosses, simple_send, local_send, list_send) depth 40 fits 100000

head_send : IsSend (head.the_field).row
head_send = search (sendable, crosses, first_send, exp_send, simple_send) depth 40 fits 100000

stmt_send : IsSend (stmt.the_field).row
stmt_send =
    stmt_knot.send-Stmt list_send locals_send (search (sendable, crosses) depth 40) simple_send (search (sendable, crosses, exp_send) depth 40) (search (sendable, crosses) depth 40) exp_send box_send
    (λ h s. search (sendable, crosses, box_send) depth 40) head_send

body_send : IsSend (body.the_field).row
body_send = search (sendable, crosses, stmt_send, list_send) depth 40 fits 100000

function_send : IsSend (function.the_field).row
function_send = search (sendable, crosses, body_send, list_send) depth 40 fits 100000

top_send : IsSend (top.the_field).row
top_send = search (sendable, crosses, function_send, list_send) depth 40 fits 100000

pub program_send : IsSend (program.the_field).row
program_send = search (sendable, crosses, top_send, list_send) depth 40 fits 100000

-- ---- shared with another thread

pub list_sync : (h : RattleType) → IsSync h → IsSync (Listed.the_row h)
list_sync h s = search (sendable, crosses, listed.the_sync) depth 40 fits 100000

pub box_sync : (h : RattleType) → IsSync h → IsSync (Boxed.the_row h)
box_sync h s = search (sendable, crosses, boxed.the_sync) depth 40 fits 100000

exp_sync : IsSync (exp.the_field).row
exp_sync = search (sendable, crosses, exp_knot.crosses) depth 40 fits 100000

call_sync : IsSync (call.the_field).row
call_sync = search (sendable, crosses, exp_sync, list_sync) depth 40 fits 100000

malloc_sync : IsSync (malloc.the_field).row
malloc_sync = search (sendable, crosses, exp_sync, list_sync) depth 40 fits 100000

right_sync : IsSync (right.the_field).row
right_sync = search (sendable, crosses, exp_sync, call_sync, malloc_sync) depth 40 fits 100000

library_sync : IsSync (library.the_field).row
library_sync = search (sendable, crosses, exp_sync, list_sync) depth 40 fits 100000

simple_sync : IsSync (simple.the_field).row
simple_sync = search (sendable, crosses, exp_sync, right_sync, call_sync, library_sync) depth 40 fits 100000

local_sync : IsSync (local.the_field).row
local_sync = search (sendable, crosses, right_sync, list_sync) depth 40 fits 100000

locals_sync : IsSync (locals.the_field).row
locals_sync = search (sendable, crosses, local_sync, list_sync) depth 40 fits 100000

first_sync : IsSync (first.the_field).row
first_sync = search (sendable, crosses, simple_sync, local_sync, list_sync) depth 40 fits 100000

head_sync : IsSync (head.the_field).row
head_sync = search (sendable, crosses, first_sync, exp_sync, simple_sync) depth 40 fits 100000

stmt_sync : IsSync (stmt.the_field).row
stmt_sync =
    stmt_knot.sync-Stmt list_sync locals_sync (search (sendable, crosses) depth 40) simple_sync (search (sendable, crosses, exp_sync) depth 40) (search (sendable, crosses) depth 40) exp_sync box_sync
    (λ h s. search (sendable, crosses, box_sync) depth 40) head_sync

body_sync : IsSync (body.the_field).row
body_sync = search (sendable, crosses, stmt_sync, list_sync) depth 40 fits 100000

function_sync : IsSync (function.the_field).row
function_sync = search (sendable, crosses, body_sync, list_sync) depth 40 fits 100000

top_sync : IsSync (top.the_field).row
top_sync = search (sendable, crosses, function_sync, list_sync) depth 40 fits 100000

pub program_sync : IsSync (program.the_field).row
program_sync = search (sendable, crosses, top_sync, list_sync) depth 40 fits 100000

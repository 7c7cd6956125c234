use Rattle.ca_machine.proofs.Entering.{codes_are}
use Rattle.ca_machine.proofs.Standing.{private_at, status_at}
use Rattle.ca_machine.proofs.coming.thread_status.Goals as goal

pub status_of-requires : goal.status_of-requires
status_of-requires c =
    let run = (c.is_running.ensures c.requires.0 c.requires.1.same).0 c.if-not-is_running.false in
    codes_are c.args.code.now c.args.shared.now c.args.privates.now c.args.thread c.index-privates-thread.result c.requires
    (private_at c.args.code.now c.args.shared.now c.args.privates.now c.requires.0 c.args.thread c.index-privates-thread.result c.requires.1 run c.index-privates-thread.is)

pub returns : goal.returns
returns c events patience s st =
    let run = (c.is_running.ensures s st.same).0 c.if-not-is_running.false in
    let at = private_at c.args.code.now c.args.shared.now c.args.privates.now s c.args.thread c.index-privates-thread.result st run c.index-privates-thread.is in
    status_at c.args.code.now c.args.shared.now c.args.privates.now s c.args.thread c.least_block-least.result c.index-privates-thread.result st at c.least_block-least.ensures.least c.least_block-least.ensures.few c.least_block-least.ensures.kept run
    c.status_of.result c.status_of.ensures events patience

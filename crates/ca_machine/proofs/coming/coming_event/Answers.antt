use Rattle.std.proofs.Common.{refl}
use Rattle.ca_machine.proofs.Entering.{codes_are}
use Rattle.ca_machine.proofs.Standing.{private_at, none_at, coming_at}
use Rattle.ca_machine.proofs.coming.coming_event.Goals as goal

pub entry_of-requires : goal.entry_of-requires
entry_of-requires c =
    let run = (c.is_running.ensures c.requires.0 c.requires.1.same).0 c.if-not-is_running.false in
    codes_are c.args.code.now c.args.shared.now c.args.privates.now c.args.thread c.index-privates-thread.result c.requires
    (private_at c.args.code.now c.args.shared.now c.args.privates.now c.requires.0 c.args.thread c.index-privates-thread.result c.requires.1 run c.index-privates-thread.is)

pub returns-in-Ok-Some : goal.returns-in-Ok-Some
returns-in-Ok-Some c events patience s st =
    let run = (c.is_running.ensures s st.same).0 c.if-not-is_running.false in
    let at = private_at c.args.code.now c.args.shared.now c.args.privates.now s c.args.thread c.index-privates-thread.result st run c.index-privates-thread.is in
    coming_at c.args.code.now c.args.shared.now c.args.privates.now s c.args.thread c.least_block-least.result c.index-privates-thread.result st at c.least_block-least.ensures.least c.least_block-least.ensures.few c.least_block-least.ensures.kept run
    c.in-Ok-Some.field-0 c.in-Ok-Some.ensures (record { thread = c.args.thread; act = c.in-Ok-Some.act }) refl c.in-Ok-Some.field-0-is events patience

pub returns-in-Ok-None : goal.returns-in-Ok-None
returns-in-Ok-None c events patience s st =
    let run = (c.is_running.ensures s st.same).0 c.if-not-is_running.false in
    let at = private_at c.args.code.now c.args.shared.now c.args.privates.now s c.args.thread c.index-privates-thread.result st run c.index-privates-thread.is in
    none_at c.args.code.now c.args.shared.now c.args.privates.now s c.args.thread c.least_block-least.result c.index-privates-thread.result st at c.least_block-least.ensures.least c.least_block-least.ensures.few c.least_block-least.ensures.kept run
    c.in-Ok-None.field-0 c.in-Ok-None.ensures c.in-Ok-None.field-0-is events patience

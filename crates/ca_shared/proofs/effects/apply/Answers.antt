use Rattle.std.proofs.Common.{sym, ap, ◌∙◌, subst}
use Rattle.ca_memory.specs.GivenBack.{AreBlocksHeld, AreMutexesHeld, blocks_without_all, owners_without_all}
use Rattle.ca_shared.specs.Kept.{shared_of}
use Rattle.ca_shared.proofs.KeptEffects.{frees, given_back, after_retry, after_create, after_end}
use Rattle.ca_shared.proofs.effects.apply.Goals as goal

pub free-requires : goal.free-requires
free-requires c = frees (shared_of c.args.memory.now c.args.owners.now c.args.output.now.items c.args.threads.now.items c.args.phase.now) c.args.t c.args.act.now c.in-Free.at c.requires.legal c.in-Free.is

pub give_all-requires-clause-blocks : goal.give_all-requires-clause-blocks
give_all-requires-clause-blocks c =
    subst (AreBlocksHeld c.args.memory.now) (sym c.as_slice-in-Retry.ensures)
    (given_back c.args.memory.now c.args.owners.now c.args.output.now.items c.args.threads.now.items c.args.phase.now c.args.t c.args.act.now c.in-Retry.site c.in-Retry.gives c.requires.legal c.in-Retry.is).0

pub give_all-requires-clause-mutexes : goal.give_all-requires-clause-mutexes
give_all-requires-clause-mutexes c =
    subst (AreMutexesHeld c.args.owners.now c.args.t) (sym c.as_slice-in-Retry.ensures)
    (given_back c.args.memory.now c.args.owners.now c.args.output.now.items c.args.threads.now.items c.args.phase.now c.args.t c.args.act.now c.in-Retry.site c.in-Retry.gives c.requires.legal c.in-Retry.is).1

pub returns-in_ok-create-in-Create-clause-ok : goal.returns-in_ok-create-in-Create-clause-ok
returns-in_ok-create-in-Create-clause-ok c =
    after_create c.args.memory.now c.args.owners.now c.args.output.now.items c.args.threads.now.items c.args.phase.now c.args.t c.args.act.now c.in-Create.field-0 c.args.place c.create.new.threads.items c.in-Create.is
    c.in_ok-create-in-Create.ensures.ok

pub returns-in-End-clause-ok : goal.returns-in-End-clause-ok
returns-in-End-clause-ok c =
    after_end c.args.memory.now c.args.owners.now c.args.output.now.items c.args.threads.now.items c.args.phase.now c.args.t c.args.act.now c.end.new.threads.items c.phase_after_end.result c.in-End.is c.end.ensures
    c.phase_after_end.ensures c.requires.there

pub returns-in-Retry-clause-ok : goal.returns-in-Retry-clause-ok
returns-in-Retry-clause-ok c =
    after_retry c.args.memory.now c.args.owners.now c.args.output.now.items c.args.threads.now.items c.args.phase.now c.args.t c.args.act.now c.in-Retry.site c.in-Retry.gives c.give_all.new.memory c.give_all.new.owners
    c.in-Retry.is (c.give_all.ensures.blocks ∙ ap (blocks_without_all c.args.memory.now) c.as_slice-in-Retry.ensures) (c.give_all.ensures.owners ∙ ap (owners_without_all c.args.owners.now) c.as_slice-in-Retry.ensures)

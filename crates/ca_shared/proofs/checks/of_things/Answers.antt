use Rattle.std.proofs.Common.{Some, sym, ap, ◌∙◌}
use Rattle.ca_memory.specs.Mutexes.{Mutexes}
use Rattle.ca_shared.specs.Refusals.{no_mutex}
use Rattle.ca_shared.proofs.Things.{passes, is_block, is_mutex, is_mutex_before}
use Rattle.ca_shared.proofs.checks.of_things.Goals as goal

pub returns-in-Some-first_not_held-clause-why : goal.returns-in-Some-first_not_held-clause-why
returns-in-Some-first_not_held-clause-why c = λ output threads p.
    let m = c.in-Some-first_not_held.mutex in
    ap Some (c.no_mutex.ensures ∙ ap (λ (o : Mutexes). no_mutex o.count m.mutex m.owner) c.in-Some-first_not_held.ensures.same)
    ∙ sym (is_mutex_before output threads p c.args.t c.args.memory.now c.args.owners.now c.args.things.now m.place c.in-Some.block.place c.in-Some.block.block m.mutex m.owner c.in-Some.ensures.first c.in-Some-first_not_held.ensures.first)

pub returns-in-None-first_not_held-clause-why : goal.returns-in-None-first_not_held-clause-why
returns-in-None-first_not_held-clause-why c = λ output threads p.
    ap Some c.no_block.ensures ∙ sym (is_block output threads p c.args.t c.args.memory.now c.args.owners.now c.args.things.now c.in-Some.block.place c.in-Some.block.block c.in-Some.ensures.first c.in-None-first_not_held.ensures.none)

pub returns-in-Some-first_not_held-2-clause-why : goal.returns-in-Some-first_not_held-2-clause-why
returns-in-Some-first_not_held-2-clause-why c = λ output threads p.
    let m = c.in-Some-first_not_held-2.mutex in
    ap Some (c.no_mutex-in-Some-first_not_held-2.ensures ∙ ap (λ (o : Mutexes). no_mutex o.count m.mutex m.owner) c.in-Some-first_not_held-2.ensures.same)
    ∙ sym (is_mutex output threads p c.args.t c.args.memory.now c.args.owners.now c.args.things.now m.place m.mutex m.owner c.in-Some-first_not_held-2.ensures.first c.in-None.ensures.none)

pub returns-in-None-first_not_held-2-clause-why : goal.returns-in-None-first_not_held-2-clause-why
returns-in-None-first_not_held-2-clause-why c = λ output threads p. sym (passes output threads p c.args.t c.args.memory.now c.args.owners.now c.args.things.now c.in-None.ensures.none c.in-None-first_not_held-2.ensures.none)

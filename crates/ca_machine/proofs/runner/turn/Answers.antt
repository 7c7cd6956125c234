use Rattle.std.proofs.Common.{◌≡◌, ◌≢◌, ◌<◌, ℕ, length, refl, sym, ap, subst, ◌∙◌, arith, true, false, Some}
use Rattle.std.specs.Prelude.{◌==◌}
use Rattle.std.proofs.lemmas.Bool.Decides.{nat_tests}
use Rattle.std.specs.List.Sorted.{IsStrictlyIncreasing}
use Rattle.ca_model.specs.Schedules.{Pick, pick}
use Rattle.ca_shared.specs.Histories.{History}
use Rattle.ca_machine.proofs.Turning.{closed_run, stuck_run, full_run, enabled_there, crowded_run, along, step_of}
use Rattle.ca_machine.proofs.runner.turn.Goals as goal

none_is : (n m : ℕ) → n ≡ m → true ≡ (n == 0) → m ≡ 0
none_is n m e h = grind (arith, nat_tests)

some_is : (n m : ℕ) → n ≡ m → false ≡ (n == 0) → 0 < m
some_is n m e h = grind (arith, nat_tests)

pub returns-in-Some-clause-over : goal.returns-in-Some-clause-over
returns-in-Some-clause-over c = λ s run. (refl, closed_run _ c.args.events c.args.patience c.args.schedule.now s c.args.machine.now.trace c.in-Some.end (c.in-Some.ensures s run))

pub returns-then-is_empty-clause-over : goal.returns-then-is_empty-clause-over
returns-then-is_empty-clause-over c = λ s run. (refl, stuck_run c.args.events c.args.patience c.args.machine.now c.args.schedule.now s run (c.in_default.ensures s run) c.in-Ok.list.items (c.in-Ok.ensures c.args.events s run) (none_is _ _ c.in-Ok.list.ok.0 c.if-is_empty.ensures))

pub returns-then-trace-events-clause-over : goal.returns-then-trace-events-clause-over
returns-then-trace-events-clause-over c =
    let at : length c.args.machine.now.trace ≡ c.args.events = let l = ap length (c.trace.ensures.value ∙ ap (λ (x : History). x.trace) c.shared.ensures.value) in let h = c.if-trace-events.true in let r = c.requires in omega arith in
    λ s run. (refl, full_run c.args.events c.args.patience c.args.machine.now c.args.schedule.now s run (c.in_default.ensures s run) c.in-Ok.list.items (c.in-Ok.ensures c.args.events s run) (some_is _ _ c.in-Ok.list.ok.0 c.if-is_empty.ensures) at)

pub pick-thread-requires-clause-ascend : goal.pick-thread-requires-clause-ascend
pick-thread-requires-clause-ascend c = subst IsStrictlyIncreasing (sym c.deref.ensures.value) (c.in-Ok.ensures 0 c.shared.ensures.runs.0 c.shared.ensures.runs.1).ascend

pub event_of-requires : goal.event_of-requires
event_of-requires c =
    let going : length c.args.machine.now.trace ≢ c.args.events = λ e. let l = ap length (c.trace.ensures.value ∙ ap (λ (x : History). x.trace) c.shared.ensures.value) in let h = c.if-trace-events.false in omega arith in
    let p : Pick = record { thread = c.pick-thread.result; after = c.pick-thread.new.self } in
    let pk : pick c.in-Ok.list.items c.args.schedule.now ≡ Some p = ap (λ l. pick l c.args.schedule.now) (sym c.deref.ensures.value) ∙ c.pick-thread.ensures in
    λ s run. (c.args.events, c.args.patience, enabled_there c.args.events c.args.patience c.args.machine.now c.args.schedule.now s run (c.in_default.ensures s run) c.in-Ok.list.items (c.in-Ok.ensures c.args.events s run) going p pk)

pub returns-then-is_crowded-clause-over : goal.returns-then-is_crowded-clause-over
returns-then-is_crowded-clause-over c =
    let going : length c.args.machine.now.trace ≢ c.args.events = λ e. let l = ap length (c.trace.ensures.value ∙ ap (λ (x : History). x.trace) c.shared.ensures.value) in let h = c.if-trace-events.false in omega arith in
    let p : Pick = record { thread = c.pick-thread.result; after = c.pick-thread.new.self } in
    let pk : pick c.in-Ok.list.items c.args.schedule.now ≡ Some p = ap (λ l. pick l c.args.schedule.now) (sym c.deref.ensures.value) ∙ c.pick-thread.ensures in
    λ s run.
    let begun = c.in_default.ensures s run in
    let en = c.in-Ok.ensures c.args.events s run in
    let co = c.in-Ok-event_of.ensures.comes c.args.events c.args.patience s run in
    (refl, crowded_run c.args.events c.args.patience c.args.machine.now c.args.schedule.now s run begun c.in-Ok.list.items en going p pk c.in-Ok-event_of.event c.in-Ok-event_of.ensures.thread co.0 co.1 ((c.is_crowded.ensures s run).0 c.if-is_crowded.true))

pub returns-in-Ok-follow-clause-on : goal.returns-in-Ok-follow-clause-on
returns-in-Ok-follow-clause-on c =
    let going : length c.args.machine.now.trace ≢ c.args.events = λ e. let l = ap length (c.trace.ensures.value ∙ ap (λ (x : History). x.trace) c.shared.ensures.value) in let h = c.if-trace-events.false in omega arith in
    let p : Pick = record { thread = c.pick-thread.result; after = c.pick-thread.new.self } in
    let pk : pick c.in-Ok.list.items c.args.schedule.now ≡ Some p = ap (λ l. pick l c.args.schedule.now) (sym c.deref.ensures.value) ∙ c.pick-thread.ensures in
    λ s run.
    let begun = c.in_default.ensures s run in
    let en = c.in-Ok.ensures c.args.events s run in
    let co = c.in-Ok-event_of.ensures.comes c.args.events c.args.patience s run in
    along c.args.events c.args.patience c.args.machine.now c.args.schedule.now s run begun c.in-Ok.list.items en going p pk c.in-Ok-event_of.event c.in-Ok-event_of.ensures.thread co.0 co.1 c.follow.new.self c.in-Ok-follow.ensures.made
    (λ cr. let is : c.is_crowded.result ≡ true = (c.is_crowded.ensures s run).1 cr in let no : true ≡ false = sym is ∙ c.if-is_crowded.false in absurd cc)

pub unreachable-requires : goal.unreachable-requires
unreachable-requires c =
    let s = c.shared.ensures.runs.0 in
    let run = c.shared.ensures.runs.1 in
    let co = c.in-Ok-event_of.ensures.comes 0 0 s run in
    (rw c.in-Err-NotAStep.field-0-is at c.in-Err-NotAStep.ensures.exact) s run (co.0, step_of c.args.machine.now s c.in-Ok-event_of.event c.pick-thread.result c.in-Ok-event_of.ensures.thread co.0 co.1.step)

use Rattle.std.proofs.Common.{◌≡◌, ◌≤◌, refl, sym, ap, subst, ◌∙◌}
use Rattle.std.proofs.lemmas.Bool.{le-leb, leb-true}
use Rattle.ca_model.specs.Runner.{since_last}
use Rattle.ca_shared.specs.Histories.{History}
use Rattle.ca_machine.specs.Runs.{Passes}
use Rattle.ca_machine.proofs.Groups.{rests_passes, moves_passes, late_passes, waited_passes, early_passes}
use Rattle.ca_machine.proofs.runner.passes.Goals as goal

pub returns-in-Rests : goal.returns-in-Rests
returns-in-Rests c events s run = ((λ t. absurd cc), (λ w. absurd (rests_passes events c.args.patience c.args.machine.now s c.args.thread c.args.late (c.in-Rests.ensures events c.args.patience s run) w)))

pub returns-in-Moves : goal.returns-in-Moves
returns-in-Moves c events s run = moves_passes events c.args.patience c.args.machine.now s c.args.thread c.args.late (c.in-Moves.ensures events c.args.patience s run)

pub returns-then-late : goal.returns-then-late
returns-then-late c events s run = (
  (λ t. subst (λ b. Passes events c.args.patience c.args.machine.now s b c.args.thread) (sym c.if-late.true) (late_passes events c.args.patience c.args.machine.now s c.args.thread (c.in-TimesOut.ensures events c.args.patience s run))),
  (λ w. refl),
)

pub returns-else-late : goal.returns-else-late
returns-else-late c events s run =
    let st = c.in-TimesOut.ensures events c.args.patience s run in
    let is : c.since_last.result ≡ since_last 0 c.args.thread c.args.machine.now.trace = c.since_last.ensures ∙ ap (λ (x : History). since_last 0 c.args.thread x.trace) c.shared.ensures.value in (
      (λ t. subst (λ b. Passes events c.args.patience c.args.machine.now s b c.args.thread) (sym c.if-late.false)
          (waited_passes events c.args.patience c.args.machine.now s c.args.thread st (subst (λ n. c.args.patience ≤ n) is (leb-true c.args.patience c.since_last.result t)))),
      (λ w. le-leb c.args.patience c.since_last.result (subst (λ n. c.args.patience ≤ n) (sym is)
          (early_passes events c.args.patience c.args.machine.now s c.args.thread st (subst (λ b. Passes events c.args.patience c.args.machine.now s b c.args.thread) c.if-late.false w)))),
    )

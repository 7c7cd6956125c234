use Rattle.std.proofs.Common.{◌≡◌, ◌<◌, ℕ, true, false, arith}
use Rattle.std.specs.Prelude.{◌==◌}
use Rattle.std.proofs.lemmas.Bool.Decides.{nat_tests}
use Rattle.ca_machine.proofs.Groups.{ready_enabled, late_enabled}
use Rattle.ca_machine.proofs.runner.enabled_threads.Goals as goal

none_is : (n m : ℕ) → n ≡ m → true ≡ (n == 0) → m ≡ 0
none_is n m e h = grind (arith, nat_tests)

some_is : (n m : ℕ) → n ≡ m → false ≡ (n == 0) → 0 < m
some_is n m e h = grind (arith, nat_tests)

pub returns-then-not-is_empty : goal.returns-then-not-is_empty
returns-then-not-is_empty c = λ events s run. ready_enabled events c.args.patience c.args.machine.now s c.in-Ok.ready.items c.in-Ok.ensures.ascend (c.in-Ok.ensures.exactly events s run) (some_is _ _ c.in-Ok.ready.ok.0 c.if-not-is_empty.ensures)

pub returns-in-Ok-group : goal.returns-in-Ok-group
returns-in-Ok-group c = λ events s run. late_enabled events c.args.patience c.args.machine.now s c.in-Ok.ready.items c.in-Ok-group.late.items (c.in-Ok.ensures.exactly events s run) (none_is _ _ c.in-Ok.ready.ok.0 c.if-not-is_empty.ensures) c.in-Ok-group.ensures.ascend (c.in-Ok-group.ensures.exactly events s run)

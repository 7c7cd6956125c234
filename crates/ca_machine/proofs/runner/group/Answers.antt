use Rattle.std.proofs.Common.{◌≡◌, ◌<◌, ◌+◌, ◌++◌, ◌∷◌, [], Bool, ap, ◌∙◌, true, false, sym, subst}
use Rattle.std.specs.Prelude.{All, IsTrue}
use Rattle.std.specs.List.Sorted.{IsStrictlyIncreasing}
use Rattle.ca_machine.specs.Runs.{AreBelow}
use Rattle.ca_machine.proofs.Groups.{up_push, below_push, below_later, one_in, none_in}
use Rattle.ca_machine.proofs.runner.group.Goals as goal
use Rattle.ca_machine.proofs.runner.group.Goals.{then-passes+in_ok-push, else-passes}

not_so : (b : Bool) → b ≡ false → IsTrue b → ⊥
not_so true e h = absurd cc
not_so false e h = absurd cc

pub threads-preserved : goal.threads-preserved
threads-preserved c = elim c.if-passes.branch [
  | then-passes+in_ok-push w ↦
      let is : c.if-passes.list.items ≡ c.threads.list.items ++ c.threads.thread ∷ [] = ap (λ v. v.items) w.list-is ∙ w.in_ok-push.ensures.items in
      record {
        ascend = subst IsStrictlyIncreasing (sym is) (up_push c.threads.list.items c.threads.thread c.threads.invariant.ascend c.threads.invariant.below);
        below = subst (All (λ u. u < c.threads.thread + 1)) (sym is) (below_push c.threads.list.items c.threads.thread c.threads.invariant.below);
        exactly = λ events s run. subst (AreBelow events c.args.patience c.args.machine.now s c.args.late (c.threads.thread + 1)) (sym is)
            (one_in events c.args.patience c.args.machine.now s c.args.late c.threads.thread c.threads.list.items (c.threads.invariant.exactly events s run) ((c.passes.ensures events s run).0 w.if-passes.true));
      }
  | else-passes w ↦
      let is : c.if-passes.list.items ≡ c.threads.list.items = ap (λ v. v.items) w.list-is in
      record {
        ascend = subst IsStrictlyIncreasing (sym is) c.threads.invariant.ascend;
        below = subst (All (λ u. u < c.threads.thread + 1)) (sym is) (below_later c.threads.list.items c.threads.thread c.threads.invariant.below);
        exactly = λ events s run. subst (AreBelow events c.args.patience c.args.machine.now s c.args.late (c.threads.thread + 1)) (sym is)
            (none_in events c.args.patience c.args.machine.now s c.args.late c.threads.thread c.threads.list.items (c.threads.invariant.exactly events s run) (λ h. not_so _ w.if-passes.false ((c.passes.ensures events s run).1 h)));
      }
]

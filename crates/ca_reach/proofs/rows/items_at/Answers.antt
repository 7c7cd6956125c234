use Rattle.std.proofs.Common.{◌≡◌, ◌+◌, ◌<◌, ◌++◌, map, drop, ap, ◌∙◌, arith}
use Rattle.std.specs.Global.{Vec}
use Rattle.ca_tree.specs.declared.numbers.ItemId.{ItemId}
use Rattle.ca_reach.proofs.Linking.{numbers_set, numbers_of, front_of, flag_set, flag_unset}
use Rattle.ca_reach.proofs.rows.items_at.Goals as goal
use Rattle.ca_reach.proofs.rows.items_at.Goals.{then-b+in_ok-push, else-b}

pub returns-clause-exact : goal.returns-clause-exact
returns-clause-exact c = λ n lt. (numbers_of c.args.flags.now c.flags.b-index c.flags.number c.args.lowest (map (λ i. i.0) c.flags.items.items) (omega (arith, c.flags-test.false)) c.flags.invariant.list).0 n

pub returns-clause-ascend : goal.returns-clause-ascend
returns-clause-ascend c = (numbers_of c.args.flags.now c.flags.b-index c.flags.number c.args.lowest (map (λ i. i.0) c.flags.items.items) (omega (arith, c.flags-test.false)) c.flags.invariant.list).1

pub returns-in_default-clause-exact : goal.returns-in_default-clause-exact
returns-in_default-clause-exact c =
    let last : c.flags.number + 1 < 4294967296 → ⊥ = c.in_default.ensures in
    let done : map (λ i. i.0) c.if-b.items.items ++ numbers_set (c.flags.number + 1) (drop (c.flags.b-index + 1) c.args.flags.now) ≡ numbers_set c.args.lowest c.args.flags.now = elim c.if-b.branch [
      | then-b+in_ok-push w ↦ flag_set c.args.flags.now c.flags.b-index c.flags.number _ c.flags.items.items c.if-b.items.items (numbers_set c.args.lowest c.args.flags.now) c.flags-test.true w.if-b.true (ap (λ (v : Vec ItemId). v.items) w.items-is ∙ w.in_ok-push.ensures.items) c.flags.invariant.list
      | else-b w ↦ flag_unset c.args.flags.now c.flags.b-index c.flags.number _ c.flags.items.items c.if-b.items.items (numbers_set c.args.lowest c.args.flags.now) c.flags-test.true w.if-b.false (ap (λ (v : Vec ItemId). v.items) w.items-is) c.flags.invariant.list
    ] in
    (front_of c.args.flags.now c.flags.b-index c.flags.number c.args.lowest (map (λ i. i.0) c.if-b.items.items) (omega (arith, last)) done).0

pub returns-in_default-clause-ascend : goal.returns-in_default-clause-ascend
returns-in_default-clause-ascend c =
    let last : c.flags.number + 1 < 4294967296 → ⊥ = c.in_default.ensures in
    let done : map (λ i. i.0) c.if-b.items.items ++ numbers_set (c.flags.number + 1) (drop (c.flags.b-index + 1) c.args.flags.now) ≡ numbers_set c.args.lowest c.args.flags.now = elim c.if-b.branch [
      | then-b+in_ok-push w ↦ flag_set c.args.flags.now c.flags.b-index c.flags.number _ c.flags.items.items c.if-b.items.items (numbers_set c.args.lowest c.args.flags.now) c.flags-test.true w.if-b.true (ap (λ (v : Vec ItemId). v.items) w.items-is ∙ w.in_ok-push.ensures.items) c.flags.invariant.list
      | else-b w ↦ flag_unset c.args.flags.now c.flags.b-index c.flags.number _ c.flags.items.items c.if-b.items.items (numbers_set c.args.lowest c.args.flags.now) c.flags-test.true w.if-b.false (ap (λ (v : Vec ItemId). v.items) w.items-is) c.flags.invariant.list
    ] in
    (front_of c.args.flags.now c.flags.b-index c.flags.number c.args.lowest (map (λ i. i.0) c.if-b.items.items) (omega (arith, last)) done).1

use Rattle.std.proofs.Common.{List, ◌∷◌, drop, ◌+◌, subst}
use Rattle.ca_tree.specs.declared.tree.Top.{Top}
use Rattle.ca_types.specs.Knows.{Onward}
use Rattle.ca_types.proofs.Knowing.{goes, next, left_from}
use Rattle.ca_types.proofs.tops.all_known.Goals as goal

pub with_top-requires : goal.with_top-requires
with_top-requires c =
    let p = c.args.program.now in
    goes p c.top-item.result (drop (c.loop-top.top-index + 1) p.tops) c.loop-top.known
    (subst (λ (ts : List Top). Onward p ts c.loop-top.known) (left_from p.tops c.as_slice-top-items.result.now c.loop-top.top-index c.top-item.result c.as_slice-top-items.ensures c.loop-top-test.true c.top-item.is) c.loop-top.invariant)

pub loop-top-preserved : goal.loop-top-preserved
loop-top-preserved c =
    let p = c.args.program.now in
    let on : Onward p (c.top-item.result ∷ drop (c.loop-top.top-index + 1) p.tops) c.loop-top.known =
    subst (λ (ts : List Top). Onward p ts c.loop-top.known) (left_from p.tops c.as_slice-top-items.result.now c.loop-top.top-index c.top-item.result c.as_slice-top-items.ensures c.loop-top-test.true c.top-item.is) c.loop-top.invariant in
    next p c.top-item.result (drop (c.loop-top.top-index + 1) p.tops) c.loop-top.known c.in_ok-known-2.known on (c.in_ok-known-2.ensures on.so_far on.knows)

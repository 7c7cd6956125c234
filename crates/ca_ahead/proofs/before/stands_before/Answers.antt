use Rattle.std.proofs.Common.{arith}
use Rattle.ca_reach.specs.Reach.{rows_of}
use Rattle.ca_ahead.proofs.Ahead.{finds_before}
use Rattle.ca_ahead.proofs.Layered.{first_flags, next_flags}
use Rattle.ca_ahead.proofs.Sources.{table_of}
use Rattle.ca_ahead.proofs.before.stands_before.Goals as goal

pub layers-init : goal.layers-init
layers-init c =
    let l = c.args.code.now in
    let vs = c.in_ok-rows.rows.items in
    let count = c.row_count-count.result in
    let table = table_of l c.graphs-graphs.ensures.lowered count (rows_of vs) c.row_count-count.ensures c.in_ok-rows.ensures.length c.in_ok-rows.ensures.exact in
    first_flags l.source c.args.depth count c.args.marked.now vs c.deref.result.now table c.deref.ensures.value c.in_ok-followers.followers.items c.in_ok-followers.ensures
    c.deref-2.result.now c.deref-3.result.now c.in_ok-flags.flags.items c.deref-2.ensures.value c.deref-3.ensures.value c.in_ok-flags.ensures.exact

pub layers-preserved : goal.layers-preserved
layers-preserved c =
    let l = c.args.code.now in
    let vs = c.in_ok-rows.rows.items in
    let count = c.row_count-count.result in
    let table = table_of l c.graphs-graphs.ensures.lowered count (rows_of vs) c.row_count-count.ensures c.in_ok-rows.ensures.length c.in_ok-rows.ensures.exact in
    next_flags l.source c.args.depth count c.args.marked.now vs c.deref.result.now table c.deref.ensures.value c.in_ok-followers.followers.items c.in_ok-followers.ensures
    c.layers.counter c.layers.flags.items c.deref-in-layers-2.result.now c.in_ok-flags-2.flags.items c.deref-in-layers.result.now c.in_ok-starts.starts.items c.deref-in-layers-4.result.now c.deref-in-layers-3.result.now
    c.layers.invariant c.deref-in-layers.ensures.value c.deref-in-layers-2.ensures.value c.in_ok-starts.ensures c.deref-in-layers-3.ensures.value c.deref-in-layers-4.ensures.value c.in_ok-flags-2.ensures.exact

pub returns : goal.returns
returns c x of =
    let layer = c.layers.invariant 0 (omega (arith, c.layers-test.false, c.layers.auto.counter-end)) x of.0 in
    let before = finds_before c.args.code.now.source c.args.depth c.args.marked.now x in
    ((λ set. before.0 (layer.0 set)), (λ h. layer.1 (before.1 h)))

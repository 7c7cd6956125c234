use Rattle.std.proofs.Common.{◌<◌, length, arith}
use Rattle.ca_ahead.specs.Onward.{IsEntered}
use Rattle.ca_ahead.proofs.Growing.{gains_next, gains_every}
use Rattle.ca_ahead.proofs.Sources.{at_place, read_place}
use Rattle.ca_ahead.proofs.layers.with_entries.Goals as goal

pub functions-preserved : goal.functions-preserved
functions-preserved c =
    let p = c.args.code.now.source in
    let lt : c.functions.k < length p.functions = omega (arith, c.functions-test.true, c.function_count-count.ensures) in
    let f = at_place p.functions c.functions.k lt in
    gains_next (IsEntered p c.args.marked.now c.args.above.now) p.functions c.functions.k f.0 c.args.numbers.now c.functions.all.items c.add_entry.new.numbers.items lt (read_place p.functions c.functions.k f.0 f.1) c.functions.invariant (c.in_ok-add_entry.ensures f.0 f.1)

pub returns : goal.returns
returns c =
    let p = c.args.code.now.source in
    gains_every (IsEntered p c.args.marked.now c.args.above.now) p.functions c.functions.k c.args.numbers.now c.functions.all.items (omega (arith, c.functions-test.false, c.function_count-count.ensures)) c.functions.invariant

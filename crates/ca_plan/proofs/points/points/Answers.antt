use Rattle.std.proofs.Common.{refl}
use Rattle.ca_plan.proofs.Bounding.{all_points}
use Rattle.ca_plan.proofs.points.points.Goals as goal

pub returns : goal.returns
returns c = record {
  points = all_points c.args.callers.now c.requires.formed c.requires.bounded c.args.depth c.args.from.now c.args.callers.now refl c.in_ok-points.points
      c.as_slice.result.now c.as_slice-2.result.now c.as_slice-3.result.now c.as_slice.ensures c.as_slice-2.ensures c.as_slice-3.ensures c.read_items.ensures c.read_items-2.ensures c.read_functions.ensures
      c.in_ok-points.ensures.items c.in_ok-points.ensures.after c.in_ok-points.ensures.entries c.in_ok-points.ensures.after_ascend c.in_ok-points.ensures.entries_ascend;
}

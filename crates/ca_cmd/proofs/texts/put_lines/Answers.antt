use Rattle.std.proofs.Common.{Err, ap, ◌∙◌}
use Rattle.ca_cmd.proofs.Putting.{one_more, part_of_line}
use Rattle.ca_cmd.proofs.texts.put_lines.Goals as goal

pub returns-in-Err-Failed-clause-part : goal.returns-in-Err-Failed-clause-part
returns-in-Err-Failed-clause-part g c =
    part_of_line _ _ _ c.args.text.now c.lines.rest.now c.split_at.result.0.now c.split_at.result.1.now c.lines.invariant.so_far c.split_at.ensures.by_index.0 (c.in-Err-Failed.ensures.part (ap Err c.in-Err-Failed.field-0-is))

pub lines-preserved : goal.lines-preserved
lines-preserved g c = record {
  so_far = one_more _ _ _ c.args.text.now c.lines.rest.now c.split_at.result.0.now c.split_at.result.1.now c.lines.invariant.so_far c.split_at.ensures.by_index.0 c.in-Ok.ensures.whole;
  passed = c.in-Ok.ensures.passed ∙ c.lines.invariant.passed;
}

use Rattle.std.proofs.Common.{◌++◌, ap, ◌∙◌}
use Rattle.std.specs.Prelude.{Contains}
use Rattle.ca_reach.specs.Reach.{IsSet, row, rows_of}
use Rattle.ca_ahead.proofs.Growing.{gains_all}
use Rattle.ca_ahead.proofs.onward.add_row.Goals as goal

pub returns : goal.returns
returns c =
    let r = row (rows_of c.args.rows.now) c.args.n in
    gains_all c.args.numbers.now.items r c.extend_from_slice.new.self.items (λ m. IsSet c.args.marked.now c.args.n × Contains r m) (c.in_ok-extend_from_slice.ensures.items ∙ ap (λ xs. c.args.numbers.now.items ++ xs) c.row.ensures)
    (λ m. ((λ h. h.1), λ has. (c.is_set.ensures.0 c.if-not-is_set.false, has)))

use Rattle.std.proofs.Common.{◌++◌, ap, ◌∙◌, arith, get_or}
use Rattle.ca_reach.specs.Reach.{rows_of}
use Rattle.ca_callers.proofs.Rows.{read_or, no_item}
use Rattle.ca_callers.proofs.Listing.{row_none, row_turn, row_end}
use Rattle.ca_callers.proofs.search.in_rows.Goals as goal

pub items-init : goal.items-init
items-init c = row_none (rows_of c.args.rows.now) c.new-numbers.result.items c.new-numbers.ensures.items

pub items-preserved : goal.items-preserved
items-preserved c =
    row_turn (rows_of c.args.rows.now) c.args.items.now c.items.item-index (get_or c.args.items.now c.items.item-index no_item) c.items.numbers.items c.push_all.new.numbers.items c.items-test.true
    (read_or c.args.items.now c.items.item-index no_item c.items-test.true) c.items.invariant (c.in_ok-push_all.ensures ∙ ap (λ ns. c.items.numbers.items ++ ns) c.row.ensures)

pub returns : goal.returns
returns c = row_end (rows_of c.args.rows.now) c.args.items.now c.items.item-index c.items.numbers.items (omega (arith, c.items-test.false)) c.items.invariant

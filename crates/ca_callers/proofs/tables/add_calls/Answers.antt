use Rattle.std.proofs.Common.{◌≡◌, refl, sym, ◌∙◌, arith, length, get_or}
use Rattle.ca_tree.specs.declared.numbers.ItemId.{ItemId}
use Rattle.ca_reach.specs.Reach.{rows_of}
use Rattle.ca_reach.proofs.Searched.{rows_length}
use Rattle.ca_callers.proofs.Rows.{one_added, each_none, each_turn, each_all, read_or, no_item}
use Rattle.ca_callers.proofs.tables.add_calls.Goals as goal

pub calls-init : goal.calls-init
calls-init c = record { long = refl; added = each_none ItemId (λ i k x. (k ≡ c.args.first) × (x ≡ i.0)) (rows_of c.args.rows.now.items) }

pub calls-preserved : goal.calls-preserved
calls-preserved c =
    let long : length c.add.new.rows.items ≡ length c.calls.rows.items = c.in_ok-add.ensures.length in
    let call : ItemId = get_or c.args.calls.now c.calls.call-index no_item in
    record {
      long = rows_length c.add.new.rows.items ∙ (long ∙ (sym (rows_length c.calls.rows.items) ∙ c.calls.invariant.long));
      added = each_turn ItemId (λ i k x. (k ≡ c.args.first) × (x ≡ i.0)) c.args.calls.now c.calls.call-index call (rows_of c.args.rows.now.items) (rows_of c.calls.rows.items) (rows_of c.add.new.rows.items)
          c.calls-test.true (read_or c.args.calls.now c.calls.call-index no_item c.calls-test.true) c.calls.invariant.long c.calls.invariant.added
          (one_added (rows_of c.calls.rows.items) (rows_of c.add.new.rows.items) c.args.first call.0 (λ k x. (k ≡ c.args.first) × (x ≡ call.0)) c.in_ok-add.ensures.added (refl, refl) (λ k x h. h));
    }

pub returns-clause-added : goal.returns-clause-added
returns-clause-added c =
    each_all ItemId (λ i k x. (k ≡ c.args.first) × (x ≡ i.0)) c.args.calls.now c.calls.call-index (rows_of c.args.rows.now.items) (rows_of c.calls.rows.items) (omega (arith, c.calls-test.false)) c.calls.invariant.added

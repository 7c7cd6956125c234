use Rattle.std.proofs.Common.{◌<◌, [], length, replicate, refl, sym, ◌∙◌, subst, arith}
use Rattle.ca_reach.specs.Reach.{Table, rows_of}
use Rattle.ca_model.specs.declared.tree.Item.{Item}
use Rattle.ca_model.specs.declared.tree.Function.{Function}
use Rattle.ca_callers.specs.Callers.{AddsAll, AnyOf, InRow, item_number, IsAboveOf}
use Rattle.ca_callers.proofs.Rows.{each_none, each_turn, each_all, read_at, long_rows}
use Rattle.ca_callers.proofs.tables.above.Goals as goal

pub functions-init : goal.functions-init
functions-init c = record {
  long = long_rows (rows_of c.in_ok-rows.rows.items) c.args.size c.in_ok-rows.ensures;
  added = subst (λ (t : Table). AddsAll (replicate c.args.size []) t (AnyOf Function [] (λ f. InRow Item item_number (IsAboveOf c.args.code.now.source f)))) (sym c.in_ok-rows.ensures) (each_none Function (λ f. InRow Item item_number (IsAboveOf c.args.code.now.source f)) (replicate c.args.size []));
}

pub functions-preserved : goal.functions-preserved
functions-preserved c =
    let fs = c.args.code.now.source.functions in
    let lt : c.functions.f < length fs = omega (arith, c.functions-test.true, c.requires) in
    let at = read_at fs c.functions.f lt in
    record {
      long = c.in_ok-add_above.ensures.length ∙ c.functions.invariant.long;
      added = each_turn Function (λ f. InRow Item item_number (IsAboveOf c.args.code.now.source f)) fs c.functions.f at.0 (replicate c.args.size []) (rows_of c.functions.rows.items) (rows_of c.add_above.new.rows.items)
          lt at.2 (c.functions.invariant.long ∙ sym (long_rows (replicate c.args.size []) c.args.size refl)) c.functions.invariant.added (c.in_ok-add_above.ensures.added at.0 at.1);
    }

pub returns-clause-rows : goal.returns-clause-rows
returns-clause-rows c =
    each_all Function (λ f. InRow Item item_number (IsAboveOf c.args.code.now.source f)) c.args.code.now.source.functions c.functions.f (replicate c.args.size []) (rows_of c.functions.rows.items) (omega (arith, c.functions-test.false, c.requires)) c.functions.invariant.added

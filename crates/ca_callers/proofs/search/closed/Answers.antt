use Rattle.std.proofs.Common.{◌≡◌, ◌++◌, ◌∷◌, [], ap, ◌∙◌, arith, get_or, inl, inr}
use Rattle.std.specs.Prelude.{◌⊎◌}
use Rattle.std.specs.Global.{Vec}
use Rattle.ca_tree.specs.declared.numbers.ItemId.{ItemId}
use Rattle.ca_reach.specs.Reach.{rows_of}
use Rattle.ca_callers.specs.Callers.{IsClosed}
use Rattle.ca_callers.proofs.Rows.{read_or, no_item}
use Rattle.ca_callers.proofs.Listing.{closed_none, closed_turn, closed_end}
use Rattle.ca_callers.proofs.search.closed.Goals as goal
use Rattle.ca_callers.proofs.search.closed.Goals.{then-is_closed+in_ok-push, else-is_closed}

pub items-init : goal.items-init
items-init c = closed_none (rows_of c.args.above.now) c.args.last c.new-some.result.items c.new-some.ensures.items

pub items-preserved : goal.items-preserved
items-preserved c =
    let t = rows_of c.args.above.now in
    let i : ItemId = get_or c.args.items.now c.items.item-index no_item in
    let one : ((IsClosed t c.args.last i.0) × (c.if-is_closed.some.items ≡ c.items.some.items ++ i ∷ [])) ⊎ ((IsClosed t c.args.last i.0 → ⊥) × (c.if-is_closed.some.items ≡ c.items.some.items)) = elim c.if-is_closed.branch [
      | then-is_closed+in_ok-push w ↦ inl (c.is_closed.ensures.0 w.if-is_closed.true, ap (λ (v : Vec ItemId). v.items) w.some-is ∙ w.in_ok-push.ensures.items)
      | else-is_closed w ↦ inr ((λ h. let is = c.is_closed.ensures.1 h in let no' = w.if-is_closed.false in cc), ap (λ (v : Vec ItemId). v.items) w.some-is)
    ] in
    closed_turn t c.args.last c.args.items.now c.items.item-index i c.items.some.items c.if-is_closed.some.items c.items-test.true (read_or c.args.items.now c.items.item-index no_item c.items-test.true) c.items.invariant one

pub returns : goal.returns
returns c = closed_end (rows_of c.args.above.now) c.args.last c.args.items.now c.items.item-index c.items.some.items (omega (arith, c.items-test.false)) c.items.invariant

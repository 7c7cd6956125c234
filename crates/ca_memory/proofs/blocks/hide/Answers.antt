use Rattle.std.proofs.Common.{◌∙◌, sym, ap, false}
use Rattle.std.specs.Ordering.{nat_cmp}
use Rattle.std.specs.BTreeMap.{is_at}
use Rattle.std.proofs.lemmas.Map.Steps.{set_value_same}
use Rattle.ca_memory.proofs.Tables.{live_slot, absent, found, starts_where, starts_none, kept_at}
use Rattle.ca_memory.proofs.Hiding.{marked_slot}
use Rattle.ca_memory.proofs.blocks.hide.Goals as goal

pub returns-in_default-clause-gone : goal.returns-in_default-clause-gone
returns-in_default-clause-gone c = (starts_none _ c.args.block (absent c.args.table.now.entries c.args.block (sym c.in_default.ensures.value)), ap (λ m. m.entries) c.get_mut.follows.holds-at-none)

pub returns-then-not-heap-clause-gone : goal.returns-then-not-heap-clause-gone
returns-then-not-heap-clause-gone c = (
  λ h. let yes = (starts_where _ c.args.block _ (found c.args.table.now.entries c.args.block _ (sym c.in-Some.ensures.value)) h).0 in let is = c.if-not-heap.true in absurd cc,
  (c.get_mut.follows.holds _).0 ∙ set_value_same (is_at (nat_cmp c.args.block)) c.args.table.now.entries _ (sym c.in-Some.ensures.value),
)

pub returns-in_default-cells-clause-gone : goal.returns-in_default-cells-clause-gone
returns-in_default-cells-clause-gone c = (
  λ h. let yes = (starts_where _ c.args.block _ (live_slot c.args.table.now.entries c.args.block _ _ (sym c.in-Some.ensures.value) c.in_default-cells.is) h).1 in absurd cc,
  (c.get_mut.follows.holds _).0 ∙ set_value_same (is_at (nat_cmp c.args.block)) c.args.table.now.entries _ (sym c.in-Some.ensures.value),
)

pub returns-clause-hidden : goal.returns-clause-hidden
returns-clause-hidden c = (
  kept_at _ c.args.block _ _ (live_slot c.args.table.now.entries c.args.block _ _ (sym c.in-Some.ensures.value) c.in-Live.is) c.if-not-heap.false,
  marked_slot c.args.table.now.entries _ c.args.block _ false (sym c.in-Some.ensures.value) (c.get_mut.follows.holds _).0,
)

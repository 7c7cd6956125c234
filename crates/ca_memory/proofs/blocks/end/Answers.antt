use Rattle.std.proofs.Common.{◌≡◌, ◌∙◌, sym, ap, true, false, List, Some}
use Rattle.std.specs.Ordering.{nat_cmp}
use Rattle.std.specs.BTreeMap.{is_at}
use Rattle.std.proofs.lemmas.Map.Steps.{set_value_same}
use Rattle.ca_memory.proofs.Tables.{live_slot, absent, found, changed, starts_where, starts_none, died_there}
use Rattle.std.proofs.Common.{ℕ, arith}
use Rattle.std.proofs.lemmas.Grind.{common_steps}
use Rattle.std.specs.Map.{lookup}
use Rattle.std.specs.FinMap.{insert, get}
use Rattle.ca_memory.specs.declared.blocks.Slot.{Slot}
use Rattle.ca_memory.specs.declared.blocks.Cells.{Cells}
use Rattle.ca_memory.specs.Kept.{blocks_of, is_live, cells_of}
use Rattle.ca_memory.proofs.blocks.end.Goals as goal

pub returns-in_default-clause-none : goal.returns-in_default-clause-none
returns-in_default-clause-none c = (starts_none _ c.args.block (absent c.args.table.now.entries c.args.block (sym c.in_default.ensures.value)), ap (λ m. m.entries) c.get_mut.follows.holds-at-none)

pub returns-then-not-slot-clause-none : goal.returns-then-not-slot-clause-none
returns-then-not-slot-clause-none c = (
  λ h. let yes = (starts_where _ c.args.block _ (found c.args.table.now.entries c.args.block _ (sym c.in-Some.ensures.value)) h).0 in let is = c.if-not-slot.true in absurd cc,
  (c.get_mut.follows.holds _).0 ∙ set_value_same (is_at (nat_cmp c.args.block)) c.args.table.now.entries _ (sym c.in-Some.ensures.value),
)

pub returns-in_default-cells-clause-none : goal.returns-in_default-cells-clause-none
returns-in_default-cells-clause-none c = (
  λ h. let yes = (starts_where _ c.args.block _ (live_slot c.args.table.now.entries c.args.block _ _ (sym c.in-Some.ensures.value) c.in_default-cells.is) h).1 in absurd cc,
  (c.get_mut.follows.holds _).0 ∙ set_value_same (is_at (nat_cmp c.args.block)) c.args.table.now.entries _ (sym c.in-Some.ensures.value),
)

there_is : (es : List (ℕ × Slot)) (k : ℕ) (s : Slot) (xs : Cells) → lookup (is_at (nat_cmp k)) es ≡ Some s → s.cells ≡ xs → s.heap ≡ true → get (blocks_of es) k ≡ Some (record { heap = true; live = is_live xs; cells = cells_of xs })
there_is es k s xs e is heap = live_slot es k s xs e is ∙ ap (λ b. Some (record { heap = b; live = is_live xs; cells = cells_of xs })) heap

pub returns-clause-ended : goal.returns-clause-ended
returns-clause-ended c = (c.in-Live.cells.items, there_is c.args.table.now.entries c.args.block _ _ (sym c.in-Some.ensures.value) c.in-Live.is c.if-not-slot.false, let l = c.len-count.ensures in grind (arith, common_steps))

pub returns-clause-freed : goal.returns-clause-freed
returns-clause-freed c =
    let there = live_slot c.args.table.now.entries c.args.block _ _ (sym c.in-Some.ensures.value) c.in-Live.is in
    changed c.args.table.now.entries _ c.args.block _ _ (sym c.in-Some.ensures.value) (c.get_mut.follows.holds _).0 ∙ (ap (λ v. insert (blocks_of c.args.table.now.entries) c.args.block (record { heap = c.in-Some.slot.now.heap; live = false; cells = v.items })) c.of-was.ensures ∙ sym (died_there _ c.args.block _ _ there))

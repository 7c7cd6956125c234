use Rattle.std.proofs.Common.{◌≡◌, ◌+ℤ◌, pos, ◌≤◌, ◌<◌, length, Some, ◌∙◌, sym, ap, arith}
use Rattle.std.specs.Prelude.{is_some}
use Rattle.std.specs.Int.{w64}
use Rattle.std.proofs.lemmas.Int.{to_z-of_z}
use Rattle.std.proofs.lemmas.Grind.{common_steps}
use Rattle.std.specs.Ordering.{nat_cmp}
use Rattle.std.specs.BTreeMap.{is_at}
use Rattle.std.proofs.lemmas.Map.Steps.{set_value_same}
use Rattle.ca_memory.proofs.Tables.{live_slot, absent, cell_live, no_block, dead_block, outside, changed, put_there, is_some_within}
use Rattle.std.specs.Vec.{with_item}
use Rattle.ca_memory.specs.declared.blocks.Slot.{Slot}
use Rattle.ca_memory.specs.declared.blocks.Cells.TheVariants as cells
use Rattle.ca_memory.proofs.blocks.put.Goals as goal

pub returns-in_default-clause-no : goal.returns-in_default-clause-no
returns-in_default-clause-no c = (no_block _ c.args.a.block _ (absent c.args.table.now.entries c.args.a.block (sym c.in_default.ensures.value)), ap (λ m. m.entries) c.get_mut.follows.holds-at-none)

pub returns-in_default-cells-clause-no : goal.returns-in_default-cells-clause-no
returns-in_default-cells-clause-no c = (
  dead_block _ c.args.a.block _ _ _ (live_slot c.args.table.now.entries c.args.a.block _ _ (sym c.in-Some.ensures.value) c.in_default-cells.is),
  (c.get_mut.follows.holds _).0 ∙ set_value_same (is_at (nat_cmp c.args.a.block)) c.args.table.now.entries _ (sym c.in-Some.ensures.value),
)

pub returns-in_default-place_in-clause-no : goal.returns-in_default-place_in-clause-no
returns-in_default-place_in-clause-no c = (
  outside _ c.args.a.block _ _ (c.args.a.offset +ℤ c.args.by) (live_slot c.args.table.now.entries c.args.a.block _ _ (sym c.in-Some.ensures.value) c.in-Live.is) (λ n e. let h : c.len.result ≤ n = c.in_default-place_in.ensures.none n (ap (λ z. c.args.a.offset +ℤ z) (to_z-of_z w64 c.args.by c.ranges.by) ∙ e) in let l = c.len.ensures in grind (arith, common_steps)),
  (c.get_mut.follows.holds _).0 ∙ set_value_same (is_at (nat_cmp c.args.a.block)) c.args.table.now.entries _ (sym c.in-Some.ensures.value ∙ ap (λ y. Some (record { heap = c.in-Some.slot.now.heap; cells = y })) c.in-Live.is),
)

pub returns-clause-put : goal.returns-clause-put
returns-clause-put c =
    let there = live_slot c.args.table.now.entries c.args.a.block _ _ (sym c.in-Some.ensures.value) c.in-Live.is in
    let at : c.args.a.offset +ℤ c.args.by ≡ pos c.in-Some-place_in.place = sym (ap (λ z. c.args.a.offset +ℤ z) (to_z-of_z w64 c.args.by c.ranges.by)) ∙ c.in-Some-place_in.ensures.place.1 in
    let slot : Slot = record { heap = c.in-Some.slot.now.heap; cells = cells.Live (with_item c.in-Live.cells c.in-Some-place_in.place c.args.value) } in
    let within : c.in-Some-place_in.place < length c.in-Live.cells.items = let h = c.in-Some-place_in.ensures.place.0 in let l = c.len.ensures in grind (arith, common_steps) in (
      ap is_some (cell_live _ c.args.a.block _ _ (c.args.a.offset +ℤ c.args.by) c.in-Some-place_in.place there at) ∙ is_some_within c.in-Live.cells.items c.in-Some-place_in.place within,
      changed c.args.table.now.entries (c.get_mut.follows.lender slot).entries c.args.a.block _ slot (sym c.in-Some.ensures.value) (c.get_mut.follows.holds slot).0 ∙ sym (put_there _ c.args.a.block _ _ (c.args.a.offset +ℤ c.args.by) _ c.args.value there at),
    )

use Rattle.std.proofs.Common.{◌≡◌, ◌+ℤ◌, pos, ◌≤◌, ◌<◌, length, refl, ◌∙◌, sym, ap, arith}
use Rattle.std.specs.Int.{w64}
use Rattle.std.proofs.lemmas.Int.{to_z-of_z}
use Rattle.std.proofs.lemmas.Grind.{common_steps}
use Rattle.std.proofs.lemmas.Option.{slice_get_read}
use Rattle.ca_memory.proofs.Tables.{live_slot, absent, cell_live, no_block, dead_block, outside}
use Rattle.ca_memory.proofs.blocks.cell.Goals as goal

pub returns-in_default : goal.returns-in_default
returns-in_default c = sym (no_block _ c.args.a.block _ (absent c.args.table.now.entries c.args.a.block (sym c.in_default.ensures.value)))

pub returns-in_default-cells : goal.returns-in_default-cells
returns-in_default-cells c = sym (dead_block _ c.args.a.block _ _ _ (live_slot c.args.table.now.entries c.args.a.block _ _ (sym c.in-Some.ensures.value) c.in_default-cells.is))

pub returns-in_default-place_in : goal.returns-in_default-place_in
returns-in_default-place_in c = sym (outside _ c.args.a.block _ _ (c.args.a.offset +ℤ c.args.by) (live_slot c.args.table.now.entries c.args.a.block _ _ (sym c.in-Some.ensures.value) c.in-Live.is) (λ n e. let h : c.len.result ≤ n = c.in_default-place_in.ensures.none n (ap (λ z. c.args.a.offset +ℤ z) (to_z-of_z w64 c.args.by c.ranges.by) ∙ e) in let l = c.len.ensures in grind (arith, common_steps)))

pub returns : goal.returns
returns c =
    let at : c.args.a.offset +ℤ c.args.by ≡ pos c.in-Some-place_in.place = sym (ap (λ z. c.args.a.offset +ℤ z) (to_z-of_z w64 c.args.by c.ranges.by)) ∙ c.in-Some-place_in.ensures.place.1 in
    let within : c.in-Some-place_in.place < length c.in-Live.cells.items = let h = c.in-Some-place_in.ensures.place.0 in let l = c.len.ensures in grind (arith, common_steps) in
    sym (cell_live _ c.args.a.block _ _ (c.args.a.offset +ℤ c.args.by) c.in-Some-place_in.place (live_slot c.args.table.now.entries c.args.a.block _ _ (sym c.in-Some.ensures.value) c.in-Live.is) at
    ∙ slice_get_read c.in-Live.cells.items _ _ _ refl within c.index.ensures)

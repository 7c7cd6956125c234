use Rattle.std.proofs.Common.{◌≤◌, List, length, arith, subst, sym, ap}
use Rattle.std.specs.Prelude.{All}
use Rattle.ca_model.specs.declared.tree.GlobalStart.{GlobalStart}
use Rattle.ca_memory.specs.Kept.{most_cells}
use Rattle.ca_shared.proofs.Openings.{few_each, fewer_each}
use Rattle.ca_shared.proofs.shared.Shared.start.Goals as goal

pub open-requires-clause-few : goal.open-requires-clause-few
open-requires-clause-few c =
    let is = c.program-program.ensures.checked in
    let few = (c.typed_programs_are_well_formed.ensures.bounded c.args.checked.now.program c.args.checked.now.typed is.program is.typing).globals in
    let same = ap length c.globals.ensures in
    omega (arith, few, same)

pub open-requires-clause-short : goal.open-requires-clause-short
open-requires-clause-short c =
    let is = c.program-program.ensures.checked in
    let few = (c.typed_programs_are_well_formed.ensures.bounded c.args.checked.now.program c.args.checked.now.typed is.program is.typing).cells in
    subst (λ (gs : List GlobalStart). All (λ (g : GlobalStart). g.cells ≤ most_cells) gs) (sym c.globals.ensures)
    (fewer_each c.args.checked.now.typed.globals 65536 most_cells (omega arith) (few_each c.args.checked.now.typed.globals 65536 few))

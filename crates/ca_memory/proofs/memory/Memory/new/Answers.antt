use Rattle.std.proofs.Common.{All, ◌≤◌, sym, subst, ◌∙◌}
use Rattle.ca_model.specs.declared.tree.GlobalStart.{GlobalStart}
use Rattle.ca_memory.specs.Kept.{most_cells}
use Rattle.ca_memory.proofs.Globals.{zeroed_short}
use Rattle.ca_memory.proofs.memory.Memory.new.Goals as goal

pub open-requires-clause-short : goal.open-requires-clause-short
open-requires-clause-short c = subst (All (λ (g : GlobalStart). g.cells ≤ most_cells)) (sym (c.deref.ensures.value ∙ c.in_ok-starts.ensures)) (zeroed_short c.args.globals.now c.requires.short)

use Rattle.std.proofs.Common.{sym, ap, ◌∙◌}
use Rattle.std.specs.FinMap as finite
use Rattle.ca_model.specs.ComingEntries.{is_held, is_heap}
use Rattle.ca_entries.proofs.Giving.{heap_by}
use Rattle.ca_entries.proofs.rollback.is_held.Goals as goal

pub returns-in-Block : goal.returns-in-Block
returns-in-Block c = λ g shares.
    heap_by c.args.parts.memory.now c.in-Block.block c.can_release.result c.can_release.ensures
    ∙ sym (ap (λ x. is_held g c.args.thread x) c.in-Block.is ∙ ap (λ m. is_heap (finite.get m c.in-Block.block)) shares.blocks)

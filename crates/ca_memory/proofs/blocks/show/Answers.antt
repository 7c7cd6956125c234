use Rattle.std.proofs.Common.{◌∙◌, sym, ap, true}
use Rattle.ca_memory.specs.Kept.{blocks_of}
use Rattle.ca_memory.proofs.Tables.{absent}
use Rattle.ca_memory.proofs.Hiding.{marked_slot, unmarked}
use Rattle.ca_memory.proofs.blocks.show.Goals as goal

pub returns-in_default : goal.returns-in_default
returns-in_default c =
    ap (λ m. blocks_of m.entries) c.get_mut.follows.holds-at-none ∙ sym (unmarked _ c.args.block true (absent c.args.table.now.entries c.args.block (sym c.in_default.ensures.value)))

pub returns : goal.returns
returns c = marked_slot c.args.table.now.entries _ c.args.block _ true (sym c.in-Some.ensures.value) (c.get_mut.follows.holds _).0

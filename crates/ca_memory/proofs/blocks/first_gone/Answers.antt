use Rattle.std.proofs.Common.{◌<◌, Some, length, take, arith, ap, ◌∙◌}
use Rattle.std.proofs.lemmas.Option.{slice_get-get_or}
use Rattle.ca_memory.specs.Kept.{blocks_of}
use Rattle.ca_memory.proofs.Hiding.{unchanged, first_found, all_found}
use Rattle.ca_memory.proofs.blocks.first_gone.Goals as goal

pub returns-then-held-things-clause-same : goal.returns-then-held-things-clause-same
returns-then-held-things-clause-same c = unchanged (blocks_of c.args.table.now.entries) (blocks_of c.hide_all-held.new.table.entries) _ (take c.hide_all-held.result c.args.things.now) c.hide_all-held.ensures.were c.hide_all-held.ensures.hidden c.show_all.ensures

pub returns-then-held-things-clause-none : goal.returns-then-held-things-clause-none
returns-then-held-things-clause-none c = let is = c.if-held-things.true in all_found _ c.args.things.now c.hide_all-held.result c.hide_all-held.ensures.were (omega (arith, is))

pub returns-in-Block-clause-same : goal.returns-in-Block-clause-same
returns-in-Block-clause-same c = unchanged (blocks_of c.args.table.now.entries) (blocks_of c.hide_all-held.new.table.entries) _ (take c.hide_all-held.result c.args.things.now) c.hide_all-held.ensures.were c.hide_all-held.ensures.hidden c.show_all.ensures

pub returns-in-Block-clause-first : goal.returns-in-Block-clause-first
returns-in-Block-clause-first c =
    let ne = c.if-held-things.false in
    let within = c.hide_all-held.ensures.within in
    let lt : c.hide_all-held.result < length c.args.things.now = grind (arith, ne, within) in
    first_found _ (blocks_of c.hide_all-held.new.table.entries) c.args.things.now c.hide_all-held.result c.hide_all-held.ensures.were c.hide_all-held.ensures.hidden c.hide_all-held.ensures.first c.in-Block.block
    (slice_get-get_or c.args.things.now c.hide_all-held.result _ lt ∙ ap Some c.in-Block.is)

pub returns-in-Mutex-clause-same : goal.returns-in-Mutex-clause-same
returns-in-Mutex-clause-same c = unchanged (blocks_of c.args.table.now.entries) (blocks_of c.hide_all-held.new.table.entries) _ (take c.hide_all-held.result c.args.things.now) c.hide_all-held.ensures.were c.hide_all-held.ensures.hidden c.show_all.ensures

pub returns-in-Mutex-clause-none : goal.returns-in-Mutex-clause-none
returns-in-Mutex-clause-none c =
    let ne = c.if-held-things.false in
    let within = c.hide_all-held.ensures.within in
    let lt : c.hide_all-held.result < length c.args.things.now = grind (arith, ne, within) in
    absurd (c.hide_all-held.ensures.first _ (slice_get-get_or c.args.things.now c.hide_all-held.result _ lt ∙ ap Some c.in-Mutex.is) tt)

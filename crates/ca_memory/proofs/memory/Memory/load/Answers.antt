use Rattle.std.proofs.Common.{◌+ℤ◌, ◌∙◌, sym, ap}
use Rattle.std.specs.Prelude.{is_some}
use Rattle.std.specs.Int.{w64}
use Rattle.std.proofs.lemmas.Int.{to_z-of_z}
use Rattle.ca_model.specs.Shared.{cell, reached}
use Rattle.ca_memory.specs.Kept.{blocks_of}
use Rattle.ca_memory.proofs.Near.{near}
use Rattle.ca_memory.proofs.memory.Memory.load.Goals as goal

pub returns-in-Some-clause-near : goal.returns-in-Some-clause-near
returns-in-Some-clause-near c =
    let m = blocks_of c.self.inside.table.entries in
    near m c.args.at c.args.by c.self.invariant.short (ap is_some (ap (λ x. reached m x c.args.by) c.in-Addr.is
    ∙ (ap (λ z. cell m c.in-Addr.a.block (c.in-Addr.a.offset +ℤ z)) (sym (to_z-of_z w64 c.args.by c.ranges.by)) ∙ (sym c.cell.ensures ∙ c.in-Some.is))))

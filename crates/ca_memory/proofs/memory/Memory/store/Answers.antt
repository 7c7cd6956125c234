use Rattle.std.proofs.Common.{◌+ℤ◌, ◌∙◌, sym, ap, subst}
use Rattle.std.specs.Prelude.{OnOk, is_some}
use Rattle.std.specs.Int.{w64}
use Rattle.std.proofs.lemmas.Int.{to_z-of_z}
use Rattle.ca_model.specs.Shared.{cell, reached}
use Rattle.ca_memory.specs.Kept.{AreCounts, blocks_of}
use Rattle.ca_memory.specs.Zeros.{IsNear}
use Rattle.ca_memory.proofs.Counts.{store_keeps}
use Rattle.ca_memory.proofs.Near.{near}
use Rattle.ca_memory.proofs.memory.Memory.store.Goals as goal
use Rattle.ca_memory.proofs.memory.Memory.store.Goals.{then-put, else-put}

pub invariant_of-self : goal.invariant_of-self
invariant_of-self c = elim c.if-put.branch [
  | then-put w ↦ store_keeps _ _ _ _ _ _ _ w.if-put.ensures.put.1 c.self.invariant
  | else-put w ↦ subst (λ es. AreCounts (blocks_of es) c.self.inside.cells c.self.inside.count c.self.inside.least) (sym w.if-put.ensures.no.1) c.self.invariant
]

pub returns-clause-near : goal.returns-clause-near
returns-clause-near c =
    let m = blocks_of c.self.inside.table.entries in
    elim c.if-put.branch [
      | then-put w ↦ subst (λ r. OnOk r (IsNear c.args.at c.args.by)) (sym w.result-is) (near m c.args.at c.args.by c.self.invariant.short (ap is_some (ap (λ x. reached m x c.args.by) c.in-Addr.is
          ∙ ap (λ z. cell m c.in-Addr.a.block (c.in-Addr.a.offset +ℤ z)) (sym (to_z-of_z w64 c.args.by c.ranges.by))) ∙ w.if-put.ensures.put.0))
      | else-put w ↦ subst (λ r. OnOk r (IsNear c.args.at c.args.by)) (sym w.result-is) tt
    ]

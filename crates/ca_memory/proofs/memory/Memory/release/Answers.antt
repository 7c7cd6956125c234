use Rattle.std.proofs.Common.{◌≤◌, length, ◌-◌, arith, sym, subst, ◌∙◌, true}
use Rattle.ca_memory.specs.Kept.{AreCounts, blocks_of}
use Rattle.ca_memory.proofs.Counts.{ended}
use Rattle.ca_memory.proofs.Tables.{died_there}
use Rattle.ca_memory.proofs.memory.Memory.release.Goals as goal

few : goal.overflow_sub-self
few c =
    let e = c.in-Some.ensures.ended in
    let is = e.2 in
    let h : length e.0 ≤ c.self.inside.cells = (ended _ c.in-Addr.a.block _ _ _ e.0 e.1 c.self.invariant).0 in omega arith

pub overflow_cast-self : goal.overflow_cast-self
overflow_cast-self c =
    let h : c.in-Some.cells ≤ c.self.inside.cells = few c in let l = c.self.invariant.few_live in omega arith

pub overflow_sub-self : goal.overflow_sub-self
overflow_sub-self c = few c

pub invariant_of-self-2 : goal.invariant_of-self-2
invariant_of-self-2 c =
    let e = c.in-Some.ensures.ended in
    subst (λ n. AreCounts (blocks_of c.end.new.table.entries) (c.self.inside.cells - n) c.self.inside.count c.self.inside.least) e.2
    (subst (λ m. AreCounts m (c.self.inside.cells - length e.0) c.self.inside.count c.self.inside.least) (sym (c.in-Some.ensures.freed ∙ died_there _ c.in-Addr.a.block true e.0 e.1))
    (ended _ c.in-Addr.a.block _ _ _ e.0 e.1 c.self.invariant).1)

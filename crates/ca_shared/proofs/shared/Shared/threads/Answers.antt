use Rattle.std.proofs.Common.{arith}
use Rattle.ca_shared.proofs.Appending.{well}
use Rattle.ca_shared.proofs.shared.Shared.threads.Goals as goal

pub overflow_cast-result : goal.overflow_cast-result
overflow_cast-result c =
    let s = c.self.inside in
    let few = (well s.globals.items s.trace.items s.memory s.owners s.output.items s.threads.items s.frames s.phase c.self.invariant).few in
    let is = c.len.ensures in
    grind (arith, few, is)

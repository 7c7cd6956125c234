use Rattle.std.proofs.Common.{◌≤◌}
use Rattle.ca_callers.specs.Callers.{AreTables, AreMarks}
use Rattle.ca_callers.proofs.Layers.{AreStarts}
use Rattle.ca_callers.proofs.Marking.{AreAsLong}
use Rattle.ca_callers.proofs.callers.Callers.marks.Given as goal

abbrev pub invariant-layers : goal.invariant-layers
invariant-layers l = record {
  long : AreAsLong l.self-inside.tables l.marks;
  marked : AreMarks l.self l.depth l.from l.k l.marks;
  starts : (are : AreTables l.self l.self-inside.tables) → l.k ≤ l.depth → AreStarts l.self l.depth l.from l.self-inside.tables are l.k l.starts.items;
}

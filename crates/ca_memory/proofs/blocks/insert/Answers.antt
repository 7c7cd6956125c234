use Rattle.ca_memory.specs.declared.blocks.Cells.TheVariants as cells
use Rattle.ca_memory.proofs.Tables.{inserted}
use Rattle.ca_memory.proofs.blocks.insert.Goals as goal

pub returns-in-Ok-clause-ok : goal.returns-in-Ok-clause-ok
returns-in-Ok-clause-ok c = inserted c.args.table.now.entries c.insert.new.self.entries c.args.block (record { heap = c.args.heap; cells = cells.Live c.args.cells }) c.in-Ok.ensures.updates.0

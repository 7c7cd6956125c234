use Rattle.ca_model.proofs.Cells.{read_back, no_other_cell}
use Rattle.ca_model.proofs.run_laws.a_write_changes_its_cell_alone.Goals as goal

pub returns-clause-read_back : goal.returns-clause-read_back
returns-clause-read_back c = read_back

pub returns-clause-others : goal.returns-clause-others
returns-clause-others c = no_other_cell

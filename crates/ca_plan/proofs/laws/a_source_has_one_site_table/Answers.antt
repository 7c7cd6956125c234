use Rattle.ca_plan.proofs.OneTable.{one_table}
use Rattle.ca_plan.proofs.laws.a_source_has_one_site_table.Goals as goal

pub returns : goal.returns
returns c = one_table

use Rattle.ca_check.proofs.Passing.{one_ending, no_run, one_index}
use Rattle.ca_check.proofs.laws.a_list_has_one_verdict.Goals as goal

pub returns : goal.returns
returns c = record { one_ending = one_ending; not_both = no_run; one_index = one_index }

use Rattle.ca_traces.proofs.OneReading.{one_list, not_both, one_line}
use Rattle.ca_traces.proofs.laws.a_text_has_one_reading.Goals as goal

pub returns : goal.returns
returns c = record { one_list = one_list; not_both = not_both; one_line = one_line }

use Rattle.ca_traces.proofs.OneReading.{reads_back}
use Rattle.ca_traces.proofs.laws.what_is_written_is_read.Goals as goal

pub returns : goal.returns
returns c = record { read_back = reads_back; one_text = λ text events r. (r.behind, r.spelled, r.ends) }

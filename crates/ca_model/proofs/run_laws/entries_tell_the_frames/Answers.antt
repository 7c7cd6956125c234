use Rattle.ca_model.proofs.FrameCounts.{source_told, hardened_told}
use Rattle.ca_model.proofs.run_laws.entries_tell_the_frames.Goals as goal

pub returns-clause-of_source : goal.returns-clause-of_source
returns-clause-of_source c = λ p code. source_told code p

pub returns-clause-of_hardened : goal.returns-clause-of_hardened
returns-clause-of_hardened c = λ p code. hardened_told code p

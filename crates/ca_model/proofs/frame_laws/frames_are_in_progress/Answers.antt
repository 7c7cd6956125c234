use Rattle.ca_model.proofs.FramesOfRuns.{frames_in_progress}
use Rattle.ca_model.proofs.frame_laws.frames_are_in_progress.Goals as goal

pub returns : goal.returns
returns c = frames_in_progress

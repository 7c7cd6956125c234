use Rattle.std.proofs.Common.{◌≡◌, take}
use Rattle.ca_thread.proofs.frames.copy_frames.Given as goal

abbrev pub invariant-frames : goal.invariant-frames
invariant-frames l = l.copy.items ≡ take l.frame-index l.frames

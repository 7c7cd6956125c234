-- The frames of all threads, as the entries tell them.
use Rattle.std.specs.Prelude.{ℕ}
use Rattle.ca_model.specs.FrameCounts.{frames_below}
use Rattle.ca_shared.specs.Histories.{History, state}

abbrev pub frames : History → ℕ
frames h = frames_below h.trace (state h).threads

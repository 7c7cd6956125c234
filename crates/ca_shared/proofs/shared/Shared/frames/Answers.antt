use Rattle.std.proofs.Common.{ap, ◌∙◌}
use Rattle.ca_shared.specs.Frames.{frames}
use Rattle.ca_shared.proofs.Appending.{frames_are}
use Rattle.ca_shared.proofs.shared.Shared.frames.Goals as goal

pub returns : goal.returns
returns c =
    let s = c.self.inside in
    frames_are s.globals.items s.trace.items s.memory s.owners s.output.items s.threads.items s.frames s.phase c.self.invariant ∙ ap frames c.self.view_is

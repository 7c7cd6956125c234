use Rattle.std.proofs.Common.{subst}
use Rattle.ca_thread.specs.Moves.{IsCallee}
use Rattle.ca_thread.proofs.Moved.{called_so}
use Rattle.ca_thread.proofs.moves.go.Goals as goal

pub returns-in-Some : goal.returns-in-Some
returns-in-Some c f fs w standing asks callee =
    called_so c.args.code.now c.args.frames.now.items c.push_frame.new.frames.items c.in-Some.frame w c.args.answer f fs c.push_frame.ensures standing asks (subst (IsCallee c.args.code.now w) c.in-Some.is callee)

use Rattle.std.proofs.Common.{[], sym, subst}
use Rattle.ca_model.specs.Asks.{Calls}
use Rattle.ca_thread.specs.Standing.{AreStanding}
use Rattle.ca_thread.proofs.FrameLists.{none_there, returned_to, none_left}
use Rattle.ca_thread.proofs.stack.leave.Goals as goal

pub returns-clause-caller : goal.returns-clause-caller
returns-clause-caller c f h hs standing =
    let l = c.args.code.now in
    let back = returned_to l c.args.frames.now.items c.pop.new.self.items c.in-Some.left f h hs c.in-Some.ensures.items standing in
    c.go_on_top.ensures.some h hs (Calls back.1.0 back.1.1) back.0 back.1.2 (λ r. r)

pub returns-clause-last : goal.returns-clause-last
returns-clause-last c f standing =
    let l = c.args.code.now in
    let empty = none_there l c.pop.new.self.items (none_left l c.args.frames.now.items c.pop.new.self.items c.in-Some.left f c.in-Some.ensures.items standing) in
    subst (λ r. AreStanding l r []) (sym (c.go_on_top.ensures.none empty)) tt

use Rattle.std.proofs.Common.{refl}
use Rattle.ca_types.proofs.Knowing.{room_for_globals, globals_known}
use Rattle.ca_types.proofs.tops.with_globals.Goals as goal

pub declare_globals-requires-clause-mutexes : goal.declare_globals-requires-clause-mutexes
declare_globals-requires-clause-mutexes c = (room_for_globals c.requires.0 c.requires.1 c.args.known c.args.of.now c.requires.2).0

pub declare_globals-requires-clause-starts : goal.declare_globals-requires-clause-starts
declare_globals-requires-clause-starts c = (room_for_globals c.requires.0 c.requires.1 c.args.known c.args.of.now c.requires.2).1

pub returns : goal.returns
returns c = λ k h. globals_known c.args.known _ k h c.args.of.now refl refl (c.in_ok-declare_globals.ensures.holds k h.holds) c.in_ok-declare_globals.ensures.cells

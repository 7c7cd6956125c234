use Rattle.std.proofs.Common.{refl}
use Rattle.ca_types.proofs.Knowing.{room_for_a_struct, struct_known}
use Rattle.ca_types.proofs.tops.with_struct.Goals as goal

pub struct_definition-requires-clause-structs : goal.struct_definition-requires-clause-structs
struct_definition-requires-clause-structs c = (room_for_a_struct c.requires.0 c.requires.1 c.args.known c.args.of.now c.requires.2).0

pub struct_definition-requires-clause-fields : goal.struct_definition-requires-clause-fields
struct_definition-requires-clause-fields c = (room_for_a_struct c.requires.0 c.requires.1 c.args.known c.args.of.now c.requires.2).1

pub returns : goal.returns
returns c = λ k h. struct_known c.args.known _ k h c.args.of.now refl refl refl refl c.in_ok-struct_definition.ensures.is c.in_ok-struct_definition.ensures.noted

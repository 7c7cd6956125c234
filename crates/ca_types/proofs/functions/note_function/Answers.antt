use Rattle.ca_bodies.specs.Functions.{context}
use Rattle.ca_types.proofs.Declaring.{function_noted}
use Rattle.ca_types.proofs.functions.note_function.Goals as goal

pub returns : goal.returns
returns c =
    function_noted (context c.args.scope.now c.args.functions.now) c.args.of.now _ _ _ _ _ _ _ _ _ _ _ c.as_slice.ensures c.requires c.is_new.ensures c.is_right-is_right.ensures (c.is_defined.ensures c.args.scope.now)
    c.note_result.ensures c.note_parameters.ensures c.unless.ensures c.unless-2.ensures c.unless-3.ensures

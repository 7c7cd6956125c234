use Rattle.std.proofs.Common.{[]}
use Rattle.ca_model.specs.typing.Functions.{a_parameter}
use Rattle.ca_blocks.proofs.Telling.{IsWhole}
use Rattle.ca_types.proofs.functions.parameters.Given as goal

abbrev pub invariant-loop-one : goal.invariant-loop-one
invariant-loop-one l = IsWhole a_parameter l.of l.fn.inside [] l.fn.faults.first l.one-index l.inside [] l.faults.first

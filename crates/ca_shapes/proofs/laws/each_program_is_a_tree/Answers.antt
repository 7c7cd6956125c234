use Rattle.std.proofs.Common.{refl}
use Rattle.ca_tree.specs.TreeWords.{any_words}
use Rattle.ca_shapes.proofs.TextWords.{any_are_words}
use Rattle.ca_shapes.proofs.DeclarationShapes.{program}
use Rattle.ca_shapes.proofs.laws.each_program_is_a_tree.Goals as goal

pub returns : goal.returns
returns c = λ a ts s. program any_words refl a ts s (any_are_words ts)

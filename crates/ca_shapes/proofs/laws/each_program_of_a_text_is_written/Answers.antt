use Rattle.std.proofs.Common.{refl}
use Rattle.ca_tree.specs.TreeWords.{text_words}
use Rattle.ca_shapes.proofs.TextWords.{text_are_words}
use Rattle.ca_shapes.proofs.DeclarationShapes.{program}
use Rattle.ca_shapes.proofs.laws.each_program_of_a_text_is_written.Goals as goal

pub returns : goal.returns
returns c = λ text ts a h s. program text_words refl a ts s (text_are_words text ts h)

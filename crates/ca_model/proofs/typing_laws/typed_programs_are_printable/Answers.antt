use Rattle.ca_model.proofs.PrintedPrograms.{typed_programs_print}
use Rattle.ca_model.proofs.typing_laws.typed_programs_are_printable.Goals as goal

pub returns : goal.returns
returns c = typed_programs_print

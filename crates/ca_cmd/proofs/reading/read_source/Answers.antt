use Rattle.std.proofs.Common.{subst}
use Rattle.ca_grammar.specs.Declarations.{IsProgram}
use Rattle.ca_grammar.specs.Laws.{all_kept}
use Rattle.ca_cmd.proofs.reading.read_source.Goals as goal

pub check_types-requires : goal.check_types-requires
check_types-requires c =
    c.each_program_of_a_text_is_written.ensures c.args.text.now c.in-Ok.found.items c.in-Ok-program.found c.in-Ok.ensures.tokens (subst (IsProgram all_kept c.in-Ok-program.found) c.deref.ensures.value c.in-Ok-program.ensures.spelled)

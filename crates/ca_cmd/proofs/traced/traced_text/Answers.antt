use Rattle.std.proofs.Common.{Ok, Err}
use Rattle.ca_commands.specs.Options.{command}
use Rattle.ca_cmd.proofs.Refusing.{transformed}
use Rattle.ca_cmd.proofs.traced.traced_text.Goals as goal

pub returns-in-Ok-made-clause-made : goal.returns-in-Ok-made-clause-made
returns-in-Ok-made-clause-made g c = λ said these.
    let (taken, asked) = c.in-Ok.ensures.prepared said these in
    transformed c.each_program_of_a_text_is_written.ensures said (command c.args.words.now) these _ _ c.in-Ok.given.checked c.in-Ok.given.plan c.in-Ok.given.events taken asked (Ok c.in-Ok-made.text) c.in-Ok-made.ensures

pub returns-clause-made : goal.returns-clause-made
returns-clause-made g c = λ said these.
    let (taken, asked) = c.in-Ok.ensures.prepared said these in
    transformed c.each_program_of_a_text_is_written.ensures said (command c.args.words.now) these _ _ c.in-Ok.given.checked c.in-Ok.given.plan c.in-Ok.given.events taken asked (Err c.in-Err-made.no) c.in-Err-made.ensures

use Rattle.ca_commands.specs.Options.{command, sites_options}
use Rattle.ca_commands.specs.Words.{Sites}
use Rattle.ca_cmd.proofs.command.serve.Goals as goal

pub returns-in-Sites-clause-served : goal.returns-in-Sites-clause-served
returns-in-Sites-clause-served g c = rw c.in-Sites.is (λ said these. c.put_made.ensures said _ _ (Sites (sites_options c.in-Sites.words)) (c.sites_text.ensures.made said these))

pub returns-in-Check-clause-served : goal.returns-in-Check-clause-served
returns-in-Check-clause-served g c = λ said these. c.put_made-in-Check.ensures said _ _ (command c.args.words.now) (c.traced_text.ensures.made said these)

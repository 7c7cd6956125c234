use Rattle.std.proofs.Common.{Ok}
use Rattle.ca_commands.specs.Options.{sites_options}
use Rattle.ca_cmd.proofs.Refusing.{tabled}
use Rattle.ca_cmd.proofs.sites.sites_text.Goals as goal

pub returns-in-Ok-table-clause-made : goal.returns-in-Ok-table-clause-made
returns-in-Ok-table-clause-made g c = λ said these.
    let (source, asked) = (rw c.as_str.ensures.value at c.in-Ok.ensures.opened) in
    tabled said (sites_options c.args.words.now) these _ _ c.in-Ok.checked source asked (Ok c.in-Ok-table.text) c.in-Ok-table.ensures

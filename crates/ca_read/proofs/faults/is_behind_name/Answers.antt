use Rattle.std.proofs.Common.{sym, ◌∙◌}
use Rattle.ca_read.proofs.Fronts.{name_before}
use Rattle.ca_read.proofs.faults.is_behind_name.Goals as goal

pub returns-in-Some : goal.returns-in-Some
returns-in-Some c front h = c.is_name_word.ensures ∙ name_before c.args.tokens.now front c.args.rest.now c.in-Some.token.now h (sym c.in-Some.ensures.value)

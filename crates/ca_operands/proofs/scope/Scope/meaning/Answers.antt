use Rattle.std.proofs.Common.{◌∙◌, sym}
use Rattle.ca_operands.proofs.Lookups.{no_local}
use Rattle.ca_operands.proofs.scope.Scope.meaning.Goals as goal

pub returns-in-None : goal.returns-in-None
returns-in-None c = c.global.ensures ∙ no_local c.args.self.now c.args.name.now (sym c.local.ensures ∙ c.in-None.is)

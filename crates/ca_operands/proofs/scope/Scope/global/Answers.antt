use Rattle.std.proofs.Common.{◌∙◌, ap}
use Rattle.ca_model.specs.typing.Scopes.{find}
use Rattle.ca_operands.proofs.Lookups.{looked_up}
use Rattle.ca_operands.proofs.scope.Scope.global.Goals as goal

pub returns : goal.returns
returns c = c.copied.ensures ∙ c.get.ensures.value ∙ looked_up c.args.name.now c.self.inside.globals.entries ∙ ap (λ s. find c.args.name.now s.globals) c.self.view_is

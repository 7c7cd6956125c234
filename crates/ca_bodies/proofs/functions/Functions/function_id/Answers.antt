use Rattle.std.proofs.Common.{◌∙◌, ap}
use Rattle.ca_model.specs.typing.Scopes.{function_id}
use Rattle.ca_operands.proofs.Lookups.{looked_up}
use Rattle.ca_bodies.specs.Functions.{Functions, context}
use Rattle.ca_bodies.specs.Shown.{id_or_first}
use Rattle.std.specs.Prelude.{map}
use Rattle.ca_bodies.proofs.Numbering.{number_is}
use Rattle.ca_bodies.proofs.functions.Functions.function_id.Goals as goal

pub returns-in-Some : goal.returns-in-Some
returns-in-Some c = λ s.
    ap id_or_first (c.in-Some.ensures.value ∙ looked_up c.args.name.now c.self.inside.numbers.entries) ∙ (ap id_or_first (c.self.invariant c.args.name.now) ∙ number_is c.args.name.now 0 (map (λ d. d.now) c.self.inside.defined.items))
    ∙ ap (λ (f : Functions). function_id (context s f) c.args.name.now) c.self.view_is

pub returns-in-None : goal.returns-in-None
returns-in-None c = λ s.
    ap id_or_first (c.in-None.ensures.value ∙ looked_up c.args.name.now c.self.inside.numbers.entries) ∙ (ap id_or_first (c.self.invariant c.args.name.now) ∙ number_is c.args.name.now 0 (map (λ d. d.now) c.self.inside.defined.items))
    ∙ ap (λ (f : Functions). function_id (context s f) c.args.name.now) c.self.view_is

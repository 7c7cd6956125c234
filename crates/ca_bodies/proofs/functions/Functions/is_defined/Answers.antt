use Rattle.std.proofs.Common.{Option, ap, ◌∙◌}
use Rattle.std.specs.Prelude.{map, is_some}
use Rattle.ca_tree.specs.declared.numbers.FunId.{FunId}
use Rattle.ca_model.specs.typing.Signatures.{is_defined}
use Rattle.ca_operands.proofs.Lookups.{looked_up}
use Rattle.ca_bodies.specs.Functions.{Functions, context}
use Rattle.ca_bodies.proofs.Numbering.{defined_where}
use Rattle.ca_bodies.proofs.functions.Functions.is_defined.Goals as goal

pub returns : goal.returns
returns c = λ s.
    c.contains_key.ensures
    ∙ (ap (λ (o : Option FunId). is_some o) (looked_up c.args.name.now c.self.inside.numbers.entries ∙ c.self.invariant c.args.name.now)
    ∙ (defined_where c.args.name.now 0 (map (λ d. d.now) c.self.inside.defined.items)
    ∙ ap (λ (f : Functions). is_defined (context s f) c.args.name.now) c.self.view_is))

use Rattle.std.proofs.Common.{◌∙◌, ◌||◌, Bool, ℕ, List, ap, sym}
use Rattle.ca_model.specs.typing.Signatures.{is_defined}
use Rattle.ca_bodies.specs.Functions.{context}
use Rattle.ca_types.proofs.functions.is_defined.Goals as goal

pub returns-else-is_some : goal.returns-else-is_some
returns-else-is_some c = λ s.
    c.is_defined.ensures s ∙ ap (λ (n : List ℕ). is_defined (context s c.args.functions.now) n) c.as_slice.ensures
    ∙ ap (λ (b : Bool). b || is_defined (context s c.args.functions.now) c.args.of.now.name.text) (sym (sym c.is_some.ensures ∙ c.if-is_some.false))

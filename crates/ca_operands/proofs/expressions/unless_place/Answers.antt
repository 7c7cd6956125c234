use Rattle.std.proofs.Common.{not, ◌∙◌, ◌&&◌, ◌||◌, Bool, ap, sym}
use Rattle.ca_tree.specs.declared.text.Pos.{Pos}
use Rattle.ca_model.specs.declared.types.TypeKind.TheVariants as wrong
use Rattle.ca_model.specs.typing.Expressions.{judged}
use Rattle.ca_model.specs.typing.Faults.{fault, unless}
use Rattle.ca_operands.specs.Noted.{noted}
use Rattle.ca_model.proofs.JudgedExpressions.{placed}
use Rattle.ca_operands.proofs.expressions.unless_place.Goals as goal

pub returns : goal.returns
returns c = λ s.
    c.unless.ensures
    ∙ ap (λ (b : Bool). noted c.args.faults.now.first (unless b (fault c.place_of.result wrong.NotLvalue))) (c.is_place-is_place.ensures ∙ ap (λ (b : Bool). b && (not c.args.is_typed || c.args.is_found)) (c.may_be_place.ensures s))
    ∙ ap (λ (p : Pos). noted c.args.faults.now.first (unless ((judged s c.args.exp.now).may_be_place && (not c.args.is_typed || c.args.is_found)) (fault p wrong.NotLvalue))) (c.place_of.ensures ∙ sym (placed s c.args.exp.now))

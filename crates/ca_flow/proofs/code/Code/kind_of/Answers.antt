use Rattle.std.proofs.Common.{◌≡◌, ap, subst, sym, ◌∙◌}
use Rattle.ca_model.specs.declared.tree.Item.{Item}
use Rattle.ca_model.specs.Plans.{IsItem}
use Rattle.ca_flow.specs.Lowerings.{Lowering}
use Rattle.ca_flow.specs.Tables.{Uses}
use Rattle.ca_flow.specs.Changes.{kind_of_act}
use Rattle.ca_flow.proofs.KindsFound.{kind_at}
use Rattle.ca_flow.proofs.code.Code.kind_of.Goals as goal

pub kind_at-requires : goal.kind_at-requires
kind_at-requires c =
    let p = c.self.inside.source.value.typed in
    let x = subst (λ (l : Lowering). (x : Item) × IsItem l.source x c.args.item) (sym c.self.view_is) c.requires in
    (kind_at p c.self.inside.uses.kinds c.args.item x.0 (kind_of_act x.0.act) c.self.invariant.0.formed (ap (λ (u : Uses). u.kinds) c.self.invariant.1.uses_are) x.1).0

pub returns : goal.returns
returns c =
    let p = c.self.inside.source.value.typed in
    subst (λ (l : Lowering). (x : Item) → IsItem l.source x c.args.item → c.kind_at.result ≡ kind_of_act x.act) c.self.view_is
    (λ x is. c.kind_at.ensures ∙ (kind_at p c.self.inside.uses.kinds c.args.item x c.kind_at.result c.self.invariant.0.formed (ap (λ (u : Uses). u.kinds) c.self.invariant.1.uses_are) is).1)

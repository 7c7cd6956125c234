use Rattle.std.proofs.Common.{refl, sym, ap, ◌∙◌}
use Rattle.ca_flow.specs.declared.changes.ItemKind.{ItemKind}
use Rattle.ca_prune.specs.Pruning.{act_changes}
use Rattle.ca_prune.proofs.Answering.{found_among}
use Rattle.ca_prune.proofs.one.has_change.Goals as goal

pub returns-then-kind_of : goal.returns-then-kind_of
returns-then-kind_of c = (
  (λ h.
      found_among c.args.code.now.source c.args.items.now c.items.item-index _ c.kind_of.result act_changes c.items-test.true c.kind_of.ensures.number c.requires c.kind_of.ensures.kind
      (λ a is. ap (λ (k : ItemKind). k.can_change) (sym is) ∙ c.if-kind_of.true)),
  (λ h. refl),
)

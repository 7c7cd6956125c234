use Rattle.std.proofs.Common.{refl, sym, ap, ◌∙◌}
use Rattle.ca_flow.specs.declared.changes.ItemKind.{ItemKind}
use Rattle.ca_model.specs.Destroying.{is_lock}
use Rattle.ca_prune.proofs.Answering.{found_among}
use Rattle.ca_prune.proofs.one.has_lock.Goals as goal

pub returns-then-kind_of : goal.returns-then-kind_of
returns-then-kind_of c = (
  (λ h.
      found_among c.args.code.now.source c.args.items.now c.items.item-index _ c.kind_of.result is_lock c.items-test.true c.kind_of.ensures.number c.requires c.kind_of.ensures.kind
      (λ a is. ap (λ (k : ItemKind). k.is_lock) (sym is) ∙ c.if-kind_of.true)),
  (λ h. refl),
)

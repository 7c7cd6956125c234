use Rattle.std.proofs.Common.{arith, refl, ap, ◌∙◌}
use Rattle.ca_model.specs.Destroying.{has_malloc}
use Rattle.ca_flow.specs.declared.changes.ItemKind.{ItemKind}
use Rattle.ca_plan.proofs.Setting.{none_put, put_turn, put_end}
use Rattle.ca_plan.proofs.acquiring.put_allocating.Goals as goal

pub items-init : goal.items-init
items-init c = record { long = refl; sets = none_put c.args.code.now.source has_malloc c.args.flags.now.items }

pub items-preserved : goal.items-preserved
items-preserved c = record {
  long = c.put_if.ensures.length ∙ c.items.invariant.long;
  sets = put_turn c.args.code.now.source has_malloc c.args.flags.now.items c.items.flags.items c.put_if.new.flags.items c.args.items.now c.items.item-index _ _ c.kind_of-kind.result.has_malloc c.items-test.true refl c.requires c.items.invariant.long c.items.invariant.sets (λ x is. ap (λ (k : ItemKind). k.has_malloc) (c.kind_of-kind.ensures x is)) c.put_if.ensures.sets;
}

pub returns-clause-sets : goal.returns-clause-sets
returns-clause-sets c = put_end c.args.code.now.source has_malloc c.args.flags.now.items c.items.flags.items c.args.items.now c.items.item-index (omega (arith, c.items-test.false)) c.items.invariant.sets

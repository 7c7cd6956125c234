use Rattle.std.proofs.Common.{arith, refl, ◌∙◌}
use Rattle.ca_model.specs.Plans.{can_acquire}
use Rattle.ca_plan.proofs.Setting.{none_put, put_turn, put_end}
use Rattle.ca_plan.proofs.acquiring.put_acquiring.Goals as goal

pub items-init : goal.items-init
items-init c = record { long = refl; sets = none_put c.args.code.now.source can_acquire c.args.flags.now.items }

pub items-preserved : goal.items-preserved
items-preserved c = record {
  long = c.put_if.ensures.length ∙ c.items.invariant.long;
  sets = put_turn c.args.code.now.source can_acquire c.args.flags.now.items c.items.flags.items c.put_if.new.flags.items c.args.items.now c.items.item-index _ _ c.is_acquiring.result c.items-test.true refl c.requires c.items.invariant.long c.items.invariant.sets (λ x is. c.is_acquiring.ensures x.act (c.kind_of-kind.ensures x is)) c.put_if.ensures.sets;
}

pub returns-clause-sets : goal.returns-clause-sets
returns-clause-sets c = put_end c.args.code.now.source can_acquire c.args.flags.now.items c.items.flags.items c.args.items.now c.items.item-index (omega (arith, c.items-test.false)) c.items.invariant.sets

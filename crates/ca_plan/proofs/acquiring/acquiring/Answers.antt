use Rattle.std.proofs.Common.{length, ◌+◌}
use Rattle.ca_plan.proofs.Setting.{acquiring_listed, kinds_many}
use Rattle.ca_plan.proofs.acquiring.acquiring.Goals as goal

pub returns-clause-items : goal.returns-clause-items
returns-clause-items c =
    acquiring_listed c.args.code.now.source c.requires.formed c.requires.bounded (length c.kinds.result.now + 1) c.in_ok-flags.flags.items c.put_acquiring.new.flags.items c.put_allocating.new.flags.items c.args.before.now c.args.own.now c.in_ok-items.items.items
    c.deref.result.now c.deref-2.result.now (kinds_many c.args.code.now.source c.kinds.result.now c.kinds.ensures) c.in_ok-flags.ensures c.put_acquiring.ensures.length c.put_acquiring.ensures.sets c.put_allocating.ensures.sets c.deref.ensures.value c.deref-2.ensures.value c.in_ok-items.ensures.exact c.read_items.ensures

use Rattle.ca_model.specs.Accesses.{act_accesses}
use Rattle.ca_flow.proofs.SeenChanges.{kind_is, changed_of_item, sites_of_item}
use Rattle.ca_flow.proofs.changes.kind_of.Goals as goal

pub returns-clause-kind : goal.returns-clause-kind
returns-clause-kind c =
    kind_is c.args.item.now.act c.is_lock.result c.has_malloc.result c.in_ok-can_change.can_change c.is_lock.ensures c.has_malloc.ensures
    (changed_of_item c.args.item.now c.args.changes.now.items c.act.new.changes.items c.in_ok-can_change.can_change (act_accesses c.args.item.now.act) c.in_ok-can_change.ensures)

pub returns-clause-sites : goal.returns-clause-sites
returns-clause-sites c = sites_of_item c.args.item.now c.args.changes.now.items c.act.new.changes.items c.in_ok-can_change.can_change (act_accesses c.args.item.now.act) c.in_ok-can_change.ensures

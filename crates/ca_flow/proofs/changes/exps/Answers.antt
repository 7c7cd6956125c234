use Rattle.ca_flow.specs.Changes.{seen, see}
use Rattle.ca_model.specs.Accesses.{accesses_of_all}
use Rattle.ca_flow.proofs.SeenChanges.{next_seen}
use Rattle.ca_flow.proofs.changes.exps.Goals as goal

pub each-preserved : goal.each-preserved
each-preserved c =
    next_seen c.args.es.now (seen c.each.changes.items c.each.changed) (seen c.exp.new.changes.items c.in_ok-changed.changed) c.each.e-index c.e-item.result
    (see (seen c.args.changes.now.items c.args.changed) (accesses_of_all c.args.es.now)) c.each-test.true c.e-item.is c.each.invariant c.in_ok-changed.ensures

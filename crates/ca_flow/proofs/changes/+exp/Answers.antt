use Rattle.ca_flow.specs.Changes.{seen}
use Rattle.ca_flow.proofs.SeenChanges.{seen_load, seen_both, seen_place}
use Rattle.ca_flow.proofs.changes.+exp.Goals as goal

pub exp-returns-in_ok-changed-in-Load : goal.exp-returns-in_ok-changed-in-Load
exp-returns-in_ok-changed-in-Load t c =
    seen_load c.load.result c.load.new.changes.items c.args.e.now c.in-Load.at c.in-Load.field-1 (seen c.args.changes.now.items c.args.changed) (seen c.place.new.changes.items c.in_ok-changed-in-Load.changed)
    c.in-Load.is c.in_ok-changed-in-Load.ensures c.load.ensures

pub exp-returns-in_ok-changed-in-Binary : goal.exp-returns-in_ok-changed-in-Binary
exp-returns-in_ok-changed-in-Binary t c =
    seen_both c.exp-in-Binary.result c.exp-in-Binary.new.changes.items c.args.e.now c.in-Binary.a c.in-Binary.b c.get.result.now c.get-in-Binary.result.now
    (seen c.args.changes.now.items c.args.changed) (seen c.exp.new.changes.items c.in_ok-changed-in-Binary.changed)
    c.in-Binary.is c.get.ensures c.get-in-Binary.ensures c.in_ok-changed-in-Binary.ensures c.exp-in-Binary.ensures

pub place-returns-in-Some : goal.place-returns-in-Some
place-returns-in-Some t c =
    seen_place c.exp-in-Some.result c.exp-in-Some.new.changes.items c.args.at.now c.in-Some.index c.get.result.now c.get-in-Some.result.now _
    (seen c.args.changes.now.items c.args.changed) (seen c.exp.new.changes.items c.in_ok-changed.changed)
    c.in-Some.is c.get.ensures c.get-in-Some.ensures c.in_ok-changed.ensures c.exp-in-Some.ensures

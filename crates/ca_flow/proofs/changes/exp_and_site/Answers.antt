use Rattle.std.proofs.Common.{refl}
use Rattle.ca_model.specs.Accesses.{A_free, An_assertion, accesses}
use Rattle.ca_flow.specs.Changes.{seen}
use Rattle.ca_flow.proofs.SeenChanges.{site_behind}
use Rattle.ca_flow.proofs.changes.exp_and_site.Goals as goal

pub returns-clause-free : goal.returns-clause-free
returns-clause-free c =
    site_behind A_free c.exp.new.changes.items c.push.new.self.items c.in_ok-changed.changed (seen c.args.changes.now.items c.args.changed) (accesses c.args.e.now) refl c.in_ok-changed.ensures c.in_ok-push.ensures.items

pub returns-clause-assertion : goal.returns-clause-assertion
returns-clause-assertion c =
    site_behind An_assertion c.exp.new.changes.items c.push.new.self.items c.in_ok-changed.changed (seen c.args.changes.now.items c.args.changed) (accesses c.args.e.now) refl c.in_ok-changed.ensures c.in_ok-push.ensures.items

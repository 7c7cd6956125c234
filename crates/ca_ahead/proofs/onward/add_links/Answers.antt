use Rattle.ca_reach.specs.Reach.{rows_of}
use Rattle.ca_ahead.specs.Onward.{IsOnward}
use Rattle.ca_ahead.proofs.Growing.{grows_next, grows_all, read_at}
use Rattle.ca_ahead.proofs.onward.add_links.Goals as goal

pub links-preserved : goal.links-preserved
links-preserved c =
    grows_next IsOnward c.args.links.now c.links.link-index _ (rows_of c.args.rows.now.items) (rows_of c.links.rows.items) (rows_of c.add_link.new.rows.items) c.links-test.true (read_at c.args.links.now c.links.link-index _ c.links-test.true) c.links.invariant c.in_ok-add_link.ensures

pub returns : goal.returns
returns c = grows_all IsOnward c.args.links.now c.links.link-index (rows_of c.args.rows.now.items) (rows_of c.links.rows.items) c.links-test.false c.links.invariant

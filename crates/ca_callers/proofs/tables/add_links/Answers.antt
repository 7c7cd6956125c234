use Rattle.std.proofs.Common.{refl, ◌∙◌, arith}
use Rattle.ca_reach.specs.Reach.{rows_of}
use Rattle.ca_flow.specs.declared.links.Link.{Link}
use Rattle.ca_callers.specs.Callers.{IsLinked}
use Rattle.ca_callers.proofs.Rows.{each_none, each_turn, each_all, read_or, no_link}
use Rattle.ca_callers.proofs.tables.add_links.Goals as goal

pub links-init : goal.links-init
links-init c = record { long = refl; added = each_none Link (IsLinked c.args.destroys) (rows_of c.args.rows.now.items) }

pub links-preserved : goal.links-preserved
links-preserved c = record {
  long = c.in_ok-add_link.ensures.length ∙ c.links.invariant.long;
  added = each_turn Link (IsLinked c.args.destroys) c.args.links.now c.links.link-index _ (rows_of c.args.rows.now.items) (rows_of c.links.rows.items) (rows_of c.add_link.new.rows.items)
      c.links-test.true (read_or c.args.links.now c.links.link-index no_link c.links-test.true) c.links.invariant.long c.links.invariant.added c.in_ok-add_link.ensures.added;
}

pub returns-clause-added : goal.returns-clause-added
returns-clause-added c = each_all Link (IsLinked c.args.destroys) c.args.links.now c.links.link-index (rows_of c.args.rows.now.items) (rows_of c.links.rows.items) (omega (arith, c.links-test.false)) c.links.invariant.added

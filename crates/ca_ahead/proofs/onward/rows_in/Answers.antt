use Rattle.std.proofs.Common.{[], List, replicate, subst}
use Rattle.ca_reach.specs.Reach.{rows_of}
use Rattle.ca_flow.specs.declared.links.Link.{Link}
use Rattle.ca_flow.specs.Graphs.{ControlFlow}
use Rattle.ca_ahead.specs.Onward.{HasOnward, Grows}
use Rattle.ca_ahead.proofs.Growing.{grows_next, grows_all}
use Rattle.ca_ahead.proofs.onward.rows_in.Goals as goal

pub graphs-preserved : goal.graphs-preserved
graphs-preserved c =
    grows_next (λ (g : ControlFlow). HasOnward g.links) c.args.graphs.now c.graphs.graph-index c.graph-item.result (replicate c.args.count []) (rows_of c.graphs.rows.items) (rows_of c.add_links.new.rows.items) c.graphs-test.true c.graph-item.is c.graphs.invariant
    (subst (λ (ls : List Link). Grows (rows_of c.graphs.rows.items) (rows_of c.add_links.new.rows.items) (HasOnward ls)) c.links-links.ensures c.in_ok-add_links.ensures)

pub returns : goal.returns
returns c = grows_all (λ (g : ControlFlow). HasOnward g.links) c.args.graphs.now c.graphs.graph-index (replicate c.args.count []) (rows_of c.graphs.rows.items) c.graphs-test.false c.graphs.invariant

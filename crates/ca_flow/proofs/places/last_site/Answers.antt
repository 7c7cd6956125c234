use Rattle.std.proofs.Common.{◌≤◌, subst}
use Rattle.ca_tree.specs.declared.numbers.SiteId.{SiteId}
use Rattle.ca_flow.specs.Lowerings.{HasSite}
use Rattle.std.specs.Prelude.{◌⊎◌, ◌≡◌}
use Rattle.ca_flow.proofs.SitePlaces.{there, last_on, last_one, last_all}
use Rattle.ca_flow.proofs.places.last_site.Goals as goal

pub graphs-preserved : goal.graphs-preserved
graphs-preserved c =
    let x = c.graph-item.result in
    let at = there c.args.graphs.now c.graphs.graph-index x c.graphs-test.true c.graph-item.is in
    let next = c.highest-last.result in
    record {
      all = last_on c.args.graphs.now c.graphs.graph-index c.graphs.last next x at c.highest-last.ensures.least
          (subst (λ g. (s : SiteId) → HasSite g s → s.0 ≤ next) c.steps.ensures.steps c.highest-last.ensures.all) c.graphs.invariant.all;
      one = last_one c.args.graphs.now c.graphs.last next c.graphs.graph-index x at
          (subst (λ g. (next ≡ c.graphs.last) ⊎ HasSite g (record { 0 = next })) c.steps.ensures.steps c.highest-last.ensures.one) c.graphs.invariant.one;
    }

pub returns-clause-all : goal.returns-clause-all
returns-clause-all c = last_all c.args.graphs.now c.graphs.graph-index c.graphs.last c.graphs-test.false c.graphs.invariant.all

use Rattle.std.proofs.Common.{subst}
use Rattle.ca_model.specs.typing.Sources.{Source}
use Rattle.ca_plan.specs.Finding.{IsLookup}
use Rattle.ca_plan.proofs.RunHeads.{head_there}
use Rattle.ca_plan.proofs.finder.Finder.head.Goals as goal

pub returns : goal.returns
returns c =
    let f = c.self.inside in
    let look = subst (λ (s : Source). IsLookup s f.callers f.heads.items f.names.items f.places.items) c.self.view_is c.self.invariant in
    λ x is. head_there c.args.self.now.typed look.formed f.heads.items look.runs look.many x c.args.item c.index.result.now is c.index.ensures

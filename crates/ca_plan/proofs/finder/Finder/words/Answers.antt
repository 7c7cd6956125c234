use Rattle.std.proofs.Common.{subst, ◌∙◌, ◌∷◌, []}
use Rattle.ca_model.specs.typing.Sources.{Source}
use Rattle.ca_plan.specs.Finding.{IsLookup}
use Rattle.ca_plan.proofs.Bounding.{points_read}
use Rattle.ca_plan.proofs.FoundPoints.{found_words}
use Rattle.ca_plan.proofs.finder.Finder.words.Goals as goal

pub returns : goal.returns
returns c =
    let s = c.args.self.now in
    let f = c.self.inside in
    let look = subst (λ (s : Source). IsLookup s f.callers f.heads.items f.names.items f.places.items) c.self.view_is c.self.invariant in
    λ x is. found_words s look.formed c.args.depth x c.args.item is c.in_ok-found.found (points_read f.callers s.typed look.links c.args.depth (c.args.item ∷ []) c.in_ok-found.found c.in_ok-found.ensures.points)
    c.deref.result.now c.deref-2.result.now (c.deref.ensures.value ∙ look.named) (c.deref-2.ensures.value ∙ look.placed) c.in_ok-words.words.items c.in_ok-words.ensures

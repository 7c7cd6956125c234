use Rattle.std.proofs.Common.{◌≡◌, ◌+◌, ◌∙◌, sym, ap, subst}
use Rattle.ca_model.specs.Bounds.{IsBounded}
use Rattle.ca_model.specs.WellFormed.{IsWellFormed}
use Rattle.ca_model.specs.typing.Sources.{Source}
use Rattle.ca_plan.specs.Finding.{IsLookup}
use Rattle.ca_plan.specs.SiteTables.{names}
use Rattle.ca_plan.proofs.RunHeads.{heads_of}
use Rattle.ca_plan.proofs.finder.Finder.new.Goals as goal

pub invariant_of-result : goal.invariant_of-result
invariant_of-result c =
    let x = c.args.checked.now in
    let links : c.in_ok-callers.callers ≡ x.typed = c.in_ok-callers.ensures ∙ c.requires in
    let look : IsLookup x c.in_ok-callers.callers c.in_ok-heads.heads.items c.in_ok-names.names.items c.in_ok-places.places.items = record {
      formed = subst IsWellFormed c.requires c.formed.ensures.formed;
      bounded = subst IsBounded c.requires c.formed.ensures.bounded;
      links = links;
      runs = heads_of c.in_ok-callers.callers x.typed links c.in_ok-heads.heads.items c.in_ok-heads.ensures.heads;
      many = c.in_ok-heads.ensures.length ∙ ap (λ n. n + 1) c.items.ensures;
      named = c.in_ok-names.ensures ∙ ap names c.program.ensures.value;
      placed = c.in_ok-places.ensures;
    } in
    subst (λ (s : Source). IsLookup s c.in_ok-callers.callers c.in_ok-heads.heads.items c.in_ok-names.names.items c.in_ok-places.places.items) (sym c.of.ensures) look

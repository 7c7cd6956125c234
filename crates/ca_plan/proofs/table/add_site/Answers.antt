use Rattle.std.proofs.Common.{sym, ap, ◌∙◌, ◌++◌}
use Rattle.ca_plan.specs.SiteTables.{site_line}
use Rattle.ca_plan.proofs.FoundPoints.{same_words}
use Rattle.ca_plan.proofs.table.add_site.Goals as goal

pub known_at-requires-clause-item : goal.known_at-requires-clause-item
known_at-requires-clause-item c = let h = c.head-head.ensures c.requires.item.0 c.requires.item.1 in (h.0, h.1)

pub returns-clause-line : goal.returns-clause-line
returns-clause-line c = λ x is.
    let s = c.args.finder.now in
    let h = c.head-head.ensures x is in
    let words = c.in_ok-found.found.words.items in (
      words,
      same_words s c.args.depth x h.0 h.2 words (c.in_ok-found.ensures.known h.0 (h.1.0, h.1.1 ∙ sym c.in_ok-found.ensures.head)),
      c.in_ok-add_line.ensures ∙ ap (λ w. c.args.text.now.items ++ site_line c.args.site.now c.args.state w) c.deref.ensures.value,
    )

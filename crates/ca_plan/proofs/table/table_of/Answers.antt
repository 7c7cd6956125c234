use Rattle.std.proofs.Common.{◌≡◌, ◌++◌, ◌∙◌, map, length, refl, sym, ap, subst, arith}
use Rattle.ca_model.specs.WellFormed.{IsWellFormed}
use Rattle.ca_sites.specs.SiteLists.{in_list}
use Rattle.ca_plan.specs.Planning.{options_of}
use Rattle.ca_plan.specs.SiteTables.{count_line, listed_sites}
use Rattle.ca_plan.proofs.TableRows.{no_rows, all_rows, item_there, next_row, told_at, known_of, known_if_any_of}
use Rattle.ca_plan.proofs.table.table_of.Goals as goal

pub sites-init : goal.sites-init
sites-init c = record {
  known = tt;
  rows = no_rows c.args.checked.now (options_of c.args.options.now) (length c.deref-site-items.result.now) c.add_count.new.text.items
      (c.in_ok-add_count.ensures ∙ (ap (λ t. t ++ count_line c.len.result) c.new-text.ensures.items ∙ ap count_line (c.len.ensures ∙ sym c.deref-site-items.ensures.len)));
}

pub add_site-requires-clause-item : goal.add_site-requires-clause-item
add_site-requires-clause-item c =
    let x = c.args.checked.now in
    item_there x (subst IsWellFormed c.requires.source c.formed.ensures.formed) c.deref-site-items.result.now (c.deref-site-items.ensures.value ∙ c.in_ok-list.ensures.text) (ap (map in_list) c.deref-site-items.ensures.value ∙ c.in_ok-list.ensures.tree) c.in_ok-finder.finder c.in_ok-finder.ensures c.sites.site-index _ _ c.sites-test.true refl

pub add_site-requires-clause-known : goal.add_site-requires-clause-known
add_site-requires-clause-known c = known_if_any_of c.in_ok-finder.finder c.args.checked.now c.in_ok-finder.ensures c.args.options.now.depth c.sites.known c.sites.invariant.known

pub sites-preserved : goal.sites-preserved
sites-preserved c =
    let x = c.args.checked.now in
    let o = options_of c.args.options.now in
    record {
      known = known_of c.in_ok-finder.finder x c.in_ok-finder.ensures c.args.options.now.depth c.in_ok-found.found c.in_ok-found.ensures.known;
      rows = next_row x (subst IsWellFormed c.requires.source c.formed.ensures.formed) c.deref-site-items.result.now (c.deref-site-items.ensures.value ∙ c.in_ok-list.ensures.text) (ap (map in_list) c.deref-site-items.ensures.value ∙ c.in_ok-list.ensures.tree) o c.in_ok-finder.finder c.in_ok-finder.ensures
          (length c.deref-site-items.result.now) c.sites.site-index c.sites.text.items c.add_site.new.text.items _ _ c.sites-test.true refl c.sites.invariant.rows c.state_of-state.result
          (λ s number is. c.state_of-state.ensures x.typed s is
          (told_at c.args.code.now.source x.typed c.requires.source c.args.options.now.depth c.in_ok-reasons.reasons.items c.in_ok-reasons.ensures.exact c.sites.site-index _ number s is c.deref.result.now c.deref.ensures.value c.reason_at.result c.reason_at.ensures))
          c.in_ok-found.ensures.line;
    }

pub returns : goal.returns
returns c =
    let x = c.args.checked.now in
    let same : c.deref-site-items.result.now ≡ listed_sites x = c.deref-site-items.ensures.value ∙ c.in_ok-list.ensures.text in
    all_rows x (options_of c.args.options.now) (length c.deref-site-items.result.now) c.sites.site-index c.sites.text.items (ap length same) (omega (arith, c.sites-test.false, ap length same)) c.sites.invariant.rows

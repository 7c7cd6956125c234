use Rattle.std.proofs.Common.{map, ap, sym, ◌∙◌}
use Rattle.ca_tree.specs.TreeWords.{text_words}
use Rattle.ca_sites.specs.SiteLists.{in_list, in_text}
use Rattle.ca_sites.specs.TextSites.{text_sites}
use Rattle.ca_sites.proofs.NumberedSites.{numbers_keep}
use Rattle.ca_sites.proofs.ProgramsShown.{text_shows}
use Rattle.ca_sites.proofs.site.sites.Goals as goal

pub returns-clause-tree : goal.returns-clause-tree
returns-clause-tree c =
    let x = c.args.checked.now in
    ap (map in_list) c.in_ok-list.ensures ∙ (numbers_keep 0 c.deref.result.now ∙ (ap (map in_text) (c.deref.ensures.value ∙ (c.in_ok-shown.ensures ∙ ap text_sites c.program.ensures.value)) ∙ sym (text_shows text_words x.program x.typed c.program.ensures.checked.program c.program.ensures.checked.typing)))

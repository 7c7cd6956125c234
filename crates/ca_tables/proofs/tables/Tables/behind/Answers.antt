use Rattle.std.proofs.Common.{◌+◌, ℕ, List, get_or, sym, ap, ◌∙◌, subst}
use Rattle.std.specs.Prelude.{Contains}
use Rattle.std.proofs.lemmas.Option.{get_or_from_slice_get}
use Rattle.ca_model.specs.Sites.{first_from, all_items, act_sites}
use Rattle.ca_tables.specs.Tabled.{Planned}
use Rattle.ca_tables.proofs.Behind.{stands_behind}
use Rattle.ca_tables.proofs.tables.Tables.behind.Goals as goal

pub returns : goal.returns
returns c =
    let here = subst (λ (x : Planned). Contains (all_items x.source.functions) c.args.item.now) (sym c.self.view_is) c.requires in
    let at = stands_behind c.self.inside.checked.now.typed c.self.inside.behind.items c.args.item.now c.self.invariant.formed c.self.invariant.behind_is here in
    c.number_at.ensures ∙ ap (λ (xs : List ℕ). get_or xs c.args.item.now.id.0 0) c.deref.ensures.value
    ∙ get_or_from_slice_get c.self.inside.behind.items c.args.item.now.id.0 _ 0 at
    ∙ ap (λ (x : Planned). first_from 0 (all_items x.source.functions) c.args.item.now.id + act_sites c.args.item.now.act) c.self.view_is

-- A source and options have at most one table of sites.
use Rattle.std.proofs.Common.{◌≡◌, List, [], ◌∷◌, map, Some, refl, sym, ap, ◌∙◌, subst}
use Rattle.std.specs.Prelude.{Contains}
use Rattle.std.specs.List.{flat_map}
use Rattle.ca_tree.specs.declared.numbers.SiteId.{SiteId}
use Rattle.ca_model.specs.declared.tree.Item.{Item}
use Rattle.ca_model.specs.declared.tree.Function.{Function}
use Rattle.ca_model.specs.Accesses.{Site}
use Rattle.ca_model.specs.Codes.{Typed}
use Rattle.ca_model.specs.Plans.{Options, IsSite}
use Rattle.ca_model.proofs.Members.{at_head, at_tail}
use Rattle.ca_model.proofs.SameLists.{one_list}
use Rattle.ca_sites.specs.declared.site.Site.{Site as ListedSite}
use Rattle.ca_plan.specs.declared.state.SiteState.{SiteState}
use Rattle.ca_plan.specs.declared.state.SiteState.TheVariants as state
use Rattle.ca_plan.specs.SiteTables.{ArePointsOf, IsStateOf, Row, IsRow, OneSiteTable, table_lines}

module _ (p : Typed) (o : Options) where
  one_state : (s : Site) (n : SiteId) (a b : SiteState) → IsStateOf p o s n a → IsStateOf p o s n b → a ≡ b
  one_state s n (state.Pruned why) (state.Pruned other) a b = ap (λ w. state.Pruned w) (a.1 ∙ sym b.1)
  one_state s n (state.Pruned why) state.Left a b = absurd (b.0 a.0)
  one_state s n (state.Pruned why) state.Planned a b = absurd (b.2 a.0)
  one_state s n state.Left (state.Pruned why) a b = absurd (a.0 b.0)
  one_state s n state.Left state.Left a b = refl
  one_state s n state.Left state.Planned a b = absurd (a.1 b.1)
  one_state s n state.Planned (state.Pruned why) a b = absurd (a.2 b.0)
  one_state s n state.Planned state.Left a b = absurd (b.1 a.1)
  one_state s n state.Planned state.Planned a b = refl

  one_row : (r q : Row) → r.listed ≡ q.listed → IsRow p o r → IsRow p o q → r ≡ q
  one_row r q same a b =
      let number : IsSite p b.site r.listed.id = subst (λ (l : ListedSite). IsSite p b.site l.id) (sym same) b.number in
      let first : IsSite p a.site r.listed.id = a.number in
      let both : Some a.site ≡ Some b.site = sym first ∙ number in
      let one : a.site ≡ b.site = cc in
      let item : a.site.item ≡ b.site.item = ap (λ (s : Site). s.item) one in
      let becomes : r.state ≡ q.state = one_state b.site r.listed.id r.state q.state (subst (λ (s : Site). IsStateOf p o s r.listed.id r.state) one a.becomes) (subst (λ (l : ListedSite). IsStateOf p o b.site l.id q.state) (sym same) b.becomes) in
      let x = a.points in
      let y = subst (λ (i : Item). ArePointsOf p o.depth i q.entries q.after) (sym item) b.points in
      let entries : r.entries ≡ q.entries = one_list (λ (f : Function). f.id.0) r.entries q.entries x.entries_ascend y.entries_ascend
      (λ f c. (y.at_entries f).1 ((x.at_entries f).0 c)) (λ f c. (x.at_entries f).1 ((y.at_entries f).0 c)) in
      let after : r.after ≡ q.after = one_list (λ (j : Item). j.id.0) r.after q.after x.after_ascend y.after_ascend
      (λ j c. (y.behind_items j).1 ((x.behind_items j).0 c)) (λ j c. (x.behind_items j).1 ((y.behind_items j).0 c)) in
      λ i. record { listed = same i; state = becomes i; entries = entries i; after = after i }

  same_rows : (rs qs : List Row) → map (λ (r : Row). r.listed) rs ≡ map (λ (r : Row). r.listed) qs → ((r : Row) → Contains rs r → IsRow p o r) → ((r : Row) → Contains qs r → IsRow p o r) → rs ≡ qs
  same_rows [] [] same a b = refl
  same_rows [] (q ∷ qs) same a b = absurd (cc)
  same_rows (r ∷ rs) [] same a b = absurd (cc)
  same_rows (r ∷ rs) (q ∷ qs) same a b =
      let here : r.listed ≡ q.listed = cc in
      let later : map (λ (r : Row). r.listed) rs ≡ map (λ (r : Row). r.listed) qs = cc in
      let one : r ≡ q = one_row r q here (a r (at_head r rs)) (b q (at_head q qs)) in
      let rest : rs ≡ qs = same_rows rs qs later (λ x c. a x (at_tail r rs x c)) (λ x c. b x (at_tail q qs x c)) in
      λ i. one i ∷ rest i

pub one_table : OneSiteTable
one_table x o text other a b =
    a.lines ∙ (ap (λ rows. flat_map (λ line. line) (table_lines x.program rows)) (same_rows x.typed o a.rows b.rows (a.sites ∙ sym b.sites) a.each b.each) ∙ sym b.lines)

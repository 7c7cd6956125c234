-- The links that are found in the tree of a function are those of its table.
use Rattle.std.proofs.Common.{◌≡◌, ◌<◌, ◌≤◌, ◌+◌, List, [], ◌∷◌, reverse, sym, subst, inl, inr}
use Rattle.std.specs.Prelude.{Contains}
use Rattle.std.proofs.lemmas.List.{reverse-reverse}
use Rattle.std.proofs.lemmas.List.Elements.{Contains-append_left, Contains-append_right}
use Rattle.std.proofs.lemmas.Grind.{reverse_onto}
use Rattle.ca_model.specs.declared.tree.Item.{Item}
use Rattle.ca_model.specs.declared.tree.Function.{Function}
use Rattle.ca_model.specs.Codes.{Typed}
use Rattle.ca_model.specs.WellFormed.{IsWellFormed}
use Rattle.ca_model.specs.Sites.{items_of}
use Rattle.ca_model.specs.Links.{first_item, links_of}
use Rattle.ca_model.proofs.Members.{in_none, in_cons, at_head, at_tail}
use Rattle.ca_model.proofs.FlowItems.{function_flows}
use Rattle.ca_flow.specs.declared.links.Link.{Link}
use Rattle.ca_flow.specs.Linked.{link_at, linked}
use Rattle.ca_flow.specs.Graphs.{ControlFlow}
use Rattle.ca_flow.specs.Flows.{IsFlowOf}

in_reverse : (xs : List Link) (l : Link) → Contains xs l → Contains (reverse xs) l
in_reverse [] l c = c
in_reverse (x ∷ xs) l c = subst (λ ys. Contains ys l) (sym (reverse_onto xs x [])) (elim (in_cons x xs l c) [
  | inl is ↦ Contains-append_right (reverse xs) (x ∷ []) l (subst (Contains (x ∷ [])) is (at_head x []))
  | inr more ↦ Contains-append_left (reverse xs) (x ∷ []) l (in_reverse xs l more)
])

of_reverse : (xs : List Link) (l : Link) → Contains (reverse xs) l → Contains xs l
of_reverse xs l c = subst (λ ys. Contains ys l) (reverse-reverse xs) (in_reverse (reverse xs) l c)

in_linked : (ks : List (Item × Item)) (i j : Item) → Contains ks (i, j) → Contains (linked ks) (link_at i j.id)
in_linked [] i j c = absurd (in_none (i, j) c)
in_linked (k ∷ ks) i j c = elim (in_cons k ks (i, j) c) [
  | inl is ↦ subst (λ (x : Item × Item). Contains (linked (k ∷ ks)) (link_at x.0 x.1.id)) is (at_head (link_at k.0 k.1.id) (linked ks))
  | inr more ↦ at_tail (link_at k.0 k.1.id) (linked ks) (link_at i j.id) (in_linked ks i j more)
]

of_linked : (ks : List (Item × Item)) (l : Link) → Contains (linked ks) l → (k : Item × Item) × Contains ks k × (l ≡ link_at k.0 k.1.id)
of_linked [] l c = absurd (in_none l c)
of_linked (k ∷ ks) l c = elim (in_cons (link_at k.0 k.1.id) (linked ks) l c) [
  | inl is ↦ (k, at_head k ks, sym is)
  | inr more ↦ let h = of_linked ks l more in (h.0, at_tail k ks h.0 h.1, h.2)
]

-- `one` is what `ApartItems` proves of well-formed sources: an item stands in one function alone
pub flow_of : (p : Typed) (f : Function) (g : ControlFlow) → IsWellFormed p → Contains p.functions f → ((h : Function) (i : Item) → Contains p.functions h → Contains (items_of h) i → Contains (items_of f) i → h ≡ f)
    → g.first ≡ (first_item f).id → reverse g.links ≡ linked (links_of f) → ((i : Item) → Contains (items_of f) i → (g.lowest ≤ i.id.0) × (i.id.0 < g.lowest + g.count)) → IsFlowOf p f g
flow_of p f g formed own one first links within = record {
  formed = formed;
  own = own;
  starts = first;
  within = within;
  there = λ i j oj next.
      let ends = (function_flows (Contains (items_of next.0)) next.0 (λ i c. c)).1 i j next.2 in
      let same : next.0 ≡ f = one next.0 j next.1 ends.1 oj in
      (subst (λ h. Contains (items_of h) i) same ends.0, of_reverse g.links (link_at i j.id) (subst (λ ls. Contains ls (link_at i j.id)) (sym links) (in_linked (links_of f) i j (subst (λ h. Contains (links_of h) (i, j)) same next.2))));
  only = λ l c.
      let h = of_linked (links_of f) l (subst (λ ls. Contains ls l) links (in_reverse g.links l c)) in
      let ends = (function_flows (Contains (items_of f)) f (λ i c. c)).1 h.0.0 h.0.1 h.1 in
      (h.0.0, h.0.1, ends.0, ends.1, (f, own, h.1), h.2);
}

-- The points of the item of a site.
use Rattle.std.proofs.Common.{◌≡◌, ℕ, List, [], ◌∷◌, Some, refl, sym, ap, ◌∙◌, subst}
use Rattle.std.specs.Prelude.{Contains, ◌↔◌, slice_get, option_map}
use Rattle.ca_tree.specs.declared.numbers.ItemId.{ItemId}
use Rattle.ca_tree.specs.declared.numbers.FunId.{FunId}
use Rattle.ca_tree.specs.declared.numbers.SiteId.{SiteId}
use Rattle.ca_model.specs.declared.tree.Item.{Item}
use Rattle.ca_model.specs.Accesses.{Site}
use Rattle.ca_model.specs.Codes.{Typed}
use Rattle.ca_model.specs.WellFormed.{IsWellFormed}
use Rattle.ca_model.specs.Plans.{IsItem, IsSite}
use Rattle.ca_model.proofs.Members.{in_one, at_head}
use Rattle.ca_model.proofs.ApartItems.{one_item_a_number}
use Rattle.ca_flow.specs.declared.instr.NodeId.{NodeId}
use Rattle.ca_flow.specs.declared.instr.Node.{Node}
use Rattle.ca_flow.specs.declared.instr.Step.{Step}
use Rattle.ca_flow.specs.Graphs.{ControlFlow}
use Rattle.ca_flow.specs.Lowerings.{Lowering, StandsAt}
use Rattle.ca_flow.proofs.FunctionItems.{of_function, found_in}
use Rattle.ca_callers.specs.Callers.{ForOne}

same_node : (gs : List ControlFlow) (k n : ℕ) (g h : ControlFlow) (at : Step) (node : Node) → slice_get gs k ≡ Some g → slice_get gs k ≡ Some h → slice_get g.steps n ≡ Some at → option_map (λ (s : Step). s.node) (slice_get h.steps n) ≡ Some node → at.node ≡ node
same_node gs k n g h at node is is' there read =
    let same : g ≡ h = cc in
    let here : slice_get h.steps n ≡ Some at = subst (λ (x : ControlFlow). slice_get x.steps n ≡ Some at) same there in
    let both : Some at.node ≡ Some node = sym (ap (option_map (λ (s : Step). s.node)) here) ∙ read in
    cc

module _ (l : Lowering) (site : SiteId) (f : FunId) (n : NodeId) (stands : StandsAt l site f n) (g : ControlFlow) (node : Node) (is : slice_get l.graphs f.0 ≡ Some g) (read : option_map (λ (s : Step). s.node) (slice_get g.steps n.0) ≡ Some node) where
  -- the item of the node is that of the site
  pub site_item : (s : Site) → IsSite l.source s site → IsItem l.source s.item node.item
  site_item s at =
      let here = stands.item s at in
      let same : stands.at.node ≡ node = same_node l.graphs f.0 n.0 stands.graph g stands.at node stands.graph_there is stands.node_there read in
      (of_function l.source.functions stands.function s.item (found_in l.source.functions f.0 stands.function stands.function_there) here.0, sym here.1 ∙ ap (λ (x : Node). x.item) same)

  pub item_there : (q : Typed) → q ≡ l.source → ((s : Site) × IsSite l.source s site) → (i : ItemId) → Contains (node.item ∷ []) i → (x : Item) × IsItem q x i
  item_there q same site' i c =
      let x = site_item site'.0 site'.1 in
      subst (λ (p : Typed). (x : Item) × IsItem p x i) (sym same) (site'.0.item, (x.0, x.1 ∙ in_one node.item i c))

  -- what is found of the item
  pub of_site : (A N : Type 0) (number : A → N) (R : Typed → Item → A → Type 0) (q : Typed) → q ≡ l.source → IsWellFormed l.source → (s : Site) → IsSite l.source s site → (xs : List N) (m : N)
      → Contains xs m ↔ ((x : A) × (number x ≡ m) × ForOne q (node.item ∷ []) (λ y. R q y x)) → Contains xs m ↔ ((x : A) × (number x ≡ m) × R l.source s.item x)
  of_site A N number R q same formed s at xs m found = (
    (λ c. let h = from_q.0 c in (h.0, h.1, one h.0 h.2)),
    (λ h. from_q.1 (h.0, h.1, (s.item, subst (Contains (node.item ∷ [])) (sym item.1) (at_head node.item []), (item.0, refl), h.2))),
  )
    where
      item : IsItem l.source s.item node.item
      item = site_item s at

      from_q : Contains xs m ↔ ((x : A) × (number x ≡ m) × ForOne l.source (node.item ∷ []) (λ y. R l.source y x))
      from_q = subst (λ (p : Typed). Contains xs m ↔ ((x : A) × (number x ≡ m) × ForOne p (node.item ∷ []) (λ y. R p y x))) same found

      one : (x : A) → ForOne l.source (node.item ∷ []) (λ y. R l.source y x) → R l.source s.item x
      one x h =
          let (y, has, own, there) = h in
          let number' : y.id.0 ≡ s.item.id.0 = ap (λ (i : ItemId). i.0) (sym (in_one node.item y.id has) ∙ sym item.1) in
          subst (λ i. R l.source i x) (one_item_a_number l.source formed y s.item own.0 item.0 number') there

-- Links of blocks and branches.
use Rattle.std.proofs.Common.{◌≡◌, List, [], ◌∷◌, ◌++◌, map, Option, Some, None, refl, sym, ap, ◌∙◌, append_assoc}
use Rattle.ca_tree.specs.declared.numbers.ItemId.{ItemId}
use Rattle.ca_model.specs.declared.tree.Item.{Item}
use Rattle.ca_model.specs.declared.tree.Stmt.{Stmt, out-Stmt}
use Rattle.ca_model.specs.declared.tree.Stmt.TheOpen.{Stmt-F}
use Rattle.ca_model.specs.declared.tree.Stmt.TheVariants as st
use Rattle.ca_model.specs.Links.{Ways, Flow, stmt_flow, flow, flows, block_first, block_links, else_first, else_links}
use Rattle.ca_model.proofs.Equations.{flow_out, flow_block}
use Rattle.ca_flow.specs.declared.links.Link.{Link}
use Rattle.ca_flow.specs.Linked.{link_at, linked, first_of, links_from, first_of_all, links_from_all, flow_if_any}

flows_all : (ss : List Stmt) → map flow ss ≡ flows ss
flows_all [] = refl
flows_all (s ∷ ss) = ap (λ xs. flow s ∷ xs) (flows_all ss)

linked_both : (xs ys : List (Item × Item)) → linked (xs ++ ys) ≡ linked xs ++ linked ys
linked_both [] ys = refl
linked_both (x ∷ xs) ys = ap (λ ls. link_at x.0 x.1.id ∷ ls) (linked_both xs ys)

-- a block is its statements
block_flow : (s : Stmt) (ss : List Stmt) → s ≡ st.Block ss → flow s ≡ stmt_flow (Stmt-F.Block (map flow ss))
block_flow s ss is = ap flow is ∙ flow_block ss

pub block_begins : (s : Stmt) (ss : List Stmt) (w : Ways) → s ≡ st.Block ss → first_of_all ss w ≡ first_of s w
block_begins s ss w is = ap (λ xs. (block_first xs w).id) (sym (flows_all ss)) ∙ ap (λ (x : Flow). (x.first w).id) (sym (block_flow s ss is))

pub block_linked : (s : Stmt) (ss : List Stmt) (w : Ways) → s ≡ st.Block ss → links_from_all ss w ≡ links_from s w
block_linked s ss w is = ap (λ xs. linked (block_links xs w)) (sym (flows_all ss)) ∙ ap (λ (x : Flow). linked (x.links w)) (sym (block_flow s ss is))

-- an `if` has two links of its own, and those of its branches
branches : (s : Stmt) (c : Item) (yes' : Stmt) (no' : Option Stmt) (w : Ways) → s ≡ st.If c yes' no'
    → links_from s w ≡ link_at c (first_of yes' w) ∷ link_at c ((else_first (flow_if_any no') w).id) ∷ (links_from yes' w ++ linked (else_links (flow_if_any no') w))
branches s c yes' None w is =
    ap (λ (x : Flow). linked (x.links w)) (flow_out s (Stmt-F.If c yes' None) (ap out-Stmt is ∙ st.outs-If c yes' None))
    ∙ ap (λ ls. link_at c (first_of yes' w) ∷ link_at c w.next.id ∷ ls) (linked_both ((flow yes').links w) [])
branches s c yes' (Some no') w is =
    ap (λ (x : Flow). linked (x.links w)) (flow_out s (Stmt-F.If c yes' (Some no')) (ap out-Stmt is ∙ st.outs-If c yes' (Some no')))
    ∙ ap (λ ls. link_at c (first_of yes' w) ∷ link_at c (first_of no' w) ∷ ls) (linked_both ((flow yes').links w) ((flow no').links w))

pub if_linked : (s : Stmt) (c : Item) (yes' inner : Stmt) (no' : Option Stmt) (w : Ways) (one other : ItemId) (new l1 l2 l3 l4 : List Link) → s ≡ st.If c yes' no' → inner ≡ yes'
    → new ≡ link_at c one ∷ l1 → l1 ≡ link_at c other ∷ l2 → l2 ≡ links_from inner w ++ l3 → l3 ≡ linked (else_links (flow_if_any no') w) ++ l4
    → one ≡ first_of inner w → other ≡ (else_first (flow_if_any no') w).id → new ≡ links_from s w ++ l4
if_linked s c yes' inner no' w one other new l1 l2 l3 l4 is same e1 e2 e3 e4 first second =
    let inside : l2 ≡ (links_from yes' w ++ linked (else_links (flow_if_any no') w)) ++ l4 =
    e3 ∙ (ap (λ ls. links_from inner w ++ ls) e4 ∙ (ap (λ x. links_from x w ++ (linked (else_links (flow_if_any no') w) ++ l4)) same ∙ sym (append_assoc (links_from yes' w) (linked (else_links (flow_if_any no') w)) l4))) in
    e1 ∙ (ap (λ ls. link_at c one ∷ ls) (e2 ∙ ap (λ ls. link_at c other ∷ ls) inside)
    ∙ (ap (λ x. link_at c x ∷ link_at c other ∷ ((links_from yes' w ++ linked (else_links (flow_if_any no') w)) ++ l4)) (first ∙ ap (λ x. first_of x w) same)
    ∙ (ap (λ x. link_at c (first_of yes' w) ∷ link_at c x ∷ ((links_from yes' w ++ linked (else_links (flow_if_any no') w)) ++ l4)) second
    ∙ ap (λ ls. ls ++ l4) (sym (branches s c yes' no' w is)))))

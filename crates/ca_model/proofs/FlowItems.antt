-- The first item of a function, and both ends of its links, are items of its own.
use Rattle.std.proofs.Common.{List, [], ◌∷◌, ◌++◌, map, Option, Some, None, sym, subst, inl, inr}
use Rattle.std.specs.Prelude.{Contains}
use Rattle.std.proofs.lemmas.List.Elements.{Contains-append_left, Contains-append_right, Contains-append_cases}
use Rattle.ca_model.specs.declared.tree.Act.{Act}
use Rattle.ca_model.specs.declared.tree.Act.TheVariants as act
use Rattle.ca_model.specs.declared.tree.Item.{Item}
use Rattle.ca_model.specs.declared.tree.Function.{Function}
use Rattle.ca_model.specs.declared.tree.Stmt.{Stmt, map-Stmt, ind-Stmt, roll-Stmt, fold-roll-Stmt}
use Rattle.ca_model.specs.declared.tree.Stmt.TheOpen.{Stmt-F}
use Rattle.ca_model.specs.Sites.{if_any, joined, items_step, items_in, items_in_all, items_of}
use Rattle.ca_model.specs.Links.{Ways, Flow, to_next, in_loop, after_act, block_first, block_links, or_cond, link_to, stmt_flow, flow, flows, at_close, first_item, links_of}
use Rattle.ca_model.proofs.Members.{in_none}
use Rattle.ca_model.proofs.Members.{in_cons, at_head, at_tail}

module _ (G : Item → Type 0) where
  abbrev pub Each : List Item → Type 0
  Each is = (i : Item) → Contains is i → G i

  abbrev pub EachEnd : List (Item × Item) → Type 0
  EachEnd ls = (i j : Item) → Contains ls (i, j) → G i × G j

  abbrev pub LeadsOn : Ways → Type 0
  LeadsOn w = G w.next × G w.leave × G w.again

  -- by ways that lead to such items, a flow begins with one and links such
  abbrev pub FlowsOn : Flow → Type 0
  FlowsOn x = (w : Ways) → LeadsOn w → G (x.first w) × EachEnd (x.links w)

  first_of_each : (x : Item) (xs : List Item) → Each (x ∷ xs) → G x
  first_of_each x xs each = each x (at_head x xs)

  rest_of_each : (x : Item) (xs : List Item) → Each (x ∷ xs) → Each xs
  rest_of_each x xs each = λ i c. each i (at_tail x xs i c)

  left_of_each : (xs ys : List Item) → Each (xs ++ ys) → Each xs
  left_of_each xs ys each = λ i c. each i (Contains-append_left xs ys i c)

  right_of_each : (xs ys : List Item) → Each (xs ++ ys) → Each ys
  right_of_each xs ys each = λ i c. each i (Contains-append_right xs ys i c)

  no_end : EachEnd []
  no_end i j c = absurd (in_none (i, j) c)

  one_end : (a b : Item) (ls : List (Item × Item)) → G a → G b → EachEnd ls → EachEnd ((a, b) ∷ ls)
  one_end a b ls ga gb rest i j c = elim (in_cons (a, b) ls (i, j) c) [
    | inl is ↦ subst (λ (l : Item × Item). G l.0 × G l.1) is (ga, gb)
    | inr more ↦ rest i j more
  ]

  ends_on : (ls ms : List (Item × Item)) → EachEnd ls → EachEnd ms → EachEnd (ls ++ ms)
  ends_on ls ms p q i j c = elim (Contains-append_cases ls ms (i, j) c) [ inl left ↦ p i j left | inr right ↦ q i j right ]

  act_ends : (a : Act) (i : Item) (w : Ways) → G i → G w.next → EachEnd (after_act a i w)
  act_ends (act.Return e) i w gi gn = no_end
  act_ends act.Close i w gi gn = no_end
  act_ends _ i w gi gn = one_end i w.next [] gi gn no_end

  -- statements one after another
  abbrev AllFlowOn : List Flow → Type 0
  AllFlowOn [] = Unit {0}
  AllFlowOn (x ∷ xs) = FlowsOn x × AllFlowOn xs

  block_flows : (xs : List Flow) → AllFlowOn xs → (w : Ways) → LeadsOn w → G (block_first xs w) × EachEnd (block_links xs w)
  block_flows [] each w on = (on.0, no_end)
  block_flows (x ∷ xs) each w on =
      let rest : G (block_first xs w) × EachEnd (block_links xs w) = block_flows xs each.1 w on in
      let here : G (x.first (to_next w (block_first xs w))) × EachEnd (x.links (to_next w (block_first xs w))) = each.0 (to_next w (block_first xs w)) (rest.0, on.1, on.2) in
      (here.0, ends_on (x.links (to_next w (block_first xs w))) (block_links xs w) here.1 rest.1)

  abbrev Holds : Stmt → Type 0
  Holds s = Each (items_in s) → FlowsOn (flow s)

  abbrev Such : Type 0
  Such = (s : Stmt) × Holds s

  stmts_flow : (ys : List Such) → Each (joined (map items_in (map (λ e. e.0) ys))) → AllFlowOn (map flow (map (λ e. e.0) ys))
  stmts_flow [] each = tt
  stmts_flow (y ∷ ys) each =
      (y.1 (left_of_each (items_in y.0) (joined (map items_in (map (λ e. e.0) ys))) each), stmts_flow ys (right_of_each (items_in y.0) (joined (map items_in (map (λ e. e.0) ys))) each))

  abbrev OfLayer : Stmt-F Stmt → Type 0
  OfLayer x = Each (items_step (map-Stmt Stmt (List Item) items_in x)) → FlowsOn (stmt_flow (map-Stmt Stmt Flow flow x))

  or_good : (x : Option Item) (c : Item) → G c → Each (if_any x) → G (or_cond x c)
  or_good None c gc each = gc
  or_good (Some i) c gc each = each i (at_head i [])

  link_good : (x : Option Item) (c : Item) → G c → Each (if_any x) → EachEnd (link_to x c)
  link_good None c gc each = no_end
  link_good (Some i) c gc each = one_end i c [] (each i (at_head i [])) gc no_end

  loop_flows : (c : Item) (a : Such) (back : Item) → G c → G back → Each (items_in a.0) → (w : Ways) → LeadsOn w
      → EachEnd ((c, (flow a.0).first (in_loop w back)) ∷ (c, w.next) ∷ (flow a.0).links (in_loop w back)) × G ((flow a.0).first (in_loop w back))
  loop_flows c a back gc gb each w on =
      let body : G ((flow a.0).first (in_loop w back)) × EachEnd ((flow a.0).links (in_loop w back)) = a.1 each (in_loop w back) (gb, on.0, gb) in
      let links : List (Item × Item) = (flow a.0).links (in_loop w back) in
      (one_end c ((flow a.0).first (in_loop w back)) ((c, w.next) ∷ links) gc body.0 (one_end c w.next links gc on.0 body.1), body.0)

  layer : (y : Stmt-F Such) → OfLayer (map-Stmt Such Stmt (λ e. e.0) y)
  layer (Stmt-F.Item i) each = λ w on. let gi : G i = each i (at_head i []) in (gi, act_ends i.act i w gi on.0)
  layer (Stmt-F.Block ys) each = λ w on. block_flows (map flow (map (λ e. e.0) ys)) (stmts_flow ys each) w on
  layer (Stmt-F.If c a None) each = λ w on.
      let gc : G c = first_of_each c (items_in a.0 ++ []) each in
      let yes' = a.1 (left_of_each (items_in a.0) [] (rest_of_each c (items_in a.0 ++ []) each)) w on in
      let links : List (Item × Item) = (flow a.0).links w in
      (gc, one_end c ((flow a.0).first w) ((c, w.next) ∷ (links ++ [])) gc yes'.0 (one_end c w.next (links ++ []) gc on.0 (ends_on links [] yes'.1 no_end)))
  layer (Stmt-F.If c a (Some b)) each = λ w on.
      let gc : G c = first_of_each c (items_in a.0 ++ items_in b.0) each in
      let bodies : Each (items_in a.0 ++ items_in b.0) = rest_of_each c (items_in a.0 ++ items_in b.0) each in
      let yes' = a.1 (left_of_each (items_in a.0) (items_in b.0) bodies) w on in
      let no' = b.1 (right_of_each (items_in a.0) (items_in b.0) bodies) w on in
      let links : List (Item × Item) = (flow a.0).links w in
      let others : List (Item × Item) = (flow b.0).links w in
      (gc, one_end c ((flow a.0).first w) ((c, (flow b.0).first w) ∷ (links ++ others)) gc yes'.0 (one_end c ((flow b.0).first w) (links ++ others) gc no'.0 (ends_on links others yes'.1 no'.1)))
  layer (Stmt-F.While c a) each = λ w on.
      let gc : G c = first_of_each c (items_in a.0) each in
      (gc, (loop_flows c a c gc gc (rest_of_each c (items_in a.0) each) w on).0)
  layer (Stmt-F.Do a c) each = λ w on.
      let gc : G c = right_of_each (items_in a.0) (c ∷ []) each c (at_head c []) in
      let l = loop_flows c a c gc gc (left_of_each (items_in a.0) (c ∷ []) each) w on in
      (l.1, l.0)
  layer (Stmt-F.For first c step a) each = λ w on.
      let rest : Each (c ∷ (if_any step ++ items_in a.0)) = right_of_each (if_any first) (c ∷ (if_any step ++ items_in a.0)) each in
      let tail : Each (if_any step ++ items_in a.0) = rest_of_each c (if_any step ++ items_in a.0) rest in
      let gc : G c = first_of_each c (if_any step ++ items_in a.0) rest in
      let begins : Each (if_any first) = left_of_each (if_any first) (c ∷ (if_any step ++ items_in a.0)) each in
      let steps : Each (if_any step) = left_of_each (if_any step) (items_in a.0) tail in
      let gb : G (or_cond step c) = or_good step c gc steps in
      let body = a.1 (right_of_each (if_any step) (items_in a.0) tail) (in_loop w (or_cond step c)) (gb, on.0, gb) in
      let links : List (Item × Item) = (flow a.0).links (in_loop w (or_cond step c)) in
      let more : List (Item × Item) = link_to first c ++ (link_to step c ++ links) in (
        or_good first c gc begins,
        one_end c ((flow a.0).first (in_loop w (or_cond step c))) ((c, w.next) ∷ more) gc body.0
            (one_end c w.next more gc on.0 (ends_on (link_to first c) (link_to step c ++ links) (link_good first c gc begins) (ends_on (link_to step c) links (link_good step c gc steps) body.1))),
      )
  layer Stmt-F.Break each = λ w on. (on.1, no_end)
  layer Stmt-F.Continue each = λ w on. (on.2, no_end)

  pub flows_on : (s : Stmt) → Holds s
  flows_on = ind-Stmt Holds (λ x y is.
      subst (λ xs. Each xs → FlowsOn (flow (roll-Stmt x))) (sym (fold-roll-Stmt (List Item) items_step x))
      (subst (λ f. Each (items_step (map-Stmt Stmt (List Item) items_in x)) → FlowsOn f) (sym (fold-roll-Stmt Flow stmt_flow x)) (subst OfLayer is (layer y))))

  all_flow_on : (ss : List Stmt) → Each (items_in_all ss) → AllFlowOn (flows ss)
  all_flow_on [] each = tt
  all_flow_on (s ∷ ss) each = (flows_on s (left_of_each (items_in s) (items_in_all ss) each), all_flow_on ss (right_of_each (items_in s) (items_in_all ss) each))

  pub function_flows : (f : Function) → Each (items_of f) → G (first_item f) × EachEnd (links_of f)
  function_flows f each =
      let gc : G f.close = right_of_each (items_in_all f.body) (f.close ∷ []) each f.close (at_head f.close []) in
      block_flows (flows f.body) (all_flow_on f.body (left_of_each (items_in_all f.body) (f.close ∷ []) each)) (at_close f) (gc, gc, gc)

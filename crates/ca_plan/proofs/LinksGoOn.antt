-- A link begins at no return and at no closing brace.
use Rattle.std.proofs.Common.{◌≡◌, Bool, true, false, List, [], ◌∷◌, ◌++◌, map, Option, Some, None, refl, sym, ap, subst, inl, inr, true≢false}
use Rattle.std.specs.Prelude.{Contains, ◌&&◌, not}
use Rattle.std.proofs.lemmas.List.Elements.{Contains-append_cases}
use Rattle.ca_model.specs.declared.tree.Act.{Act}
use Rattle.ca_model.specs.declared.tree.Act.TheVariants as act
use Rattle.ca_model.specs.declared.tree.Item.{Item}
use Rattle.ca_model.specs.declared.tree.Stmt.{Stmt, map-Stmt, ind-Stmt, roll-Stmt, fold-roll-Stmt}
use Rattle.ca_model.specs.declared.tree.Stmt.TheOpen.{Stmt-F}
use Rattle.ca_model.specs.Codes.{Typed}
use Rattle.ca_model.specs.Destroying.{is_last}
use Rattle.ca_model.specs.Links.{Ways, Flow, Next, to_next, in_loop, after_act, block_first, block_links, or_cond, link_to, stmt_flow, flow, flows, at_close}
use Rattle.ca_model.specs.WellFormed.{is_condition, is_in_head, is_placed, placed_step, all_placed, IsWellFormed}
use Rattle.ca_model.proofs.Members.{in_none, in_cons}

both_parts : (b c : Bool) → (b && c) ≡ true → (b ≡ true) × (c ≡ true)
both_parts true c h = (refl, h)
both_parts false c h = absurd (true≢false (sym h))

is_not : (b : Bool) → not b ≡ true → b ≡ false
is_not true h = absurd (true≢false (sym h))
is_not false h = refl

-- an item that isn't the last of its function
abbrev GoesOn : Item → Type 0
GoesOn i = is_last i.act ≡ false

abbrev EachStart : List (Item × Item) → Type 0
EachStart ls = (i j : Item) → Contains ls (i, j) → GoesOn i

no_start : EachStart []
no_start i j c = absurd (in_none (i, j) c)

one_start : (a b : Item) (ls : List (Item × Item)) → GoesOn a → EachStart ls → EachStart ((a, b) ∷ ls)
one_start a b ls ga rest i j c = elim (in_cons (a, b) ls (i, j) c) [
  | inl is ↦ subst (λ (l : Item × Item). GoesOn l.0) is ga
  | inr more ↦ rest i j more
]

starts_on : (ls ms : List (Item × Item)) → EachStart ls → EachStart ms → EachStart (ls ++ ms)
starts_on ls ms p q i j c = elim (Contains-append_cases ls ms (i, j) c) [ inl left ↦ p i j left | inr right ↦ q i j right ]

act_starts : (a : Act) (i : Item) (w : Ways) → a ≡ i.act → EachStart (after_act a i w)
act_starts (act.Return e) i w is = no_start
act_starts act.Close i w is = no_start
act_starts _ i w is = one_start i w.next [] (ap is_last (sym is)) no_start

condition : (a : Act) → is_condition a ≡ true → is_last a ≡ false
condition (act.Cond e) h = refl
condition _ h = absurd (true≢false (sym h))

module _ (p : Typed) where
  link_start : (x : Option Item) (c : Item) → is_in_head p x ≡ true → EachStart (link_to x c)
  link_start None c h = no_start
  link_start (Some i) c h =
      let rest = (both_parts _ _ h).1 in
      one_start i c [] (is_not (is_last i.act) (both_parts _ _ rest).0) no_start

  abbrev Starts : Flow → Type 0
  Starts x = (w : Ways) → EachStart (x.links w)

  abbrev AllStart : List Flow → Type 0
  AllStart [] = Unit {0}
  AllStart (x ∷ xs) = Starts x × AllStart xs

  block_starts : (xs : List Flow) → AllStart xs → (w : Ways) → EachStart (block_links xs w)
  block_starts [] each w = no_start
  block_starts (x ∷ xs) each w = starts_on (x.links (to_next w (block_first xs w))) (block_links xs w) (each.0 (to_next w (block_first xs w))) (block_starts xs each.1 w)

  abbrev Holds : Stmt → Type 0
  Holds s = (in_loop : Bool) → is_placed p s in_loop ≡ true → Starts (flow s)

  abbrev Such : Type 0
  Such = (s : Stmt) × Holds s

  stmts_start : (ys : List Such) (b : Bool) → all_placed (map (is_placed p) (map (λ e. e.0) ys)) b ≡ true → AllStart (map flow (map (λ e. e.0) ys))
  stmts_start [] b h = tt
  stmts_start (y ∷ ys) b h = let parts = both_parts (is_placed p y.0 b) (all_placed (map (is_placed p) (map (λ e. e.0) ys)) b) h in (y.1 b parts.0, stmts_start ys b parts.1)

  abbrev OfLayer : Stmt-F Stmt → Type 0
  OfLayer x = (in_loop : Bool) → placed_step p (map-Stmt Stmt (Bool → Bool) (is_placed p) x) in_loop ≡ true → Starts (stmt_flow (map-Stmt Stmt Flow flow x))

  loop_starts : (c : Item) (a : Such) (back : Item) → is_condition c.act ≡ true → is_placed p a.0 true ≡ true → (w : Ways) → EachStart ((c, (flow a.0).first (in_loop w back)) ∷ (c, w.next) ∷ (flow a.0).links (in_loop w back))
  loop_starts c a back cond body w =
      let gc : GoesOn c = condition c.act cond in
      let links : List (Item × Item) = (flow a.0).links (in_loop w back) in
      one_start c ((flow a.0).first (in_loop w back)) ((c, w.next) ∷ links) gc (one_start c w.next links gc (a.1 true body (in_loop w back)))

  layer : (y : Stmt-F Such) → OfLayer (map-Stmt Such Stmt (λ e. e.0) y)
  layer (Stmt-F.Item i) b h = λ w. act_starts i.act i w refl
  layer (Stmt-F.Block ys) b h = λ w. block_starts (map flow (map (λ e. e.0) ys)) (stmts_start ys b h) w
  layer (Stmt-F.If c a None) b h = λ w.
      let parts = both_parts _ _ h in
      let gc : GoesOn c = condition c.act parts.0 in
      let links : List (Item × Item) = (flow a.0).links w in
      one_start c ((flow a.0).first w) ((c, w.next) ∷ (links ++ [])) gc (one_start c w.next (links ++ []) gc (starts_on links [] (a.1 b (both_parts _ _ parts.1).0 w) no_start))
  layer (Stmt-F.If c a (Some d)) b h = λ w.
      let parts = both_parts _ _ h in
      let bodies = both_parts _ _ parts.1 in
      let gc : GoesOn c = condition c.act parts.0 in
      let links : List (Item × Item) = (flow a.0).links w in
      let others : List (Item × Item) = (flow d.0).links w in
      one_start c ((flow a.0).first w) ((c, (flow d.0).first w) ∷ (links ++ others)) gc (one_start c ((flow d.0).first w) (links ++ others) gc (starts_on links others (a.1 b bodies.0 w) (d.1 b bodies.1 w)))
  layer (Stmt-F.While c a) b h = λ w. let parts = both_parts _ _ h in loop_starts c a c parts.0 parts.1 w
  layer (Stmt-F.Do a c) b h = λ w. let parts = both_parts _ _ h in loop_starts c a c parts.0 parts.1 w
  layer (Stmt-F.For first c step a) b h = λ w.
      let begin = both_parts _ _ h in
      let parts = both_parts _ _ begin.1 in
      let rest = both_parts _ _ parts.1 in
      let gc : GoesOn c = condition c.act parts.0 in
      let links : List (Item × Item) = (flow a.0).links (in_loop w (or_cond step c)) in
      let more : List (Item × Item) = link_to first c ++ (link_to step c ++ links) in
      one_start c ((flow a.0).first (in_loop w (or_cond step c))) ((c, w.next) ∷ more) gc
      (one_start c w.next more gc (starts_on (link_to first c) (link_to step c ++ links) (link_start first c begin.0) (starts_on (link_to step c) links (link_start step c rest.0) (a.1 true rest.1 (in_loop w (or_cond step c))))))
  layer Stmt-F.Break b h = λ w. no_start
  layer Stmt-F.Continue b h = λ w. no_start

  starts : (s : Stmt) → Holds s
  starts = ind-Stmt Holds (λ x y is.
      subst (λ g. (in_loop : Bool) → g in_loop ≡ true → Starts (flow (roll-Stmt x))) (sym (fold-roll-Stmt (Bool → Bool) (placed_step p) x))
      (subst (λ f. (in_loop : Bool) → placed_step p (map-Stmt Stmt (Bool → Bool) (is_placed p) x) in_loop ≡ true → Starts f) (sym (fold-roll-Stmt Flow stmt_flow x)) (subst OfLayer is (layer y))))

  all_start : (ss : List Stmt) (b : Bool) → all_placed (map (is_placed p) ss) b ≡ true → AllStart (flows ss)
  all_start [] b h = tt
  all_start (s ∷ ss) b h = let parts = both_parts (is_placed p s b) (all_placed (map (is_placed p) ss) b) h in (starts s b parts.0, all_start ss b parts.1)

  pub next_goes_on : IsWellFormed p → (i j : Item) → Next p i j → is_last i.act ≡ false
  next_goes_on formed i j (f, own, link) = block_starts (flows f.body) (all_start f.body false (formed.placed f own)) (at_close f) i j link

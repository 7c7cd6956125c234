-- Where the parts of a statement stand, and the sites of its items by those of its parts.
use Rattle.std.proofs.Common.{◌≡◌, ℕ, zero, suc, ◌<◌, Bool, true, false, List, [], ◌∷◌, ◌++◌, map, length, get_or, Option, Some, None, refl, sym, ap, ◌∙◌, subst, inl, inr, arith}
use Rattle.std.specs.Prelude.{◌&&◌, not, Contains}
use Rattle.std.proofs.lemmas.List.Elements.{Contains-append_left, Contains-append_right, Contains-append_cases}
use Rattle.ca_model.specs.declared.tree.Act.{Act}
use Rattle.ca_model.specs.declared.tree.Act.TheVariants as act
use Rattle.ca_model.specs.declared.tree.Item.{Item}
use Rattle.ca_model.specs.declared.tree.Stmt.{Stmt, out-Stmt, map-Stmt}
use Rattle.ca_model.specs.declared.tree.Stmt.TheOpen.{Stmt-F}
use Rattle.ca_model.specs.declared.tree.Stmt.TheVariants as st
use Rattle.ca_model.specs.Sites.{if_any, items_in, items_in_all}
use Rattle.ca_model.specs.WellFormed.{is_simple, is_condition, knows, is_in_head, is_placed, all_placed, placed_step}
use Rattle.ca_model.specs.Destroying.{is_last}
use Rattle.ca_model.proofs.Equations.{items_out, items_block}
use Rattle.ca_model.proofs.Members.{in_one, at_head, at_tail}
use Rattle.ca_model.proofs.StraightLines.{placed_out}
use Rattle.ca_flow.specs.declared.instr.Step.{Step}
use Rattle.ca_lower.specs.Scopes.{InFunction}
use Rattle.ca_lower.specs.Control.{AreOf, StandsThere, StandThere, MayStandThere, IsConditionThere, MayWorkThere, HaveSites}
use Rattle.ca_lower.proofs.ActsAdded.{left_true, right_true}
use Rattle.ca_tables.proofs.CountedItems.{joined_items}
use Rattle.ca_lower.proofs.Turning.{have_none, have_both}

simple_tests_nothing : (a : Act) → is_simple a ≡ true → is_condition a ≡ false
simple_tests_nothing (act.Cond e) h = cc
simple_tests_nothing a h = refl

module _ (x : InFunction) where
  placed_by : (s : Stmt) (l : Stmt-F Stmt) (b : Bool) → out-Stmt s ≡ l → is_placed x.source s b ≡ true → placed_step x.source (map-Stmt Stmt (Bool → Bool) (is_placed x.source) l) b ≡ true
  placed_by s l b is h = sym (ap (λ f. f b) (placed_out x.source s l is)) ∙ h

  -- ---- parts

  block_items : (s : Stmt) (ss : List Stmt) → s ≡ st.Block ss → items_in s ≡ items_in_all ss
  block_items s ss is = ap items_in is ∙ items_block ss ∙ joined_items ss

  pub block_there : (s : Stmt) (ss : List Stmt) (b : Bool) → s ≡ st.Block ss → StandsThere x s b → StandThere x ss b
  block_there s ss b is h = record {
    placed = placed_by s (Stmt-F.Block ss) b (ap out-Stmt is ∙ st.outs-Block ss) h.placed;
    items = subst (AreOf x) (block_items s ss is) h.items;
  }

  if_items : (s a : Stmt) (c : Item) → s ≡ st.If c a None → items_in s ≡ c ∷ (items_in a ++ [])
  if_items s a c is = items_out s (Stmt-F.If c a None) (ap out-Stmt is ∙ st.outs-If c a None)

  if_else_items : (s a no' : Stmt) (c : Item) → s ≡ st.If c a (Some no') → items_in s ≡ c ∷ (items_in a ++ items_in no')
  if_else_items s a no' c is = items_out s (Stmt-F.If c a (Some no')) (ap out-Stmt is ∙ st.outs-If c a (Some no'))

  pub if_there : (s a : Stmt) (c : Item) (no' : Option Stmt) (b : Bool) → s ≡ st.If c a no' → StandsThere x s b → IsConditionThere x c × StandsThere x a b × MayStandThere x no' b
  if_there s a c None b is h =
      let p = placed_by s (Stmt-F.If c a None) b (ap out-Stmt is ∙ st.outs-If c a None) h.placed in
      let all : AreOf x (c ∷ (items_in a ++ [])) = subst (AreOf x) (if_items s a c is) h.items in (
        record { condition = left_true (is_condition c.act) (is_placed x.source a b && true) p; own = all c (at_head c (items_in a ++ [])) },
        record {
          placed = left_true (is_placed x.source a b) true (right_true (is_condition c.act) (is_placed x.source a b && true) p);
          items = λ i m. all i (at_tail c (items_in a ++ []) i (Contains-append_left (items_in a) [] i m));
        },
        tt,
      )
  if_there s a c (Some no') b is h =
      let p = placed_by s (Stmt-F.If c a (Some no')) b (ap out-Stmt is ∙ st.outs-If c a (Some no')) h.placed in
      let all : AreOf x (c ∷ (items_in a ++ items_in no')) = subst (AreOf x) (if_else_items s a no' c is) h.items in
      let q = right_true (is_condition c.act) (is_placed x.source a b && is_placed x.source no' b) p in (
        record { condition = left_true (is_condition c.act) (is_placed x.source a b && is_placed x.source no' b) p; own = all c (at_head c (items_in a ++ items_in no')) },
        record { placed = left_true (is_placed x.source a b) (is_placed x.source no' b) q; items = λ i m. all i (at_tail c (items_in a ++ items_in no') i (Contains-append_left (items_in a) (items_in no') i m)) },
        record { placed = right_true (is_placed x.source a b) (is_placed x.source no' b) q; items = λ i m. all i (at_tail c (items_in a ++ items_in no') i (Contains-append_right (items_in a) (items_in no') i m)) },
      )

  while_items : (s a : Stmt) (c : Item) → s ≡ st.While c a → items_in s ≡ c ∷ items_in a
  while_items s a c is = items_out s (Stmt-F.While c a) (ap out-Stmt is ∙ st.outs-While c a)

  pub while_there : (s a : Stmt) (c : Item) (b : Bool) → s ≡ st.While c a → StandsThere x s b → IsConditionThere x c × StandsThere x a true
  while_there s a c b is h =
      let p = placed_by s (Stmt-F.While c a) b (ap out-Stmt is ∙ st.outs-While c a) h.placed in
      let all : AreOf x (c ∷ items_in a) = subst (AreOf x) (while_items s a c is) h.items in (
        record { condition = left_true (is_condition c.act) (is_placed x.source a true) p; own = all c (at_head c (items_in a)) },
        record { placed = right_true (is_condition c.act) (is_placed x.source a true) p; items = λ i m. all i (at_tail c (items_in a) i m) },
      )

  do_items : (s a : Stmt) (c : Item) → s ≡ st.Do a c → items_in s ≡ items_in a ++ (c ∷ [])
  do_items s a c is = items_out s (Stmt-F.Do a c) (ap out-Stmt is ∙ st.outs-Do a c)

  pub do_there : (s a : Stmt) (c : Item) (b : Bool) → s ≡ st.Do a c → StandsThere x s b → IsConditionThere x c × StandsThere x a true
  do_there s a c b is h =
      let p = placed_by s (Stmt-F.Do a c) b (ap out-Stmt is ∙ st.outs-Do a c) h.placed in
      let all : AreOf x (items_in a ++ (c ∷ [])) = subst (AreOf x) (do_items s a c is) h.items in (
        record { condition = left_true (is_condition c.act) (is_placed x.source a true) p; own = all c (Contains-append_right (items_in a) (c ∷ []) c (at_head c [])) },
        record { placed = right_true (is_condition c.act) (is_placed x.source a true) p; items = λ i m. all i (Contains-append_left (items_in a) (c ∷ []) i m) },
      )

  head_works : (o : Option Item) → is_in_head x.source o ≡ true → AreOf x (if_any o) → MayWorkThere x o
  head_works None p own = tt
  head_works (Some i) p own = record {
    condition = simple_tests_nothing i.act (left_true (is_simple i.act) (not (is_last i.act) && knows x.source i.act) p);
    own = own i (at_head i []);
  }

  for_items : (s a : Stmt) (first step : Option Item) (c : Item) → s ≡ st.For first c step a → items_in s ≡ if_any first ++ (c ∷ (if_any step ++ items_in a))
  for_items s a first step c is = items_out s (Stmt-F.For first c step a) (ap out-Stmt is ∙ st.outs-For first c step a)

  pub for_there : (s a : Stmt) (first step : Option Item) (c : Item) (b : Bool) → s ≡ st.For first c step a → StandsThere x s b → MayWorkThere x first × IsConditionThere x c × MayWorkThere x step × StandsThere x a true
  for_there s a first step c b is h =
      let p = placed_by s (Stmt-F.For first c step a) b (ap out-Stmt is ∙ st.outs-For first c step a) h.placed in
      let q = right_true (is_in_head x.source first) (is_condition c.act && (is_in_head x.source step && is_placed x.source a true)) p in
      let r = right_true (is_condition c.act) (is_in_head x.source step && is_placed x.source a true) q in
      let rest : List Item = if_any step ++ items_in a in
      let all : AreOf x (if_any first ++ (c ∷ rest)) = subst (AreOf x) (for_items s a first step c is) h.items in
      let behind : AreOf x (c ∷ rest) = λ i m. all i (Contains-append_right (if_any first) (c ∷ rest) i m) in (
        head_works first (left_true (is_in_head x.source first) (is_condition c.act && (is_in_head x.source step && is_placed x.source a true)) p) (λ i m. all i (Contains-append_left (if_any first) (c ∷ rest) i m)),
        record { condition = left_true (is_condition c.act) (is_in_head x.source step && is_placed x.source a true) q; own = behind c (at_head c rest) },
        head_works step (left_true (is_in_head x.source step) (is_placed x.source a true) r) (λ i m. behind i (at_tail c rest i (Contains-append_left (if_any step) (items_in a) i m))),
        record { placed = right_true (is_in_head x.source step) (is_placed x.source a true) r; items = λ i m. behind i (at_tail c rest i (Contains-append_right (if_any step) (items_in a) i m)) },
      )

  pub break_there : (s : Stmt) (b : Bool) → s ≡ st.Break → StandsThere x s b → b ≡ true
  break_there s b is h = placed_by s Stmt-F.Break b (ap out-Stmt is ∙ st.outs-Break) h.placed

  pub continue_there : (s : Stmt) (b : Bool) → s ≡ st.Continue → StandsThere x s b → b ≡ true
  continue_there s b is h = placed_by s Stmt-F.Continue b (ap out-Stmt is ∙ st.outs-Continue) h.placed

  -- one of some statements
  pub one_there : (ss : List Stmt) (k : ℕ) (s : Stmt) (b : Bool) → k < length ss → s ≡ get_or ss k s → StandThere x ss b → StandsThere x s b
  one_there [] k s b lt is h = absurd (let no' : ⊥ = omega (arith, lt) in no')
  one_there (y ∷ ss) zero s b lt is h = subst (λ s. StandsThere x s b) (sym is) (record {
    placed = left_true (is_placed x.source y b) (all_placed (map (is_placed x.source) ss) b) h.placed;
    items = λ i m. h.items i (Contains-append_left (items_in y) (items_in_all ss) i m);
  })
  one_there (y ∷ ss) (suc k) s b lt is h = one_there ss k s b (omega (arith, lt)) is (record {
    placed = right_true (is_placed x.source y b) (all_placed (map (is_placed x.source) ss) b) h.placed;
    items = λ i m. h.items i (Contains-append_right (items_in y) (items_in_all ss) i m);
  })

  -- ---- sites

  module _ (g : List Step) where
    pub have_item : (s : Stmt) (i : Item) → s ≡ st.Item i → HaveSites x g (i ∷ []) → HaveSites x g (items_in s)
    have_item s i is h = subst (HaveSites x g) (sym (items_out s (Stmt-F.Item i) (ap out-Stmt is ∙ st.outs-Item i))) h

    pub have_block : (s : Stmt) (ss : List Stmt) → s ≡ st.Block ss → HaveSites x g (items_in_all ss) → HaveSites x g (items_in s)
    have_block s ss is h = subst (HaveSites x g) (sym (block_items s ss is)) h

    pub have_if : (s a : Stmt) (c : Item) (no' : Option Stmt) → s ≡ st.If c a no' → HaveSites x g (c ∷ []) → HaveSites x g (items_in a) → ((y : Stmt) → no' ≡ Some y → HaveSites x g (items_in y)) → HaveSites x g (items_in s)
    have_if s a c None is one yes' no'' = subst (HaveSites x g) (sym (if_items s a c is)) (have_both x g (c ∷ []) (items_in a ++ []) one (have_both x g (items_in a) [] yes' (have_none x g)))
    have_if s a c (Some y) is one yes' no'' =
        subst (HaveSites x g) (sym (if_else_items s a y c is)) (have_both x g (c ∷ []) (items_in a ++ items_in y) one (have_both x g (items_in a) (items_in y) yes' (no'' y refl)))

    pub have_do : (s a : Stmt) (c : Item) → s ≡ st.Do a c → HaveSites x g (c ∷ items_in a) → HaveSites x g (items_in s)
    have_do s a c is h = subst (HaveSites x g) (sym (do_items s a c is)) (record {
      each = λ i m. elim (Contains-append_cases (items_in a) (c ∷ []) i m) [ inl body ↦ h.each i (at_tail c (items_in a) i body) | inr cond ↦ h.each i (subst (Contains (c ∷ items_in a)) (in_one c i cond) (at_head c (items_in a))) ];
    })

    pub have_for : (s a : Stmt) (first step : Option Item) (c : Item) → s ≡ st.For first c step a → HaveSites x g (if_any first) → HaveSites x g (c ∷ (if_any step ++ items_in a)) → HaveSites x g (items_in s)
    have_for s a first step c is start h = subst (HaveSites x g) (sym (for_items s a first step c is)) (have_both x g (if_any first) (c ∷ (if_any step ++ items_in a)) start h)

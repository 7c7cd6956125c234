-- Turns that are made open, and get their links last.
use Rattle.std.proofs.Common.{◌≡◌, ℕ, zero, suc, ◌+◌, ◌<◌, ◌≤◌, true, false, List, [], ◌∷◌, ◌++◌, length, Option, Some, None, refl, sym, ap, ◌∙◌, subst, inl, inr, arith, length-append}
use Rattle.std.specs.Prelude.{slice_get, slice_set, ◌⊎◌}
use Rattle.std.proofs.lemmas.Bool.Decides.{eqb_tells}
use Rattle.std.proofs.lemmas.List.{length-set}
use Rattle.std.proofs.lemmas.Option.{slice_get_within}
use Rattle.ca_model.specs.declared.tree.Item.{Item}
use Rattle.ca_model.specs.Frames.{Code}
use Rattle.ca_model.proofs.Steps.{get_left}
use Rattle.ca_flow.specs.declared.instr.AtSite.{AtSite}
use Rattle.ca_flow.specs.declared.instr.NodeId.{NodeId}
use Rattle.ca_flow.specs.declared.instr.Instr.TheVariants as instr
use Rattle.ca_flow.specs.declared.instr.Step.{Step}
use Rattle.ca_flow.specs.Graphs.{AreLinks}
use Rattle.ca_flow.specs.Lowerings.{site_in, IsMarked}
use Rattle.ca_lower.specs.declared.builder.Builder.{Builder}
use Rattle.ca_lower.specs.Scopes.{InFunction, InItem, IsInItem}
use Rattle.ca_lower.specs.Lowered.{is_pending, StandsIn, Works, Marks}
use Rattle.ca_lower.specs.Building.{around, code_at, code_in, Grows, HasSites}
use Rattle.ca_lower.specs.Control.{open_turn, closed_turn, Closes, HaveSites, RunStep, no_step, one_step}
use Rattle.std.proofs.lemmas.List.Elements.{Contains-append_cases}
use Rattle.ca_model.specs.Sites.{act_sites}
use Rattle.ca_model.proofs.Members.{in_none, in_one}
use Rattle.ca_lower.specs.Acts.{first_of, behind_of}
use Rattle.ca_lower.proofs.Growing.{marked_by, at_end, old_or_end, links_further, sites_kept}

set_here : (xs : List Step) (t : ℕ) (y : Step) → t < length xs → slice_get (slice_set xs t y) t ≡ Some y
set_here [] t y h = absurd (let no' : ⊥ = omega (arith, h) in no')
set_here (x ∷ xs) zero y h = refl
set_here (x ∷ xs) (suc t) y h = set_here xs t y (omega (arith, h))

set_there : (xs : List Step) (t n : ℕ) (y : Step) → (n ≡ t → ⊥) → slice_get (slice_set xs t y) n ≡ slice_get xs n
set_there [] t n y h = refl
set_there (x ∷ xs) zero zero y h = absurd (h refl)
set_there (x ∷ xs) zero (suc n) y h = refl
set_there (x ∷ xs) (suc t) zero y h = refl
set_there (x ∷ xs) (suc t) (suc n) y h = set_there xs t n y (λ e. h (ap suc e))

same_some : (x y : Step) → Some x ≡ Some y → x ≡ y
same_some x y e = cc

never : {A : Type 0} → true ≡ false → A
never e = cc

-- ---- a turn gets its link

module _ (x : InFunction) (i : Item) (t : ℕ) (m : NodeId) (old new : Builder) (set : new.steps.items ≡ slice_set old.steps.items t (closed_turn i m)) (opened_at : slice_get old.steps.items t ≡ Some (open_turn i)) where
  within : t < length old.steps.items
  within = slice_get_within old.steps.items t (open_turn i) opened_at

  here : slice_get new.steps.items t ≡ Some (closed_turn i m)
  here = ap (λ g. slice_get g t) set ∙ set_here old.steps.items t (closed_turn i m) within

  there : (n : ℕ) → (n ≡ t → ⊥) → slice_get new.steps.items n ≡ slice_get old.steps.items n
  there n h = ap (λ g. slice_get g n) set ∙ set_there old.steps.items t n (closed_turn i m) h

  same_length : length new.steps.items ≡ length old.steps.items
  same_length = ap length set ∙ length-set old.steps.items t (closed_turn i m)

  was_open : (n : ℕ) (at : Step) → n ≡ t → slice_get old.steps.items n ≡ Some at → at ≡ open_turn i
  was_open n at same is = same_some at (open_turn i) (sym is ∙ (ap (slice_get old.steps.items) same ∙ opened_at))

  is_closed : (n : ℕ) (at : Step) → n ≡ t → slice_get new.steps.items n ≡ Some at → at ≡ closed_turn i m
  is_closed n at same is = same_some at (closed_turn i m) (sym is ∙ (ap (slice_get new.steps.items) same ∙ here))

  pub stands_closed : (g : List Step) → StandsIn new.steps.items g → slice_get g t ≡ Some (closed_turn i m)
  stands_closed g s = s t (closed_turn i m) here refl

  pub closed : new.registers ≡ old.registers → m.0 < length old.steps.items → Closes x t old new
  closed registers below = record {
    stands = λ g s n at is made. elim (eqb_tells n t) [
      | inl k ↦ never (sym (ap is_pending (was_open n at k.1 is)) ∙ made)
      | inr k ↦ s n at (there n k.1 ∙ is) made
    ];
    registers = omega (arith, registers);
    narrow = λ n. subst (λ r. r ≤ 256) (sym registers) n;
    longer = omega (arith, same_length);
    kept = λ n at other is. there n other ∙ is;
    pending = λ n at is p. elim (eqb_tells n t) [
      | inl k ↦ never (sym p ∙ ap is_pending (is_closed n at k.1 is))
      | inr k ↦ (k.1, sym (there n k.1) ∙ is)
    ];
    marked = λ all n at is. elim (eqb_tells n t) [
      | inl k ↦ subst (λ (s : Step). IsMarked (code_in x) x.function s.node) (sym (is_closed n at k.1 is)) (all t (open_turn i) opened_at)
      | inr k ↦ all n at (sym (there n k.1) ∙ is)
    ];
    drawn = λ all n at is made. elim (eqb_tells n t) [
      | inl k ↦ subst (λ (s : Step). AreLinks (length new.steps.items) s.node.instr n s.links) (sym (is_closed n at k.1 is)) (refl, inr (refl, subst (λ l. m.0 < l) (sym same_length) below))
      | inr k ↦ links_further (length old.steps.items) (length new.steps.items) n at.node.instr at.links (omega (arith, same_length)) (all n at (sym (there n k.1) ∙ is) made)
    ];
  }

pub closes_on : (x : InFunction) (t : ℕ) (a b c : Builder) → Grows x a b → Closes x t b c → Closes x t a c
closes_on x t a b c h k = record {
  stands = λ g s. h.stands g (k.stands g s);
  registers = omega (arith, h.registers, k.registers);
  narrow = λ n. k.narrow (h.narrow n);
  longer = omega (arith, h.longer, k.longer);
  kept = λ n at other is. k.kept n at other (h.kept n at is);
  pending = λ n at is p. let was = k.pending n at is p in (was.0, h.pending n at was.1 p);
  marked = λ m. k.marked (h.marked m);
  drawn = λ d. k.drawn (h.drawn d);
}

-- ---- a loop, from before its turn on

pub loop_grows : (x : InItem) (t : ℕ) (old mid before after : Builder) → IsInItem x → t ≡ length old.steps.items → mid.steps.items ≡ old.steps.items ++ (open_turn x.item ∷ []) → mid.registers ≡ old.registers → Grows (around x) mid before
    → Closes (around x) t before after → Grows (around x) old after
loop_grows x t old mid before after there place opened registers grows closes =
    let turn : Step = open_turn x.item in
    let stays : (n : ℕ) (at : Step) → slice_get old.steps.items n ≡ Some at → slice_get mid.steps.items n ≡ Some at = λ n at is. ap (λ g. slice_get g n) opened ∙ get_left old.steps.items (turn ∷ []) n at is in
    let either : (n : ℕ) (at : Step) → slice_get mid.steps.items n ≡ Some at → (slice_get old.steps.items n ≡ Some at) ⊎ ((n ≡ length old.steps.items) × (turn ≡ at)) =
    λ n at is. old_or_end old.steps.items turn n at (sym (ap (λ g. slice_get g n) opened) ∙ is) in
    let longer : length old.steps.items ≤ length mid.steps.items =
    let e : length mid.steps.items ≡ length (old.steps.items ++ (turn ∷ [])) = ap length opened in let f = length-append old.steps.items (turn ∷ []) in omega (arith, e, f) in
    record {
      stands = λ g s n at is made. grows.stands g (closes.stands g s) n at (stays n at is) made;
      registers = omega (arith, registers, grows.registers, closes.registers);
      narrow = λ n. closes.narrow (grows.narrow (subst (λ r. r ≤ 256) (sym registers) n));
      longer = omega (arith, longer, grows.longer, closes.longer);
      kept = λ n at is. closes.kept n at (λ e. let w = slice_get_within old.steps.items n at is in let no' : ⊥ = omega (arith, w, e, place) in no') (grows.kept n at (stays n at is));
      pending = λ n at is p. let was = closes.pending n at is p in elim (either n at (grows.pending n at was.1 p)) [ inl old' ↦ old' | inr end ↦ absurd (was.0 (end.0 ∙ sym place)) ];
      marked = λ all. closes.marked (grows.marked (λ n at is. elim (either n at is) [ inl old' ↦ all n at old' | inr end ↦ subst (λ (s : Step). IsMarked (code_at x) x.function s.node) end.1 (marked_by x instr.Turn there (tt, tt, tt)) ]));
      drawn = λ all. closes.drawn (grows.drawn (λ n at is made. elim (either n at is) [
        | inl old' ↦ links_further (length old.steps.items) (length mid.steps.items) n at.node.instr at.links longer (all n at old' made)
        | inr end ↦ never (ap is_pending end.1 ∙ made)
      ]));
    }

-- ---- sites

pub have_none : (x : InFunction) (g : List Step) → HaveSites x g []
have_none x g = record { each = λ i c. absurd (in_none i c) }

pub have_one : (x : InItem) (y : InFunction) (g : List Step) → y ≡ around x → HasSites g (first_of x) (behind_of x) → HaveSites y g (x.item ∷ [])
have_one x y g same has =
    subst (λ y. HaveSites y g (x.item ∷ [])) (sym same) (record { each = λ i c. subst (λ (i : Item). HasSites g ((code_at x).first_site i.id) ((code_at x).first_site i.id + act_sites i.act)) (in_one x.item i c) has })

pub have_both : (x : InFunction) (g : List Step) (is js : List Item) → HaveSites x g is → HaveSites x g js → HaveSites x g (is ++ js)
have_both x g is js h k = record { each = λ i c. elim (Contains-append_cases is js i c) [ inl first ↦ h.each i first | inr second ↦ k.each i second ] }

pub have_kept : (x : InFunction) (b c : Builder) (is : List Item) → Grows x b c → HaveSites x b.steps.items is → HaveSites x c.steps.items is
have_kept x b c is grows have = record { each = λ i h. sites_kept x b c _ _ grows (have.each i h) }

abbrev site_of_step : Step → Option AtSite
site_of_step s = site_in s.node.instr

no_site : (a : AtSite) → None ≡ Some a → ⊥
no_site a e = cc

pub have_closed : (x : InFunction) (i : Item) (t : ℕ) (b c : Builder) (is : List Item) → Closes x t b c → slice_get b.steps.items t ≡ Some (open_turn i) → HaveSites x b.steps.items is → HaveSites x c.steps.items is
have_closed x i t b c is closes opened_at have = record {
  each = λ j h. record {
    there = λ s low high.
        let (n, at, a, is', site, same) = (have.each j h).there s low high in
        (n, at, a, closes.kept n at (λ e. no_site a (ap site_of_step (same_some (open_turn i) at (sym opened_at ∙ (ap (slice_get b.steps.items) (sym e) ∙ is'))) ∙ site)) is', site, same);
  };
}

pub site_closed : (x : InFunction) (i : Item) (t : ℕ) (b c : Builder) (from to : ℕ) → Closes x t b c → slice_get b.steps.items t ≡ Some (open_turn i) → HasSites b.steps.items from to → HasSites c.steps.items from to
site_closed x i t b c from to closes opened_at has = record {
  there = λ s low high.
      let (n, at, a, is', site, same) = has.there s low high in
      (n, at, a, closes.kept n at (λ e. no_site a (ap site_of_step (same_some (open_turn i) at (sym opened_at ∙ (ap (slice_get b.steps.items) (sym e) ∙ is'))) ∙ site)) is', site, same);
}

-- ---- items of a function

abbrev pub at_item : InFunction → Item → InItem
at_item x i = record { source = x.source; plan = x.plan; function = x.function; item = i }

pub grows_in : (x : InFunction) (y : InItem) (i : Item) (a b : Builder) → y ≡ at_item x i → Grows (around y) a b → Grows x a b
grows_in x y i a b same grows = subst (λ y. Grows (around y) a b) same grows

pub none_steps : (code : Code) (g : List Step) (low width n : ℕ) (o : Option Item) → o ≡ None → RunStep code g low width n n o
none_steps code g low width n o is = subst (RunStep code g low width n n) (sym is) no_step

pub item_steps : (x : InFunction) (y : InItem) (g : List Step) (width n j next : ℕ) (i : Item) (o : Option Item) → y ≡ at_item x i → o ≡ Some i → Works (code_at y) g y.function.locals width n j y.item
    → Marks (code_at y) g y.function.locals width ((code_at y).saves_after y.item.id) j next → RunStep (code_in x) g x.function.locals width n next o
item_steps x y g width n j next i o same is works marks =
    subst (RunStep (code_in x) g x.function.locals width n next) (sym is)
    (one_step (subst (λ y. Works (code_at y) g y.function.locals width n j y.item) same works) refl (subst (λ y. Marks (code_at y) g y.function.locals width ((code_at y).saves_after y.item.id) j next) same marks))

pub item_sites : (x : InFunction) (y : InItem) (i : Item) (g : List Step) → y ≡ at_item x i → HasSites g (first_of y) (behind_of y) → HaveSites x g (i ∷ [])
item_sites x y i g same has = have_one (at_item x i) x g refl (subst (λ y. HasSites g (first_of y) (behind_of y)) same has)

pub opened_is : (old mid : Builder) (t : ℕ) (y : Step) → mid.steps.items ≡ old.steps.items ++ (y ∷ []) → t ≡ length old.steps.items → slice_get mid.steps.items t ≡ Some y
opened_is old mid t y steps place = ap (λ g. slice_get g t) steps ∙ (ap (slice_get (old.steps.items ++ (y ∷ []))) place ∙ at_end old.steps.items y)

pub closes_in : (x : InFunction) (y : InItem) (i : Item) (t : ℕ) (a b : Builder) → y ≡ at_item x i → Closes (around y) t a b → Closes x t a b
closes_in x y i t a b same closes = subst (λ y. Closes (around y) t a b) same closes

pub loop_grows_in : (x : InFunction) (y : InItem) (i : Item) (t : ℕ) (old mid before after : Builder) → y ≡ at_item x i → IsInItem y → t ≡ length old.steps.items → mid.steps.items ≡ old.steps.items ++ (open_turn y.item ∷ []) → mid.registers ≡ old.registers
    → Grows x mid before → Closes (around y) t before after → Grows x old after
loop_grows_in x y i t old mid before after same there place opened registers grows closes =
    loop_grows (at_item x i) t old mid before after (subst IsInItem same there) place (subst (λ (y : InItem). mid.steps.items ≡ old.steps.items ++ (open_turn y.item ∷ [])) same opened) registers grows (closes_in x y i t before after same closes)

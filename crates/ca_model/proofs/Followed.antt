-- The frames of a run go on along links.
use Rattle.std.proofs.Common.{◌≡◌, ℕ, zero, suc, List, [], ◌∷◌, ◌++◌, map, Option, Some, None, refl, sym, ap, ◌∙◌, subst}
use Rattle.std.specs.Prelude.{slice_get, Contains}
use Rattle.std.proofs.lemmas.Option.{slice_get-get_or, slice_get_within, get_or_from_slice_get}
use Rattle.ca_tree.specs.declared.numbers.FunId.{FunId}
use Rattle.ca_model.specs.declared.plan.Plan.{Plan}
use Rattle.ca_model.specs.declared.values.Value.{Value}
use Rattle.ca_model.specs.declared.tree.Act.TheVariants as act
use Rattle.ca_model.specs.declared.tree.Item.{Item}
use Rattle.ca_model.specs.declared.tree.Stmt.{Stmt}
use Rattle.ca_model.specs.declared.tree.Function.{Function}
use Rattle.ca_model.specs.Asks.{Want, Saves, Got, Is, Wants, No_result}
use Rattle.ca_model.specs.Items.{Done}
use Rattle.ca_model.specs.Frames.{Code, Left, Enter, Begin, After, Run, Frame, first_run, past_first, begun, gives_way, settle, entered, first_weight}
use Rattle.ca_model.specs.Links.{Ways, Next, after_act, block_first, block_links, flow, flows, at_close, first_item}
use Rattle.ca_model.specs.Codes.{Typed, code_of}
use Rattle.ca_model.specs.WellFormed.{IsWellFormed}
use Rattle.ca_model.specs.Begun.{IsReturn, InProgress, starts, goes_on}
use Rattle.ca_model.specs.Follows.{first_head, heads_by, BeginsWith, LinksTo, AreLinked, with_answer, FollowsLinks}
use Rattle.ca_model.proofs.Silent.{step_by, none_over, answer_used, entered_empty}
use Rattle.ca_model.proofs.Law.{get_one}
use Rattle.ca_model.proofs.Returning.{EndsNow, not_at_once_done, not_by_answer_done}
use Rattle.ca_model.proofs.Ways.{ways, runs_way, IsLead, first_lead, first_place, Each, none_of, InFlow, flow_runs, GoesOn, Onward, first_onward}

flows_all : (ss : List Stmt) → flows ss ≡ map flow ss
flows_all [] = refl
flows_all (s ∷ ss) = ap (λ xs. flow s ∷ xs) (flows_all ss)

module _ (p : Typed) (code : Code) where
  -- the function with a number begins with an item
  abbrev Opens : FunId → Item → Type 0
  Opens g j = (h : Function) × Contains p.functions h × (h.id ≡ g) × (j ≡ first_item h)

  abbrev Flows : Item → List Left → Type 0
  Flows z ls = InFlow z (Next p) Opens ls

  -- a list that begins with an item and goes on along links
  abbrev Along : Item → List Item → Type 0
  Along i is = BeginsWith i is × AreLinked p is

  links_to : (i j : Item) (is : List Item) → Next p i j → BeginsWith j is → LinksTo p i is
  links_to i j [] next begins = tt
  links_to i j (k ∷ is) next begins = subst (Next p i) (sym begins) next

  along_more : (heads : List Item) (i j : Item) (is : List Item) → IsLead i heads → GoesOn (Next p) heads i j → Along j is → Along i (heads ++ is)
  along_more [] i j is lead on more = subst (λ k. Along k is) (sym on) more
  along_more (k ∷ []) i j is lead on more = (lead, (links_to k j is on more.0, more.1))
  along_more (k ∷ m ∷ ks) i j is lead on more = absurd lead

  along_alone : (heads : List Item) (i : Item) → IsLead i heads → Along i heads
  along_alone [] i lead = (tt, tt)
  along_alone (k ∷ []) i lead = (lead, (tt, tt))
  along_alone (k ∷ m ∷ ks) i lead = absurd lead

  along_end : (heads : List Item) (i : Item) → IsLead i heads → Along i (heads ++ [])
  along_end [] i lead = (tt, tt)
  along_end (k ∷ []) i lead = (lead, (tt, tt))
  along_end (k ∷ m ∷ ks) i lead = absurd lead

  abbrev heads_after : ℕ → Frame → Got Done → List Item
  heads_after n f g = elim g [ Is d rest ↦ heads_by code n (gives_way f d rest) | Wants w ↦ [] | No_result ↦ [] ]

  -- what is done has used its answers, and doesn't end the function
  abbrev GivesWay : Frame → Got Done → Type 0
  GivesWay f g = (d : Done) (rest : List Value) → g ≡ Is d rest → (rest ≡ []) × (EndsNow f.left → ⊥)

  module _ (z : Item) where
    -- one silent step
    heads_step : (n : ℕ) (f : Frame) (g : Got Done) → GivesWay f g → ((h : Frame) → h.answers ≡ [] → Flows z h.left → Along (ways z h.left).next (heads_by code n h)) → Flows z f.left
        → Along (ways z f.left).next (first_head f.left ++ heads_after n f g)
    heads_step n f (Is d rest) gives more h =
        let few = gives d rest refl in
        let on : Onward z (Next p) Opens (first_head f.left) (ways z f.left).next (past_first f.left d.truth) = first_onward z (Next p) Opens f.left d.truth h few.1 in
        along_more (first_head f.left) (ways z f.left).next (ways z (past_first f.left d.truth)).next (heads_by code n (gives_way f d rest)) (first_lead z f.left) on.1 (more (gives_way f d rest) few.0 on.0)
    heads_step n f (Wants w) gives more h = along_end (first_head f.left) (ways z f.left).next (first_lead z f.left)
    heads_step n f No_result gives more h = along_end (first_head f.left) (ways z f.left).next (first_lead z f.left)

    flow_step : (n : ℕ) (f : Frame) (g : Got Done) → GivesWay f g → ((h : Frame) → h.answers ≡ [] → Flows z h.left → Flows z (settle code n h).left) → Flows z f.left → Flows z (step_by code n f g).left
    flow_step n f (Is d rest) gives more h =
        let few = gives d rest refl in
        let on : Onward z (Next p) Opens (first_head f.left) (ways z f.left).next (past_first f.left d.truth) = first_onward z (Next p) Opens f.left d.truth h few.1 in
        more (gives_way f d rest) few.0 on.0
    flow_step n f (Wants w) gives more h = h
    flow_step n f No_result gives more h = h

    gives_at_once : (f : Frame) → f.answers ≡ [] → GivesWay f (begun code f)
    gives_at_once f empty d rest is =
        let at : first_run code f.left f.locals [] ≡ Is d rest = ap (first_run code f.left f.locals) (sym empty) ∙ is in
        (none_over code f.left f.locals d rest at, not_at_once_done code f.left f.locals d rest at)

    gives_by_answer : (f : Frame) (w : Want) (x : Value) → begun code f ≡ Wants w → (IsReturn w → ⊥) → GivesWay (with_answer f x) (begun code (with_answer f x))
    gives_by_answer f w x is other d rest at = (answer_used code f w x is d rest at, not_by_answer_done code f.left f.locals f.answers x w d rest is other at)

    quiet_heads : (n : ℕ) (f : Frame) → f.answers ≡ [] → Flows z f.left → Along (ways z f.left).next (heads_by code n f)
    quiet_heads zero f empty h = along_alone (first_head f.left) (ways z f.left).next (first_lead z f.left)
    quiet_heads (suc n) f empty h = heads_step n f (begun code f) (gives_at_once f empty) (quiet_heads n) h

    answer_heads : (n : ℕ) (f : Frame) (w : Want) (x : Value) → begun code f ≡ Wants w → (IsReturn w → ⊥) → Flows z f.left → Along (ways z f.left).next (heads_by code n (with_answer f x))
    answer_heads zero f w x is other h = along_alone (first_head f.left) (ways z f.left).next (first_lead z f.left)
    answer_heads (suc n) f w x is other h = heads_step n (with_answer f x) (begun code (with_answer f x)) (gives_by_answer f w x is other) (quiet_heads n) h

    quiet_flow : (n : ℕ) (f : Frame) → f.answers ≡ [] → Flows z f.left → Flows z (settle code n f).left
    quiet_flow zero f empty h = h
    quiet_flow (suc n) f empty h = flow_step n f (begun code f) (gives_at_once f empty) (quiet_flow n) h

    answer_flow : (n : ℕ) (f : Frame) (w : Want) (x : Value) → begun code f ≡ Wants w → (IsReturn w → ⊥) → Flows z f.left → Flows z (settle code n (with_answer f x)).left
    answer_flow zero f w x is other h = h
    answer_flow (suc n) f w x is other h = flow_step n (with_answer f x) (begun code (with_answer f x)) (gives_by_answer f w x is other) (quiet_flow n) h

  -- the body of a function, with its closing brace behind it
  abbrev body_left : Function → List Left
  body_left h = map Run h.body ++ Begin h.close ∷ []

  begins_body : (h : Function) → (ways h.close (body_left h)).next ≡ first_item h
  begins_body h = ap (λ (w : Ways). w.next) (runs_way h.close h.body (Begin h.close ∷ [])) ∙ ap (λ xs. block_first xs (at_close h)) (sym (flows_all h.body))

  links_body : (h : Function) → Contains p.functions h → Each h.close (Next p) Opens (block_links (map flow h.body) (at_close h))
  links_body h has i j c = (h, has, subst (λ xs. Contains (block_links xs (at_close h)) (i, j)) (sym (flows_all h.body)) c)

  entered_flow : (g : FunId) (xs : List Value) (h : Function) → Contains p.functions h → h.id ≡ g → h.close.act ≡ act.Close → Flows h.close (entered g xs (Some h)).left
  entered_flow g xs h has is closed =
      let end : Each h.close (Next p) Opens (after_act h.close.act h.close (at_close h)) = subst (λ a. Each h.close (Next p) Opens (after_act a h.close (at_close h))) (sym closed) (none_of h.close (Next p) Opens) in
      ((h, has, is, begins_body h), flow_runs h.close (Next p) Opens h.body (Begin h.close ∷ []) (links_body h has) (end, tt))

  module _ (good : IsWellFormed p) (same : code.functions ≡ p.functions) where
    at_number : (h : Function) → Contains p.functions h → slice_get code.functions h.id.0 ≡ Some h
    at_number h has =
        let there : slice_get p.functions has.0 ≡ Some h = slice_get-get_or p.functions has.0 h has.1 ∙ ap Some has.2 in
        ap (λ fs. slice_get fs h.id.0) same ∙ (ap (slice_get p.functions) (good.functions has.0 h there) ∙ there)

    started_flow : (g : FunId) (xs : List Value) (o : Option Function) → slice_get code.functions g.0 ≡ o → (z : Item) × Flows z (entered g xs o).left
    started_flow g xs None at = let main = get_one p.functions p.main.0 good.main in (main.0.close, tt)
    started_flow g xs (Some h) at =
        let there : slice_get p.functions g.0 ≡ Some h = ap (λ fs. slice_get fs g.0) (sym same) ∙ at in
        let has : Contains p.functions h = (g.0, slice_get_within p.functions g.0 h there, get_or_from_slice_get p.functions g.0 h h there) in
        (h.close, entered_flow g xs h has (ap (λ n. record { 0 = n }) (good.functions g.0 h there)) (good.closed h has))

    in_flow : (f : Frame) → InProgress code f → (z : Item) × Flows z f.left
    in_flow _ (starts g xs) =
        let h : Frame = entered g xs (slice_get code.functions g.0) in
        let start = started_flow g xs (slice_get code.functions g.0) refl in
        (start.0, quiet_flow start.0 (first_weight h.left) h (entered_empty code g xs (slice_get code.functions g.0)) start.1)
    in_flow _ (goes_on {f = f} {w = w} before is other x) = let h = in_flow f before in (h.0, answer_flow h.0 (first_weight f.left) f w x is other h.1)

    start_heads : (h : Function) (xs : List Value) (n : ℕ) → Contains p.functions h → Along (first_item h) (heads_by code n (entered h.id xs (slice_get code.functions h.id.0)))
    start_heads h xs n has =
        let on : Along (ways h.close (body_left h)).next (heads_by code n (entered h.id xs (Some h))) = quiet_heads h.close n (entered h.id xs (Some h)) refl (entered_flow h.id xs h has refl (good.closed h has)) in
        let first : Along (first_item h) (heads_by code n (entered h.id xs (Some h))) = subst (λ i. Along i (heads_by code n (entered h.id xs (Some h)))) (begins_body h) on in
        subst (λ o. Along (first_item h) (heads_by code n (entered h.id xs o))) (sym (at_number h has)) first

    -- after a save, by what stands behind it
    save_heads : (f : Frame) (z : Item) (x : Value) (n : ℕ) (ls : List Left) → begun code f ≡ Wants Saves → Flows z f.left → (ways z f.left).next ≡ (ways z ls).next → Along (ways z ls).next (heads_by code n (with_answer f x))
    save_heads f z x n ls is h at = subst (λ i. Along i (heads_by code n (with_answer f x))) at (answer_heads z n f Saves x is (λ no. no) h)

    pub follows_links : FollowsLinks p code
    follows_links = record {
      at_the_start = start_heads;
      after_an_answer = λ f w x n progress is other. let h = in_flow f progress in (answer_heads h.0 n f w x is other h.1).1;
      behind_an_item = λ f d rest i done is. first_place f.left d.truth i is;
      after_a_save = λ f i ls progress is at.
          let h = in_flow f progress in
          let here : Flows h.0 (After i ∷ ls) = subst (Flows h.0) at h.1 in (
            here.0.0,
            here.0.1,
            (λ x n.
                let on : Along (ways h.0 ls).next (heads_by code n (with_answer f x)) = save_heads f h.0 x n ls is h.1 (ap (λ l. (ways h.0 l).next) at) in
                (links_to here.0.0 (ways h.0 ls).next (heads_by code n (with_answer f x)) here.0.2 on.0, on.1)),
          );
      after_an_entry = λ f g ls progress is at.
          let h = in_flow f progress in
          let here : Flows h.0 (Enter g ∷ ls) = subst (Flows h.0) at h.1 in (
            here.0.0,
            here.0.1,
            here.0.2,
            (λ x n.
                let on : Along (ways h.0 ls).next (heads_by code n (with_answer f x)) = save_heads f h.0 x n ls is h.1 (ap (λ l. (ways h.0 l).next) at) in
                subst (λ i. BeginsWith i (heads_by code n (with_answer f x))) here.0.3 on.0),
          );
    }

pub well_formed_follows : (p : Typed) → IsWellFormed p → (plan : Plan) → FollowsLinks p (code_of p plan)
well_formed_follows p good plan = follows_links p (code_of p plan) good refl

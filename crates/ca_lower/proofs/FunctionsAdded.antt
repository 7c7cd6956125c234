-- What code that is added for functions is right for.
use Rattle.std.proofs.Common.{◌≡◌, ℕ, ◌+◌, ◌<◌, ◌≤◌, Bool, true, false, List, [], ◌∷◌, ◌++◌, map, length, Some, refl, sym, ap, ◌∙◌, subst, inl, inr, arith, length-append}
use Rattle.std.specs.Prelude.{slice_get, Contains}
use Rattle.std.proofs.lemmas.List.Elements.{Contains-append_left, Contains-append_right}
use Rattle.ca_model.specs.declared.plan.Plan.{Plan}
use Rattle.ca_model.specs.declared.tree.Act.TheVariants as act
use Rattle.ca_model.specs.declared.tree.Item.{Item}
use Rattle.ca_model.specs.declared.tree.Stmt.{Stmt}
use Rattle.ca_model.specs.declared.tree.Function.{Function}
use Rattle.ca_model.specs.Codes.{Typed}
use Rattle.ca_model.specs.Frames.{Code, Begin, Run}
use Rattle.ca_model.specs.Sites.{act_sites, items_in_all, items_of}
use Rattle.ca_model.specs.WellFormed.{IsWellFormed}
use Rattle.ca_model.specs.Bounds.{IsBounded}
use Rattle.ca_model.proofs.Members.{at_head, in_one}
use Rattle.ca_flow.specs.declared.instr.NodeId.{NodeId}
use Rattle.ca_flow.specs.declared.instr.Step.{Step}
use Rattle.ca_flow.specs.Graphs.{ControlFlow, IsDrawn, AreLinks}
use Rattle.ca_flow.specs.Flows.{IsFlowOf}
use Rattle.ca_flow.specs.Standing.{IsGraphOf}
use Rattle.ca_flow.specs.Lowerings.{IsMarked, HasSite, IsGraphUnder}
use Rattle.ca_lower.specs.declared.builder.Builder.{Builder}
use Rattle.ca_lower.specs.Scopes.{InFunction, InItem, IsInFunction}
use Rattle.ca_lower.specs.Lowered.{is_pending, Ends, Marks}
use Rattle.ca_lower.specs.Building.{code_in, code_at, AllDrawn, AllMarked, Grows}
use Rattle.ca_lower.specs.Control.{RunAll, StandThere, HaveSites, AddsFunction}
use Rattle.ca_lower.specs.GraphsSoFar.{AreSoFar}
use Rattle.ca_lower.proofs.Growing.{old_or_end}
use Rattle.ca_lower.proofs.Turning.{at_item, have_both, have_kept}
use Rattle.ca_lower.proofs.CodeOfControl.{follows_enter, all_follow}

never : {A : Type 0} → false ≡ true → A
never e = cc

-- ---- one function

pub close_there : (f h : Function) → h ≡ f → Contains (items_of f) h.close
close_there f h same = subst (λ (f : Function). Contains (items_of f) h.close) same (Contains-append_right (items_in_all h.body) (h.close ∷ []) h.close (at_head h.close []))

pub body_there : (x : InFunction) (ss : List Stmt) → IsWellFormed x.source → IsInFunction x → ss ≡ x.function.body → StandThere x ss false
body_there x ss formed there same = subst (λ ss. StandThere x ss false) (sym same) (record {
  placed = formed.placed x.function there;
  items = λ i c. Contains-append_left (items_in_all x.function.body) (x.function.close ∷ []) i c;
})

pub graph_is : (code : Code) (g : List Step) (width n m j leave again : ℕ) (f : Function) → Marks code g f.locals width (code.saves_at_entry f.id) n m → RunAll code g f.locals width false m j leave again f.body → Ends code g f.locals width j f.close
    → IsGraphOf code g n width f
graph_is code g width n m j leave again f marks all ends k =
    follows_enter code g f.locals width (code.saves_at_entry f.id) k n m f.id (map Run f.body ++ Begin f.close ∷ []) refl marks
    (all_follow code g f.locals width false m j leave again k f.body (Begin f.close ∷ []) all (λ r wide. ends.does k r (Begin f.close ∷ []) wide) (λ e. never e) (λ e. never e))

pub function_is : (x : InFunction) (y : InItem) (g : List Step) (width n m j leave again : ℕ) (ss : List Stmt) → y ≡ at_item x x.function.close → ss ≡ x.function.body
    → Marks (code_at y) g y.function.locals width ((code_at y).saves_at_entry y.function.id) n m → RunAll (code_in x) g x.function.locals width false m j leave again ss → Ends (code_at y) g y.function.locals width j y.item
    → IsGraphOf (code_in x) g n width x.function
function_is x y g width n m j leave again ss same body marks all ends =
    graph_is (code_in x) g width n m j leave again x.function
    (subst (λ y. Marks (code_at y) g y.function.locals width ((code_at y).saves_at_entry y.function.id) n m) same marks)
    (subst (RunAll (code_in x) g x.function.locals width false m j leave again) body all)
    (subst (λ y. Ends (code_at y) g y.function.locals width j y.item) same ends)

none_from : (s n : ℕ) → n ≤ s → s < n + 0 → ⊥
none_from s n low high = omega (arith, low, high)

-- a closing brace has no site
close_has : (x : InFunction) (g : List Step) (i : Item) → i.act ≡ act.Close → HaveSites x g (i ∷ [])
close_has x g i closes = record {
  each = λ j c. record {
    there = λ s low high. absurd (none_from s.0 ((code_in x).first_site j.id) low (subst (λ k. s.0 < (code_in x).first_site j.id + k) (ap (λ (j : Item). act_sites j.act) (sym (in_one i j c)) ∙ ap act_sites closes) high));
  };
}

pub function_has : (x : InFunction) (mid new : Builder) (ss : List Stmt) → IsWellFormed x.source → IsInFunction x → ss ≡ x.function.body → Grows x mid new → HaveSites x mid.steps.items (items_in_all ss) → HaveSites x new.steps.items (items_of x.function)
function_has x mid new ss formed there body grows sites =
    have_both x new.steps.items (items_in_all x.function.body) (x.function.close ∷ []) (have_kept x mid new (items_in_all x.function.body) grows (subst (λ ss. HaveSites x mid.steps.items (items_in_all ss)) body sites))
    (close_has x new.steps.items x.function.close (formed.closed x.function there))

-- ---- its graph

none_at : {A : Type 0} (n : ℕ) (y : A) → slice_get [] n ≡ Some y → ⊥
none_at n y e = cc

finished : (new : Builder) (b : Bool) (n : ℕ) (at : Step) → AllDrawn new.steps.items → ((n : ℕ) (at : Step) → slice_get new.steps.items n ≡ Some at → is_pending at ≡ true → ⊥) → slice_get new.steps.items n ≡ Some at → is_pending at ≡ b
    → AreLinks (length new.steps.items) at.node.instr n at.links
finished new true n at drawn none' is p = absurd (none' n at is p)
finished new false n at drawn none' is p = drawn n at is p

pub graph_added : (x : InFunction) (old new : Builder) (n : NodeId) (g : ControlFlow) → old.steps.items ≡ [] → old.registers ≡ x.function.locals → IsBounded x.source → IsInFunction x → AddsFunction x new n.0 → Grows x old new → HaveSites x new.steps.items (items_of x.function)
    → g.steps ≡ new.steps.items → g.entry ≡ n → g.registers ≡ new.registers → IsFlowOf x.source x.function g → IsGraphUnder x.source x.plan x.function g
graph_added x old new n g empty narrow bounded there adds grows sites steps entry registers flow =
    let none' : (n : ℕ) (at : Step) → slice_get new.steps.items n ≡ Some at → is_pending at ≡ true → ⊥ = λ n at is p. none_at n at (sym (ap (λ g. slice_get g n) empty) ∙ grows.pending n at is p) in
    let drawn : AllDrawn new.steps.items = grows.drawn (λ n at is made. absurd (none_at n at (sym (ap (λ g. slice_get g n) empty) ∙ is))) in
    let marked : AllMarked x new.steps.items = grows.marked (λ n at is. absurd (none_at n at (sym (ap (λ g. slice_get g n) empty) ∙ is))) in
    let few : x.function.locals ≤ 128 = (bounded.locals x.function there).2 in
    record {
      does = subst (λ s. IsGraphOf (code_in x) s g.entry.0 g.registers x.function) (sym steps)
          (subst (λ (e : NodeId). IsGraphOf (code_in x) new.steps.items e.0 g.registers x.function) (sym entry)
          (subst (λ w. IsGraphOf (code_in x) new.steps.items n.0 w x.function) (sym registers) (adds new.steps.items new.registers (omega arith) (λ n at is made. is))));
      drawn = subst IsDrawn (sym steps) (λ n at is. finished new (is_pending at) n at drawn none' is refl);
      marks = subst (λ s. (n : ℕ) (at : Step) → slice_get s n ≡ Some at → IsMarked (code_in x) x.function at.node) (sym steps) marked;
      sites = λ i s c own. subst (λ g. HasSite g s) (sym steps) ((sites.each i c).there s own.0 own.1);
      registers = (
        subst (λ w. x.function.locals ≤ w) (sym registers) (let le = grows.registers in omega (arith, le, narrow)),
        subst (λ w. w ≤ 256) (sym registers) (grows.narrow (omega (arith, narrow, few))),
      );
      flow = flow;
    }

same_function : (x y : Function) → Some x ≡ Some y → x ≡ y
same_function x y e = cc

pub graph_of_function : (p : Typed) (plan : Plan) (x : InFunction) (f : Function) (k : ℕ) (fn : Function) (old new : Builder) (n : NodeId) (g : ControlFlow) → x ≡ record { source = p; plan = plan; function = f } → slice_get p.functions k ≡ Some f → slice_get p.functions k ≡ Some fn
    → old.steps.items ≡ [] → old.registers ≡ f.locals → IsBounded x.source → IsInFunction x → AddsFunction x new n.0 → Grows x old new → HaveSites x new.steps.items (items_of x.function)
    → g.steps ≡ new.steps.items → g.entry ≡ n → g.registers ≡ new.registers → IsFlowOf p fn g → IsGraphUnder p plan fn g
graph_of_function p plan x f k fn old new n g same at at' empty narrow bounded there adds grows sites steps entry registers flow =
    let one : f ≡ fn = same_function f fn (sym at ∙ at') in
    let same' : x ≡ record { source = p; plan = plan; function = fn } = same ∙ ap (λ f. record { source = p; plan = plan; function = f }) one in
    subst (λ (x : InFunction). IsGraphUnder x.source x.plan x.function g) same'
    (graph_added x old new n g empty (narrow ∙ ap (λ (x : InFunction). x.function.locals) (sym same)) bounded there adds grows sites steps entry registers (subst (λ (x : InFunction). IsFlowOf x.source x.function g) (sym same') flow))

-- ---- the graphs of all functions

pub one_more_graph : (p : Typed) (plan : Plan) (gs hs : List ControlFlow) (g : ControlFlow) (k n : ℕ) → n ≡ k + 1 → hs ≡ gs ++ (g ∷ []) → AreSoFar p plan gs k → ((f : Function) → slice_get p.functions k ≡ Some f → IsGraphUnder p plan f g) → AreSoFar p plan hs n
one_more_graph p plan gs hs g k n next is so under = record {
  count = let e : length hs ≡ length (gs ++ (g ∷ [])) = ap length is in let l = length-append gs (g ∷ []) in let c = so.count in omega (arith, e, l, c, next);
  each = λ j f h at there. elim (old_or_end gs g j h (sym (ap (λ gs. slice_get gs j) is) ∙ there)) [
    | inl old ↦ so.each j f h at old
    | inr end ↦ subst (IsGraphUnder p plan f) end.1 (under f (ap (slice_get p.functions) (sym (end.0 ∙ so.count)) ∙ at))
  ];
}

-- What the innermost frame wants, and the site at which it stands.
use Rattle.std.proofs.Common.{◌≡◌, ℕ, Bool, true, false, List, [], ◌∷◌, ◌++◌, reverse, length, Option, Some, None, refl, sym, ap, ◌∙◌, subst, arith}
use Rattle.std.proofs.lemmas.List.{length-reverse, length-append}
use Rattle.ca_thread.specs.Asked.{last_or, wants_save}
use Rattle.std.specs.Prelude.{IsTrue, ◌↔◌, slice_get, option_map, IfSome}
use Rattle.ca_tree.specs.declared.numbers.ItemId.{ItemId}
use Rattle.ca_tree.specs.declared.numbers.SiteId.{SiteId}
use Rattle.ca_model.specs.declared.values.Value.{Value}
use Rattle.ca_model.specs.declared.values.FaultKind.TheVariants as fault
use Rattle.ca_model.specs.Asks.{Want, Returns, Faults, Got, Is, Wants, No_result}
use Rattle.ca_model.specs.Items.{Done}
use Rattle.ca_model.specs.Frames.{Code, Frame, begun, wanted}
use Rattle.ca_model.specs.Private.{stand, last_want, may_fault}
use Rattle.ca_model.specs.declared.values.FaultKind.{FaultKind}
use Rattle.ca_model.specs.Hardened.{site_of, taking}
use Rattle.ca_model.specs.declared.values.EventAct.{EventAct}
use Rattle.ca_flow.specs.declared.instr.AtSite.{AtSite}
use Rattle.ca_flow.specs.declared.instr.Step.{Step}
use Rattle.ca_flow.specs.Graphs.{ControlFlow}
use Rattle.ca_flow.specs.Instructions.{node_run, instr_run}
use Rattle.ca_flow.specs.Lowerings.{Lowering, rules_of, IsLowering, site_in}
use Rattle.ca_flow.proofs.Standing.{NotDone}
use Rattle.ca_thread.specs.declared.frames.RunningFrame.{RunningFrame as Running}
use Rattle.ca_thread.specs.Standing.{IsStanding, AreCallers, StandsFirst, AreStanding}
use Rattle.ca_thread.proofs.FrameLists.{turned_round, opened}
use Rattle.ca_thread.proofs.Tops.{graph_under, one_graph, node_there, same_want}

-- the innermost frame wants what its instruction asks for
pub record AtTop (l : Lowering) (xs : List Running) (top : Running) (at : Step) (h : List Frame) : Type 0 where
  pub frame : Frame
  pub rest : List Frame
  pub is : h ≡ frame ∷ rest
  pub stands : IsStanding l top frame
  pub below : AreCallers l (reverse xs) rest
  pub agrees : NotDone (rules_of l) stands.graph.steps (node_run at.node top.row []) (begun (rules_of l) frame)

not_none : (l : Lowering) (xs : List Running) (top : Running) → AreStanding l (xs ++ top ∷ []) [] → ⊥
not_none l xs top h = let k : StandsFirst l (top ∷ reverse xs) [] = subst (λ rows. StandsFirst l rows []) (turned_round xs top) h in k

pub at_top : (l : Lowering) (frames xs : List Running) (top : Running) (g : ControlFlow) (at : Step) (h : List Frame) → frames ≡ xs ++ top ∷ [] → slice_get l.graphs top.function.0 ≡ Some g → slice_get g.steps top.node.0 ≡ Some at
    → AreStanding l frames h → AtTop l xs top at h
at_top l frames xs top g at [] is graph node standing = absurd (not_none l xs top (subst (λ r. AreStanding l r []) is standing))
at_top l frames xs top g at (f ∷ fs) is graph node standing =
    let parts = opened l xs top f fs (subst (λ r. AreStanding l r (f ∷ fs)) is standing) in
    let s : IsStanding l top f = parts.0 in
    let same : g ≡ s.graph = one_graph l top.function.0 g s.graph graph s.found in
    let there : slice_get s.graph.steps top.node.0 ≡ Some at = subst (λ (g : ControlFlow). slice_get g.steps top.node.0 ≡ Some at) same node in
    record { frame = f; rest = fs; is = refl; stands = s; below = parts.1; agrees = same_want l top f s at there }

-- where it stands there is a node
pub node_missing : (l : Lowering) (frames xs : List Running) (top : Running) (h : List Frame) → frames ≡ xs ++ top ∷ [] → ((g : ControlFlow) → slice_get l.graphs top.function.0 ≡ Some g → slice_get g.steps top.node.0 ≡ None) → AreStanding l frames h → ⊥
node_missing l frames xs top [] is none standing = not_none l xs top (subst (λ r. AreStanding l r []) is standing)
node_missing l frames xs top (f ∷ fs) is none standing =
    let s = (opened l xs top f fs (subst (λ r. AreStanding l r (f ∷ fs)) is standing)).0 in
    let there = node_there l top f s in
    let never : Some there.0 ≡ None = sym there.1 ∙ none s.graph s.found in absurd (cc)

pub last_site : (w : Want) (fs : List Frame) → site_of (last_want w fs) ≡ site_of w
last_site (Returns x) [] = refl
last_site (Returns x) (f ∷ fs) = refl
last_site _ fs = refl

by_got : (l : Lowering) (g : List Step) (d : Got (List Value × Bool)) (e : Got Done) (fs : List Frame) (o : Option SiteId) → NotDone (rules_of l) g d e → ((w : Want) → d ≡ Wants w → site_of w ≡ o) → (d ≡ No_result → o ≡ None) → o ≡ site_of (last_want (wanted e) fs)
by_got l g (Is s rest) e fs o h one none = absurd h
by_got l g (Wants w) e fs o h one none = sym (ap (λ x. site_of (last_want (wanted x) fs)) h ∙ (last_site w fs ∙ one w refl))
by_got l g No_result e fs o h one none = none refl ∙ sym (ap (λ x. site_of (last_want (wanted x) fs)) h)

pub site_wanted : (l : Lowering) (xs : List Running) (top : Running) (at : Step) (h : List Frame) (mark : Option AtSite) → AtTop l xs top at h
    → ((i : ItemId) (r : List Value) (w : Want) → instr_run at.node.instr i r [] ≡ Wants w → site_of w ≡ option_map (λ (a : AtSite). a.site) mark)
    → ((i : ItemId) (r : List Value) → instr_run at.node.instr i r [] ≡ No_result → mark ≡ None) → option_map (λ (a : AtSite). a.site) mark ≡ site_of (stand (rules_of l) h).want
site_wanted l xs top at h mark t one none =
    by_got l t.stands.graph.steps (node_run at.node top.row []) (begun (rules_of l) t.frame) t.rest (option_map (λ (a : AtSite). a.site) mark) t.agrees (λ w e. one at.node.item top.row w e) (λ e. ap (option_map (λ (a : AtSite). a.site)) (none at.node.item top.row e))
    ∙ sym (ap (λ k. site_of (stand (rules_of l) k).want) t.is)

pub mark_planned : (l : Lowering) (is : IsLowering l) (k n : ℕ) (g : ControlFlow) (at : Step) (mark : Option AtSite) → slice_get l.graphs k ≡ Some g → slice_get g.steps n ≡ Some at → mark ≡ site_in at.node.instr
    → IfSome mark (λ a. a.planned ≡ (rules_of l).planned a.site)
mark_planned l is k n g at None graph node same = tt
mark_planned l is k n g at (Some a) graph node same = (((graph_under l is k g graph).2.marks n at node).site a (sym same)).1

-- what holds of the want of the innermost frame holds of the thread's
by_each : (l : Lowering) (g : List Step) (d : Got (List Value × Bool)) (e : Got Done) (fs : List Frame) (P : Want → Type 0) → NotDone (rules_of l) g d e → ((w : Want) → d ≡ Wants w → P (last_want w fs)) → (d ≡ No_result → P (Faults fault.Arith)) → P (last_want (wanted e) fs)
by_each l g (Is s rest) e fs P h one none = absurd h
by_each l g (Wants w) e fs P h one none = subst (λ x. P (last_want (wanted x) fs)) (sym h) (one w refl)
by_each l g No_result e fs P h one none = subst (λ x. P (last_want (wanted x) fs)) (sym h) (none refl)

no_callers : (l : Lowering) (xs : List Running) → AreCallers l (reverse xs) [] → length xs ≡ 0
no_callers l xs c = sym (length-reverse xs) ∙ at (reverse xs) c
  where
    at : (ys : List Running) → AreCallers l ys [] → length ys ≡ 0
    at [] c = refl
    at (y ∷ ys) c = absurd c

some_callers : (l : Lowering) (xs : List Running) (f : Frame) (fs : List Frame) → AreCallers l (reverse xs) (f ∷ fs) → length xs ≡ 0 → ⊥
some_callers l xs f fs c e = at (reverse xs) (length-reverse xs ∙ e) c
  where
    at : (ys : List Running) → length ys ≡ 0 → AreCallers l ys (f ∷ fs) → ⊥
    at [] e c = c
    at (y ∷ ys) e c = let no : ⊥ = omega (arith, e) in no

last_true : (w : Want) → last_want w [] ≡ last_or true w
last_true (Returns x) = refl
last_true _ = refl

last_false : (w : Want) (f : Frame) (fs : List Frame) → last_want w (f ∷ fs) ≡ last_or false w
last_false (Returns x) f fs = refl
last_false _ f fs = refl

agrees : (l : Lowering) (xs : List Running) (top : Running) (rest : List Frame) (b : Bool) (w : Want) → AreCallers l (reverse xs) rest → (IsTrue b ↔ (length (xs ++ top ∷ []) ≡ 1)) → last_or b w ≡ last_want w rest
agrees l xs top [] true w c one = sym (last_true w)
agrees l xs top [] false w c one =
    let long : length (xs ++ top ∷ []) ≡ 1 = omega (arith, length-append xs (top ∷ []), no_callers l xs c) in
    let never : false ≡ true = one.1 long in absurd (cc)
agrees l xs top (f ∷ fs) true w c one =
    let long : length (xs ++ top ∷ []) ≡ 1 = one.0 refl in
    absurd (some_callers l xs f fs c (omega (arith, length-append xs (top ∷ []), long)))
agrees l xs top (f ∷ fs) false w c one = sym (last_false w f fs)

pub thread_wants : (l : Lowering) (frames xs : List Running) (top : Running) (at : Step) (h : List Frame) (b : Bool) (P : Want → Type 0) → frames ≡ xs ++ top ∷ [] → AtTop l xs top at h → (IsTrue b ↔ (length frames ≡ 1))
    → ((w : Want) → node_run at.node top.row [] ≡ Wants w → P (last_or b w)) → (node_run at.node top.row [] ≡ No_result → P (Faults fault.Arith)) → P (stand (rules_of l) h).want
thread_wants l frames xs top at h b P is t one wants none =
    let count = subst (λ (r : List Running). IsTrue b ↔ (length r ≡ 1)) is one in
    subst (λ k. P (stand (rules_of l) k).want) (sym t.is)
    (by_each l t.stands.graph.steps (node_run at.node top.row []) (begun (rules_of l) t.frame) t.rest P t.agrees (λ w e. subst P (agrees l xs top t.rest b w t.below count) (wants w e)) none)

-- the same for what a want and the want of a last frame have in common
pub thread_wants_alike : (l : Lowering) (xs : List Running) (top : Running) (at : Step) (h : List Frame) (P : Want → Type 0) → AtTop l xs top at h → ((w : Want) (fs : List Frame) → P w → P (last_want w fs))
    → ((w : Want) → node_run at.node top.row [] ≡ Wants w → P w) → (node_run at.node top.row [] ≡ No_result → P (Faults fault.Arith)) → P (stand (rules_of l) h).want
thread_wants_alike l xs top at h P t last wants none =
    subst (λ k. P (stand (rules_of l) k).want) (sym t.is)
    (by_each l t.stands.graph.steps (node_run at.node top.row []) (begun (rules_of l) t.frame) t.rest P t.agrees (λ w e. last w t.rest (wants w e)) none)

pub taking_last : (w : Want) (fs : List Frame) (code : Code) (a : EventAct) → taking code w a ≡ taking code (last_want w fs) a
taking_last (Returns x) [] code a = refl
taking_last (Returns x) (f ∷ fs) code a = refl
taking_last _ fs code a = refl

pub fault_last : (w : Want) (fs : List Frame) (k : FaultKind) → may_fault w k ≡ may_fault (last_want w fs) k
fault_last (Returns x) [] k = refl
fault_last (Returns x) (f ∷ fs) k = refl
fault_last _ fs k = refl

pub save_last : (w : Want) (fs : List Frame) → wants_save w ≡ wants_save (last_want w fs)
save_last (Returns x) [] = refl
save_last (Returns x) (f ∷ fs) = refl
save_last _ fs = refl

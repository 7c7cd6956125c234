-- A running frame goes on with the frame that it stands for.
use Rattle.std.proofs.Common.{◌≡◌, ℕ, ◌<◌, Bool, true, List, [], ◌++◌, length, Option, Some, None, refl, sym, ap, ◌∙◌, subst, arith}
use Rattle.std.specs.Prelude.{slice_get, take, replicate}
use Rattle.std.proofs.lemmas.Option.{slice_get_within}
use Rattle.ca_tree.specs.declared.numbers.FunId.{FunId}
use Rattle.ca_tree.specs.declared.numbers.ItemId.{ItemId}
use Rattle.ca_model.specs.declared.values.Value.{Value}
use Rattle.ca_model.specs.declared.tree.Function.{Function}
use Rattle.ca_model.specs.Arith.{null}
use Rattle.ca_model.specs.Asks.{Want, Got, Is, Wants, No_result}
use Rattle.ca_model.specs.Begun.{IsReturn}
use Rattle.ca_model.specs.Items.{Done}
use Rattle.ca_model.specs.Frames.{Frame, begun, answered, frame_of}
use Rattle.ca_model.proofs.KnownWants.{answered_placed, frame_placed}
use Rattle.ca_flow.specs.declared.instr.Instr.{Instr}
use Rattle.ca_flow.specs.declared.instr.Instr.TheVariants as instr
use Rattle.ca_flow.specs.declared.instr.Step.{Step}
use Rattle.ca_flow.specs.Graphs.{ControlFlow, link_count, AreLinks}
use Rattle.ca_flow.specs.Instructions.{instr_run, node_run, toward}
use Rattle.ca_flow.specs.Lowerings.{Lowering, rules_of, IsLowering, IsGraphUnder}
use Rattle.ca_flow.proofs.Standing.{wants, there_is, NotDone}
use Rattle.ca_flow.proofs.Starting.{starts}
use Rattle.ca_flow.proofs.SiteItems.{at_place}
use Rattle.ca_thread.specs.declared.frames.RunningFrame.{RunningFrame as Running}
use Rattle.ca_thread.specs.Silent.{Silent, StopsAt}
use Rattle.ca_thread.specs.Standing.{IsWaiting, Answered, IsStanding}
use Rattle.ca_thread.proofs.Along.{answered_along, silent_along}
use Rattle.ca_thread.proofs.Falling.{lacks_link}

-- the graph of a number is one of a function
pub graph_under : (l : Lowering) → IsLowering l → (k : ℕ) (g : ControlFlow) → slice_get l.graphs k ≡ Some g → (f : Function) × (slice_get l.source.functions k ≡ Some f) × IsGraphUnder l.source l.plan f g
graph_under l is k g at =
    let within : k < length l.graphs = slice_get_within l.graphs k g at in
    let f = at_place l.source.functions k (omega (arith, within, is.graphs.count)) in
    (f.0, f.1, is.graphs.each k f.0 g f.1 at)

module _ (l : Lowering) (x : Running) (f : Frame) (s : IsStanding l x f) where
  -- where it stands there is a node, and the frame wants what its instruction asks for
  pub node_there : (at : Step) × (slice_get s.graph.steps x.node.0 ≡ Some at)
  node_there = there_is (rules_of l) s.graph.steps x.node.0 x.row f s.placed.stands s.stands

  pub same_want : (at : Step) → slice_get s.graph.steps x.node.0 ≡ Some at → NotDone (rules_of l) s.graph.steps (node_run at.node x.row []) (begun (rules_of l) f)
  same_want at is = wants (rules_of l) s.graph.steps x.node.0 x.row at f is (s.stops at is) s.placed.stands s.stands

  by_want : (d : Got (List Value × Bool)) (e : Got Done) (w : Want) → NotDone (rules_of l) s.graph.steps d e → e ≡ Wants w → d ≡ Wants w
  by_want (Is t rest) e w h is = absurd h
  by_want (Wants v) e w h is = cc
  by_want No_result e w h is = cc

  pub asks_for : (at : Step) (w : Want) → slice_get s.graph.steps x.node.0 ≡ Some at → begun (rules_of l) f ≡ Wants w → node_run at.node x.row [] ≡ Wants w
  asks_for at w is asks = by_want (node_run at.node x.row []) (begun (rules_of l) f) w (same_want at is) asks

waits : (d : Got (List Value × Bool)) (w : Want) → d ≡ Wants w → IsWaiting d
waits (Is s rest) w is = absurd (cc)
waits (Wants v) w is = tt
waits No_result w is = absurd (cc)

-- only a return has no link
returns_alone : (c : Instr) (i : ItemId) (r : List Value) (w : Want) → link_count c ≡ 0 → instr_run c i r [] ≡ Wants w → IsReturn w
returns_alone (instr.Return a) i r w h is = subst IsReturn (wanted is) tt
  where
    wanted : {v u : Want} → ◌≡◌ {A = Got (List Value × Bool)} (Wants v) (Wants u) → v ≡ u
    wanted e = cc
returns_alone (instr.Branch a) i r w h is = absurd (let no : ⊥ = omega (arith, h) in no)
returns_alone _ i r w h is = absurd (let no : ⊥ = omega (arith, h) in no)

linked : (size n : ℕ) (at : Step) (r : List Value) (w : Want) → AreLinks size at.node.instr n at.links → node_run at.node r [] ≡ Wants w → (IsReturn w → ⊥) → (m : ℕ) × (toward at.links true ≡ Some m)
linked size n at r w are is other = by_link (toward at.links true) refl
  where
    by_link : (o : Option ℕ) → toward at.links true ≡ o → (m : ℕ) × (toward at.links true ≡ Some m)
    by_link (Some m) e = (m, e)
    by_link None e = absurd (other (returns_alone at.node.instr at.node.item r w (lacks_link size n at.node.instr at.links true are e) is))

-- it goes on by an answer
pub answered_standing : (l : Lowering) (x y : Running) (f : Frame) (v : Value) (w : Want) → IsLowering l → (s : IsStanding l x f) → begun (rules_of l) f ≡ Wants w → (IsReturn w → ⊥)
    → Answered s.graph.steps v x.node.0 x.row y.node.0 y.row → y.function ≡ x.function → IsStanding l y (answered (rules_of l) f v)
answered_standing l x y f v w is s asks other does same =
    let at = node_there l x f s in
    let under = graph_under l is x.function.0 s.graph s.found in
    let asked : node_run at.0.node x.row [] ≡ Wants w = asks_for l x f s at.0 w at.1 asks in
    let link = linked (length s.graph.steps) x.node.0 at.0 x.row w (under.2.drawn x.node.0 at.0 at.1) asked other in
    let after = answered_along (rules_of l) s.graph.steps v x.node.0 y.node.0 link.0 x.row y.row w at.0 f does at.1 (waits (node_run at.0.node x.row []) w asked) link.1 asks s.stands in
    record {
      graph = s.graph;
      found = ap (λ (i : FunId). slice_get l.graphs i.0) same ∙ s.found;
      stands = after.0;
      stops = after.2;
      placed = answered_placed l.source (rules_of l) f w v s.placed asks other;
    }

-- where a call begins
pub begun_standing : (l : Lowering) (fn : Function) (g : ControlFlow) (f : FunId) (xs r : List Value) (y : Running) → IsLowering l → slice_get l.source.functions f.0 ≡ Some fn → slice_get l.graphs f.0 ≡ Some g
    → length r ≡ g.registers → take fn.locals r ≡ take fn.locals (xs ++ replicate fn.locals null) → Silent g.steps g.entry.0 r y.node.0 y.row → StopsAt g.steps y.node.0 y.row → y.function ≡ f → IsStanding l y (frame_of (rules_of l) f xs)
begun_standing l fn g f xs r y is at graph wide args along stops same =
    let under = is.graphs.each f.0 fn g at graph in
    let number : fn.id.0 ≡ f.0 = is.formed.functions f.0 fn at in
    let id : fn.id ≡ f = ap (λ (n : ℕ). let h : FunId = record { 0 = n } in h) number in
    let within : f.0 < length l.source.functions = slice_get_within l.source.functions f.0 fn at in
    let placed = frame_placed l.source (rules_of l) is.formed refl f xs within in
    let first = starts (rules_of l) g.steps g.entry.0 g.registers fn f xs r under.does id at (omega (arith, wide)) args in
    record {
      graph = g;
      found = ap (λ (i : FunId). slice_get l.graphs i.0) same ∙ graph;
      stands = silent_along (rules_of l) g.steps g.entry.0 y.node.0 r y.row (frame_of (rules_of l) f xs) along placed.stands first;
      stops = stops;
      placed = placed;
    }

-- a number has one graph
pub one_graph : (l : Lowering) (k : ℕ) (g h : ControlFlow) → slice_get l.graphs k ≡ Some g → slice_get l.graphs k ≡ Some h → g ≡ h
one_graph l k g h a b = ap (λ o. elim o [ None ↦ g | Some z ↦ z ]) (sym a ∙ b)

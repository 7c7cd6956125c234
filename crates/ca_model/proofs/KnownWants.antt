-- What a frame of a well-formed source wants: always something, and no mutex or function that isn't there.
use Rattle.std.proofs.Common.{◌≡◌, ℕ, zero, suc, ◌<◌, Bool, true, false, List, [], ◌∷◌, ◌++◌, length, Option, Some, None, refl, sym, ap, ◌∙◌, subst, inl, inr}
use Rattle.std.specs.Prelude.{nat_lt, slice_get, Contains}
use Rattle.std.proofs.lemmas.Bool.{and_parts}
use Rattle.std.proofs.lemmas.Bool.Decides.{Decides-ltb}
use Rattle.std.proofs.lemmas.Option.{slice_get_within, get_or_from_slice_get}
use Rattle.ca_tree.specs.declared.numbers.FunId.{FunId}
use Rattle.ca_tree.specs.declared.numbers.ItemId.{ItemId}
use Rattle.ca_model.specs.declared.values.Value.{Value}
use Rattle.ca_model.specs.declared.values.FaultKind.TheVariants as fault
use Rattle.ca_model.specs.declared.tree.Target.{Target}
use Rattle.ca_model.specs.declared.tree.Target.TheVariants as target
use Rattle.ca_model.specs.declared.tree.Act.{Act}
use Rattle.ca_model.specs.declared.tree.Act.TheVariants as act
use Rattle.ca_model.specs.declared.tree.Item.{Item}
use Rattle.ca_model.specs.declared.tree.Stmt.{Stmt, out-Stmt, map-Stmt}
use Rattle.ca_model.specs.declared.tree.Stmt.TheOpen.{Stmt-F}
use Rattle.ca_model.specs.declared.tree.Function.{Function}
use Rattle.ca_model.specs.Asks.{Want, Locks, Creates, Calls, Turns, Faults, Saves, Ended, Got, Is, Wants, No_result}
use Rattle.ca_model.specs.Items.{Done, act_run}
use Rattle.ca_model.specs.Frames.{Code, Left, Enter, Begin, After, Run, Loop, Next, Leave, Frame, mark, item_run, stmt_run, left_run, first_run, begun, gives_way, settle, wanted, answered, entered, frame_of, first_weight}
use Rattle.ca_model.specs.Begun.{IsReturn}
use Rattle.ca_model.specs.Codes.{Typed}
use Rattle.ca_model.specs.Laws.{OnWants, AsksOnly, Stands}
use Rattle.ca_model.specs.WellFormed.{is_simple, is_condition, knows, placed_step, is_placed, IsWellFormed}
use Rattle.ca_model.proofs.OwnWants.{OwnStores, OwnWants, act_only, only_then, only_ask}
use Rattle.ca_model.proofs.Silent.{answer_used, step_by, none_over, answered_stands, started_stands}
use Rattle.ca_model.proofs.Law.{get_one}
use Rattle.ca_model.proofs.Rests.{IsRest, IsClosing, rest_on, rest_of_all, placed_out}

module _ (p : Typed) where
  -- the mutex or function that is wanted is there, and a fault is one of values
  abbrev pub IsKnown : Want → Type 0
  IsKnown (Locks m s i) = m.0 < p.mutexes
  IsKnown (Creates f x) = f.0 < length p.functions
  IsKnown (Calls f xs) = f.0 < length p.functions
  IsKnown (Faults k) = k ≡ fault.Arith
  IsKnown Ended = ⊥
  IsKnown _ = Unit {0}

  below : (m n : ℕ) → nat_lt m n ≡ true → m < n
  below m n h = (Decides-ltb m n).0 h

  stores_known : (t : Target) → OwnStores IsKnown t
  stores_known (target.Local x) = tt
  stores_known (target.Place q) = λ at by x s. tt

  act_known : (a : Act) (i : ItemId) → knows p a ≡ true → OwnWants IsKnown a i
  act_known (act.Zero x) i h = tt
  act_known (act.Set t e) i h = stores_known t
  act_known (act.Update t o e) i h = stores_known t
  act_known (act.Malloc t c n) i h = ((λ cells. tt), stores_known t)
  act_known (act.Call x f es) i h = λ xs. below _ _ h
  act_known (act.Lock m) i h = λ s. below _ _ h
  act_known (act.Unlock m) i h = tt
  act_known (act.Create x f e) i h = λ y. below _ _ h
  act_known (act.Join e) i h = λ n. tt
  act_known (act.Free e) i h = λ x s. tt
  act_known (act.Assert e) i h = λ s. tt
  act_known (act.Print t es) i h = λ text. tt
  act_known (act.Return e) i h = λ x. tt
  act_known (act.Cond e) i h = tt
  act_known act.Close i h = λ x. tt

  module _ (code : Code) where
    item_known : (i : Item) (l : List Value) → knows p i.act ≡ true → AsksOnly IsKnown (item_run code i l)
    item_known i l h = act_only IsKnown (λ at by k s. tt) i.act i.id (act_known i.act i.id h) l (code.first_site i.id)

    knows_condition : (a : Act) → is_condition a ≡ true → knows p a ≡ true
    knows_condition (act.Cond e) h = refl
    knows_condition _ h = cc

    knows_close : (a : Act) → a ≡ act.Close → knows p a ≡ true
    knows_close a e = ap (knows p) e

    mark_known : (b : Bool) (l : List Value) → AsksOnly IsKnown (mark b l)
    mark_known true l = only_then IsKnown _ _ (only_ask IsKnown Saves tt) (λ x ys. tt)
    mark_known false l = λ xs. tt

    stmt_known : (x : Stmt-F Stmt) (b : Bool) (l : List Value) → placed_step p (map-Stmt Stmt (Bool → Bool) (is_placed p) x) b ≡ true → AsksOnly IsKnown (stmt_run code x l)
    stmt_known (Stmt-F.Item i) b l h = item_known i l (and_parts (is_simple i.act) (knows p i.act) h).1
    stmt_known (Stmt-F.If c one other) b l h = item_known c l (knows_condition c.act (and_parts (is_condition c.act) _ h).0)
    stmt_known _ b l h = λ xs. tt

    left_known : (x : Left) (ls : List Left) → IsRest p (x ∷ ls) → (l : List Value) → AsksOnly IsKnown (left_run code x l)
    left_known (Enter f) ls r l = mark_known (code.saves_at_entry f) l
    left_known (After i) ls r l = mark_known (code.saves_after i) l
    left_known (Begin i) ls (inl c) l = item_known i l (knows_close i.act c.0)
    left_known (Begin i) ls (inr r) l = item_known i l (and_parts _ (knows p i.act) (and_parts (is_simple i.act) _ r.0).1).1
    left_known (Run s) ls r l = stmt_known (out-Stmt s) r.0.0 l (placed_out p s r.0.0 r.0.1)
    left_known (Loop c body step) ls r l = only_then IsKnown _ _ (only_ask IsKnown Turns tt) (λ x. item_known c l (knows_condition c.act r.0.0))
    left_known Next ls r l = λ xs. tt
    left_known Leave ls r l = λ xs. tt

    first_known : (ls : List Left) → IsRest p ls → (l : List Value) → AsksOnly IsKnown (first_run code ls l)
    first_known [] r l = absurd r
    first_known (x ∷ ls) r l = left_known x ls r l

    -- a frame of a well-formed source, where it stands
    pub record IsPlaced (f : Frame) : Type 0 where
      pub rest : IsRest p f.left
      pub stands : Stands (begun code f)

    -- what it wants is known
    by_got : (g : Got Done) → OnWants IsKnown g → Stands g → IsKnown (wanted g)
    by_got (Is d rest) k s = absurd s
    by_got (Wants w) k s = k
    by_got No_result k s = refl

    pub wants_known : (f : Frame) → IsPlaced f → IsKnown (wanted (begun code f))
    wants_known f g = by_got (begun code f) (first_known f.left g.rest f.locals f.answers) g.stands

    -- a closing brace is not done without an answer, and wants to return
    close_wants : (a : Act) (i : ItemId) (l xs : List Value) (s : ℕ) → a ≡ act.Close → act_run a i l s xs ≡ act_run act.Close i l s xs
    close_wants a i l xs s e = ap (λ a. act_run a i l s xs) e

    not_closing : (ls : List Left) (l : List Value) (d : Done) (rest : List Value) → first_run code ls l [] ≡ Is d rest → IsClosing p ls → ⊥
    not_closing (Begin i ∷ ls) l d rest is c = let no : act_run act.Close i.id l (code.first_site i.id) [] ≡ Is d rest = sym (close_wants i.act i.id l [] _ c) ∙ is in cc
    not_closing _ l d rest is c = absurd c

    returning : (i : ItemId) (l xs : List Value) (s : ℕ) (w : Want) → act_run act.Close i l s xs ≡ Wants w → IsReturn w
    returning i l [] s w is = subst (OnWants IsReturn) is tt
    returning i l (x ∷ xs) s w is = cc

    not_closing_yet : (ls : List Left) (l xs : List Value) (w : Want) → first_run code ls l xs ≡ Wants w → (IsReturn w → ⊥) → IsClosing p ls → ⊥
    not_closing_yet (Begin i ∷ ls) l xs w is more c = more (returning i.id l xs (code.first_site i.id) w (sym (close_wants i.act i.id l xs (code.first_site i.id) c) ∙ is))
    not_closing_yet _ l xs w is more c = absurd c

    -- silent steps keep what may be left
    steps_keep : (n : ℕ) (f : Frame) (g : Got Done)
        → IsRest p f.left
        → ((d : Done) (rest : List Value) → g ≡ Is d rest → (rest ≡ []) × (IsClosing p f.left → ⊥))
        → ((h : Frame) → h.answers ≡ [] → IsRest p h.left → IsRest p (settle code n h).left)
        → IsRest p (step_by code n f g).left
    steps_keep n f (Is d rest) r few more = more (gives_way f d rest) (few d rest refl).0 (rest_on p f.left d.truth r (few d rest refl).1)
    steps_keep n f (Wants w) r few more = r
    steps_keep n f No_result r few more = r

    settle_keeps : (n : ℕ) (f : Frame) → f.answers ≡ [] → IsRest p f.left → IsRest p (settle code n f).left
    settle_keeps zero f empty r = r
    settle_keeps (suc n) f empty r =
        steps_keep n f (begun code f) r
        (λ d rest is.
        let at : first_run code f.left f.locals [] ≡ Is d rest = ap (first_run code f.left f.locals) (sym empty) ∙ is in
        (none_over code f.left f.locals d rest at, not_closing f.left f.locals d rest at))
        (settle_keeps n)

    answer_keeps : (n : ℕ) (f : Frame) (w : Want) (x : Value) → begun code f ≡ Wants w → (IsReturn w → ⊥) → IsRest p f.left
        → IsRest p (settle code n (record f { answers = f.answers ++ x ∷ [] })).left
    answer_keeps zero f w x is more r = r
    answer_keeps (suc n) f w x is more r =
        let now : Frame = record f { answers = f.answers ++ x ∷ [] } in
        steps_keep n now (begun code now) r
        (λ d rest done. (answer_used code f w x is d rest done, not_closing_yet f.left f.locals f.answers w is more))
        (settle_keeps n)

    -- an answer to anything but a return keeps a frame placed
    pub answered_placed : (f : Frame) (w : Want) (x : Value) → IsPlaced f → begun code f ≡ Wants w → (IsReturn w → ⊥) → IsPlaced (answered code f x)
    answered_placed f w x g is more = record { rest = answer_keeps (first_weight f.left) f w x is more g.rest; stands = answered_stands code f w x is }

    module _ (wf : IsWellFormed p) (same : code.functions ≡ p.functions) where
      entered_rest : (f : FunId) (xs : List Value) (fn : Function) → Contains p.functions fn → IsRest p (entered f xs (Some fn)).left
      entered_rest f xs fn c = rest_of_all p fn.body false (Begin fn.close ∷ []) (wf.placed fn c) (λ e. cc) (inl (wf.closed fn c, refl))

      entered_keeps : (f : FunId) (xs : List Value) (o : Option Function) (n : ℕ) → IsRest p (entered f xs o).left → IsRest p (settle code n (entered f xs o)).left
      entered_keeps f xs None n r = absurd r
      entered_keeps f xs (Some fn) n r = settle_keeps n (entered f xs (Some fn)) refl r

      -- a function that is there begins placed
      pub frame_placed : (f : FunId) (xs : List Value) → f.0 < length p.functions → IsPlaced (frame_of code f xs)
      frame_placed f xs lt =
          let one = get_one p.functions f.0 lt in
          let at : slice_get code.functions f.0 ≡ Some one.0 = ap (λ fs. slice_get fs f.0) same ∙ one.1 in
          let has : Contains p.functions one.0 = (f.0, slice_get_within p.functions f.0 one.0 one.1, get_or_from_slice_get p.functions f.0 one.0 one.0 one.1) in
          let r : IsRest p (entered f xs (slice_get code.functions f.0)).left = subst (λ o. IsRest p (entered f xs o).left) (sym at) (entered_rest f xs one.0 has) in
          record { rest = entered_keeps f xs (slice_get code.functions f.0) (first_weight (entered f xs (slice_get code.functions f.0)).left) r; stands = started_stands code f xs }

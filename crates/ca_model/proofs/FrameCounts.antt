-- The entries of a run tell how many frames its threads have.
use Rattle.std.proofs.Common.{◌≡◌, ℕ, zero, suc, ◌+◌, ◌≤◌, Bool, true, false, cond, List, [], ◌∷◌, ◌++◌, length, Option, Some, None, refl, sym, ap, ◌∙◌, subst, arith, inl, inr, length-append, append-nil, append_assoc}
use Rattle.std.specs.Prelude.{slice_get, slice_set, sum_by, nat_eq, is_some, unwrap_or, nat_lt, ◌-◌, ◌&&◌, if◌then◌else◌}
use Rattle.std.proofs.lemmas.Bool.{eq-eqb, cond-true, lt-ltb}
use Rattle.std.proofs.lemmas.List.Sums.{sum_by-cons}
use Rattle.std.proofs.lemmas.Bool.Decides.{eqb_tells}
use Rattle.std.proofs.lemmas.Option.{slice_get_within}
use Rattle.ca_tree.specs.declared.numbers.ItemId.{ItemId}
use Rattle.ca_tree.specs.declared.numbers.SiteId.{SiteId}
use Rattle.ca_model.specs.declared.values.Value.{Value}
use Rattle.ca_model.specs.declared.values.Given.{Given}
use Rattle.ca_model.specs.declared.values.Event.{Event}
use Rattle.ca_model.specs.declared.values.EventAct.{EventAct}
use Rattle.ca_model.specs.declared.values.EventAct.TheVariants as act
use Rattle.ca_model.specs.declared.tree.Target.{Target}
use Rattle.ca_model.specs.declared.tree.Target.TheVariants as target
use Rattle.ca_model.specs.declared.tree.Act.{Act}
use Rattle.ca_model.specs.declared.tree.Act.TheVariants as acts
use Rattle.ca_model.specs.declared.tree.Item.{Item}
use Rattle.ca_model.specs.declared.tree.Stmt.{Stmt, out-Stmt}
use Rattle.ca_model.specs.declared.tree.Stmt.TheOpen.{Stmt-F}
use Rattle.ca_model.specs.Arith.{null}
use Rattle.ca_model.specs.Asks.{Want, Reads, Writes, Locks, Unlocks, Mallocs, Frees, Prints, Creates, Joins, Calls, Returns, Turns, Ends, Saves, Ended, Got, Is, Wants, No_result}
use Rattle.ca_model.specs.Items.{Done}
use Rattle.ca_model.specs.Frames.{Code, Frame, Left, Enter, Begin, After, Run, Loop, Next, Leave, mark, item_run, stmt_run, left_run, first_run, begun, wanted}
use Rattle.ca_model.specs.Private.{Thread, stand, stand_at, last_want, gone, answer, after_entry}
use Rattle.ca_model.specs.Shared.{effect}
use Rattle.ca_model.specs.Machine.{Rules, State, Step, own_of, started, created, threads_after}
use Rattle.ca_model.specs.Machine as machine
use Rattle.ca_model.specs.Source.{source, plain}
use Rattle.ca_model.specs.Hardened.{Hardened, Saved, hardened, hardened_advance, retry_site, took, taking, is_failing}
use Rattle.ca_model.specs.Codes.{Typed}
use Rattle.ca_model.specs.Opening.{opening}
use Rattle.ca_model.specs.Laws.{OnWants, AsksOnly}
use Rattle.ca_model.specs.FrameCounts.{Depth, first_depth, deeper, depth_after, depth_of, frames_below, FramesAreTold}
use Rattle.ca_model.proofs.Law.{one_of, own_join, get_either, get_set, length_set, count_after, same_parts}
use Rattle.ca_model.proofs.Creates.{source_creates, hardened_creates}
use Rattle.ca_model.proofs.OwnWants.{OwnStores, OwnWants, act_only, only_then, only_ask}
use Rattle.ca_model.proofs.FramesInPlace.{entry_is, IsFault}
use Rattle.ca_model.proofs.HardenedInPlace.{with_is, saves_is, retried_is}

-- no frame wants to end: that is the return from the last one
abbrev OtherThanEnds : Want → Type 0
OtherThanEnds Ends = ⊥
OtherThanEnds _ = Unit {0}

stores : (t : Target) → OwnStores OtherThanEnds t
stores (target.Local x) = tt
stores (target.Place q) = λ at by x s. tt

own : (a : Act) (i : ItemId) → OwnWants OtherThanEnds a i
own (acts.Zero x) i = tt
own (acts.Set t e) i = stores t
own (acts.Update t o e) i = stores t
own (acts.Malloc t c n) i = ((λ cells. tt), stores t)
own (acts.Call x f es) i = λ xs. tt
own (acts.Lock m) i = λ s. tt
own (acts.Unlock m) i = tt
own (acts.Create x f e) i = λ y. tt
own (acts.Join e) i = λ n. tt
own (acts.Free e) i = λ x s. tt
own (acts.Assert e) i = λ s. tt
own (acts.Print t es) i = λ text. tt
own (acts.Return e) i = λ x. tt
own (acts.Cond e) i = tt
own acts.Close i = λ x. tt

module _ (code : Code) where
  item_ends : (i : Item) (l : List Value) → AsksOnly OtherThanEnds (item_run code i l)
  item_ends i l = act_only OtherThanEnds (λ at by k s. tt) i.act i.id (own i.act i.id) l (code.first_site i.id)

  stmt_ends : (s : Stmt-F Stmt) (l : List Value) → AsksOnly OtherThanEnds (stmt_run code s l)
  stmt_ends (Stmt-F.Item i) l = item_ends i l
  stmt_ends (Stmt-F.If c one other) l = item_ends c l
  stmt_ends _ l = λ xs. tt

  mark_ends : (b : Bool) (l : List Value) → AsksOnly OtherThanEnds (mark b l)
  mark_ends true l = only_then OtherThanEnds _ _ (only_ask OtherThanEnds Saves tt) (λ x xs. tt)
  mark_ends false l = λ xs. tt

  left_ends : (x : Left) (l : List Value) → AsksOnly OtherThanEnds (left_run code x l)
  left_ends (Enter f) l = mark_ends (code.saves_at_entry f) l
  left_ends (After i) l = mark_ends (code.saves_after i) l
  left_ends (Begin i) l = item_ends i l
  left_ends (Run s) l = stmt_ends (out-Stmt s) l
  left_ends (Loop c body step) l = only_then OtherThanEnds _ _ (only_ask OtherThanEnds Turns tt) (λ x. item_ends c l)
  left_ends Next l = λ xs. tt
  left_ends Leave l = λ xs. tt

  first_ends : (ls : List Left) (l : List Value) → AsksOnly OtherThanEnds (first_run code ls l)
  first_ends [] l = λ xs. tt
  first_ends (x ∷ ls) l = left_ends x l

  one_fewer : (n : ℕ) → suc n ≡ cond (nat_lt 1 (suc (suc n))) (suc (suc n) - 1) (suc (suc n))
  one_fewer n =
      let less : suc n ≡ suc (suc n) - 1 = omega arith in
      less ∙ sym (cond-true (nat_lt 1 (suc (suc n))) (suc (suc n) - 1) (suc (suc n)) (lt-ltb 1 (suc (suc n)) (omega arith)))

  -- an answer to a frame begins one, ends one, or leaves their number
  gone_depth : (w : Want) (a : EventAct) (y z : Value) (f : Frame) (fs : Thread) (o : Option ℕ) → OtherThanEnds w → answer (last_want w fs) a ≡ Some y
      → length (gone code w z f fs) ≡ (deeper (record { now = suc (length fs); saved = o }) a).now
  gone_depth (Reads at by k s) (act.Read b x) y z f fs o h e = refl
  gone_depth (Writes at by x s) (act.Write b u) y z f fs o h e = refl
  gone_depth (Locks m s i) (act.Lock n) y z f fs o h e = refl
  gone_depth (Unlocks m) (act.Unlock n) y z f fs o h e = refl
  gone_depth (Mallocs cells i) (act.Malloc n x) y z f fs o h e = refl
  gone_depth (Frees x s) (act.Free u) y z f fs o h e = refl
  gone_depth (Prints text) (act.Print t) y z f fs o h e = refl
  gone_depth (Creates g x) (act.Create u) y z f fs o h e = refl
  gone_depth (Joins n) (act.Join u) y z f fs o h e = refl
  gone_depth (Calls g xs) (act.Call i) y z f fs o h e = omega arith
  gone_depth (Returns x) act.End y z f [] o h e = refl
  gone_depth (Returns x) (act.Return u) y z f (caller ∷ fs) o h e = one_fewer (length fs)
  gone_depth (Returns x) a y z f [] o h e = absurd cc
  gone_depth (Returns x) a y z f (caller ∷ fs) o h e = absurd cc
  gone_depth Turns act.Turn y z f fs o h e = refl
  gone_depth Ends a y z f fs o h e = absurd h
  gone_depth Saves act.Save y z f fs o h e = refl
  gone_depth w a y z f fs o h e = absurd cc

  none_left : (w : Want) (a : EventAct) (t : Thread) (d : Depth) → IsFault w a → Some [] ≡ Some t → length t ≡ (deeper d a).now
  none_left w a t d k e = ap length (sym (one_of [] t e)) ∙ sym (ap (λ b. (deeper d b).now) k.is)

  depth_by : (g : Got Done) (f : Frame) (fs : Thread) (a : EventAct) (t : Thread) (o : Option ℕ) → begun code f ≡ g → OnWants OtherThanEnds g → after_entry (stand_at code (wanted g) f fs) a ≡ Some t
      → length t ≡ (deeper (record { now = suc (length fs); saved = o }) a).now
  depth_by (Wants w) f fs a t o is h e =
      elim (entry_is (stand_at code w f fs) a t e) [
        | inl (k, e) ↦ none_left (last_want w fs) a t (record { now = suc (length fs); saved = o }) k e
        | inr (y, ans, e) ↦ ap length (sym (one_of (gone code w y f fs) t e)) ∙ gone_depth w a y y f fs o h ans
      ]
  depth_by (Is d rest) f fs a t o is h e =
      elim (entry_is (stand_at code Ended f fs) a t e) [
        | inl (k, e) ↦ none_left Ended a t (record { now = suc (length fs); saved = o }) k e
        | inr (y, ans, e) ↦ absurd cc
      ]
  depth_by No_result f fs a t o is h e =
      elim (entry_is (stand_at code (wanted No_result) f fs) a t e) [
        | inl (k, e) ↦ none_left (wanted No_result) a t (record { now = suc (length fs); saved = o }) k e
        | inr (y, ans, e) ↦ absurd cc
      ]

  pub step_depth : (fs : Thread) (a : EventAct) (t : Thread) (o : Option ℕ) → after_entry (stand code fs) a ≡ Some t → length t ≡ (deeper (record { now = length fs; saved = o }) a).now
  step_depth [] a t o e =
      elim (entry_is (stand code []) a t e) [
        | inl (k, e) ↦ none_left Ended a t (record { now = 0; saved = o }) k e
        | inr (y, ans, e) ↦ absurd cc
      ]
  step_depth (f ∷ fs) a t o e = depth_by (begun code f) f fs a t o refl (first_ends f.left f.locals f.answers) e

-- a source's thread saves nothing
abbrev pub source_depth : Thread → Option ℕ → Depth
source_depth fs o = record { now = length fs; saved = o }

-- a hardened one has a copy, if it saved
abbrev pub saved_depth : Option Saved → Option ℕ
saved_depth None = None
saved_depth (Some sv) = Some (length sv.copy)

abbrev pub hardened_depth : Hardened → Depth
hardened_depth h = record { now = length h.frames; saved = saved_depth h.saved }

took_depth : (gs : List Given) (o : Option Saved) → saved_depth (took gs o) ≡ saved_depth o
took_depth gs None = refl
took_depth gs (Some sv) = refl

pair : (m n : ℕ) (o p : Option ℕ) → m ≡ n → o ≡ p → ◌≡◌ {A = Depth} (record { now = m; saved = o }) (record { now = n; saved = p })
pair m n o p e q = λ i. record { now = e i; saved = q i }

fault_if : (b : Bool) (o : Option Hardened) (x : Hardened) → (if b then None else o) ≡ Some x → o ≡ Some x
fault_if true o x h = cc
fault_if false o x h = h

module _ (code : Code) where
  save_stands : (w : Want) (go : Value → Thread) → w ≡ Saves → after_entry (record { want = w; go = go }) act.Save ≡ Some (go null)
  save_stands w go e = ap (λ w. after_entry (record { want = w; go = go }) act.Save) e

  kept_depth : (h x : Hardened) (a : EventAct) (t : Thread) (gs : List Given) (d : Depth) → (deeper d a).saved ≡ d.saved → d ≡ hardened_depth h
      → after_entry (stand code h.frames) a ≡ Some t → record { frames = t; saved = took gs h.saved } ≡ x → deeper d a ≡ hardened_depth x
  kept_depth h x a t gs d same tells e is =
      let now : (deeper d a).now ≡ length t = ap (λ (c : Depth). (deeper c a).now) tells ∙ sym (step_depth code h.frames a t (saved_depth h.saved) e) in
      let saved : (deeper d a).saved ≡ saved_depth (took gs h.saved) = same ∙ (ap (λ (c : Depth). c.saved) tells ∙ sym (took_depth gs h.saved)) in
      pair _ _ _ _ now saved ∙ ap hardened_depth is

  pub advance_depth : (h x : Hardened) (a : EventAct) (d : Depth) → d ≡ hardened_depth h → hardened_advance code h a ≡ Some x → deeper d a ≡ hardened_depth x
  advance_depth h x act.Save d tells e =
      let go = (stand code h.frames).go in
      let parts = saves_is (stand code h.frames).want go x e in
      let now : length h.frames ≡ length (go null) = sym (step_depth code h.frames act.Save (go null) None (save_stands (stand code h.frames).want go parts.0)) in
      ap (λ (c : Depth). deeper c act.Save) tells ∙ (pair _ _ _ _ now (ap Some now) ∙ ap hardened_depth parts.1)
  advance_depth h x (act.Retry site gs) d tells e =
      let parts = retried_is (retry_site code h) h.saved site gs x e in
      ap (λ (c : Depth). deeper c (act.Retry site gs)) tells
      ∙ (ap (λ o. record { now = unwrap_or (saved_depth o) (length h.frames); saved = saved_depth o }) parts.1 ∙ ap hardened_depth parts.2)
  advance_depth h x (act.Fault k) d tells e =
      let parts = with_is (after_entry (stand code h.frames) (act.Fault k)) [] h.saved x (fault_if (is_some (retry_site code h) && is_failing k) _ x e) in
      kept_depth h x (act.Fault k) parts.0 [] d refl tells parts.1 parts.2
  advance_depth h x a d tells e =
      let parts = with_is (after_entry (stand code h.frames) a) (taking code (stand code h.frames).want a) h.saved x e in
      kept_depth h x a parts.0 (taking code (stand code h.frames).want a) d refl tells parts.1 parts.2

-- the depth after some entries and then some more
pub depth_join : (xs ys : List EventAct) (d : Depth) → depth_after d (xs ++ ys) ≡ depth_after (depth_after d xs) ys
depth_join [] ys d = refl
depth_join (x ∷ xs) ys d = depth_join xs ys (deeper d x)

pub depth_same : (t : ℕ) (es : List Event) (e : Event) → nat_eq e.thread t ≡ true → depth_of t (es ++ e ∷ []) ≡ deeper (depth_of t es) e.act
depth_same t es e is =
    ap (depth_after first_depth) (own_join t es (e ∷ []) ∙ ap (λ b. own_of t es ++ cond b (e.act ∷ []) []) is) ∙ depth_join (own_of t es) (e.act ∷ []) first_depth

pub depth_other : (t : ℕ) (es : List Event) (e : Event) → nat_eq e.thread t ≡ false → depth_of t (es ++ e ∷ []) ≡ depth_of t es
depth_other t es e is =
    ap (depth_after first_depth) (own_join t es (e ∷ []) ∙ ap (λ b. own_of t es ++ cond b (e.act ∷ []) []) is) ∙ depth_join (own_of t es) [] first_depth

-- all of them together
pub together : {A : Type 0} (f : A → ℕ) (es : List Event) (xs : List A) (k : ℕ) → ((t : ℕ) (x : A) → slice_get xs t ≡ Some x → f x ≡ (depth_of (k + t) es).now)
    → frames_below es k + sum_by f xs ≡ frames_below es (k + length xs)
together f es [] k each = omega (arith, ap (frames_below es) (add_none k))
  where
    add_none : (k : ℕ) → k + 0 ≡ k
    add_none k = omega arith
together f es (x ∷ xs) k each =
    let here : f x ≡ (depth_of k es).now = each 0 x refl ∙ ap (λ n. (depth_of n es).now) (add_none k) in
    let rest : frames_below es (suc k) + sum_by f xs ≡ frames_below es (suc k + length xs) = together f es xs (suc k) (λ t y h. each (suc t) y h ∙ ap (λ n. (depth_of n es).now) (shifted k t)) in
    let place : frames_below es (suc k + length xs) ≡ frames_below es (k + suc (length xs)) = ap (frames_below es) (sym (shifted k (length xs))) in
    let more : sum_by f (x ∷ xs) ≡ f x + sum_by f xs = sum_by-cons f x xs in
    let next : frames_below es (suc k) ≡ frames_below es k + (depth_of k es).now = refl in
    omega (arith, here, rest, more, next) ∙ place
  where
    add_none : (k : ℕ) → k + 0 ≡ k
    add_none k = omega arith

    shifted : (k t : ℕ) → k + suc t ≡ suc k + t
    shifted k t = omega arith

apart : (m n : ℕ) → (m ≡ n → ⊥) → nat_eq m n ≡ false
apart m n ne = elim (eqb_tells m n) [ inl l ↦ absurd (ne l.1) | inr r ↦ r.0 ]

module _ {T : Type 0} (r : Rules T) (Tells : Depth → T → Type 0) where
  -- each thread of a state has what its entries tell, and no other thread has an entry
  record Told (s : State T) (past : List Event) : Type 0 where
    count : s.shared.threads ≡ length s.threads
    tells : (t : ℕ) (x : T) → slice_get s.threads t ≡ Some x → Tells (depth_of t past) x
    none : (t : ℕ) → length s.threads ≤ t → own_of t past ≡ []

  module _ (sound : (t y : T) (u : ℕ) → r.advance t (act.Create u) ≡ Some y → length (started r (r.want t)) ≡ 1)
      (advances : (x y : T) (a : EventAct) (d : Depth) → Tells d x → r.advance x a ≡ Some y → Tells (deeper d a) y)
      (starts : (w : Want) (k : ℕ) (z : T) → slice_get (started r w) k ≡ Some z → Tells first_depth z) where
    made : (w : Want) (a : EventAct) (k : ℕ) (z : T) → slice_get (created r a w) k ≡ Some z → Tells first_depth z
    made w (act.Create u) k z h = starts w k z h
    made w _ k z h = cc

    told_step : (s new : State T) (past : List Event) (e : Event) → Told s past → Step r s e new → Told new (past ++ e ∷ [])
    told_step s new past e told st =
        let ts = s.threads in
        let cs = created r e.act (r.want st.before) in
        let moved = slice_set ts e.thread st.after in
        let within : suc e.thread ≤ length ts = slice_get_within ts e.thread st.before st.stands in
        let grown : length (moved ++ cs) ≡ length ts + length cs = omega (arith, length-append moved cs, length_set ts e.thread st.after) in
        let counted : (effect s.shared e.thread e.act).threads ≡ s.shared.threads + length cs = count_after r sound s.shared e.thread e.act st.before st.after st.own in
        let there : Told (record { shared = effect s.shared e.thread e.act; threads = moved ++ cs }) (past ++ e ∷ []) = record {
          count = omega (arith, counted, told.count, grown);
          tells = λ u z h. elim (get_either moved cs u z h) [
            | inl l ↦ elim (get_set ts e.thread u st.after z l) [
              | inl (is, yz) ↦
                  let before : Tells (depth_of u past) st.before = told.tells u st.before (ap (slice_get ts) (sym is) ∙ st.stands) in
                  subst (λ d. Tells d z) (sym (depth_same u past e (same_number e.thread u is))) (subst (Tells (deeper (depth_of u past) e.act)) (one_of st.after z yz) (advances st.before st.after e.act (depth_of u past) before st.own))
              | inr (ne, g) ↦ subst (λ d. Tells d z) (sym (depth_other u past e (apart e.thread u ne))) (told.tells u z g)
            ]
            | inr (k, is, g) ↦
                let beyond : length ts ≤ u = omega (arith, is, length_set ts e.thread st.after) in
                subst (λ d. Tells d z) (sym (depth_other u past e (apart e.thread u (λ q. omega (arith, q, within, beyond))) ∙ ap (depth_after first_depth) (told.none u beyond))) (made (r.want st.before) e.act k z g)
          ];
          none = λ u h.
              let beyond : length ts ≤ u = omega (arith, h, grown) in
              own_join u past (e ∷ []) ∙ (ap (λ b. own_of u past ++ cond b (e.act ∷ []) []) (apart e.thread u (λ q. omega (arith, q, within, beyond))) ∙ ap (λ p. p ++ []) (told.none u beyond));
        } in
        subst (λ n. Told n (past ++ e ∷ [])) (same_parts r sound new (effect s.shared e.thread e.act) (moved ++ cs) st.shared st.threads) there
      where
        same_number : (m n : ℕ) → m ≡ n → nat_eq m n ≡ true
        same_number m n is = eq-eqb m n is

    told_by_run : (es past : List Event) (s new : State T) → Told s past → machine.Run r s es new → Told new (past ++ es)
    told_by_run [] past s new told run = subst2 new run (append-nil past) told
      where
        subst2 : (new : State T) → new ≡ s → past ++ [] ≡ past → Told s past → Told new (past ++ [])
        subst2 new e f told = subst (Told new) (sym f) (subst (λ n. Told n past) (sym e) told)
    told_by_run (e ∷ es) past s new told (mid, st, run) =
        subst (Told new) (append_assoc past (e ∷ []) es) (told_by_run es (past ++ e ∷ []) mid new (told_step s mid past e told st) run)

    module _ (frames : T → Thread) (lengths : (d : Depth) (x : T) → Tells d x → length (frames x) ≡ d.now) where
      pub told_frames : (p : Typed) → Tells first_depth (r.start p.main null) → FramesAreTold r frames p
      told_frames p first es new run =
          let told : Told new es = told_by_run es [] (opening r p) new (record { count = refl; tells = opened; none = λ t h. refl }) run in
          let each : (t : ℕ) (x : T) → slice_get new.threads t ≡ Some x → length (frames x) ≡ (depth_of t es).now = λ t x h. lengths (depth_of t es) x (told.tells t x h) in
          (each, none_before _ ∙ (together (λ x. length (frames x)) es new.threads 0 (λ t x h. each t x h ∙ ap (λ n. (depth_of n es).now) (none_before t)) ∙ ap (frames_below es) (sym (told.count ∙ none_before (length new.threads)))))
        where
          none_before : (t : ℕ) → t ≡ 0 + t
          none_before t = omega arith

          opened : (t : ℕ) (x : T) → slice_get (r.start p.main null ∷ []) t ≡ Some x → Tells first_depth x
          opened zero x h = subst (Tells first_depth) (one_of (r.start p.main null) x h) first
          opened (suc t) x h = cc

-- of a source's threads
source_starts : (code : Code) (w : Want) (k : ℕ) (z : Thread) → slice_get (started (source code) w) k ≡ Some z → first_depth.now ≡ length z
source_starts code (Creates f x) zero z h = ap length (one_of _ z h)
source_starts code (Creates f x) (suc k) z h = cc
source_starts code _ k z h = cc

no_retry : (w : Want) (go : Value → Thread) (site : SiteId) (gs : List Given) (y : Thread) → after_entry (record { want = w; go = go }) (act.Retry site gs) ≡ Some y → ⊥
no_retry Turns go site gs y e = absurd cc
no_retry _ go site gs y e = absurd cc

source_advances : (code : Code) (x y : Thread) (a : EventAct) (d : Depth) → d.now ≡ length x → (source code).advance x a ≡ Some y → (deeper d a).now ≡ length y
source_advances code x y (act.Retry site gs) d tells e = absurd (no_retry (stand (plain code) x).want (stand (plain code) x).go site gs y e)
source_advances code x y a d tells e = ap (λ n. (deeper (record { now = n; saved = d.saved }) a).now) tells ∙ sym (step_depth (plain code) x a y d.saved e)

pub source_told : (code : Code) (p : Typed) → FramesAreTold (source code) (λ t. t) p
source_told code p =
    told_frames (source code) (λ d x. d.now ≡ length x) (source_creates code) (source_advances code) (source_starts code)
    (λ t. t) (λ d x h. sym h) p refl

-- and of hardened ones
hardened_starts : (code : Code) (w : Want) (k : ℕ) (z : Hardened) → slice_get (started (hardened code) w) k ≡ Some z → first_depth ≡ hardened_depth z
hardened_starts code (Creates f x) zero z h = ap hardened_depth (one_of _ z h)
hardened_starts code (Creates f x) (suc k) z h = cc
hardened_starts code _ k z h = cc

pub hardened_told : (code : Code) (p : Typed) → FramesAreTold (hardened code) (λ h. h.frames) p
hardened_told code p =
    told_frames (hardened code) (λ d h. d ≡ hardened_depth h) (hardened_creates code) (λ x y a d t e. advance_depth code x y a d t e) (hardened_starts code)
    (λ h. h.frames) (λ d h t. sym (ap (λ (c : Depth). c.now) t)) p refl

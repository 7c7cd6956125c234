-- Lock pruning: where no lock stands before a lock site, no entry since the last point is a lock.
use Rattle.std.proofs.Common.{◌≡◌, ℕ, Bool, true, false, List, [], ◌∷◌, ◌++◌, Option, Some, None, refl, sym, ap, ◌∙◌, subst, inl, inr, append_assoc}
use Rattle.ca_tree.specs.declared.numbers.MutexId.{MutexId}
use Rattle.ca_tree.specs.declared.numbers.SiteId.{SiteId}
use Rattle.ca_model.specs.declared.values.Value.{Value}
use Rattle.ca_model.specs.declared.values.EventAct.{EventAct}
use Rattle.ca_model.specs.declared.values.EventAct.TheVariants as act
use Rattle.ca_model.specs.declared.tree.Item.{Item}
use Rattle.ca_model.specs.Asks.{Want, Locks, Ended, Turns, Got, Is, Wants, No_result}
use Rattle.ca_model.specs.Items.{Done}
use Rattle.ca_model.specs.Laws.{Extended}
use Rattle.ca_model.specs.Accesses.{Site}
use Rattle.ca_model.specs.Destroying.{is_lock, IsDone}
use Rattle.ca_model.specs.Paths.{Before}
use Rattle.ca_model.specs.Hopeless.{IsHopelessAt}
use Rattle.ca_model.specs.Codes.{Typed}
use Rattle.ca_model.specs.WellFormed.{IsWellFormed}
use Rattle.ca_model.specs.SourceRuns.{rules_of}
use Rattle.ca_model.specs.Frames.{Code, Frame, item_run, begun, wanted}
use Rattle.ca_model.specs.Private.{Thread, last_want, stand, answer}
use Rattle.ca_model.specs.Machine.{private}
use Rattle.ca_model.proofs.Law.{one_of}
use Rattle.ca_model.proofs.Members.{in_none, in_cons}
use Rattle.ca_model.proofs.Silent.{act_in_order}
use Rattle.ca_erasure.proofs.Standing.{IsOwn, locks_at_once, by_own, last_keeps}
use Rattle.ca_pruned.specs.Points.{bare}
use Rattle.ca_pruned.specs.Pruned.{HasNoLock, LockPruning}
use Rattle.ca_pruned.proofs.Asking.{Asked, By_item, By_turn, asked}
use Rattle.ca_pruned.proofs.Passing.{Nearer, Behind_still, In_it_still}
use Rattle.ca_pruned.proofs.Threads.{OnTheWay}
use Rattle.ca_pruned.proofs.Runs.{own_run, AreIn, in_place, AreOnTheWay, along, at_site}
use Rattle.ca_erasure.proofs.Moving.{head_of}

-- a part that is done wants nothing with more answers
pub done_stays : {A : Type 0} (g h : Got A) (more : List Value) (v : Want) → IsDone g → Extended g more h → h ≡ Wants v → ⊥
done_stays (Is x rest) h more v done e is = let no : Is x (rest ++ more) ≡ Wants v = sym e ∙ is in absurd cc
done_stays (Wants w) h more v done e is = done
done_stays No_result h more v done e is = done

wants_lock : Want → Bool
wants_lock (Locks m s i) = true
wants_lock _ = false

locked : (w : Want) (m : MutexId) (y : Value) → answer w (act.Lock m) ≡ Some y → wants_lock w ≡ true
unfolding wants_lock
locked (Locks k s i) m y h = refl
locked _ m y h = absurd cc

owns_lock : (i : Item) (w : Want) → IsOwn i.act i.id w → wants_lock w ≡ true → is_lock i.act ≡ true
unfolding wants_lock
owns_lock i (Locks m s n) o h = o.1
owns_lock i _ o h = absurd cc

not_over : (w : Want) → wants_lock w ≡ true → w ≡ Ended → ⊥
unfolding wants_lock
not_over w h e = let no : wants_lock Ended ≡ true = ap wants_lock (sym e) ∙ h in absurd cc

no_turn : (w : Want) → wants_lock w ≡ true → w ≡ Turns → ⊥
unfolding wants_lock
no_turn w h e = let no : wants_lock Turns ≡ true = ap wants_lock (sym e) ∙ h in absurd cc

no_got : (g : Got Done) (fs : Thread) → wants_lock (last_want (wanted g) fs) ≡ true → (w : Want) × (g ≡ Wants w) × (wants_lock w ≡ true)
unfolding wants_lock
no_got (Is d rest) fs h = absurd cc
no_got (Wants w) fs h = (w, refl, last_keeps (λ v. wants_lock v ≡ true) (λ e. absurd cc) w fs h)
no_got No_result fs h = absurd cc

module _ (p : Typed) (wf : IsWellFormed p) (depth : ℕ) (s : Site) (n : SiteId) (none : (j : Item) → Before p depth s.item j → is_lock j.act ≡ false) where
  abbrev code : Code
  code = bare p

  abbrev Way : Thread → EventAct → Type 0
  Way = OnTheWay p wf depth s.item n

  at_item : (k : ℕ) (f : Frame) (w : Want) → wants_lock w ≡ true → Asked p f.left f.locals f.answers w → Nearer p wf depth s.item n k f → ⊥
  at_item k f w lock (By_turn c head e) near = no_turn w lock e
  at_item k f w lock (By_item i ys head run more) (Behind_still j at (a, path, go)) =
      let same : i ≡ j = head_of i j [] [] (sym head ∙ at) in
      let is : is_lock i.act ≡ true = owns_lock i w (by_own code i f.locals ys w run) lock in
      let not' : is_lock j.act ≡ false = none j (a, k, path, go) in
      let no : true ≡ false = sym is ∙ (ap (λ (z : Item). is_lock z.act) same ∙ not') in
      absurd cc
  at_item k f w lock (By_item i ys head run more) (In_it_still at z x rest v is site) =
      let lock_item : is_lock i.act ≡ true = owns_lock i w (by_own code i f.locals ys w run) lock in
      let done : IsDone (item_run code i f.locals (ys ++ x ∷ [])) = locks_at_once i.act i.id f.locals ys (code.first_site i.id) w x lock_item run in
      let longer : Extended (item_run code i f.locals (ys ++ x ∷ [])) rest (item_run code i f.locals ((ys ++ x ∷ []) ++ rest)) = (act_in_order i.act i.id f.locals (code.first_site i.id)).more (ys ++ x ∷ []) rest in
      done_stays (item_run code i f.locals (ys ++ x ∷ [])) (item_run code i f.locals ((ys ++ x ∷ []) ++ rest)) rest v done longer
      (ap (item_run code i f.locals) (append_assoc ys (x ∷ []) rest) ∙ (sym (more (x ∷ rest)) ∙ is))

  no_lock : (x : Thread) (m : MutexId) → Way x (act.Lock m) → ⊥
  no_lock [] m way = way.0
  no_lock (f ∷ fs) m ((k, near), harmless, (y, ans)) =
      let g = no_got (begun code f) fs (locked (stand code (f ∷ fs)).want m y ans) in
      at_item k f g.0 g.2 (asked p f.left f.locals f.answers g.0 g.1 (not_over g.0 g.2)) near

  no_locks : (e : List EventAct) (o : Option Thread) (y : Thread) → private (rules_of p) o e ≡ Some y → AreOnTheWay p wf depth s.item n o e → HasNoLock e
  no_locks [] o y h way m c = in_none (act.Lock m) c
  no_locks (a ∷ e) None y h way m c = absurd cc
  no_locks (a ∷ e) (Some x) y h way m c = elim (in_cons a e (act.Lock m) c) [
    | inl here ↦ no_lock x m (subst (Way x) here way.0.1)
    | inr later ↦ no_locks e ((rules_of p).advance x a) y h way.1 m later
  ]

pub lock_pruning : (p : Typed) → IsWellFormed p → LockPruning p
lock_pruning p wf depth s kind hopeless h t last x run at (n, is, site) q e l =
    let none : (j : Item) → Before p depth s.item j → is_lock j.act ≡ false = subst (IsHopelessAt p depth s) kind hopeless in
    let own = own_run (rules_of p) l.since l.mid last t q l.rest l.stands in
    let same : own.0 ≡ x = one_of own.0 x (sym own.1 ∙ at) in
    let goes : private (rules_of p) (Some q) e ≡ Some x = ap (private (rules_of p) (Some q)) (sym l.own) ∙ (own.2 ∙ ap Some same) in
    let ahead = at_site p wf depth s n is x (in_place p wf h last run t x at) site in
    let way = along p wf depth s.item n e (Some q) x goes (λ z same. subst (AreIn p wf) (one_of q z same) (in_place p wf l.past l.mid l.run t q l.stands)) l.no_other ahead in
    no_locks p wf depth s n none e (Some q) x goes way.1

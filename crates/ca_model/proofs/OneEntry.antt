-- A thread has at most one entry that the runner may choose.
use Rattle.std.proofs.Common.{◌≡◌, ℕ, Bool, true, false, cond, List, [], ◌∷◌, Option, Some, None, refl, sym, ap, ◌∙◌, subst}
use Rattle.std.specs.Prelude.{◌&&◌, ◌==◌, nat_lt, is_some, if◌then◌else◌}
use Rattle.std.proofs.lemmas.Bool.{eqb-true, false_from_ne_true}
use Rattle.ca_tree.specs.declared.numbers.SiteId.{SiteId}
use Rattle.ca_model.specs.declared.values.Value.{Value}
use Rattle.ca_model.specs.declared.values.Given.{Given}
use Rattle.ca_model.specs.declared.values.FaultKind.TheVariants as fault
use Rattle.ca_model.specs.declared.values.EventAct.{EventAct}
use Rattle.ca_model.specs.declared.values.EventAct.TheVariants as act
use Rattle.ca_model.specs.Asks.{Want, Reads, Writes, Locks, Frees, Fails, Saves}
use Rattle.ca_model.specs.Frames.{Code}
use Rattle.ca_model.specs.Private.{Thread, Stand, stand, answer, may_fault, going_on, after_entry}
use Rattle.ca_model.specs.Shared.{Shared, Allows, IsDue}
use Rattle.ca_model.specs.Machine.{State}
use Rattle.ca_model.specs.Hardened.{Hardened, Saved, site_of, may_retry, latest_first, is_part, with_frames, if_saves, retried, back, is_failing, hardened_by, FailsNow, NamesHeld, HardenedDue}
use Rattle.ca_model.specs.Runner.{IsChosen, Comes, IsLeastUnused}
use Rattle.ca_model.specs.ComingEntries.{EndedBelow, aimed, can_free, entry_of, failing, gives_at, gives_of, lock_entry, read_entry, retrying, the_entry, write_entry}
use Rattle.ca_model.proofs.Law.{one_of}
use Rattle.ca_model.proofs.Retries.{gives_part, gives_held, gives_named, one_list}
use Rattle.ca_model.proofs.Creates.{frames_some}
use Rattle.ca_model.proofs.Entries.{can_free_is, plain_is, fault_is}

-- whether the shared state gives an entry for a want
abbrev pub DueAt : Shared → ℕ → Want → Option Saved → EventAct → Type 0
DueAt s t w saved (act.Retry site gives) = FailsNow s t w × NamesHeld s t gives saved
DueAt s t w saved a = IsDue s t w a

pub due_at : (code : Code) (s : Shared) (t : ℕ) (h : Hardened) (a : EventAct) → HardenedDue code s t h a → DueAt s t (stand code h.frames).want h.saved a
due_at code s t h (act.Retry site gives) due = due
due_at code s t h _ due = due

pub due_from : (code : Code) (s : Shared) (t : ℕ) (h : Hardened) (a : EventAct) → DueAt s t (stand code h.frames).want h.saved a → HardenedDue code s t h a
due_from code s t h (act.Retry site gives) due = due
due_from code s t h _ due = due

pub if_some : {A : Type 0} (b : Bool) (o : Option A) (x : A) → (if b then o else None) ≡ Some x → (b ≡ true) × (o ≡ Some x)
if_some true o x h = (refl, h)
if_some false o x h = absurd cc

else_some : {A : Type 0} (b : Bool) (o : Option A) (x : A) → (if b then None else o) ≡ Some x → (b ≡ false) × (o ≡ Some x)
else_some true o x h = absurd cc
else_some false o x h = (refl, h)

pub answer_some : (s : Stand) (o : Option Value) (t : Thread) → going_on s o ≡ Some t → (y : Value) × (o ≡ Some y)
answer_some s None t h = absurd cc
answer_some s (Some y) t h = (y, refl)

record RetriedAt (r : Option SiteId) (saved : Option Saved) (s : SiteId) (gives : List Given) : Type 0 where
  at : SiteId
  sv : Saved
  site : r ≡ Some at
  number : at.0 ≡ s.0
  is : saved ≡ Some sv
  part : is_part gives (latest_first sv.taken) ≡ true

retried_at : (r : Option SiteId) (saved : Option Saved) (s : SiteId) (gives : List Given) (x : Hardened) → retried r saved s gives ≡ Some x → RetriedAt r saved s gives
retried_at None saved s gives x h = absurd cc
retried_at (Some at) None s gives x h = let one = if_some (at.0 == s.0) (back None s gives) x h in let no' : None ≡ Some x = one.1 in absurd cc
retried_at (Some at) (Some sv) s gives x h =
    let one = if_some (at.0 == s.0) (back (Some sv) s gives) x h in
    let two = if_some (is_part gives (latest_first sv.taken)) (Some (record { frames = sv.copy; saved = Some (record { copy = sv.copy; tried = s ∷ sv.tried; taken = [] }) })) x one.1 in
    record { at = at; sv = sv; site = refl; number = eqb-true at.0 s.0 one.0; is = refl; part = two.0 }

module _ (code : Code) (g : Shared) (t k : ℕ) where
  -- a failing site where a retry may come
  fails_now : (saved : Option Saved) (w : Want) (at : SiteId) (gives : List Given) → may_retry code (site_of w) saved ≡ Some at → FailsNow g t w
      → the_entry g t k (may_retry code (site_of w) saved) gives w ≡ Some (act.Retry at gives)
  fails_now saved (Reads a by kd s) at gives e f =
      ap (λ o. Some (read_entry (aimed a by) kd o (failing (may_retry code s saved) fault.Pointer gives))) f ∙ ap (λ r. Some (failing r fault.Pointer gives)) e
  fails_now saved (Writes a by x s) at gives e f =
      ap (λ o. Some (write_entry (aimed a by) x o (failing (may_retry code s saved) fault.Pointer gives))) f ∙ ap (λ r. Some (failing r fault.Pointer gives)) e
  fails_now saved (Locks m s i) at gives e f =
      ap (λ o. lock_entry m (nat_lt m.0 g.mutexes) o (retrying (may_retry code (Some s) saved) gives)) f.1 ∙ ap (λ r. retrying r gives) e
  fails_now saved (Frees x s) at gives e f =
      ap (λ b. Some (cond b (act.Free x) (failing (may_retry code (Some s) saved) fault.Pointer gives))) (false_from_ne_true (can_free g.blocks x) (λ c. f (can_free_is g.blocks x c)))
      ∙ ap (λ r. Some (failing r fault.Pointer gives)) e
  fails_now saved (Fails s) at gives e f = ap (λ r. Some (failing r fault.Assert gives)) e
  fails_now saved _ at gives e f = absurd cc

  -- the entry of a thread with saved frames, by what it wants
  module _ (h : Hardened) (w : Want) (go : Value → Thread) (used : IsLeastUnused g.blocks k) (ended : EndedBelow g) where
    pub entry_is : (a : EventAct) (x : Hardened) → hardened_by code h (record { want = w; go = go }) (may_retry code (site_of w) h.saved) a ≡ Some x → Allows g t a → DueAt g t w h.saved a → IsChosen g a
        → the_entry g t k (may_retry code (site_of w) h.saved) (gives_at g t h.saved) w ≡ Some a
    entry_is act.Save x own ok due is = saving w own
      where
        saving : (w : Want) → if_saves w go ≡ Some x → the_entry g t k (may_retry code (site_of w) h.saved) (gives_at g t h.saved) w ≡ Some act.Save
        saving Saves own = refl
        saving _ own = absurd cc
    entry_is (act.Retry site gives) x own ok due is =
        let p = retried_at (may_retry code (site_of w) h.saved) h.saved site gives x own in
        let same : gives ≡ gives_of g t p.sv = one_list g t p.sv gives (gives_of g t p.sv) p.part (gives_part g t p.sv) ok (gives_held g t p.sv)
        (subst (NamesHeld g t gives) p.is due.1) (gives_named g t p.sv) in
        fails_now h.saved w p.at (gives_at g t h.saved) p.site due.0
        ∙ (ap (λ o. Some (act.Retry p.at (gives_at g t o))) p.is ∙ (ap (λ l. Some (act.Retry p.at l)) (sym same) ∙ ap (λ n. Some (act.Retry (record { 0 = n }) gives)) p.number))
    entry_is (act.Fault f) x own ok due is =
        let r = may_retry code (site_of w) h.saved in
        let one = else_some (is_some r && is_failing f) (with_frames (after_entry (record { want = w; go = go }) (act.Fault f)) [] h.saved) x own in
        let two = frames_some (after_entry (record { want = w; go = go }) (act.Fault f)) [] h.saved x one.1 in
        let three = if_some (may_fault w f) (Some []) two.0 two.1 in
        fault_is g t k used ended r (gives_at g t h.saved) w f three.0 one.0 due
    entry_is a x own ok due is =
        let two = frames_some (going_on (record { want = w; go = go }) (answer w a)) _ h.saved x own in
        let three = answer_some (record { want = w; go = go }) (answer w a) two.0 two.1 in
        plain_is g t k used ended (may_retry code (site_of w) h.saved) (gives_at g t h.saved) w a three.0 three.1 ok is

module _ (code : Code) (events patience : ℕ) (s : State Hardened) (t k : ℕ) (used : IsLeastUnused s.shared.blocks k) (ended : EndedBelow s.shared) where
  pub comes_as : (a : EventAct) (new : State Hardened) (c : Comes code events patience s t a new) → entry_of code s.shared t k c.step.before ≡ Some a
  comes_as a new c =
      let h = c.step.before in
      entry_is code s.shared t k h (stand code h.frames).want (stand code h.frames).go used ended a c.step.after c.step.own c.step.legal.allowed (due_at code s.shared t h a c.step.due) c.chosen

  pub one_event : (a b : EventAct) (new other : State Hardened) → Comes code events patience s t a new → Comes code events patience s t b other → a ≡ b
  one_event a b new other c d =
      let same : c.step.before ≡ d.step.before = one_of _ _ (sym c.step.stands ∙ d.step.stands) in
      one_of a b (sym (comes_as a new c) ∙ (ap (entry_of code s.shared t k) same ∙ comes_as b other d))

-- The changes by which a thread goes on.
use Rattle.std.proofs.Common.{◌≡◌, ◌+◌, ℕ, Bool, true, false, List, [], ◌∷◌, Option, Some, None, refl, sym, ap, ◌∙◌, subst}
use Rattle.std.specs.Prelude.{◌==◌, if◌then◌else◌}
use Rattle.std.proofs.lemmas.Bool.{eq-eqb}
use Rattle.ca_tree.specs.declared.numbers.SiteId.{SiteId}
use Rattle.ca_model.specs.Sites.{if_any}
use Rattle.ca_model.specs.declared.values.Value.{Value}
use Rattle.ca_model.specs.declared.values.Given.{Given}
use Rattle.ca_model.specs.declared.values.EventAct.{EventAct}
use Rattle.ca_model.specs.declared.values.EventAct.TheVariants as act
use Rattle.ca_model.specs.Asks.{Want, Returns, Saves, Got, Is, Wants, No_result}
use Rattle.ca_model.specs.Arith.{null}
use Rattle.ca_model.specs.Items.{Done}
use Rattle.ca_model.specs.Frames.{Code, Frame, begun, wanted, answered}
use Rattle.ca_model.specs.Private.{Thread, Stand, stand, stand_at, gone, last_want, answer, going_on}
use Rattle.ca_model.specs.Hardened.{Saved, Hardened, hardened_by, hardened_advance, with_frames, taking, took, retry_site, retried, back, is_part, latest_first, fresh, if_saves, tries}
use Rattle.ca_flow.specs.Lowerings.{Lowering, rules_of}
use Rattle.ca_thread.specs.Asked.{wants_save}
use Rattle.ca_thread.specs.declared.frames.RunningFrame.{RunningFrame as Running}
use Rattle.ca_thread.specs.Entered.{IsAnswer}
use Rattle.ca_thread.specs.Moves.{IsCallee}
use Rattle.ca_thread.specs.Standing.{AreStanding}
use Rattle.ca_thread.proofs.TopSites.{save_last}

-- what a thread wants where an entry answers it
pub record Answers (code : Code) (h : Thread) (a : EventAct) (x : Value) : Type 0 where
  pub frame : Frame
  pub rest : List Frame
  pub want : Want
  pub is : h ≡ frame ∷ rest
  pub asks : begun code frame ≡ Wants want
  pub gives : answer (last_want want rest) a ≡ Some x

pub answers_it : (code : Code) (h : Thread) (a : EventAct) (x : Value) → answer (stand code h).want a ≡ Some x → Answers code h a x
answers_it code [] a x e = absurd (cc)
answers_it code (f ∷ fs) a x e = by_got (begun code f) refl
  where
    by_got : (g : Got Done) → begun code f ≡ g → Answers code (f ∷ fs) a x
    by_got (Is d rest) is = let none : None ≡ Some x = ap (λ g. answer (last_want (wanted g) fs) a) (sym is) ∙ e in absurd (cc)
    by_got (Wants w) is = record { frame = f; rest = fs; want = w; is = refl; asks = is; gives = ap (λ g. answer (last_want (wanted g) fs) a) (sym is) ∙ e }
    by_got No_result is = let none : None ≡ Some x = ap (λ g. answer (last_want (wanted g) fs) a) (sym is) ∙ e in absurd (cc)

-- an entry that answers
by_answer : (code : Code) (h : Hardened) (s : Stand) (a : EventAct) (x : Value) → IsAnswer a → answer s.want a ≡ Some x → hardened_by code h s (retry_site code h) a ≡ Some (record { frames = s.go x; saved = took (taking code s.want a) h.saved })
by_answer code h s act.Save x is e = absurd is
by_answer code h s (act.Retry site gives) x is e = absurd is
by_answer code h s (act.Fault k) x is e = absurd is
by_answer code h s a x is e = ap (λ o. with_frames (going_on s o) (taking code s.want a) h.saved) e

pub answered_by : (code : Code) (h : Hardened) (a : EventAct) (x : Value) → IsAnswer a → (t : Answers code h.frames a x)
    → hardened_advance code h a ≡ Some (record { frames = gone code t.want x t.frame t.rest; saved = took (taking code (last_want t.want t.rest) a) h.saved })
answered_by code h a x is t =
    let s : stand code h.frames ≡ stand_at code t.want t.frame t.rest = ap (stand code) t.is ∙ ap (λ g. stand_at code (wanted g) t.frame t.rest) t.asks in
    ap (λ z. hardened_by code h z (retry_site code h) a) s ∙ by_answer code h (stand_at code t.want t.frame t.rest) a x is t.gives

-- what the innermost frame wants, where an entry answers it
pub ready : (l : Lowering) (frames flat : List Running) (h : Thread) (a : EventAct) (y : Value) → flat ≡ frames → AreStanding l frames h → ((h : List Frame) → AreStanding l flat h → Some y ≡ answer (stand (rules_of l) h).want a) → Answers (rules_of l) h a y
ready l frames flat h a y same standing fact = answers_it (rules_of l) h a y (sym (fact h (subst (λ r. AreStanding l r h) (sym same) standing)))

want_there : (code : Code) (h : Thread) (a : EventAct) (x : Value) (t : Answers code h a x) → (stand code h).want ≡ last_want t.want t.rest
want_there code h a x t = ap (λ k. (stand code k).want) t.is ∙ ap (λ g. last_want (wanted g) t.rest) t.asks

-- the change by an answer
pub answer_makes : (l : Lowering) (h : Hardened) (a : EventAct) (y : Value) (taken : Option Given) (callee : Option Running) → IsAnswer a → (t : Answers (rules_of l) h.frames a y) → if_any taken ≡ taking (rules_of l) (stand (rules_of l) h.frames).want a → IsCallee l t.want callee
    → (k : Hardened) × (hardened_advance (rules_of l) h a ≡ Some k) × ((f : Frame) × (fs : List Frame) × (w : Want) × (h.frames ≡ f ∷ fs) × (begun (rules_of l) f ≡ Wants w) × IsCallee l w callee × (k ≡ record { frames = gone (rules_of l) w y f fs; saved = took (if_any taken) h.saved }))
answer_makes l h a y taken callee is t takes begins =
    let same : if_any taken ≡ taking (rules_of l) (last_want t.want t.rest) a = takes ∙ ap (λ w. taking (rules_of l) w a) (want_there (rules_of l) h.frames a y t) in (
      record { frames = gone (rules_of l) t.want y t.frame t.rest; saved = took (if_any taken) h.saved },
      answered_by (rules_of l) h a y is t ∙ ap (λ gs. let k : Hardened = record { frames = gone (rules_of l) t.want y t.frame t.rest; saved = took gs h.saved } in Some k) (sym same),
      (t.frame, t.rest, t.want, t.is, t.asks, begins, refl),
    )

-- ---- a fault

-- ---- a save

-- what a thread that wants a save stands at
pub record AtSave (code : Code) (h : Thread) : Type 0 where
  pub frame : Frame
  pub rest : List Frame
  pub is : h ≡ frame ∷ rest
  pub asks : begun code frame ≡ Wants Saves

is_save : (w : Want) → wants_save w ≡ true → w ≡ Saves
is_save Saves e = refl
is_save _ e = absurd (cc)

inner_save : (w : Want) (fs : List Frame) → wants_save (last_want w fs) ≡ true → w ≡ Saves
inner_save (Returns x) [] e = absurd (cc)
inner_save (Returns x) (f ∷ fs) e = absurd (cc)
inner_save w fs e = is_save w (save_last w fs ∙ e)

pub at_save : (code : Code) (h : Thread) → wants_save (stand code h).want ≡ true → AtSave code h
at_save code [] e = absurd (cc)
at_save code (f ∷ fs) e = by_got (begun code f) refl
  where
    by_got : (g : Got Done) → begun code f ≡ g → AtSave code (f ∷ fs)
    by_got (Is d rest) is = let no : false ≡ true = ap (λ g. wants_save (last_want (wanted g) fs)) (sym is) ∙ e in absurd (cc)
    by_got (Wants w) is = record { frame = f; rest = fs; is = refl; asks = is ∙ ap (λ v. Wants v) (inner_save w fs (ap (λ g. wants_save (last_want (wanted g) fs)) (sym is) ∙ e)) }
    by_got No_result is = let no : false ≡ true = ap (λ g. wants_save (last_want (wanted g) fs)) (sym is) ∙ e in absurd (cc)

pub saved_by : (code : Code) (h : Hardened) (t : AtSave code h.frames) → hardened_advance code h act.Save ≡ Some (fresh (answered code t.frame null ∷ t.rest))
saved_by code h t =
    ap (λ s. if_saves s.want s.go) (ap (stand code) t.is ∙ ap (λ g. stand_at code (wanted g) t.frame t.rest) t.asks)

-- ---- a retry

at_site : (code : Code) (h : Hardened) (at site : SiteId) (gives : List Given) → Some at ≡ retry_site code h → hardened_advance code h (act.Retry site gives) ≡ (if at.0 == site.0 then back h.saved site gives else None)
at_site code h at site gives e = ap (λ r. retried r h.saved site gives) (sym e)

back_to : (code : Code) (h : Hardened) (sv : Saved) (at site : SiteId) (gives : List Given) (b : Bool) → Some at ≡ retry_site code h → (at.0 == site.0) ≡ true → h.saved ≡ Some sv → b ≡ is_part gives (latest_first sv.taken)
    → hardened_advance code h (act.Retry site gives) ≡ (if b then Some (record { frames = sv.copy; saved = Some (record { copy = sv.copy; tried = site ∷ sv.tried; taken = [] }) }) else None)
back_to code h sv at site gives b e same saved part =
    at_site code h at site gives e ∙ (ap (λ (b : Bool). if b then back h.saved site gives else None) same ∙ (ap (λ o. back o site gives) saved
    ∙ ap (λ (b : Bool). if b then Some (record { frames = sv.copy; saved = Some (record { copy = sv.copy; tried = site ∷ sv.tried; taken = [] }) }) else None) (sym part)))

pub right_list : (code : Code) (h : Hardened) (sv : Saved) (at site : SiteId) (gives : List Given) (b : Bool) → Some at ≡ retry_site code h → (at.0 == site.0) ≡ true → h.saved ≡ Some sv → b ≡ is_part gives (latest_first sv.taken) → b ≡ true
    → hardened_advance code h (act.Retry site gives) ≡ Some (record { frames = sv.copy; saved = Some (record { copy = sv.copy; tried = site ∷ sv.tried; taken = [] }) })
right_list code h sv at site gives b e same saved part right =
    back_to code h sv at site gives b e same saved part ∙ ap (λ (b : Bool). if b then Some (record { frames = sv.copy; saved = Some (record { copy = sv.copy; tried = site ∷ sv.tried; taken = [] }) }) else None) right

pub made_again : (l : Lowering) (h : Hardened) (sv : Saved) (at site : SiteId) (gives : List Given) (b : Bool) (count : ℕ) (rows : List Running) → Some at ≡ retry_site (rules_of l) h → at.0 ≡ site.0 → h.saved ≡ Some sv → b ≡ is_part gives (latest_first sv.taken) → b ≡ true → count ≡ tries sv site → AreStanding l rows sv.copy
    → (k : Hardened) × (hardened_advance (rules_of l) h (act.Retry site gives) ≡ Some k) × ((sv : Saved) × (h.saved ≡ Some sv) × (count + 1 ≡ tries sv site + 1) × AreStanding l rows sv.copy × (k ≡ record { frames = sv.copy; saved = Some (record { copy = sv.copy; tried = site ∷ sv.tried; taken = [] }) }))
made_again l h sv at site gives b count rows retry same saved part right counted standing = (
  record { frames = sv.copy; saved = Some (record { copy = sv.copy; tried = site ∷ sv.tried; taken = [] }) },
  right_list (rules_of l) h sv at site gives b retry (eq-eqb at.0 site.0 same) saved part right,
  (sv, saved, ap (λ (n : ℕ). n + 1) counted, standing, refl),
)

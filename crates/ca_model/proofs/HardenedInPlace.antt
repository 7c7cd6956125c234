-- It holds of all frames of a hardened thread, and of those of its copy.
use Rattle.std.proofs.Common.{◌≡◌, ℕ, zero, suc, Bool, true, false, List, [], ◌∷◌, Option, Some, None, refl, ap, subst, inl, inr}
use Rattle.std.specs.Prelude.{◌⊎◌, slice_get, if◌then◌else◌, ◌==◌, ◌&&◌, is_some}
use Rattle.ca_tree.specs.declared.numbers.FunId.{FunId}
use Rattle.ca_tree.specs.declared.numbers.SiteId.{SiteId}
use Rattle.ca_model.specs.declared.values.Value.{Value}
use Rattle.ca_model.specs.declared.values.Given.{Given}
use Rattle.ca_model.specs.declared.values.EventAct.{EventAct}
use Rattle.ca_model.specs.declared.values.EventAct.TheVariants as act
use Rattle.ca_model.specs.Arith.{null}
use Rattle.ca_model.specs.Asks.{Want, Creates, Calls, Saves, Wants}
use Rattle.ca_model.specs.Frames.{Code, Frame, begun, answered, frame_of}
use Rattle.ca_model.specs.Begun.{IsReturn}
use Rattle.ca_model.specs.Private.{Thread, stand, after_entry}
use Rattle.ca_model.specs.Machine.{started}
use Rattle.ca_model.specs.Hardened.{Hardened, Saved, hardened, hardened_advance, retry_site, with_frames, took, fresh, if_saves, back, retried, taking, is_failing, is_part, latest_first}
use Rattle.ca_model.proofs.Law.{one_of}
use Rattle.ca_model.proofs.FramesInPlace.{AreInPlace, HasFrames, IsLast, entry_in_place, made_in_place}

-- a plain step of the frames, and what is taken
pub with_is : (o : Option Thread) (gs : List Given) (s : Option Saved) (x : Hardened) → with_frames o gs s ≡ Some x → (t : Thread) × (o ≡ Some t) × (record { frames = t; saved = took gs s } ≡ x)
with_is None gs s x h = cc
with_is (Some t) gs s x h = (t, refl, one_of (record { frames = t; saved = took gs s }) x h)

pub saves_is : (w : Want) (go : Value → Thread) (x : Hardened) → if_saves w go ≡ Some x → (w ≡ Saves) × (fresh (go null) ≡ x)
saves_is Saves go x h = (refl, one_of (fresh (go null)) x h)
saves_is _ go x h = cc

back_if : (b : Bool) (y x : Hardened) → (if b then Some y else None) ≡ Some x → (b ≡ true) × (y ≡ x)
back_if true y x h = (refl, one_of y x h)
back_if false y x h = cc

abbrev pub again : Saved → SiteId → Hardened
again sv s = record { frames = sv.copy; saved = Some (record { copy = sv.copy; tried = s ∷ sv.tried; taken = [] }) }

back_is : (s : Option Saved) (site : SiteId) (gs : List Given) (x : Hardened) → back s site gs ≡ Some x → (sv : Saved) × (s ≡ Some sv) × (again sv site ≡ x)
back_is None site gs x h = cc
back_is (Some sv) site gs x h = (sv, refl, (back_if (is_part gs (latest_first sv.taken)) (again sv site) x h).1)

retried_if : (b : Bool) (o : Option Hardened) (x : Hardened) → (if b then o else None) ≡ Some x → o ≡ Some x
retried_if true o x h = h
retried_if false o x h = cc

pub retried_is : (r : Option SiteId) (s : Option Saved) (site : SiteId) (gs : List Given) (x : Hardened) → retried r s site gs ≡ Some x → (sv : Saved) × (s ≡ Some sv) × (again sv site ≡ x)
retried_is None s site gs x h = cc
retried_is (Some at) s site gs x h = back_is s site gs x (retried_if (at.0 == site.0) (back s site gs) x h)

fault_if : (b : Bool) (o : Option Hardened) (x : Hardened) → (if b then None else o) ≡ Some x → o ≡ Some x
fault_if true o x h = cc
fault_if false o x h = h

-- an entry of a hardened thread saves, goes back, or is one of its frames
pub data Moved (code : Code) (h : Hardened) (a : EventAct) (x : Hardened) : Type 0 where
  Saving : a ≡ act.Save → (stand code h.frames).want ≡ Saves → fresh ((stand code h.frames).go null) ≡ x → Moved code h a x
  Going_back : (site : SiteId) (gs : List Given) → a ≡ act.Retry site gs → retried (retry_site code h) h.saved site gs ≡ Some x → Moved code h a x
  Stepping : (t : Thread) (gs : List Given) → after_entry (stand code h.frames) a ≡ Some t → record { frames = t; saved = took gs h.saved } ≡ x → Moved code h a x

pub moved : (code : Code) (h : Hardened) (a : EventAct) (x : Hardened) → hardened_advance code h a ≡ Some x → Moved code h a x
moved code h act.Save x e =
    let parts = saves_is (stand code h.frames).want (stand code h.frames).go x e in Saving refl parts.0 parts.1
moved code h (act.Retry site gs) x e = Going_back site gs refl e
moved code h (act.Fault k) x e =
    let parts = with_is (after_entry (stand code h.frames) (act.Fault k)) [] h.saved x (fault_if (is_some (retry_site code h) && is_failing k) _ x e) in Stepping parts.0 [] parts.1 parts.2
moved code h a x e =
    let parts = with_is (after_entry (stand code h.frames) a) (taking code (stand code h.frames).want a) h.saved x e in
    Stepping parts.0 (taking code (stand code h.frames).want a) parts.1 parts.2

module _ (code : Code) (G : Frame → Type 0) where
  abbrev pub IsSavedInPlace : Option Saved → Type 0
  IsSavedInPlace None = Unit {0}
  IsSavedInPlace (Some sv) = AreInPlace code G sv.copy × HasFrames sv.copy

  abbrev pub IsInPlace : Hardened → Type 0
  IsInPlace h = AreInPlace code G h.frames × IsSavedInPlace h.saved

  took_in_place : (gs : List Given) (s : Option Saved) → IsSavedInPlace s → IsSavedInPlace (took gs s)
  took_in_place gs None h = tt
  took_in_place gs (Some sv) h = h

  module _ (on_answer : (f : Frame) (w : Want) (x : Value) → G f → begun code f ≡ Wants w → (IsReturn w → ⊥) → G (answered code f x))
      (on_call : (f : Frame) (g : FunId) (xs : List Value) → G f → begun code f ≡ Wants (Calls g xs) → G (frame_of code g xs)) where
    -- a save stands in for a step of the frames
    save_entry : (w : Want) (go : Value → Thread) → w ≡ Saves → after_entry (record { want = w; go = go }) act.Save ≡ Some (go null)
    save_entry w go e = ap (λ w. after_entry (record { want = w; go = go }) act.Save) e

    saved_has_frames : (t : Thread) → HasFrames t ⊎ IsLast act.Save → HasFrames t
    saved_has_frames t (inl h) = h
    saved_has_frames t (inr h) = absurd h

    by_move : (h : Hardened) (a : EventAct) (x : Hardened) → Moved code h a x → IsInPlace h → IsInPlace x × (HasFrames x.frames ⊎ IsLast a)
    by_move h a x (Saving is w e) all =
        let go = (stand code h.frames).go in
        let parts = entry_in_place code G on_answer on_call h.frames act.Save (go null) (save_entry (stand code h.frames).want go w) all.0 in
        let some = saved_has_frames (go null) parts.1 in
        subst (λ y. IsInPlace y × (HasFrames y.frames ⊎ IsLast a)) e ((parts.0, (parts.0, some)), inl some)
    by_move h a x (Going_back site gs is e) all =
        let parts = retried_is (retry_site code h) h.saved site gs x e in
        let copy : IsSavedInPlace (Some parts.0) = subst IsSavedInPlace parts.1 all.1 in
        subst (λ y. IsInPlace y × (HasFrames y.frames ⊎ IsLast a)) parts.2 ((copy.0, copy), inl copy.1)
    by_move h a x (Stepping t gs is e) all =
        let parts = entry_in_place code G on_answer on_call h.frames a t is all.0 in
        subst (λ y. IsInPlace y × (HasFrames y.frames ⊎ IsLast a)) e ((parts.0, took_in_place gs h.saved all.1), parts.1)

    pub advance_in_place : (h : Hardened) (a : EventAct) (x : Hardened) → IsInPlace h → hardened_advance code h a ≡ Some x → IsInPlace x × (HasFrames x.frames ⊎ IsLast a)
    advance_in_place h a x all e = by_move h a x (moved code h a x e) all

  module _ (on_create : (f : Frame) (g : FunId) (x : Value) → G f → begun code f ≡ Wants (Creates g x) → G (frame_of code g (x ∷ []))) where
    started_by : (w : Want) (k : ℕ) (z : Hardened) → slice_get (started (hardened code) w) k ≡ Some z
        → (n : FunId) × (x : Value) × (w ≡ Creates n x) × (record { frames = frame_of code n (x ∷ []) ∷ []; saved = None } ≡ z)
    started_by (Creates n x) zero z e = (n, x, refl, one_of (record { frames = frame_of code n (x ∷ []) ∷ []; saved = None }) z e)
    started_by (Creates n x) (suc k) z e = cc
    started_by _ k z e = cc

    pub started_in_place : (h : Hardened) (k : ℕ) (z : Hardened) → IsInPlace h → slice_get (started (hardened code) ((hardened code).want h)) k ≡ Some z → IsInPlace z × HasFrames z.frames
    started_in_place h k z all e =
        let parts = started_by (stand code h.frames).want k z e in
        subst (λ y. IsInPlace y × HasFrames y.frames) parts.3 ((made_in_place code G on_create h.frames parts.0 parts.1 all.0 parts.2, tt), tt)

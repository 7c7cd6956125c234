-- A private state that goes on by an entry of its own.
use Rattle.std.proofs.Common.{◌≡◌, ℕ, List, [], ◌∷◌, ◌++◌, map, Option, Some, None, sym, ap, ◌∙◌, subst}
use Rattle.std.proofs.lemmas.List.{map-append}
use Rattle.ca_tree.specs.declared.numbers.FunId.{FunId}
use Rattle.ca_model.specs.declared.values.Value.{Value}
use Rattle.ca_model.specs.declared.values.Event.{Event}
use Rattle.ca_model.specs.declared.values.EventAct.{EventAct}
use Rattle.ca_model.specs.Frames.{Code}
use Rattle.ca_model.specs.Hardened.{Hardened, hardened, hardened_advance}
use Rattle.ca_model.specs.Machine.{private, by}
use Rattle.ca_model.specs.Matched.{Own, start_of}
use Rattle.ca_flow.specs.Lowerings.{Lowering, rules_of}
use Rattle.ca_thread.specs.declared.frames.RunningFrame.{RunningFrame as Running}
use Rattle.ca_thread.specs.declared.saved.SavedState.{SavedState}
use Rattle.ca_thread.specs.Changes.{StandsAs}
use Rattle.ca_thread.specs.Privates.{IsThere, AreMine}
use Rattle.ca_thread.specs.Entered.{with_entry}

-- one more entry
pub private_more : (code : Code) (o : Option Hardened) (as' : List EventAct) (a : EventAct) (h k : Hardened) → private (hardened code) o as' ≡ Some h → hardened_advance code h a ≡ Some k → private (hardened code) o (as' ++ a ∷ []) ≡ Some k
private_more code None as' a h k is next = none_leads as' is
  where
    none_leads : (as' : List EventAct) → private (hardened code) None as' ≡ Some h → private (hardened code) None (as' ++ a ∷ []) ≡ Some k
    none_leads [] is = cc
    none_leads (b ∷ as') is = cc
private_more code (Some x) [] a h k is next = ap (λ o. private (hardened code) o []) (ap (λ y. hardened_advance code y a) (some is) ∙ next)
  where
    some : {y z : Hardened} → Some y ≡ Some z → y ≡ z
    some e = cc
private_more code (Some x) (b ∷ as') a h k is next = private_more code (hardened_advance code x b) as' a h k is next

-- its events with one more
pub mine_more : (thread : ℕ) (es : List Event) (e : Event) → e.thread ≡ thread → AreMine thread es → AreMine thread (es ++ e ∷ [])
mine_more thread es e is mine =
    let acts : List Event → List EventAct = map (λ (x : Event). x.act) in
    ap (λ l. l ++ e ∷ []) mine
    ∙ (ap (λ (t : ℕ). map (by thread) (acts es) ++ (let x : Event = record { thread = t; act = e.act } in x) ∷ []) is
    ∙ (sym (map-append (by thread) (acts es) (e.act ∷ [])) ∙ ap (map (by thread)) (sym (map-append (λ (x : Event). x.act) es (e ∷ [])))))

-- the events with one more
acts_more : (events before new : List Event) (entry event : Event) → before ≡ events → entry ≡ event → new ≡ before ++ entry ∷ [] → map (λ (e : Event). e.act) new ≡ map (λ (e : Event). e.act) events ++ event.act ∷ []
acts_more events before new entry event first same is =
    ap (map (λ (e : Event). e.act)) is ∙ (map-append (λ (e : Event). e.act) before (entry ∷ []) ∙ (ap (λ l. map (λ (e : Event). e.act) l ++ entry.act ∷ []) first ∙ ap (λ (e : Event). map (λ (e : Event). e.act) events ++ e.act ∷ []) same))

pub mine_with : (thread : ℕ) (events before new : List Event) (entry event : Event) → AreMine thread events → before ≡ events → entry ≡ event → event.thread ≡ thread → new ≡ before ++ entry ∷ [] → AreMine thread new
mine_with thread events before new entry event mine first same is added =
    subst (AreMine thread) (sym (added ∙ (ap (λ l. l ++ entry ∷ []) first))) (mine_more thread events entry (ap (λ (e : Event). e.thread) same ∙ is) mine)

pub with_acts : (f : FunId) (x : Value) (events before new : List Event) (entry event : Event) → before ≡ events → entry ≡ event → new ≡ before ++ entry ∷ []
    → with_entry (record { function = f; argument = x; entries = map (λ (e : Event). e.act) events }) event.act ≡ record { function = f; argument = x; entries = map (λ (e : Event). e.act) new }
with_acts f x events before new entry event first same is = ap (λ es. let o : Own = record { function = f; argument = x; entries = es } in o) (sym (acts_more events before new entry event first same is))

-- where a private state is it stands for the thread to which its entries lead
pub stands_here : (l : Lowering) (thread : ℕ) (own : Own) (frames : List Running) (saved : Option SavedState) (there : IsThere l thread own frames saved) → StandsAs l frames saved there.state
stands_here l thread own frames saved there = record { rows = there.stands; kept = there.keeps }

pub entered : (l : Lowering) (thread : ℕ) (own : Own) (frames new : List Running) (saved after : Option SavedState) (there : IsThere l thread own frames saved) (a : EventAct) (k : Hardened)
    → hardened_advance (rules_of l) there.state a ≡ Some k → StandsAs l new after k → IsThere l thread (with_entry own a) new after
entered l thread own frames new saved after there a k next stands = record {
  state = k;
  leads = private_more (rules_of l) (Some (start_of (rules_of l) own)) own.entries a there.state k there.leads next;
  stands = stands.rows;
  keeps = stands.kept;
  start = there.start;
}

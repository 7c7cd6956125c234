-- What is prepared, and what a private state tells.
use Rattle.std.proofs.Common.{◌≡◌, ℕ, Bool, List, Option, Some, None, Ok, Err, sym, ap, ◌∙◌, subst}
use Rattle.std.specs.Prelude.{option_map, if◌then◌else◌}
use Rattle.std.proofs.lemmas.Bool.{eq-eqb}
use Rattle.ca_model.specs.declared.values.Event.{Event}
use Rattle.ca_model.specs.Frames.{Code}
use Rattle.ca_model.specs.Hardened.{Saved, Hardened, hardened_advance}
use Rattle.ca_model.specs.Matched.{Own, LeadsTo}
use Rattle.ca_flow.specs.Lowerings.{Lowering, rules_of}
use Rattle.ca_thread.specs.declared.frames.RunningFrame.{RunningFrame as Running}
use Rattle.ca_thread.specs.declared.saved.SavedState.{SavedState}
use Rattle.ca_thread.specs.declared.changes.AdvanceNo.{AdvanceNo}
use Rattle.ca_thread.specs.declared.changes.AdvanceNo.TheVariants as no
use Rattle.ca_thread.specs.declared.changes.Change.{Change}
use Rattle.ca_thread.specs.Changes.{StandsAs, Makes, Changes}
use Rattle.ca_thread.specs.Entered.{own_advance, Tells}
use Rattle.ca_thread.specs.Kept.{AreKept}
use Rattle.ca_thread.specs.Privates.{IsThere, IsReady}
use Rattle.ca_thread.specs.declared.private.Prepared.{Prepared}
use Rattle.ca_thread.specs.Standing.{AreStanding}
use Rattle.ca_thread.proofs.Advancing.{stands_here}
use Rattle.ca_thread.proofs.PrivateStates.{same_state}

pub same_some : (a b : Event) → Some a ≡ Some b → a ≡ b
same_some a b e = cc

own_same : (code : Code) (thread : ℕ) (h : Hardened) (e : Event) → e.thread ≡ thread → own_advance code thread h e ≡ hardened_advance code h e.act
own_same code thread h e is = ap (λ (b : Bool). if b then hardened_advance code h e.act else None) (eq-eqb e.thread thread is)

told_no : (l : Lowering) (h : Hardened) (o : Option Hardened) (x : AdvanceNo) → Changes l h o (Err x) → Tells (Err x) o
told_no l h o no.NotNext c = c
told_no l h o no.NoMemory c = tt

-- growths leave it where it is
pub grown : (l : Lowering) (thread : ℕ) (own : Own) (frames new : List Running) (saved after : Option SavedState) → IsThere l thread own frames saved → new ≡ frames → ((n : Lowering) (o : Option Saved) → AreKept n saved o → AreKept n after o) → IsThere l thread own new after
grown l thread own frames new saved after there same keeps = record {
  state = there.state;
  leads = there.leads;
  stands = subst (λ rows. AreStanding l rows there.state.frames) (sym same) there.stands;
  keeps = keeps l there.state.saved there.keeps;
  start = there.start;
}

module _ (l m : Lowering) (same : m ≡ l) (thread : ℕ) (own : Own) (frames flat : List Running) (saved : Option SavedState) (there : IsThere m thread own frames saved) (is : flat ≡ frames) (event : Event) where
  here : IsThere l thread own flat saved
  here = subst (λ rows. IsThere l thread own rows saved) (sym is) (subst (λ n. IsThere n thread own frames saved) same there)

  known : (h : Hardened) → LeadsTo (rules_of m) own h → here.state ≡ h
  known h leads = same_state l own here.state h here.leads (subst (λ n. LeadsTo (rules_of n) own h) same leads)

  pub told_refusal : (x : AdvanceNo) → event.thread ≡ thread → ((h : Hardened) → StandsAs l flat saved h → Changes l h (hardened_advance (rules_of l) h event.act) (Err x)) → (h : Hardened) → LeadsTo (rules_of m) own h → Tells (Err x) (own_advance (rules_of m) thread h event)
  told_refusal x mine fact h leads =
      subst (λ n. Tells (Err x) (own_advance (rules_of n) thread h event)) (sym same)
      (subst (λ k. Tells (Err x) (own_advance (rules_of l) thread k event)) (known h leads)
      (subst (Tells (Err x)) (sym (own_same (rules_of l) thread here.state event mine)) (told_no l here.state (hardened_advance (rules_of l) here.state event.act) x (fact here.state (stands_here l thread own flat saved here)))))

  pub goes_on : (c : Change) → ((h : Hardened) → StandsAs l flat saved h → Changes l h (hardened_advance (rules_of l) h event.act) (Ok c)) → (h : Hardened) → LeadsTo (rules_of m) own h → (k : Hardened) × (hardened_advance (rules_of m) h event.act ≡ Some k) × Makes m h c k
  goes_on c fact h leads =
      subst (λ n. (k : Hardened) × (hardened_advance (rules_of n) h event.act ≡ Some k) × Makes n h c k) (sym same)
      (subst (λ g. (k : Hardened) × (hardened_advance (rules_of l) g event.act ≡ Some k) × Makes l g c k) (known h leads) (fact here.state (stands_here l thread own flat saved here)))

  pub told_success : (c : Change) → event.thread ≡ thread → ((h : Hardened) → StandsAs l flat saved h → Changes l h (hardened_advance (rules_of l) h event.act) (Ok c)) → (h : Hardened) → LeadsTo (rules_of m) own h → Tells (Ok tt) (own_advance (rules_of m) thread h event)
  told_success c mine fact h leads = let goes = goes_on c fact h leads in (goes.0, own_same (rules_of m) thread h event mine ∙ goes.1)

-- what is prepared for an event is for one that goes on
pub told_prepared : (m : Lowering) (thread : ℕ) (own : Own) (frame event : Type 0) (saved : Option SavedState) (q : Option Prepared) (e : Event) → IsReady m thread own frame event saved q → option_map (λ (q : Prepared). q.entry) q ≡ Some e → (h : Hardened) → LeadsTo (rules_of m) own h → Tells (Ok tt) (own_advance (rules_of m) thread h e)
told_prepared m thread own frame event saved None e ready is h leads = absurd (cc)
told_prepared m thread own frame event saved (Some q) e ready is h leads =
    let same : q.entry ≡ e = same_some q.entry e is in
    let goes = ready.goes h leads in
    subst (λ x. Tells (Ok tt) (own_advance (rules_of m) thread h x)) same (goes.0, own_same (rules_of m) thread h q.entry ready.mine ∙ goes.1)

-- Private states and where their own entries lead.
use Rattle.std.proofs.Common.{◌≡◌, ℕ, List, [], ◌∷◌, Option, Some, None, refl, sym, ap, ◌∙◌, subst}
use Rattle.ca_tree.specs.declared.numbers.FunId.{FunId}
use Rattle.ca_model.specs.declared.values.Value.{Value}
use Rattle.ca_model.specs.Frames.{frame_of}
use Rattle.ca_model.specs.Hardened.{Saved, Hardened}
use Rattle.ca_model.specs.Matched.{Own, LeadsTo}
use Rattle.ca_flow.specs.Lowerings.{Lowering, rules_of}
use Rattle.ca_thread.specs.declared.frames.RunningFrame.{RunningFrame as Running}
use Rattle.ca_thread.specs.declared.saved.SavedState.{SavedState}
use Rattle.ca_thread.specs.Standing.{IsStanding, AreStanding}
use Rattle.ca_thread.specs.Kept.{IsKept, AreKept}
use Rattle.ca_thread.specs.Privates.{IsStart, IsThere}

-- own entries lead to one state
pub same_state : (l : Lowering) (o : Own) (h k : Hardened) → LeadsTo (rules_of l) o h → LeadsTo (rules_of l) o k → h ≡ k
same_state l o h k a b = ap (λ (o : Option Hardened). elim o [ None ↦ h | Some x ↦ x ]) (sym a ∙ b)

-- at its start
pub start_there : (l m : Lowering) (thread : ℕ) (f : FunId) (x : Value) (first : Running) (frames : List Running) (xs : List Value) → m ≡ l → IsStart l.source thread f → xs ≡ x ∷ [] → IsStanding l first (frame_of (rules_of l) f xs) → frames ≡ first ∷ []
    → IsThere m thread (record { function = f; argument = x; entries = [] }) frames None
start_there l m thread f x first frames xs same begins values standing is =
    subst (λ n. IsThere n thread (record { function = f; argument = x; entries = [] }) frames None) (sym same)
    (record {
      state = record { frames = frame_of (rules_of l) f (x ∷ []) ∷ []; saved = None };
      leads = refl;
      stands = subst (λ rows. AreStanding l rows (frame_of (rules_of l) f (x ∷ []) ∷ [])) (sym is) (subst (λ ys. IsStanding l first (frame_of (rules_of l) f ys)) values standing, tt);
      keeps = tt;
      start = begins;
    })

pub saved_there : (l : Lowering) (s : SavedState) (o : Option Saved) → AreKept l (Some s) o → (sv : Saved) × (o ≡ Some sv) × IsKept l s sv
saved_there l s (Some sv) k = (sv, refl, k)
saved_there l s None k = absurd k

-- One turn of the runner, an exit for each way that it goes.
use Rattle.std.proofs.Common.{◌≡◌, ◌≢◌, ◌<◌, ℕ, List, [], ◌∷◌, ◌++◌, length, Some, refl, sym, subst, ◌∙◌, arith}
use Rattle.std.specs.Prelude.{Contains}
use Rattle.ca_model.specs.declared.values.Event.{Event}
use Rattle.ca_model.specs.declared.values.Ending.{Ending}
use Rattle.ca_model.specs.declared.values.Ending.TheVariants as ending
use Rattle.ca_model.specs.Codes.{code_of}
use Rattle.ca_model.specs.Frames.{Code}
use Rattle.ca_model.specs.Hardened.{Hardened}
use Rattle.ca_model.specs.Machine.{by, State, Step}
use Rattle.ca_model.specs.Opening.{opening}
use Rattle.ca_model.specs.Schedules.{Schedule, Pick, pick}
use Rattle.ca_model.specs.Shared.{Open}
use Rattle.ca_model.specs.Runner.{AreEnabled, IsEnabled, Comes, IsCrowded, RunsOn, finished, failed, stuck, full, crowded, goes_on}
use Rattle.ca_model.proofs.Members.{at_head}
use Rattle.ca_model.proofs.Law.{one_of}
use Rattle.ca_model.proofs.RunnerRuns.{no_pick}
use Rattle.ca_model.proofs.RunnerEnds.{some_picked}
use Rattle.ca_machine.specs.Machines.{Traced, Reaches, rules, went}
use Rattle.ca_machine.specs.Runs.{GoesOn, IsAlong, IsClosedAs}
use Rattle.ca_machine.proofs.Stepping.{one_more}

pub closed_run : (code : Code) (events patience : ℕ) (c : Schedule) (s : State Hardened) (past : List Event) (end : Ending) → IsClosedAs s.shared.phase (Some end) → RunsOn code events patience c s past [] end
closed_run code events patience c s past ending.Finished h = finished h
closed_run code events patience c s past (ending.Fault k) h = failed h
closed_run code events patience c s past _ h = absurd h

-- the thread that is picked is enabled
pub picked : (xs : List ℕ) (c : Schedule) (p : Pick) → pick xs c ≡ Some p → Contains xs p.thread
picked [] c p h = absurd (no_pick c p h)
picked (x ∷ xs) c p h = let q = some_picked c x xs in subst (λ (r : Pick). Contains (x ∷ xs) r.thread) (one_of q.0 p (sym q.1 ∙ h)) q.2

some_in : (xs : List ℕ) → 0 < length xs → (x : ℕ) × Contains xs x
some_in [] h = absurd (omega arith)
some_in (x ∷ xs) h = (x, at_head x xs)

no_items : {A : Type 0} (xs : List A) → length xs ≡ 0 → xs ≡ []
no_items [] h = refl
no_items (x ∷ xs) h = absurd (omega arith)

-- a step by an event of that thread
pub step_of : (m : Traced) (s : State Hardened) (e : Event) (t : ℕ) → e.thread ≡ t → (new : State Hardened) → Step (rules m) s (by t e.act) new → Step (rules m) s e new
step_of m s e t same new st = subst (λ (d : Event). Step (rules m) s d new) (λ i. record { thread = sym same i; act = e.act }) st

module _ (events patience : ℕ) (m : Traced) (c : Schedule) (s : State Hardened) (run : Reaches m s) (begun : s.shared.phase ≡ Open) (xs : List ℕ) (en : AreEnabled (code_of m.source m.plan) events patience s m.trace xs) where
  pub stuck_run : length xs ≡ 0 → GoesOn events patience m c s [] ending.Deadlock
  stuck_run none = stuck begun (subst (AreEnabled (code_of m.source m.plan) events patience s m.trace) (no_items xs none) en)

  pub full_run : 0 < length xs → length m.trace ≡ events → GoesOn events patience m c s [] ending.Events
  full_run some at = let x = some_in xs some in full begun ((en.exactly x.0).0 x.1) at

  module _ (going : length m.trace ≢ events) (p : Pick) (pk : pick xs c ≡ Some p) where
    pub enabled_there : IsEnabled (code_of m.source m.plan) events patience s m.trace p.thread
    enabled_there = (en.exactly p.thread).0 (picked xs c p pk)

    module _ (e : Event) (thread : e.thread ≡ p.thread) (new : State Hardened) (co : Comes (code_of m.source m.plan) events patience s p.thread e.act new) where
      pub crowded_run : IsCrowded s e.act → GoesOn events patience m c s [] ending.Frames
      crowded_run cr = crowded (begun, going) en pk co cr

      same_event : by p.thread e.act ≡ e
      same_event = λ i. record { thread = sym thread i; act = e.act }

      pub along : (n : Traced) → n ≡ went m e → (IsCrowded s e.act → ⊥) → IsAlong events patience m n c p.after s
      along n is few = subst (λ (o : Traced). IsAlong events patience m o c p.after s) (sym is) (record {
        done = e ∷ [];
        source = refl;
        plan = refl;
        trace = refl;
        now = new;
        reached = one_more (rules m) m.trace e (opening (rules m) m.source) s new run (subst (λ d. Step (rules m) s d new) same_event co.step);
        back = λ rest end h. subst (λ d. GoesOn events patience m c s (d ∷ rest) end) same_event (goes_on (begun, going) en pk co few (subst (λ d. RunsOn (code_of m.source m.plan) events patience p.after new (m.trace ++ d ∷ []) rest end) (sym same_event) h));
      })

-- Where all threads rest, no entry is possible.
use Rattle.std.proofs.Common.{◌≡◌, ◌<◌, ◌^◌, ℕ, List, [], sym, ap, subst, ◌∙◌, inl, inr}
use Rattle.ca_model.specs.Hardened.{Hardened, hardened}
use Rattle.ca_model.specs.Shared.{Shared, Open}
use Rattle.ca_model.specs.Machine.{by, State}
use Rattle.ca_model.specs.Opening.{CanStep}
use Rattle.ca_model.specs.Runner.{IsLeastUnused, IsEnabled}
use Rattle.ca_model.specs.ComingEntries.{EndedBelow}
use Rattle.ca_model.proofs.EnabledThreads.{no_step}
use Rattle.ca_flow.specs.Lowerings.{Lowering, rules_of}
use Rattle.ca_shared.specs.Histories.{History, state}
use Rattle.ca_shared.specs.Legal.{IsWellKept}
use Rattle.ca_thread.specs.Privates.{Thread}
use Rattle.ca_machine.specs.Machines.{StandAs}
use Rattle.ca_machine.specs.Coming.{IsStatusOf}
use Rattle.ca_machine.specs.declared.coming.Status.TheVariants as status

module _ (code : Lowering) (shared : History) (ps : List Thread) (s : State Hardened) (st : StandAs code shared ps s) where
  pub moves_step : (t : ℕ) → IsStatusOf (rules_of code) 0 0 s t status.Moves → CanStep (hardened (rules_of code)) s
  moves_step t is = (by t is.0.0, is.0.1, is.0.2.step)

  pub late_step : (t : ℕ) → IsStatusOf (rules_of code) 0 0 s t status.TimesOut → CanStep (hardened (rules_of code)) s
  late_step t is = (by t is.1.0, is.1.1, is.1.2.step)

  pub none_steps : (k : ℕ) → IsLeastUnused (state shared).blocks k → k < 2 ^ 32 → IsWellKept (state shared) → s.shared.phase ≡ Open
      → ((t : ℕ) → t < s.shared.threads → IsStatusOf (rules_of code) 0 0 s t status.Rests) → CanStep (hardened (rules_of code)) s → ⊥
  none_steps k used few kept run rest =
      no_step (rules_of code) 0 0 s [] k (subst (λ (x : Shared). IsLeastUnused x.blocks k) (sym st.same) used) few
      (subst EndedBelow (sym st.same) (kept.made (sym (ap (λ (x : Shared). x.phase) st.same) ∙ run))) run none
    where
      none : (t : ℕ) → IsEnabled (rules_of code) 0 0 s [] t → ⊥
      none t (inl (inl m)) = (rest t m.2.step.legal.there).0 m
      none t (inl (inr w)) = (rest t w.0.2.step.legal.there).1 w.0
      none t (inr w) = (rest t w.1.2.step.legal.there).1 w.1

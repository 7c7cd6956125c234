-- What the machine gives from the opening is the runner's one list, which is a run.
use Rattle.std.proofs.Common.{◌≡◌, ◌<◌, ◌+◌, ◌^◌, ℕ, List, [], ◌++◌, length, refl, sym, subst, arith}
use Rattle.ca_model.specs.declared.plan.Plan.{Plan}
use Rattle.ca_model.specs.declared.values.Event.{Event}
use Rattle.ca_model.specs.declared.values.Ending.{Ending}
use Rattle.ca_model.specs.Codes.{Typed, code_of}
use Rattle.ca_model.specs.Hardened.{Hardened, hardened}
use Rattle.ca_model.specs.Machine.{State}
use Rattle.ca_model.specs.Opening.{EndsAs, opening, opening_shared}
use Rattle.ca_model.specs.Runner as runner
use Rattle.ca_model.specs.Runner.{run_ending}
use Rattle.ca_model.specs.Schedules.{Schedule}
use Rattle.ca_model.proofs.RunnerRuns.{runs}
use Rattle.ca_model.proofs.RunnerEnds.{runs_end}
use Rattle.ca_model.proofs.RunnerStates.{Reached, opening_reached}
use Rattle.ca_machine.specs.Machines.{Traced, Reaches, rules}
use Rattle.ca_machine.specs.Runs.{GoesOn}
use Rattle.ca_machine.proofs.Entering.{one_state}
use Rattle.ca_commands.specs.Words.{RunnerOptions}
use Rattle.ca_cmd.specs.Runs.{schedule_of, most_events, patience_of, IsRunAs}

-- a source at its opening, under a plan
abbrev pub opened : Typed → Plan → Traced
opened p plan = record { source = p; plan = plan; trace = [] }

-- what the machine gives from there
abbrev pub Went : ℕ → ℕ → Schedule → Traced → Traced → Ending → Type 0
Went events patience c m n end = (s : State Hardened) → Reaches m s → (rest : List Event) × (n ≡ record m { trace = m.trace ++ rest }) × GoesOn events patience m c s rest end

-- from equal machines, under equal schedules and limits
pub went_so : (events more patience calm : ℕ) (c d : Schedule) (m first n : Traced) (end : Ending) → m ≡ first → c ≡ d → events ≡ more → patience ≡ calm → Went events patience c m n end → Went more calm d first n end
went_so events more patience calm c d m first n end machine schedule limit patient went =
    subst (λ (k : ℕ). Went more k d first n end) patient (subst (λ (k : ℕ). Went k patience d first n end) limit
    (subst (λ (x : Schedule). Went events patience x first n end) schedule (subst (λ (k : Traced). Went events patience c k n end) machine went)))

module _ (p : Typed) (plan : Plan) (o : RunnerOptions) (n : Traced) (end : Ending) (went : Went (most_events o) (patience_of o) (schedule_of o) (opened p plan) n end) where
  abbrev first : State Hardened
  first = opening (hardened (code_of p plan)) p

  there : (rest : List Event) × (n ≡ record (opened p plan) { trace = [] ++ rest }) × GoesOn (most_events o) (patience_of o) (opened p plan) (schedule_of o) first rest end
  there = went first refl

  same : record { source = p; plan = plan; trace = there.0 } ≡ n
  same = sym there.1

  goes : runner.IsRunOf p plan (schedule_of o) (most_events o) (patience_of o) there.0 end
  goes = there.2

  pub is_run : IsRunAs p plan o (record { machine = n; ending = end })
  is_run =
      let run = runs (code_of p plan) (most_events o) (patience_of o) goes in
      subst (λ (m : Traced). IsRunAs p plan o (record { machine = m; ending = end })) same
      (record { source = refl; hardened = refl; last = run.0; reaches = run.1; run = record { run = goes; reached = run.1 } })

  pub ends : most_events o + length p.globals < 2 ^ 32 → (s : State Hardened) → Reaches n s → EndsAs (rules n) s (run_ending end)
  ends few =
      let over = runs_end (code_of p plan) (most_events o) (patience_of o) (length p.globals) few (omega arith) (subst (Reached (opening_shared p)) (omega arith) (opening_reached p)) goes in
      subst (λ (m : Traced). (s : State Hardened) → Reaches m s → EndsAs (rules m) s (run_ending end)) same
      (λ s reach. subst (λ (t : State Hardened). EndsAs (hardened (code_of p plan)) t (run_ending end)) (one_state (hardened (code_of p plan)) there.0 first over.0 s over.1 reach) over.2)

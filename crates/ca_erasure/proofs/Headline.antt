-- Hardening under the plan of a source adds no behaviour.
use Rattle.std.proofs.Common.{length, arith, subst}
use Rattle.ca_model.specs.declared.plan.Plan.{Plan}
use Rattle.ca_model.specs.declared.values.Ending.{Ending}
use Rattle.ca_model.specs.declared.values.Ending.TheVariants as ending
use Rattle.ca_model.specs.Machine.{State}
use Rattle.ca_model.specs.Hardened.{Hardened, hardened}
use Rattle.ca_model.specs.Codes.{Typed, code_of}
use Rattle.ca_model.specs.Opening.{opening_shared, EndsAs}
use Rattle.ca_model.specs.SourceRuns.{IsOver}
use Rattle.ca_model.specs.KnownGlobals.{KnowsItsGlobals}
use Rattle.ca_model.specs.Plans.{Options, IsPlanOf}
use Rattle.ca_model.specs.Runner.{run_ending}
use Rattle.ca_model.specs.WellFormed.{IsWellFormed}
use Rattle.ca_model.proofs.Bounded.{bounded}
use Rattle.ca_model.proofs.SoundPlan.{sound}
use Rattle.ca_model.proofs.RunnerEnds.{runs_end}
use Rattle.ca_model.proofs.RunnerStates.{Reached, opening_reached}
use Rattle.ca_erasure.specs.Headline.{AddsNoBehaviour}
use Rattle.ca_erasure.proofs.Erasure.{erases}
use Rattle.ca_erasure.proofs.Lifts.{lifts_runs}

ends_so : (p : Typed) (plan : Plan) (s : State Hardened) (end : Ending) → EndsAs (hardened (code_of p plan)) s (run_ending end) → IsOver end → EndsAs (hardened (code_of p plan)) s end
ends_so p plan s ending.Finished h over = h
ends_so p plan s (ending.Fault k) h over = h
ends_so p plan s ending.Deadlock h over = h
ends_so p plan s _ h over = absurd over

pub adds_no_behaviour : (p : Typed) → IsWellFormed p → KnowsItsGlobals p → (o : Options) (plan : Plan) → IsPlanOf p o plan → AddsNoBehaviour p plan
adds_no_behaviour p wf knows o plan is = record {
  erasure = erases p wf knows plan (sound p wf o plan is);
  lift = lifts_runs p plan;
  bound = bounded p (code_of p plan);
  runner = λ c events patience list end few f.
      let r = runs_end (code_of p plan) events patience (length p.globals) few (omega arith) (subst (Reached (opening_shared p)) (omega arith) (opening_reached p)) f in
      let e = erases p wf knows plan (sound p wf o plan is) list r.0 r.1 in
      (r.0, r.1, (e.0, e.1, e.2, λ over. e.3 end (ends_so p plan r.0 end r.2 over) over));
}

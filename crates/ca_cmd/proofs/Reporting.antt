-- What the program reports is a run of the file.
use Rattle.std.proofs.Common.{◌≡◌, ℕ, List, ◌∷◌, [], Err, refl, subst, inl}
use Rattle.std.specs.Prelude.{Ok}
use Rattle.ca_model.specs.declared.plan.Plan.{Plan}
use Rattle.ca_model.specs.Codes.{Typed, code_of}
use Rattle.ca_model.specs.typing.Sources.{Source}
use Rattle.ca_model.specs.Hardened.{Hardened, hardened}
use Rattle.ca_model.specs.Machine.{State}
use Rattle.ca_model.specs.Reports.{ending_status, report}
use Rattle.ca_machine.specs.Machines.{rules}
use Rattle.ca_shapes.specs.Laws.{EachProgramOfATextIsWritten}
use Rattle.ca_commands.specs.Words.{RunOptions, Run, Means}
use Rattle.ca_io.specs.Ports.{PutPort, LoadPort, Wrote, WrotePart, HasFailed}
use Rattle.ca_cmd.specs.Hardening.{IsHardening}
use Rattle.ca_cmd.specs.Runs.{IsRunAs}
use Rattle.ca_cmd.specs.Commands.{Cause, Ran, out_text, IsSourceIn, IsHardened}
use Rattle.ca_cmd.specs.Serving.{AskPort, Asked, MayGive, Arises, Serves}
use Rattle.ca_cmd.specs.declared.run.SourceRun.{SourceRun}
use Rattle.ca_cmd.specs.declared.refusals.ServeNo.TheVariants as serve_no
use Rattle.ca_cmd.proofs.Faithful.{faithful_run}

-- the text that is put
abbrev pub put_text : SourceRun → State Hardened → List ℕ
put_text r last = report (rules r.machine) last r.machine.trace r.ending

module _ (written : EachProgramOfATextIsWritten) (words : List (List ℕ)) (files : LoadPort) (asks : AskPort) (out : PutPort) (o : RunOptions) (r : SourceRun) (said : Means words (Run o)) (asked : Asked asks (o.name ∷ [])) (x : Source) (plan : Plan)
    (source : IsSourceIn (MayGive files) o.name x) (hardening : IsHardening o.plain o.plan x.typed plan) (ran : IsRunAs x.typed plan o.runner r) where
  abbrev cause : Cause
  cause = Ran o x plan r.machine.trace ran.last r.ending

  taken : IsHardened (MayGive files) (Run o) x plan
  taken = record { source = source; hardening = hardening }

  arises : Arises words files asks cause
  arises = record { stands = (said, taken, ran.run); asked = asked; faithful = faithful_run written (MayGive files) (Run o) x plan taken o r.machine.trace ran.last r.ending ran.run }

  -- the machine's own source and plan are these
  as_cause : (P : List ℕ → Type 0) → P (put_text r ran.last) → P (out_text cause)
  as_cause P put =
      let by_source = subst (λ (q : Typed). P (report (hardened (code_of q r.machine.plan)) ran.last r.machine.trace r.ending)) ran.source put in
      subst (λ (other : Plan). P (report (hardened (code_of x.typed other)) ran.last r.machine.trace r.ending)) ran.hardened by_source

  pub serves : (n : ℕ) → n ≡ ending_status r.ending → Wrote out (put_text r ran.last) → Serves words files asks out (Run o) (Ok n)
  serves n is wrote = (cause, arises, is, as_cause (Wrote out) wrote, refl)

  pub serves_failed : WrotePart out (put_text r ran.last) → HasFailed out → Serves words files asks out (Run o) (Err serve_no.Put)
  serves_failed part failed = (cause, arises, as_cause (WrotePart out) part, refl, failed)

  pub serves_starved : WrotePart out (put_text r ran.last) → Serves words files asks out (Run o) (Err serve_no.NoMemory)
  serves_starved part = inl (cause, arises, as_cause (WrotePart out) part)

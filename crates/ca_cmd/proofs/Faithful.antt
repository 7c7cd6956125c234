-- Hardening adds nothing to what the top call puts: the law of erasure and the bound of retries, for the plan of a command.
use Rattle.std.proofs.Common.{◌≡◌, ℕ, Bool, true, false, List, refl, sym, subst}
use Rattle.ca_tree.specs.TreeWords.{text_words}
use Rattle.ca_tree.specs.ProgramTrees.{IsWrittenProgram}
use Rattle.ca_shapes.specs.Laws.{EachProgramOfATextIsWritten}
use Rattle.ca_model.specs.declared.plan.Plan.{Plan}
use Rattle.ca_model.specs.declared.values.Event.{Event}
use Rattle.ca_model.specs.declared.values.Ending.{Ending}
use Rattle.ca_model.specs.Codes.{Typed, code_of}
use Rattle.ca_model.specs.Hardened.{Hardened}
use Rattle.ca_model.specs.Machine.{State}
use Rattle.ca_model.specs.KnownGlobals.{KnowsItsGlobals}
use Rattle.ca_model.specs.Plans.{IsSound}
use Rattle.ca_model.specs.Projection.{projection}
use Rattle.ca_model.specs.WellFormed.{IsWellFormed}
use Rattle.ca_model.specs.typing.Sources.{Source}
use Rattle.ca_model.proofs.Bounded.{bounded}
use Rattle.ca_model.proofs.NamesKnown.{names_known, knows_its_globals}
use Rattle.ca_model.proofs.NoPlan.{no_plan_is_sound}
use Rattle.ca_model.proofs.SoundPlan.{sound}
use Rattle.ca_model.proofs.TypedCounts.{typing_is_counted, well_formed_by}
use Rattle.ca_erasure.proofs.Erasure.{erases}
use Rattle.ca_check.specs.Verdicts.{LeadTo}
use Rattle.ca_check.proofs.Answering.{erased_by}
use Rattle.ca_plan.specs.Planning.{options_of}
use Rattle.ca_commands.specs.Words.{PlanOptions, RunOptions, Command, Run, Check, Sites, Project, Lift}
use Rattle.ca_cmd.specs.Loads.{Giving}
use Rattle.ca_cmd.specs.Hardening.{wanted, IsHardening}
use Rattle.ca_cmd.specs.Runs.{IsRun}
use Rattle.ca_cmd.specs.Traced.{IsMade}
use Rattle.ca_cmd.specs.Commands.{is_plain, said_of, Ran, Traced, IsHardened}
use Rattle.ca_cmd.specs.Faithful.{AddsNothing, IsFaithfulText, IsFaithful}

sound_so : (plain : Bool) (o : PlanOptions) (p : Typed) (plan : Plan) → IsWellFormed p → IsHardening plain o p plan → IsSound p plan
sound_so true o p plan formed is = subst (IsSound p) (sym is) (no_plan_is_sound p)
sound_so false o p plan formed is = sound p formed (options_of (wanted o)) plan is.1

module _ (written : EachProgramOfATextIsWritten) (Gives : Giving) (c : Command) (x : Source) (plan : Plan) (taken : IsHardened Gives c x plan) where
  is_written : IsWrittenProgram x.program
  is_written = let text = taken.source.is_so.text in written taken.source.bytes text.tokens x.program text.lexed text.read

  formed : IsWellFormed x.typed
  formed = let typing = taken.source.is_so.typing in well_formed_by (typing_is_counted is_written typing) (names_known text_words x.program x.typed is_written typing)

  knows : KnowsItsGlobals x.typed
  knows = knows_its_globals text_words x.program x.typed is_written taken.source.is_so.typing

  adds_nothing : (events list : List Event) (s : State Hardened) → LeadTo x.typed plan events s → list ≡ projection events → AddsNothing x.typed plan events list
  adds_nothing events list s run is = record {
    projected = is;
    erased = erased_by x.typed plan events list (erases x.typed formed knows plan (sound_so (is_plain c) (said_of c) x.typed plan formed taken.hardening)) (s, run) is;
    bounded = bounded x.typed (code_of x.typed plan) events s run;
  }

  pub faithful_run : (o : RunOptions) (events : List Event) (last : State Hardened) (end : Ending) → IsRun x.typed o.runner plan events last end → IsFaithful (Ran o x plan events last end)
  faithful_run o events last end run = (projection events, adds_nothing events (projection events) last run.reached refl)

  made_faithful : (d : Command) (events : List Event) (text : List ℕ) → IsMade d x.typed plan events text → IsFaithfulText d x.typed plan events text
  made_faithful (Run o) events text made = tt
  made_faithful (Check o) events text (end, run, is) = (projection events, adds_nothing events (projection events) run.last run.run refl)
  made_faithful (Sites o) events text made = tt
  made_faithful (Project o) events text ((s, run), is) = (projection events, is, adds_nothing events (projection events) s run refl)
  made_faithful (Lift o) events text (list, lift, is) = (list, is, adds_nothing list events lift.lifted.last lift.lifted.run (sym lift.lifted.projected))

  pub faithful_text : (events : List Event) (text : List ℕ) → IsMade c x.typed plan events text → IsFaithful (Traced c x plan events text)
  faithful_text events text made = made_faithful c events text made

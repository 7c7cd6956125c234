-- What the code's own types of words show.
use Rattle.std.specs.Prelude.{ℕ, List, codes, string_bytes}
use Rattle.ca_commands.specs.declared.words.PlanWords.{PlanWords}
use Rattle.ca_commands.specs.declared.words.RunnerWords.{RunnerWords}
use Rattle.ca_commands.specs.declared.words.RunWords.{RunWords}
use Rattle.ca_commands.specs.declared.words.CheckWords.{CheckWords}
use Rattle.ca_commands.specs.declared.words.SitesWords.{SitesWords}
use Rattle.ca_commands.specs.declared.words.TraceWords.{TraceWords}
use Rattle.ca_commands.specs.declared.words.CommandWords.{CommandWords}
use Rattle.ca_commands.specs.declared.words.CommandWords.TheVariants as words
use Rattle.ca_commands.specs.declared.words.Verb.{Verb}
use Rattle.ca_commands.specs.declared.words.Verb.TheVariants as verb
use Rattle.ca_commands.specs.Words.{PlanOptions, RunnerOptions, RunOptions, CheckOptions, SitesOptions, TraceOptions, Command, Run, Check, Sites, Project, Lift}

abbrev pub plan_options : PlanWords → PlanOptions
plan_options w = record { limit = w.limit; depth = w.depth; only = w.only }

abbrev pub runner_options : RunnerWords → RunnerOptions
runner_options w = record { events = w.events; patience = w.patience; schedule = w.schedule; seed = w.seed }

abbrev pub run_options : RunWords → RunOptions
run_options w = record { name = string_bytes w.name; plain = w.plain; plan = plan_options w.plan; runner = runner_options w.runner }

abbrev pub check_options : CheckWords → CheckOptions
check_options w = record { name = string_bytes w.name; trace = string_bytes w.trace; plain = w.plain; plan = plan_options w.plan }

abbrev pub sites_options : SitesWords → SitesOptions
sites_options w = record { name = string_bytes w.name; plan = plan_options w.plan }

abbrev pub trace_options : TraceWords → TraceOptions
trace_options w = record { name = string_bytes w.name; trace = string_bytes w.trace; plan = plan_options w.plan }

abbrev pub command : CommandWords → Command
command (words.Run w) = Run (run_options w)
command (words.Check w) = Check (check_options w)
command (words.Sites w) = Sites (sites_options w)
command (words.Project w) = Project (trace_options w)
command (words.Lift w) = Lift (trace_options w)

-- the words of the commands
abbrev pub verb_text : Verb → List ℕ
verb_text verb.Run = codes "run"
verb_text verb.Check = codes "check"
verb_text verb.Sites = codes "sites"
verb_text verb.Project = codes "project"
verb_text verb.Lift = codes "lift"

abbrev pub verb_of : Command → Verb
verb_of (Run o) = verb.Run
verb_of (Check o) = verb.Check
verb_of (Sites o) = verb.Sites
verb_of (Project o) = verb.Project
verb_of (Lift o) = verb.Lift

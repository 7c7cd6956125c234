-- What a command does: the files that it names, and the causes of an answer. Each cause has one status, the names that are asked for, its texts on `out` and
-- `err`, and where it stands.
use Rattle.std.specs.Prelude.{◌≡◌, ◌+◌, ℕ, Bool, false, List, [], ◌∷◌, ◌++◌, get_or, codes}
use Rattle.std.specs.Fmt.{decimal}
use Rattle.ca_tree.specs.Lexed.{HasFault}
use Rattle.ca_model.specs.declared.plan.Plan.{Plan}
use Rattle.ca_model.specs.declared.values.Event.{Event}
use Rattle.ca_model.specs.declared.values.Ending.{Ending}
use Rattle.ca_model.specs.Codes.{Typed, code_of}
use Rattle.ca_model.specs.typing.Sources.{Source}
use Rattle.ca_model.specs.Hardened.{Hardened, hardened}
use Rattle.ca_model.specs.Machine.{State}
use Rattle.ca_model.specs.Traces.{line_end}
use Rattle.ca_model.specs.Reports.{ending_status, report}
use Rattle.ca_traces.specs.Readings.{IsReading, LacksReading}
use Rattle.ca_check.specs.Verdicts.{IsFirstNoStep}
use Rattle.ca_commands.specs.Words.{PlanOptions, RunOptions, SitesOptions, Command, Run, Check, Sites, Project, Lift, Means}
use Rattle.ca_cmd.specs.declared.refusals.SourceFault.{SourceFault}
use Rattle.ca_cmd.specs.declared.refusals.SourceFault.TheVariants as source_fault
use Rattle.ca_cmd.specs.declared.refusals.TraceFault.{TraceFault}
use Rattle.ca_cmd.specs.declared.refusals.TraceFault.TheVariants as trace_fault
use Rattle.ca_cmd.specs.declared.refusals.Refusal.{Refusal}
use Rattle.ca_cmd.specs.declared.refusals.Refusal.TheVariants as refusal
use Rattle.ca_cmd.specs.FaultTexts.{lex_words, read_words, type_words, fault_at}
use Rattle.ca_cmd.specs.Sources.{IsSource, HasReadFault, HasTypeFault}
use Rattle.ca_cmd.specs.Loads.{source_limit, trace_limit, Exceeded, Unloaded, Giving, HoldsSo}
use Rattle.ca_cmd.specs.Hardening.{IsHardening, LacksSite, IsTableBy}
use Rattle.ca_cmd.specs.Runs.{IsRun}
use Rattle.ca_cmd.specs.Traced.{followed, IsMade, IsUnliftable}

-- ---- what a command names

-- the file of its source
abbrev pub source_of : Command → List ℕ
source_of (Run o) = o.name
source_of (Check o) = o.name
source_of (Sites o) = o.name
source_of (Project o) = o.name
source_of (Lift o) = o.name

-- that of its trace, where it has one
abbrev pub traces_of : Command → List (List ℕ)
traces_of (Run o) = []
traces_of (Check o) = o.trace ∷ []
traces_of (Sites o) = []
traces_of (Project o) = o.trace ∷ []
traces_of (Lift o) = o.trace ∷ []

abbrev pub HasTrace : Command → Type 0
HasTrace c = (name : List ℕ) × (traces_of c ≡ name ∷ [])

-- all its files, in the order in which they are loaded
abbrev pub files_of : Command → List (List ℕ)
files_of c = source_of c ∷ traces_of c

-- whether it takes its source as it is, and what it says of the plan
abbrev pub is_plain : Command → Bool
is_plain (Run o) = o.plain
is_plain (Check o) = o.plain
is_plain (Sites o) = false
is_plain (Project o) = false
is_plain (Lift o) = false

abbrev pub said_of : Command → PlanOptions
said_of (Run o) = o.plan
said_of (Check o) = o.plan
said_of (Sites o) = o.plan
said_of (Project o) = o.plan
said_of (Lift o) = o.plan

-- ---- causes

-- what decides the answer
pub data Cause : Type 0 where
  Misworded : Cause
  Refused : (c : Command) (r : Refusal) → Cause
  Ran : (o : RunOptions) (x : Source) (plan : Plan) (events : List Event) (last : State Hardened) (end : Ending) → Cause
  Traced : (c : Command) (x : Source) (plan : Plan) (events : List Event) (text : List ℕ) → Cause
  Tabled : (o : SitesOptions) (x : Source) (text : List ℕ) → Cause

abbrev pub refusal_status : Refusal → ℕ
refusal_status (refusal.Source source_fault.Unread) = 6
refusal_status (refusal.Source _) = 3
refusal_status (refusal.NoSuchSite n) = 2
refusal_status (refusal.Trace trace_fault.Unread) = 6
refusal_status (refusal.Trace _) = 9

abbrev pub status : Cause → ℕ
status Misworded = 2
status (Refused c r) = refusal_status r
status (Ran o x plan events last end) = ending_status end
status (Traced c x plan events text) = 0
status (Tabled o x text) = 0

-- the names that are asked for, in order: where a trace is refused, that of the trace too
abbrev pub refused_names : Command → Refusal → List (List ℕ)
refused_names c (refusal.Source f) = source_of c ∷ []
refused_names c (refusal.NoSuchSite n) = source_of c ∷ []
refused_names c (refusal.Trace f) = files_of c

abbrev pub asked_names : Cause → List (List ℕ)
asked_names Misworded = []
asked_names (Refused c r) = refused_names c r
asked_names (Ran o x plan events last end) = files_of (Run o)
asked_names (Traced c x plan events text) = files_of c
asked_names (Tabled o x text) = files_of (Sites o)

-- ---- texts

-- a refusal writes nothing to `out`
abbrev pub out_text : Cause → List ℕ
out_text Misworded = []
out_text (Refused c r) = []
out_text (Ran o x plan events last end) = report (hardened (code_of x.typed plan)) last events end
out_text (Traced c x plan events text) = text
out_text (Tabled o x text) = text

-- a text that names the file
abbrev pub message : List ℕ → List ℕ → List ℕ → List ℕ
message front name back = front ++ (name ++ (back ++ line_end))

abbrev pub source_text : List ℕ → SourceFault → List ℕ
source_text name source_fault.Unread = message (codes "conair: cannot read ") name []
source_text name source_fault.TooLong = message (codes "conair: ") name (codes ": longer than 1048576 bytes")
source_text name (source_fault.NoTokens f) = message (codes "conair: ") name (fault_at f.pos (lex_words f.kind))
source_text name (source_fault.NoProgram f) = message (codes "conair: ") name (fault_at f.pos (read_words f.kind))
source_text name (source_fault.Untyped f) = message (codes "conair: ") name (fault_at f.pos (type_words f.kind))

-- entries are told by their number, from 1
abbrev pub trace_text : List ℕ → TraceFault → List ℕ
trace_text name trace_fault.Unread = message (codes "conair: cannot read ") name []
trace_text name trace_fault.TooLong = message (codes "conair: ") name (codes ": longer than 268435456 bytes")
trace_text name (trace_fault.NoLine line) = message (codes "conair: ") name (codes ": line " ++ (decimal line ++ codes " is not a trace line"))
trace_text name (trace_fault.NoStep index) = message (codes "conair: ") name (codes ": entry " ++ (decimal (index + 1) ++ codes " is not a step"))
trace_text name (trace_fault.Fault index) = message (codes "conair: ") name (codes ": entry " ++ (decimal (index + 1) ++ codes " is a fault"))

abbrev pub refusal_text : Command → Refusal → List ℕ
refusal_text c (refusal.Source f) = source_text (source_of c) f
refusal_text c (refusal.NoSuchSite n) = codes "conair: no site s" ++ (decimal n ++ line_end)
refusal_text c (refusal.Trace f) = trace_text (get_or (traces_of c) 0 []) f

-- only a refusal writes to `err`
abbrev pub err_text : Cause → List ℕ
err_text Misworded = codes "conair: words not understood" ++ line_end
err_text (Refused c r) = refusal_text c r
err_text (Ran o x plan events last end) = []
err_text (Traced c x plan events text) = []
err_text (Tabled o x text) = []

-- the text on `err` where memory is wanted, which may come at any place
abbrev pub memory_text : List ℕ
memory_text = codes "conair: out of memory" ++ line_end

-- ---- where a cause stands

-- the file is this accepted source
abbrev pub IsSourceIn : Giving → List ℕ → Source → Type 0
IsSourceIn Gives name x = HoldsSo Gives source_limit name (λ bytes. IsSource bytes x)

-- the file's text is read as these entries
abbrev pub IsTraceIn : Giving → List ℕ → List Event → Type 0
IsTraceIn Gives name events = HoldsSo Gives trace_limit name (λ bytes. IsReading bytes events)

-- the file of a command is this source, and this is its plan
pub record IsHardened (Gives : Giving) (c : Command) (x : Source) (plan : Plan) : Type 0 where
  pub source : IsSourceIn Gives (source_of c) x
  pub hardening : IsHardening (is_plain c) (said_of c) x.typed plan

abbrev pub RefusesSource : Giving → List ℕ → SourceFault → Type 0
RefusesSource Gives name source_fault.Unread = Gives source_limit name Unloaded
RefusesSource Gives name source_fault.TooLong = Gives source_limit name Exceeded
RefusesSource Gives name (source_fault.NoTokens f) = HoldsSo Gives source_limit name (λ bytes. HasFault bytes f)
RefusesSource Gives name (source_fault.NoProgram f) = HoldsSo Gives source_limit name (λ bytes. HasReadFault bytes f)
RefusesSource Gives name (source_fault.Untyped f) = HoldsSo Gives source_limit name (λ bytes. HasTypeFault bytes f)

-- as a trace of a source under a plan, by a command
abbrev pub RefusesTrace : Giving → Command → Typed → Plan → List ℕ → TraceFault → Type 0
RefusesTrace Gives c p plan name trace_fault.Unread = Gives trace_limit name Unloaded
RefusesTrace Gives c p plan name trace_fault.TooLong = Gives trace_limit name Exceeded
RefusesTrace Gives c p plan name (trace_fault.NoLine line) = HoldsSo Gives trace_limit name (λ bytes. LacksReading bytes line)
RefusesTrace Gives c p plan name (trace_fault.NoStep index) = (events : List Event) × IsTraceIn Gives name events × IsFirstNoStep p (followed c plan) events index
RefusesTrace Gives c p plan name (trace_fault.Fault index) = (events : List Event) × IsTraceIn Gives name events × IsUnliftable c p events index

-- the trace of a command is refused, and its source isn't
pub record IsTraceRefused (Gives : Giving) (c : Command) (f : TraceFault) : Type 0 where
  pub source : Source
  pub plan : Plan
  pub taken : IsHardened Gives c source plan
  pub name : List ℕ
  pub named : traces_of c ≡ name ∷ []
  pub refused : RefusesTrace Gives c source.typed plan name f

-- the source of a command, its plan, and the entries of its trace
pub record IsGiven (Gives : Giving) (c : Command) (x : Source) (plan : Plan) (events : List Event) : Type 0 where
  pub taken : IsHardened Gives c x plan
  pub name : List ℕ
  pub named : traces_of c ≡ name ∷ []
  pub trace : IsTraceIn Gives name events

abbrev pub Refuses : Giving → Command → Refusal → Type 0
Refuses Gives c (refusal.Source f) = RefusesSource Gives (source_of c) f
Refuses Gives c (refusal.NoSuchSite n) = (x : Source) × IsSourceIn Gives (source_of c) x × LacksSite (is_plain c) (said_of c) x.typed n
Refuses Gives c (refusal.Trace f) = IsTraceRefused Gives c f

-- the cause is there: in the words, in what the loads of the files gave, in their bytes
abbrev pub Stands : List (List ℕ) → Giving → Cause → Type 0
Stands words Gives Misworded = (c : Command) → Means words c → ⊥
Stands words Gives (Refused c r) = Means words c × Refuses Gives c r
Stands words Gives (Ran o x plan events last end) = Means words (Run o) × IsHardened Gives (Run o) x plan × IsRun x.typed o.runner plan events last end
Stands words Gives (Traced c x plan events text) = Means words c × IsGiven Gives c x plan events × IsMade c x.typed plan events text
Stands words Gives (Tabled o x text) = Means words (Sites o) × IsSourceIn Gives o.name x × IsTableBy o.plan x text

-- What the top call answers and writes, by its words, what is told of the files, and what its puts did.
use Rattle.std.specs.Prelude.{◌≡◌, ◌≤◌, ◌<◌, ◌⊎◌, ℕ, Bool, false, List, [], ◌∷◌, ◌++◌, length, IfSome, Some, Result, Ok, Err}
use Rattle.ca_model.specs.declared.plan.Plan.{Plan}
use Rattle.ca_model.specs.declared.values.Event.{Event}
use Rattle.ca_model.specs.Codes.{Typed}
use Rattle.ca_model.specs.typing.Sources.{Source}
use Rattle.ca_traces.specs.Readings.{LacksReading}
use Rattle.ca_check.specs.Verdicts.{IsFirstNoStep}
use Rattle.ca_commands.specs.Words.{PlanOptions, Command, Means}
use Rattle.ca_cmd.specs.Loads.{Loaded, Exceeded, Unloaded, Giving, trace_limit, HoldsSo}
use Rattle.ca_cmd.specs.Hardening.{IsHardening, LacksSite, IsTableBy}
use Rattle.ca_cmd.specs.Traced.{followed, IsMade, IsUnliftable}
use Rattle.ca_cmd.specs.Commands.{files_of, Cause, Refused, status, asked_names, out_text, err_text, memory_text, IsSourceIn, IsTraceIn, IsGiven, RefusesSource, Stands}
use Rattle.ca_cmd.specs.Faithful.{IsFaithful}
use Rattle.ca_cmd.specs.declared.refusals.Refusal.TheVariants as refusal
use Rattle.ca_cmd.specs.declared.refusals.TraceFault.TheVariants as trace_fault
use Rattle.ca_cmd.specs.declared.traced.Prepared.{Prepared}
use Rattle.ca_cmd.specs.declared.refusals.ServeNo.{ServeNo}
use Rattle.ca_cmd.specs.declared.refusals.ServeNo.TheVariants as serve_no
use Rattle.ca_io.specs.Outside.{IsTold}
use Rattle.ca_io.specs.Ports.{PutPort, LoadPort, Wrote, WrotePart, HasFailed, HasFailedLoad}

-- the names that were asked for, before and after a call
pub record AskPort : Type 0 where
  pub old : List (List ℕ)
  pub new : List (List ℕ)

abbrev pub ask_port : {F : Type 0} → (F → List (List ℕ)) → F → F → AskPort
ask_port asked old new = record { old = asked old; new = asked new }

-- these names were asked for, in this order, and no others
abbrev pub Asked : AskPort → List (List ℕ) → Type 0
Asked p names = p.new ≡ p.old ++ names

-- some of them, from the first on
abbrev pub AskedPart : AskPort → List (List ℕ) → Type 0
AskedPart p names = (front rest : List (List ℕ)) × (names ≡ front ++ rest) × Asked p front

-- what the load of a name may have given: where its contents are told, they are these
abbrev pub MayGive : LoadPort → Giving
MayGive files limit name (Loaded bytes) = IsTold (files.holds name) bytes × (length bytes ≤ limit)
MayGive files limit name Exceeded = IfSome (files.holds name) (λ bytes. limit < length bytes)
MayGive files limit name Unloaded = HasFailedLoad files

-- what the load of a name gives where its contents are told and no load fails
abbrev pub Holds : LoadPort → Giving
Holds files limit name (Loaded bytes) = (files.holds name ≡ Some bytes) × (length bytes ≤ limit)
Holds files limit name Exceeded = (bytes : List ℕ) × (files.holds name ≡ Some bytes) × (limit < length bytes)
Holds files limit name Unloaded = ⊥

-- the cause is there, its names were asked for, and hardening has added nothing to it
pub record Arises (words : List (List ℕ)) (files : LoadPort) (asks : AskPort) (cause : Cause) : Type 0 where
  pub stands : Stands words (MayGive files) cause
  pub asked : Asked asks (asked_names cause)
  pub faithful : IsFaithful cause

-- the cause is there, this is its status, its names were asked for, and its texts were put whole
pub record Answers (words : List (List ℕ)) (files : LoadPort) (asks : AskPort) (out err : PutPort) (cause : Cause) (result : ℕ) : Type 0 where
  pub arises : Arises words files asks cause
  pub is_status : result ≡ status cause
  pub on_out : Wrote out (out_text cause)
  pub on_err : Wrote err (err_text cause)

-- the cause is there, its names were asked for, and fronts of its texts were put; on `err` it may be a front of the text on want of memory
pub record Breaks (words : List (List ℕ)) (files : LoadPort) (asks : AskPort) (out err : PutPort) (cause : Cause) : Type 0 where
  pub arises : Arises words files asks cause
  pub on_out : WrotePart out (out_text cause)
  pub on_err : WrotePart err (err_text cause) ⊎ WrotePart err memory_text

-- of the files that the words name some were asked for, from the first on
pub record AsksSome (words : List (List ℕ)) (asks : AskPort) : Type 0 where
  pub command : Command
  pub said : Means words command
  pub asked : AskedPart asks (files_of command)

-- memory ran out before it was known which cause is there: of the files that the words name some were asked for, or none since the words weren't known, and
-- nothing was put to `out`
pub record IsStarved (words : List (List ℕ)) (asks : AskPort) (out err : PutPort) : Type 0 where
  pub asked : Asked asks [] ⊎ AsksSome words asks
  pub on_out : Wrote out []
  pub on_err : WrotePart err memory_text

-- the answer was cut short
abbrev pub IsCut : List (List ℕ) → LoadPort → AskPort → PutPort → PutPort → Type 0
IsCut words files asks out err = ((cause : Cause) × Breaks words files asks out err cause) ⊎ IsStarved words asks out err

-- no count of faults has risen
pub record NoneFailed (files : LoadPort) (out err : PutPort) : Type 0 where
  pub no_load : HasFailedLoad files → ⊥
  pub no_out : HasFailed out → ⊥
  pub no_err : HasFailed err → ⊥

-- one text was put, with this status; or the put failed or found no memory
abbrev pub Closes : ℕ → List ℕ → ℕ → PutPort → Type 0
Closes wanted text result p = ((result ≡ wanted) × Wrote p text) ⊎ (((result ≡ 7) × WrotePart p text × HasFailed p) ⊎ ((result ≡ 8) × WrotePart p text))

-- the text of a cause was put with its status; or that on want of memory, since there was none for the text
abbrev pub Tells : Cause → ℕ → PutPort → Type 0
Tells cause result p = Closes (status cause) (err_text cause) result p ⊎ Closes 8 memory_text result p

-- ---- a command is served

-- what the loading and reading of a source answers
abbrev pub Opens : LoadPort → AskPort → List ℕ → Result Source ServeNo → Type 0
Opens files asks name (Ok found) = IsSourceIn (MayGive files) name found × Asked asks (name ∷ [])
Opens files asks name (Err (serve_no.Refused (refusal.Source f))) = RefusesSource (MayGive files) name f × Asked asks (name ∷ [])
Opens files asks name (Err serve_no.NoMemory) = AskedPart asks (name ∷ [])
Opens files asks name (Err _) = ⊥

-- the making of its plan
abbrev pub Hardens : Bool → PlanOptions → Typed → Result Plan ServeNo → Type 0
Hardens plain o p (Ok plan) = IsHardening plain o p plan
Hardens plain o p (Err (serve_no.Refused (refusal.NoSuchSite n))) = LacksSite plain o p n
Hardens plain o p (Err serve_no.NoMemory) = Unit {0}
Hardens plain o p (Err _) = ⊥

-- the making of its table
abbrev pub Tables : PlanOptions → Source → Result (List ℕ) ServeNo → Type 0
Tables o x (Ok text) = IsTableBy o x text
Tables o x (Err (serve_no.Refused (refusal.NoSuchSite n))) = LacksSite false o x.typed n
Tables o x (Err serve_no.NoMemory) = Unit {0}
Tables o x (Err _) = ⊥

-- the loading and reading of a trace
abbrev pub Traces : LoadPort → AskPort → List ℕ → Result (List Event) ServeNo → Type 0
Traces files asks name (Ok events) = IsTraceIn (MayGive files) name events × Asked asks (name ∷ [])
Traces files asks name (Err (serve_no.Refused (refusal.Trace trace_fault.Unread))) = MayGive files trace_limit name Unloaded × Asked asks (name ∷ [])
Traces files asks name (Err (serve_no.Refused (refusal.Trace trace_fault.TooLong))) = MayGive files trace_limit name Exceeded × Asked asks (name ∷ [])
Traces files asks name (Err (serve_no.Refused (refusal.Trace (trace_fault.NoLine line)))) = HoldsSo (MayGive files) trace_limit name (λ bytes. LacksReading bytes line) × Asked asks (name ∷ [])
Traces files asks name (Err serve_no.NoMemory) = AskedPart asks (name ∷ [])
Traces files asks name (Err _) = ⊥

-- why the text of a command isn't made: a refusal, whose cause is there, or want of memory
abbrev pub Stops : List (List ℕ) → LoadPort → AskPort → Command → ServeNo → Type 0
Stops words files asks c (serve_no.Refused r) = Arises words files asks (Refused c r)
Stops words files asks c serve_no.Put = ⊥
Stops words files asks c serve_no.NoMemory = AskedPart asks (files_of c)

-- the source of a command with its plan, and the entries of its trace
abbrev pub Prepares : List (List ℕ) → LoadPort → AskPort → Command → Result Prepared ServeNo → Type 0
Prepares words files asks c (Ok g) = IsGiven (MayGive files) c g.checked g.plan g.events × Asked asks (files_of c)
Prepares words files asks c (Err why) = Stops words files asks c why

-- the making of a text of them
abbrev pub Transforms : Command → Typed → Plan → List Event → Result (List ℕ) ServeNo → Type 0
Transforms c p plan events (Ok text) = IsMade c p plan events text
Transforms c p plan events (Err (serve_no.Refused (refusal.Trace (trace_fault.NoStep index)))) = IsFirstNoStep p (followed c plan) events index
Transforms c p plan events (Err (serve_no.Refused (refusal.Trace (trace_fault.Fault index)))) = IsUnliftable c p events index
Transforms c p plan events (Err serve_no.NoMemory) = Unit {0}
Transforms c p plan events (Err _) = ⊥

-- a cause with the status 0 has this text for `out`, and none for `err`
pub record IsToPut (words : List (List ℕ)) (files : LoadPort) (asks : AskPort) (text : List ℕ) : Type 0 where
  pub cause : Cause
  pub arises : Arises words files asks cause
  pub is_text : out_text cause ≡ text
  pub is_status : status cause ≡ 0
  pub silent : err_text cause ≡ []

-- the making of the text of a command
abbrev pub Makes : List (List ℕ) → LoadPort → AskPort → Command → Result (List ℕ) ServeNo → Type 0
Makes words files asks c (Ok text) = IsToPut words files asks text
Makes words files asks c (Err why) = Stops words files asks c why

-- what serving a command answers: the status of a cause that puts nothing to `err` and whose text was put whole; a refusal, whose cause is there; that a put of
-- such a text failed; or that memory ran out, while the text was put or before a cause was known
abbrev pub Serves : List (List ℕ) → LoadPort → AskPort → PutPort → Command → Result ℕ ServeNo → Type 0
Serves words files asks out c (Ok n) = (cause : Cause) × Arises words files asks cause × (n ≡ status cause) × Wrote out (out_text cause) × (err_text cause ≡ [])
Serves words files asks out c (Err (serve_no.Refused r)) = Arises words files asks (Refused c r) × Wrote out []
Serves words files asks out c (Err serve_no.Put) = (cause : Cause) × Arises words files asks cause × WrotePart out (out_text cause) × (err_text cause ≡ []) × HasFailed out
Serves words files asks out c (Err serve_no.NoMemory) =
    ((cause : Cause) × Arises words files asks cause × WrotePart out (out_text cause)) ⊎ (AskedPart asks (files_of c) × Wrote out [])

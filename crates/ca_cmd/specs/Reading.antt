-- What the reading of a text answers.
use Rattle.std.specs.Prelude.{ℕ, List, Result, Ok, Err}
use Rattle.ca_tree.specs.Lexed.{HasFault}
use Rattle.ca_model.specs.declared.values.Event.{Event}
use Rattle.ca_model.specs.typing.Sources.{Source}
use Rattle.ca_traces.specs.Readings.{IsReading, LacksReading}
use Rattle.ca_cmd.specs.declared.refusals.SourceFault.TheVariants as source_fault
use Rattle.ca_cmd.specs.declared.refusals.TraceFault.TheVariants as trace_fault
use Rattle.ca_cmd.specs.declared.refusals.Refusal.TheVariants as refusal
use Rattle.ca_cmd.specs.declared.refusals.ServeNo.{ServeNo}
use Rattle.ca_cmd.specs.declared.refusals.ServeNo.TheVariants as serve_no
use Rattle.ca_cmd.specs.Sources.{IsSource, HasReadFault, HasTypeFault}

-- the source that the bytes are, or their first fault; nothing is said where memory was wanted
abbrev pub ReadsAs : List ℕ → Result Source ServeNo → Type 0
ReadsAs bytes (Ok found) = IsSource bytes found
ReadsAs bytes (Err (serve_no.Refused (refusal.Source (source_fault.NoTokens f)))) = HasFault bytes f
ReadsAs bytes (Err (serve_no.Refused (refusal.Source (source_fault.NoProgram f)))) = HasReadFault bytes f
ReadsAs bytes (Err (serve_no.Refused (refusal.Source (source_fault.Untyped f)))) = HasTypeFault bytes f
ReadsAs bytes (Err serve_no.NoMemory) = Unit {0}
ReadsAs bytes (Err _) = ⊥

-- the entries that the bytes are, or their first line without a reading
abbrev pub ReadsTrace : List ℕ → Result (List Event) ServeNo → Type 0
ReadsTrace bytes (Ok events) = IsReading bytes events
ReadsTrace bytes (Err (serve_no.Refused (refusal.Trace (trace_fault.NoLine line)))) = LacksReading bytes line
ReadsTrace bytes (Err serve_no.NoMemory) = Unit {0}
ReadsTrace bytes (Err _) = ⊥

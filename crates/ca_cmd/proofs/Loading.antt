-- What is read of what was loaded, and two loads, one after the other.
use Rattle.std.proofs.Common.{◌≡◌, ◌≤◌, ◌<◌, ℕ, List, [], ◌∷◌, ◌++◌, length, Option, Result, Err, refl, ap, subst, arith, append_assoc, ◌∙◌}
use Rattle.std.specs.Prelude.{IfSome, Ok}
use Rattle.ca_io.specs.Outside.{IsTold, Rose}
use Rattle.ca_io.specs.Ports.{LoadPort, load_port}
use Rattle.ca_model.specs.declared.values.Event.{Event}
use Rattle.ca_model.specs.typing.Sources.{Source}
use Rattle.ca_cmd.specs.declared.refusals.SourceFault.TheVariants as source_fault
use Rattle.ca_cmd.specs.declared.refusals.TraceFault.TheVariants as trace_fault
use Rattle.ca_cmd.specs.declared.refusals.Refusal.TheVariants as refusal
use Rattle.ca_cmd.specs.declared.refusals.ServeNo.{ServeNo}
use Rattle.ca_cmd.specs.declared.refusals.ServeNo.TheVariants as serve_no
use Rattle.ca_cmd.specs.Reading.{ReadsAs, ReadsTrace}
use Rattle.ca_cmd.specs.Loads.{Load, Loaded, Exceeded, Unloaded, HoldsSo, source_limit, trace_limit}
use Rattle.ca_cmd.specs.Commands.{IsSourceIn}
use Rattle.ca_cmd.specs.Serving.{AskPort, ask_port, Asked, AskedPart, MayGive, Opens, Traces}

module _ (files : LoadPort) (asks : AskPort) (name bytes text : List ℕ) (same : text ≡ bytes) (asked : Asked asks (name ∷ [])) where
  all_asked : AskedPart asks (name ∷ [])
  all_asked = (name ∷ [], [], refl, asked)

  so : (limit : ℕ) (IsSo : List ℕ → Type 0) → MayGive files limit name (Loaded bytes) → IsSo text → HoldsSo (MayGive files) limit name IsSo
  so limit IsSo loaded is = record { bytes = bytes; loaded = loaded; is_so = subst IsSo same is }

  -- as a source
  pub opened : MayGive files source_limit name (Loaded bytes) → (r : Result Source ServeNo) → ReadsAs text r → Opens files asks name r
  opened loaded (Ok found) reads = (so source_limit _ loaded reads, asked)
  opened loaded (Err (serve_no.Refused (refusal.Source (source_fault.NoTokens f)))) reads = (so source_limit _ loaded reads, asked)
  opened loaded (Err (serve_no.Refused (refusal.Source (source_fault.NoProgram f)))) reads = (so source_limit _ loaded reads, asked)
  opened loaded (Err (serve_no.Refused (refusal.Source (source_fault.Untyped f)))) reads = (so source_limit _ loaded reads, asked)
  opened loaded (Err (serve_no.Refused (refusal.Source source_fault.Unread))) reads = absurd reads
  opened loaded (Err (serve_no.Refused (refusal.Source source_fault.TooLong))) reads = absurd reads
  opened loaded (Err (serve_no.Refused (refusal.NoSuchSite n))) reads = absurd reads
  opened loaded (Err (serve_no.Refused (refusal.Trace f))) reads = absurd reads
  opened loaded (Err serve_no.Put) reads = absurd reads
  opened loaded (Err serve_no.NoMemory) reads = all_asked

  -- as a trace
  pub traced : MayGive files trace_limit name (Loaded bytes) → (r : Result (List Event) ServeNo) → ReadsTrace text r → Traces files asks name r
  traced loaded (Ok events) reads = (so trace_limit _ loaded reads, asked)
  traced loaded (Err (serve_no.Refused (refusal.Trace (trace_fault.NoLine line)))) reads = (so trace_limit _ loaded reads, asked)
  traced loaded (Err (serve_no.Refused (refusal.Trace trace_fault.Unread))) reads = absurd reads
  traced loaded (Err (serve_no.Refused (refusal.Trace trace_fault.TooLong))) reads = absurd reads
  traced loaded (Err (serve_no.Refused (refusal.Trace (trace_fault.NoStep index)))) reads = absurd reads
  traced loaded (Err (serve_no.Refused (refusal.Trace (trace_fault.Fault index)))) reads = absurd reads
  traced loaded (Err (serve_no.Refused (refusal.Source f))) reads = absurd reads
  traced loaded (Err (serve_no.Refused (refusal.NoSuchSite n))) reads = absurd reads
  traced loaded (Err serve_no.Put) reads = absurd reads
  traced loaded (Err serve_no.NoMemory) reads = all_asked

rose_from : (a b c : ℕ) → a ≤ b → Rose b c → Rose a c
rose_from a b c less rose = omega (arith, less, rose)

module _ {F : Type 0} (holds : F → List ℕ → Option (List ℕ)) (faults : F → ℕ) (asked : F → List (List ℕ)) (old mid new : F) where
  abbrev pub first : LoadPort
  first = load_port holds faults old mid

  abbrev pub second : LoadPort
  second = load_port holds faults mid new

  abbrev pub both : LoadPort
  both = load_port holds faults old new

  abbrev pub first_asks : AskPort
  first_asks = ask_port asked old mid

  abbrev pub second_asks : AskPort
  second_asks = ask_port asked mid new

  abbrev pub both_asks : AskPort
  both_asks = ask_port asked old new

  -- what was loaded first
  pub source_held : (name : List ℕ) (x : Source) → IsSourceIn (MayGive first) name x → IsSourceIn (MayGive both) name x
  source_held name x h = record { bytes = h.bytes; loaded = h.loaded; is_so = h.is_so }

  module _ (kept : holds mid ≡ holds old) (later : faults old ≤ faults mid) where
    -- what was loaded then
    pub given : (limit : ℕ) (name : List ℕ) (l : Load) → MayGive second limit name l → MayGive both limit name l
    given limit name (Loaded bytes) (told, short) = (subst (λ (h : List ℕ → Option (List ℕ)). IsTold (h name) bytes) kept told, short)
    given limit name Exceeded long = subst (λ (h : List ℕ → Option (List ℕ)). IfSome (h name) (λ bytes. limit < length bytes)) kept long
    given limit name Unloaded rose = rose_from (faults old) (faults mid) (faults new) later rose

    pub held : (limit : ℕ) (name : List ℕ) (IsSo : List ℕ → Type 0) → HoldsSo (MayGive second) limit name IsSo → HoldsSo (MayGive both) limit name IsSo
    held limit name IsSo h = record { bytes = h.bytes; loaded = given limit name (Loaded h.bytes) h.loaded; is_so = h.is_so }

  pub asked_both : (xs ys : List (List ℕ)) → Asked first_asks xs → Asked second_asks ys → Asked both_asks (xs ++ ys)
  asked_both xs ys a b = b ∙ (ap (λ (t : List (List ℕ)). t ++ ys) a ∙ append_assoc (asked old) xs ys)

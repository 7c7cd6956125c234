-- A command whose source or trace isn't taken stops as its refusal is there; else a text is made of what it names.
use Rattle.std.proofs.Common.{◌≡◌, ◌≤◌, ℕ, List, [], ◌∷◌, ◌++◌, Option, Result, Err, refl, sym, ap, subst, append_assoc, append-nil, ◌∙◌}
use Rattle.std.specs.Prelude.{Ok}
use Rattle.ca_shapes.specs.Laws.{EachProgramOfATextIsWritten}
use Rattle.ca_model.specs.declared.plan.Plan.{Plan}
use Rattle.ca_model.specs.declared.values.Event.{Event}
use Rattle.ca_model.specs.typing.Sources.{Source}
use Rattle.ca_commands.specs.Words.{SitesOptions, Command, Sites, Means}
use Rattle.ca_io.specs.Ports.{LoadPort}
use Rattle.ca_cmd.specs.declared.refusals.TraceFault.{TraceFault}
use Rattle.ca_cmd.specs.declared.refusals.TraceFault.TheVariants as trace_fault
use Rattle.ca_cmd.specs.declared.refusals.Refusal.TheVariants as refusal
use Rattle.ca_cmd.specs.declared.refusals.ServeNo.{ServeNo}
use Rattle.ca_cmd.specs.declared.refusals.ServeNo.TheVariants as serve_no
use Rattle.ca_cmd.specs.Loads.{Unloaded, Exceeded, trace_limit}
use Rattle.ca_cmd.specs.Hardening.{IsHardening}
use Rattle.ca_cmd.specs.Commands.{source_of, traces_of, files_of, is_plain, said_of, Traced, Tabled, IsSourceIn, IsHardened, IsGiven, RefusesTrace}
use Rattle.ca_cmd.specs.Serving.{AskPort, Asked, MayGive, Opens, Hardens, Tables, Traces, Stops, Transforms, Makes}
use Rattle.ca_cmd.proofs.Faithful.{faithful_text}
use Rattle.ca_cmd.proofs.Loading.{first, second, both, first_asks, second_asks, both_asks, source_held, given, held, asked_both}

module _ (words : List (List ℕ)) (c : Command) (said : Means words c) (files : LoadPort) (asks : AskPort) where
  -- the source isn't read
  pub unopened : (why : ServeNo) → Opens files asks (source_of c) (Err why) → Stops words files asks c why
  unopened (serve_no.Refused (refusal.Source f)) (refuses, asked) = record { stands = (said, refuses); asked = asked; faithful = tt }
  unopened (serve_no.Refused (refusal.NoSuchSite n)) opens = absurd opens
  unopened (serve_no.Refused (refusal.Trace f)) opens = absurd opens
  unopened serve_no.Put opens = absurd opens
  unopened serve_no.NoMemory (front, rest, is, asked) = (front, rest ++ traces_of c, ap (λ (t : List (List ℕ)). t ++ traces_of c) is ∙ append_assoc front rest (traces_of c), asked)

  pub unopened_as : (name : List ℕ) (why : ServeNo) → name ≡ source_of c → Opens files asks name (Err why) → Stops words files asks c why
  unopened_as name why is opens = unopened why (subst (λ (n : List ℕ). Opens files asks n (Err why)) is opens)

  -- it has no plan
  pub unhardened : (x : Source) → IsSourceIn (MayGive files) (source_of c) x → Asked asks (source_of c ∷ []) → (why : ServeNo) → Hardens (is_plain c) (said_of c) x.typed (Err why) → Stops words files asks c why
  unhardened x source asked (serve_no.Refused (refusal.NoSuchSite n)) lacks = record { stands = (said, (x, source, lacks)); asked = asked; faithful = tt }
  unhardened x source asked (serve_no.Refused (refusal.Source f)) hardens = absurd hardens
  unhardened x source asked (serve_no.Refused (refusal.Trace f)) hardens = absurd hardens
  unhardened x source asked serve_no.Put hardens = absurd hardens
  unhardened x source asked serve_no.NoMemory hardens = (source_of c ∷ [], traces_of c, refl, asked)

-- the table of a source
pub tabled : (words : List (List ℕ)) (o : SitesOptions) (said : Means words (Sites o)) (files : LoadPort) (asks : AskPort) (x : Source) → IsSourceIn (MayGive files) o.name x → Asked asks (o.name ∷ []) → (r : Result (List ℕ) ServeNo) → Tables o.plan x r
    → Makes words files asks (Sites o) r
tabled words o said files asks x source asked (Ok text) table = record { cause = Tabled o x text; arises = record { stands = (said, source, table); asked = asked; faithful = tt }; is_text = refl; is_status = refl; silent = refl }
tabled words o said files asks x source asked (Err (serve_no.Refused (refusal.NoSuchSite n))) lacks = record { stands = (said, (x, source, lacks)); asked = asked; faithful = tt }
tabled words o said files asks x source asked (Err (serve_no.Refused (refusal.Source f))) tables = absurd tables
tabled words o said files asks x source asked (Err (serve_no.Refused (refusal.Trace f))) tables = absurd tables
tabled words o said files asks x source asked (Err serve_no.Put) tables = absurd tables
tabled words o said files asks x source asked (Err serve_no.NoMemory) tables = (o.name ∷ [], [], refl, asked)

-- a trace is loaded behind the source
module _ {F : Type 0} (holds : F → List ℕ → Option (List ℕ)) (faults : F → ℕ) (asked : F → List (List ℕ)) (old mid new : F) (kept : holds mid ≡ holds old) (later : faults old ≤ faults mid)
    (words : List (List ℕ)) (c : Command) (said : Means words c) (name : List ℕ) (named : traces_of c ≡ name ∷ []) (x : Source) (plan : Plan)
    (source : IsSourceIn (MayGive (first holds faults asked old mid new)) (source_of c) x) (hardening : IsHardening (is_plain c) (said_of c) x.typed plan) (asked_source : Asked (first_asks holds faults asked old mid new) (source_of c ∷ [])) where
  abbrev files : LoadPort
  files = both holds faults asked old mid new

  abbrev asks : AskPort
  asks = both_asks holds faults asked old mid new

  taken : IsHardened (MayGive files) c x plan
  taken = record { source = source_held holds faults asked old mid new (source_of c) x source; hardening = hardening }

  all_asked : Asked (second_asks holds faults asked old mid new) (name ∷ []) → Asked asks (files_of c)
  all_asked asked_trace = asked_both holds faults asked old mid new (source_of c ∷ []) (name ∷ []) asked_source asked_trace ∙ ap (λ (t : List (List ℕ)). asks.old ++ (source_of c ∷ t)) (sym named)

  refused_trace : (f : TraceFault) → RefusesTrace (MayGive files) c x.typed plan name f → Asked (second_asks holds faults asked old mid new) (name ∷ []) → Stops words files asks c (serve_no.Refused (refusal.Trace f))
  refused_trace f refused asked_trace = record {
    stands = (said, record { source = x; plan = plan; taken = taken; name = name; named = named; refused = refused });
    asked = all_asked asked_trace;
    faithful = tt;
  }

  -- the trace isn't read
  pub untraced : (why : ServeNo) → Traces (second holds faults asked old mid new) (second_asks holds faults asked old mid new) name (Err why) → Stops words files asks c why
  untraced (serve_no.Refused (refusal.Trace trace_fault.Unread)) (gives, asked_trace) = refused_trace trace_fault.Unread (given holds faults asked old mid new kept later trace_limit name Unloaded gives) asked_trace
  untraced (serve_no.Refused (refusal.Trace trace_fault.TooLong)) (gives, asked_trace) = refused_trace trace_fault.TooLong (given holds faults asked old mid new kept later trace_limit name Exceeded gives) asked_trace
  untraced (serve_no.Refused (refusal.Trace (trace_fault.NoLine line))) (lacks, asked_trace) = refused_trace (trace_fault.NoLine line) (held holds faults asked old mid new kept later trace_limit name _ lacks) asked_trace
  untraced (serve_no.Refused (refusal.Trace (trace_fault.NoStep index))) traces = absurd traces
  untraced (serve_no.Refused (refusal.Trace (trace_fault.Fault index))) traces = absurd traces
  untraced (serve_no.Refused (refusal.Source f)) traces = absurd traces
  untraced (serve_no.Refused (refusal.NoSuchSite n)) traces = absurd traces
  untraced serve_no.Put traces = absurd traces
  untraced serve_no.NoMemory (front, rest, is, asked_front) = (
    source_of c ∷ front,
    rest,
    ap (λ (t : List (List ℕ)). source_of c ∷ t) (named ∙ is),
    asked_both holds faults asked old mid new (source_of c ∷ []) front asked_source asked_front,
  )

  pub untraced_as : (other : List ℕ) (why : ServeNo) → other ≡ name → Traces (second holds faults asked old mid new) (second_asks holds faults asked old mid new) other (Err why) → Stops words files asks c why
  untraced_as other why is traces = untraced why (subst (λ (n : List ℕ). Traces (second holds faults asked old mid new) (second_asks holds faults asked old mid new) n (Err why)) is traces)

  -- it is
  pub all_given : (other : List ℕ) (events : List Event) → other ≡ name → Traces (second holds faults asked old mid new) (second_asks holds faults asked old mid new) other (Ok events) → IsGiven (MayGive files) c x plan events × Asked asks (files_of c)
  all_given other events is traces =
      let (trace, asked_trace) = subst (λ (n : List ℕ). Traces (second holds faults asked old mid new) (second_asks holds faults asked old mid new) n (Ok events)) is traces in
      (record { taken = taken; name = name; named = named; trace = held holds faults asked old mid new kept later trace_limit name _ trace }, all_asked asked_trace)

-- a text is made of it
module _ (written : EachProgramOfATextIsWritten) (words : List (List ℕ)) (c : Command) (said : Means words c) (files : LoadPort) (asks : AskPort) (x : Source) (plan : Plan) (events : List Event) (g : IsGiven (MayGive files) c x plan events) (asked : Asked asks (files_of c)) where
  refused_given : (f : TraceFault) → RefusesTrace (MayGive files) c x.typed plan g.name f → Stops words files asks c (serve_no.Refused (refusal.Trace f))
  refused_given f refused = record { stands = (said, record { source = x; plan = plan; taken = g.taken; name = g.name; named = g.named; refused = refused }); asked = asked; faithful = tt }

  pub transformed : (r : Result (List ℕ) ServeNo) → Transforms c x.typed plan events r → Makes words files asks c r
  transformed (Ok text) made = record {
    cause = Traced c x plan events text;
    arises = record { stands = (said, g, made); asked = asked; faithful = faithful_text written (MayGive files) c x plan g.taken events text made };
    is_text = refl;
    is_status = refl;
    silent = refl;
  }
  transformed (Err (serve_no.Refused (refusal.Trace (trace_fault.NoStep index)))) none = refused_given (trace_fault.NoStep index) (events, g.trace, none)
  transformed (Err (serve_no.Refused (refusal.Trace (trace_fault.Fault index)))) there = refused_given (trace_fault.Fault index) (events, g.trace, there)
  transformed (Err (serve_no.Refused (refusal.Trace trace_fault.Unread))) never = absurd never
  transformed (Err (serve_no.Refused (refusal.Trace trace_fault.TooLong))) never = absurd never
  transformed (Err (serve_no.Refused (refusal.Trace (trace_fault.NoLine line)))) never = absurd never
  transformed (Err (serve_no.Refused (refusal.Source f))) never = absurd never
  transformed (Err (serve_no.Refused (refusal.NoSuchSite n))) never = absurd never
  transformed (Err serve_no.Put) never = absurd never
  transformed (Err serve_no.NoMemory) nothing = (files_of c, [], sym (append-nil (files_of c)), asked)

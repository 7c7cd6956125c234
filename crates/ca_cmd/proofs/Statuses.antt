-- Where the contents of the files are told, the causes that are there have one status.
use Rattle.std.proofs.Common.{◌≡◌, ◌<◌, ℕ, Bool, true, false, List, [], ◌∷◌, length, Option, Some, None, Err, Contains, refl, sym, ap, subst, inl, inr, arith, ◌∙◌}
use Rattle.std.specs.Prelude.{◌⊎◌, IfSome, cond}
use Rattle.std.proofs.lemmas.List.Elements.{Contains-append_right}
use Rattle.ca_traces.specs.Readings.{IsReading}
use Rattle.ca_model.specs.declared.plan.Plan.{Plan}
use Rattle.ca_model.specs.declared.values.Event.{Event}
use Rattle.ca_model.specs.declared.values.Ending.{Ending}
use Rattle.ca_model.specs.Codes.{Typed, code_of}
use Rattle.ca_model.specs.typing.Sources.{Source}
use Rattle.ca_model.specs.Hardened.{Hardened}
use Rattle.ca_model.specs.Machine.{State}
use Rattle.ca_model.specs.Reports.{ending_status}
use Rattle.ca_model.proofs.Members.{at_head}
use Rattle.ca_model.proofs.OnePlan.{one_plan}
use Rattle.ca_model.proofs.RunnerRuns.{one_run}
use Rattle.ca_model.proofs.RunnerStates.{opening_reached}
use Rattle.ca_traces.proofs.OneReading.{one_list, not_both}
use Rattle.ca_check.specs.declared.lifting.LiftNo.TheVariants as lift_no
use Rattle.ca_check.specs.Verdicts.{IsFirstNoStep}
use Rattle.ca_check.proofs.Answering.{only_list}
use Rattle.ca_check.proofs.Passing.{no_way, no_run}
use Rattle.ca_plan.specs.Planning.{AreSiteNumbers, named, options_of}
use Rattle.ca_commands.specs.Words.{PlanOptions, RunnerOptions, Command, Run, Check, Sites, Project, Lift, Means}
use Rattle.ca_commands.proofs.OneMeaning.{one_meaning}
use Rattle.ca_io.specs.Outside.{IsTold}
use Rattle.ca_io.specs.Ports.{PutPort, LoadPort, HasFailedLoad}
use Rattle.ca_cmd.specs.declared.refusals.SourceFault.{SourceFault}
use Rattle.ca_cmd.specs.declared.refusals.SourceFault.TheVariants as source_fault
use Rattle.ca_cmd.specs.declared.refusals.TraceFault.{TraceFault}
use Rattle.ca_cmd.specs.declared.refusals.TraceFault.TheVariants as trace_fault
use Rattle.ca_cmd.specs.declared.refusals.Refusal.TheVariants as refusal
use Rattle.ca_cmd.specs.Loads.{Load, Loaded, Exceeded, Unloaded, Giving, HoldsSo, source_limit, trace_limit}
use Rattle.ca_cmd.specs.Hardening.{wanted, IsHardening, LacksSite}
use Rattle.ca_cmd.specs.Sources.{IsSource}
use Rattle.ca_cmd.specs.Runs.{IsRun, most_events, patience_of}
use Rattle.ca_cmd.specs.Traced.{followed, IsMade, IsUnliftable}
use Rattle.ca_cmd.specs.Commands.{source_of, traces_of, is_plain, said_of, Cause, Misworded, Refused, Ran, Traced, Tabled, refusal_status, status, IsSourceIn, IsTraceIn, IsHardened, RefusesSource, RefusesTrace, Stands}
use Rattle.ca_cmd.specs.Serving.{AskPort, MayGive, Holds, NoneFailed}
use Rattle.ca_cmd.proofs.Ends.{Ends}
use Rattle.ca_cmd.proofs.Sources.{one_source, lexes, reads, types}

-- ---- what a cause is made of, one thing after the other

-- the sites that are named are there, where the source is hardened
abbrev HasSites : Bool → PlanOptions → Typed → Type 0
HasSites true o p = Unit {0}
HasSites false o p = AreSiteNumbers p (named o.only)

-- a trace is refused, or a text is made of it
abbrev OfNamed : Giving → Command → Typed → Plan → ℕ → List ℕ → Type 0
OfNamed Gives c p plan n name =
    ((f : TraceFault) × RefusesTrace Gives c p plan name f × (n ≡ refusal_status (refusal.Trace f)))
    ⊎ ((events : List Event) × (text : List ℕ) × IsTraceIn Gives name events × IsMade c p plan events text × (n ≡ 0))

abbrev OfTrace : Giving → Command → Typed → Plan → ℕ → Type 0
OfTrace Gives c p plan n = (name : List ℕ) × (traces_of c ≡ name ∷ []) × OfNamed Gives c p plan n name

abbrev OfPlan : Giving → Command → Typed → ℕ → Type 0
OfPlan Gives c p n = (plan : Plan) × IsHardening (is_plain c) (said_of c) p plan × OfTrace Gives c p plan n

-- behind an accepted source: its run, its table, or what its trace is
abbrev Behind : Giving → Command → Typed → ℕ → Type 0
Behind Gives (Run o) p n =
    (plan : Plan) × (events : List Event) × (last : State Hardened) × (end : Ending) × IsHardening o.plain o.plan p plan × IsRun p o.runner plan events last end × (n ≡ ending_status end)
Behind Gives (Check o) p n = OfPlan Gives (Check o) p n
Behind Gives (Sites o) p n = n ≡ 0
Behind Gives (Project o) p n = OfPlan Gives (Project o) p n
Behind Gives (Lift o) p n = OfPlan Gives (Lift o) p n

-- a source lacks a site that is named, or goes on
abbrev OfSites : Giving → Command → Typed → ℕ → Type 0
OfSites Gives c p n = ((m : ℕ) × LacksSite (is_plain c) (said_of c) p m × (n ≡ 2)) ⊎ (HasSites (is_plain c) (said_of c) p × Behind Gives c p n)

-- a source that is refused, or an accepted one
abbrev Parts : Giving → Command → ℕ → Type 0
Parts Gives c n =
    ((f : SourceFault) × RefusesSource Gives (source_of c) f × (n ≡ refusal_status (refusal.Source f)))
    ⊎ ((x : Source) × IsSourceIn Gives (source_of c) x × OfSites Gives c x.typed n)

has_sites : (plain : Bool) (o : PlanOptions) (p : Typed) (plan : Plan) → IsHardening plain o p plan → HasSites plain o p
has_sites true o p plan h = tt
has_sites false o p plan h = h.0

traced_parts : (Gives : Giving) (c : Command) (x : Source) (plan : Plan) (n : ℕ) → IsHardened Gives c x plan → OfTrace Gives c x.typed plan n → Parts Gives c n
traced_parts Gives (Run o) x plan n taken (name, named, rest) = absurd cc
traced_parts Gives (Check o) x plan n taken of = inr (x, taken.source, inr (has_sites o.plain o.plan x.typed plan taken.hardening, (plan, taken.hardening, of)))
traced_parts Gives (Sites o) x plan n taken (name, named, rest) = absurd cc
traced_parts Gives (Project o) x plan n taken of = inr (x, taken.source, inr (has_sites false o.plan x.typed plan taken.hardening, (plan, taken.hardening, of)))
traced_parts Gives (Lift o) x plan n taken of = inr (x, taken.source, inr (has_sites false o.plan x.typed plan taken.hardening, (plan, taken.hardening, of)))

-- words that are no command, or are one
abbrev OfWords : List (List ℕ) → Giving → ℕ → Type 0
OfWords words Gives n = (((c : Command) → Means words c → ⊥) × (n ≡ 2)) ⊎ ((c : Command) × Means words c × Parts Gives c n)

parts : (words : List (List ℕ)) (Gives : Giving) (a : Cause) → Stands words Gives a → OfWords words Gives (status a)
parts words Gives Misworded never = inl (never, refl)
parts words Gives (Refused c (refusal.Source f)) (said, refuses) = inr (c, said, inl (f, refuses, refl))
parts words Gives (Refused c (refusal.NoSuchSite n)) (said, (x, source, lacks)) = inr (c, said, inr (x, source, inl (n, lacks, refl)))
parts words Gives (Refused c (refusal.Trace f)) (said, t) = inr (c, said, traced_parts Gives c t.source t.plan (refusal_status (refusal.Trace f)) t.taken (t.name, t.named, inl (f, t.refused, refl)))
parts words Gives (Ran o x plan events last end) (said, taken, run) =
    inr (Run o, said, inr (x, taken.source, inr (has_sites o.plain o.plan x.typed plan taken.hardening, (plan, events, last, end, taken.hardening, run, refl))))
parts words Gives (Traced c x plan events text) (said, g, made) = inr (c, said, traced_parts Gives c x plan 0 g.taken (g.name, g.named, inr (events, text, g.trace, made, refl)))
parts words Gives (Tabled o x text) (said, source, (sites, table)) = inr (Sites o, said, inr (x, source, inr (sites, refl)))

-- ---- what is one

one_hardening : (plain : Bool) (o : PlanOptions) (p : Typed) (plan other : Plan) → IsHardening plain o p plan → IsHardening plain o p other → plan ≡ other
one_hardening true o p plan other a b = a ∙ sym b
one_hardening false o p plan other a b = one_plan p (options_of (wanted o)) plan other a.1 b.1

lacks_or_has : (plain : Bool) (o : PlanOptions) (p : Typed) (n : ℕ) → LacksSite plain o p n → HasSites plain o p → ⊥
lacks_or_has true o p n lacks has = lacks
lacks_or_has false o p n (before, after, is, there, none) has = none (has n (subst (λ ns. Contains ns n) (sym is) (Contains-append_right before (n ∷ after) n (at_head n after))))

-- the runner gives one ending
one_ending : (p : Typed) (o : RunnerOptions) (plan : Plan) (events more : List Event) (last next : State Hardened) (end also : Ending) → IsRun p o plan events last end → IsRun p o plan more next also → end ≡ also
one_ending p o plan events more last next end also a b = (one_run (code_of p plan) (most_events o) (patience_of o) (length p.globals) (opening_reached p) a.run b.run).1

abbrev is_unloaded : Load → Bool
is_unloaded (Loaded bytes) = false
is_unloaded Exceeded = false
is_unloaded Unloaded = true

-- a refusal by a load, or by what was loaded
source_load : (Gives : Giving) (name : List ℕ) (f : SourceFault) → RefusesSource Gives name f → (l : Load) × Gives source_limit name l × (refusal_status (refusal.Source f) ≡ cond (is_unloaded l) 6 3)
source_load Gives name source_fault.Unread gives = (Unloaded, gives, refl)
source_load Gives name source_fault.TooLong gives = (Exceeded, gives, refl)
source_load Gives name (source_fault.NoTokens f) h = (Loaded h.bytes, h.loaded, refl)
source_load Gives name (source_fault.NoProgram f) h = (Loaded h.bytes, h.loaded, refl)
source_load Gives name (source_fault.Untyped f) h = (Loaded h.bytes, h.loaded, refl)

trace_load : (Gives : Giving) (c : Command) (p : Typed) (plan : Plan) (name : List ℕ) (f : TraceFault) → RefusesTrace Gives c p plan name f → (l : Load) × Gives trace_limit name l × (refusal_status (refusal.Trace f) ≡ cond (is_unloaded l) 6 9)
trace_load Gives c p plan name trace_fault.Unread gives = (Unloaded, gives, refl)
trace_load Gives c p plan name trace_fault.TooLong gives = (Exceeded, gives, refl)
trace_load Gives c p plan name (trace_fault.NoLine line) h = (Loaded h.bytes, h.loaded, refl)
trace_load Gives c p plan name (trace_fault.NoStep index) (events, h, none) = (Loaded h.bytes, h.loaded, refl)
trace_load Gives c p plan name (trace_fault.Fault index) (events, h, there) = (Loaded h.bytes, h.loaded, refl)

-- of entries of which a text is made, each is a step, and none stands in the way
made_or_no_step : (c : Command) (p : Typed) (plan : Plan) (events : List Event) (index : ℕ) (text : List ℕ) → IsMade c p plan events text → IsFirstNoStep p (followed c plan) events index → ⊥
made_or_no_step (Run o) p plan events index text made none = made
made_or_no_step (Check o) p plan events index text (end, run, is) none = no_run p plan events end index run none
made_or_no_step (Sites o) p plan events index text made none = made
made_or_no_step (Project o) p plan events index text ((s, run), is) none = no_way p plan events s index run none
made_or_no_step (Lift o) p plan events index text (list, lift, is) none = elim (only_list p plan events list (Err (lift_no.NotARun index)) none lift) [ inl same ↦ absurd cc | inr same ↦ absurd cc ]

made_or_fault : (c : Command) (p : Typed) (plan : Plan) (events : List Event) (index : ℕ) (text : List ℕ) → IsMade c p plan events text → IsUnliftable c p events index → ⊥
made_or_fault (Run o) p plan events index text made there = there
made_or_fault (Check o) p plan events index text made there = there
made_or_fault (Sites o) p plan events index text made there = there
made_or_fault (Project o) p plan events index text made there = there
made_or_fault (Lift o) p plan events index text (list, lift, is) there = elim (only_list p plan events list (Err (lift_no.Fault index)) there lift) [ inl same ↦ absurd cc | inr same ↦ absurd cc ]

-- loads that agree
abbrev Agree : Giving → Giving → Type 0
Agree G H = (limit : ℕ) (name : List ℕ) (x y : Load) → G limit name x → H limit name y → x ≡ y

other_way : (G H : Giving) → Agree G H → Agree H G
other_way G H agree limit name x y a b = sym (agree limit name y x b a)

module _ (G H : Giving) (agree : Agree G H) where
  same_bytes : (limit : ℕ) (name : List ℕ) (P Q : List ℕ → Type 0) (a : HoldsSo G limit name P) (b : HoldsSo H limit name Q) → a.bytes ≡ b.bytes
  same_bytes limit name P Q a b =
      let one : Loaded a.bytes ≡ Loaded b.bytes = agree limit name (Loaded a.bytes) (Loaded b.bytes) a.loaded b.loaded in
      cc

  same_source : (name : List ℕ) (x y : Source) → IsSourceIn G name x → IsSourceIn H name y → x ≡ y
  same_source name x y a b = one_source b.bytes x y (subst (λ (t : List ℕ). IsSource t x) (same_bytes source_limit name _ _ a b) a.is_so) b.is_so

  same_trace : (name : List ℕ) (es fs : List Event) → IsTraceIn G name es → IsTraceIn H name fs → es ≡ fs
  same_trace name es fs a b = one_list b.bytes es fs (subst (λ (t : List ℕ). IsReading t es) (same_bytes trace_limit name _ _ a b) a.is_so) b.is_so

  taken_or_refused : (name : List ℕ) (x : Source) (f : SourceFault) → IsSourceIn G name x → RefusesSource H name f → ⊥
  taken_or_refused name x source_fault.Unread a b = let e = agree source_limit name (Loaded a.bytes) Unloaded a.loaded b in absurd cc
  taken_or_refused name x source_fault.TooLong a b = let e = agree source_limit name (Loaded a.bytes) Exceeded a.loaded b in absurd cc
  taken_or_refused name x (source_fault.NoTokens f) a b = lexes b.bytes x f (subst (λ (t : List ℕ). IsSource t x) (same_bytes source_limit name _ _ a b) a.is_so) b.is_so
  taken_or_refused name x (source_fault.NoProgram f) a b = reads b.bytes x f (subst (λ (t : List ℕ). IsSource t x) (same_bytes source_limit name _ _ a b) a.is_so) b.is_so
  taken_or_refused name x (source_fault.Untyped f) a b = types b.bytes x f (subst (λ (t : List ℕ). IsSource t x) (same_bytes source_limit name _ _ a b) a.is_so) b.is_so

  made_or_refused : (c : Command) (name : List ℕ) (p : Typed) (plan : Plan) (f : TraceFault) (events : List Event) (text : List ℕ) → IsTraceIn G name events → IsMade c p plan events text → RefusesTrace H c p plan name f → ⊥
  made_or_refused c name p plan trace_fault.Unread events text a made b = let e = agree trace_limit name (Loaded a.bytes) Unloaded a.loaded b in absurd cc
  made_or_refused c name p plan trace_fault.TooLong events text a made b = let e = agree trace_limit name (Loaded a.bytes) Exceeded a.loaded b in absurd cc
  made_or_refused c name p plan (trace_fault.NoLine line) events text a made b =
      not_both b.bytes events line (subst (λ (t : List ℕ). IsReading t events) (same_bytes trace_limit name _ _ a b) a.is_so) b.is_so
  made_or_refused c name p plan (trace_fault.NoStep index) events text a made (more, b, none) =
      made_or_no_step c p plan more index text (subst (λ (es : List Event). IsMade c p plan es text) (same_trace name events more a b) made) none
  made_or_refused c name p plan (trace_fault.Fault index) events text a made (more, b, there) =
      made_or_fault c p plan more index text (subst (λ (es : List Event). IsMade c p plan es text) (same_trace name events more a b) made) there

-- ---- one status

by_load : (n m : ℕ) (x y : Load) (a b : ℕ) → x ≡ y → n ≡ cond (is_unloaded x) a b → m ≡ cond (is_unloaded y) a b → n ≡ m
by_load n m x y a b same one other = one ∙ (ap (λ (l : Load). cond (is_unloaded l) a b) same ∙ sym other)

module _ (G H : Giving) (agree : Agree G H) where
  one_trace : (c : Command) (p : Typed) (plan : Plan) (n m : ℕ) → OfTrace G c p plan n → OfTrace H c p plan m → n ≡ m
  one_trace c p plan n m (name, named, a) (other, also, b) = which a (subst (OfNamed H c p plan m) same b)
    where
      same : other ≡ name
      same = let both : other ∷ [] ≡ name ∷ [] = sym also ∙ named in cc

      which : OfNamed G c p plan n name → OfNamed H c p plan m name → n ≡ m
      which (inl (f, refused, is)) (inl (g, refused', is')) =
          let x = trace_load G c p plan name f refused in
          let y = trace_load H c p plan name g refused' in
          by_load n m x.0 y.0 6 9 (agree trace_limit name x.0 y.0 x.1 y.1) (is ∙ x.2) (is' ∙ y.2)
      which (inl (f, refused, is)) (inr (events, text, trace, made, is')) = absurd (made_or_refused H G (other_way G H agree) c name p plan f events text trace made refused)
      which (inr (events, text, trace, made, is)) (inl (g, refused, is')) = absurd (made_or_refused G H agree c name p plan g events text trace made refused)
      which (inr (events, text, trace, made, is)) (inr (more, also', trace', made', is')) = is ∙ sym is'

  of_plan : (c : Command) (p : Typed) (n m : ℕ) → OfPlan G c p n → OfPlan H c p m → n ≡ m
  of_plan c p n m (plan, hard, a) (other, hard', b) =
      one_trace c p plan n m a (subst (λ (q : Plan). OfTrace H c p q m) (one_hardening (is_plain c) (said_of c) p other plan hard' hard) b)

  one_behind : (c : Command) (p : Typed) (n m : ℕ) → Behind G c p n → Behind H c p m → n ≡ m
  one_behind (Run o) p n m (plan, events, last, end, hard, run, is) (other, more, next, also, hard', run', is') =
      let same : other ≡ plan = one_hardening o.plain o.plan p other plan hard' hard in
      let second = subst (λ (q : Plan). IsRun p o.runner q more next also) same run' in
      is ∙ (ap ending_status (one_ending p o.runner plan events more last next end also run second) ∙ sym is')
  one_behind (Check o) p n m a b = of_plan (Check o) p n m a b
  one_behind (Sites o) p n m a b = a ∙ sym b
  one_behind (Project o) p n m a b = of_plan (Project o) p n m a b
  one_behind (Lift o) p n m a b = of_plan (Lift o) p n m a b

  one_part : (c : Command) (n m : ℕ) → Parts G c n → Parts H c m → n ≡ m
  one_part c n m (inl (f, a, is)) (inl (g, b, is')) =
      let x = source_load G (source_of c) f a in
      let y = source_load H (source_of c) g b in
      by_load n m x.0 y.0 6 3 (agree source_limit (source_of c) x.0 y.0 x.1 y.1) (is ∙ x.2) (is' ∙ y.2)
  one_part c n m (inl (f, a, is)) (inr (y, source, rest)) = absurd (taken_or_refused H G (other_way G H agree) (source_of c) y f source a)
  one_part c n m (inr (x, source, rest)) (inl (g, b, is)) = absurd (taken_or_refused G H agree (source_of c) x g source b)
  one_part c n m (inr (x, source, rest)) (inr (y, source', rest')) =
      let same : y ≡ x = sym (same_source G H agree (source_of c) x y source source') in
      which rest (subst (λ (z : Source). OfSites H c z.typed m) same rest')
    where
      which : OfSites G c x.typed n → OfSites H c x.typed m → n ≡ m
      which (inl (s, lacks, is)) (inl (t, lacks', is')) = is ∙ sym is'
      which (inl (s, lacks, is)) (inr (has, behind)) = absurd (lacks_or_has (is_plain c) (said_of c) x.typed s lacks has)
      which (inr (has, behind)) (inl (t, lacks, is)) = absurd (lacks_or_has (is_plain c) (said_of c) x.typed t lacks has)
      which (inr (has, behind)) (inr (has', behind')) = one_behind c x.typed n m behind behind'

  pub one_status : (words : List (List ℕ)) (a b : Cause) → Stands words G a → Stands words H b → status a ≡ status b
  one_status words a b s t = which (parts words G a s) (parts words H b t)
    where
      which : OfWords words G (status a) → OfWords words H (status b) → status a ≡ status b
      which (inl (never, is)) (inl (never', is')) = is ∙ sym is'
      which (inl (never, is)) (inr (c, said, rest)) = absurd (never c said)
      which (inr (c, said, rest)) (inl (never, is)) = absurd (never c said)
      which (inr (c, said, rest)) (inr (d, said', rest')) =
          one_part c (status a) (status b) rest (subst (λ (e : Command). Parts H e (status b)) (one_meaning words d c said' said) rest')

-- ---- what is told of files, and what was found

told_is : (told : Option (List ℕ)) (bytes held : List ℕ) → IsTold told bytes → told ≡ Some held → bytes ≡ held
told_is None bytes held is same = absurd cc
told_is (Some xs) bytes held is same = cc

told_long : (told : Option (List ℕ)) (n : ℕ) (held : List ℕ) → IfSome told (λ bytes. n < length bytes) → told ≡ Some held → n < length held
told_long None n held is same = absurd cc
told_long (Some xs) n held is same = let one : xs ≡ held = cc in subst (λ (b : List ℕ). n < length b) one is

-- where no load fails, what it may have given is what it gives
one_load : (files : LoadPort) → (HasFailedLoad files → ⊥) → Agree (MayGive files) (Holds files)
one_load files none limit name (Loaded xs) (Loaded ys) (told, short) (held, short') = ap Loaded (told_is (files.holds name) xs ys told held)
one_load files none limit name (Loaded xs) Exceeded (told, short) (ys, held, long) =
    let same : ys ≡ xs = sym (told_is (files.holds name) xs ys told held) in
    let over : limit < length xs = subst (λ (b : List ℕ). limit < length b) same long in
    absurd (omega (arith, short, over))
one_load files none limit name Exceeded (Loaded ys) long (held, short) =
    let over : limit < length ys = told_long (files.holds name) limit ys long held in
    absurd (omega (arith, short, over))
one_load files none limit name Exceeded Exceeded long gives = refl
one_load files none limit name Unloaded y rose gives = absurd (none rose)
one_load files none limit name x Unloaded may gives = absurd gives

pub decided_at : (words : List (List ℕ)) (files : LoadPort) (asks : AskPort) (out err : PutPort) (result : ℕ) → Ends words files asks out err result
    → (cause : Cause) → Stands words (Holds files) cause → NoneFailed files out err → (result ≡ status cause) ⊎ (result ≡ 8)
decided_at words files asks out err result (inl (found, answers)) cause stands none =
    inl (answers.is_status ∙ one_status (MayGive files) (Holds files) (one_load files none.no_load) words found cause answers.arises.stands stands)
decided_at words files asks out err result (inr (inl (is, inl failed, cut))) cause stands none = absurd (none.no_out failed)
decided_at words files asks out err result (inr (inl (is, inr failed, cut))) cause stands none = absurd (none.no_err failed)
decided_at words files asks out err result (inr (inr (is, cut))) cause stands none = inr is

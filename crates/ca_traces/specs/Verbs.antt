-- The first word of an act that has one or two words behind it.
use Rattle.std.specs.Prelude.{ℕ, Bool, true, false, List, codes}
use Rattle.ca_model.specs.declared.values.EventAct.{EventAct}
use Rattle.ca_model.specs.declared.values.EventAct.TheVariants as act
use Rattle.ca_traces.specs.declared.acts.Verb.{Verb}
use Rattle.ca_traces.specs.declared.acts.Verb.TheVariants as verb

abbrev pub verb_text : Verb → List ℕ
verb_text verb.Read = codes "read"
verb_text verb.Write = codes "write"
verb_text verb.Lock = codes "lock"
verb_text verb.Unlock = codes "unlock"
verb_text verb.Malloc = codes "malloc"
verb_text verb.Free = codes "free"
verb_text verb.Create = codes "create"
verb_text verb.Join = codes "join"
verb_text verb.Call = codes "call"
verb_text verb.Return = codes "return"
verb_text verb.Fault = codes "fault"

-- whether an act is one word
abbrev pub is_bare : EventAct → Bool
is_bare act.Turn = true
is_bare act.End = true
is_bare act.Save = true
is_bare _ = false

use Rattle.std.proofs.Common.{◌∷◌, ◌++◌, ap, ◌∙◌}
use Rattle.ca_traces.proofs.Numerals.{nothing}
use Rattle.ca_traces.proofs.Parts.{a_read, a_write}
use Rattle.ca_traces.specs.declared.acts.Verb.{Verb}
use Rattle.ca_traces.specs.Verbs.{verb_text}
use Rattle.ca_traces.proofs.acts.plain.Goals as goal

pub returns-in_err-at-in-Read : goal.returns-in_err-at-in-Read
returns-in_err-at-in-Read c = nothing _ _ c.from_residual.ensures (λ a is.
    let t = a_read a c.args.words.now is.0 (is.1 ∙ ap (λ (v : Verb). verb_text v ++ 32 ∷ c.args.words.now) c.in-Read.is) in
    c.in_err-at-in-Read.ensures (t.at, t.value) (t.place, t.holds, t.spelled))

pub returns-in_err-at-in-Write : goal.returns-in_err-at-in-Write
returns-in_err-at-in-Write c = nothing _ _ c.from_residual-in_err-at-in-Write.ensures (λ a is.
    let t = a_write a c.args.words.now is.0 (is.1 ∙ ap (λ (v : Verb). verb_text v ++ 32 ∷ c.args.words.now) c.in-Write.is) in
    c.in_err-at-in-Write.ensures (t.at, t.value) (t.place, t.holds, t.spelled))

use Rattle.std.proofs.Common.{◌≡◌, sym, ◌∙◌}
use Rattle.std.specs.Int.{w32}
use Rattle.ca_traces.proofs.Numerals.{held, differs, short, utf8_signed, short_read}
use Rattle.ca_traces.proofs.numbers.signed.Goals as goal

pub returns-in_default : goal.returns-in_default
returns-in_default c = λ z is. c.in_default.ensures.cases.0 (utf8_signed z c.args.word.now (short z is.0) is.1)

pub returns-in_default-parse : goal.returns-in_default-parse
returns-in_default-parse c = λ z is.
    absurd (cc (short_read z c.args.word.now _ _ is.0 is.1 c.in-Ok.ensures.cases.0 c.parse.ensures.value.0))

pub returns-else-eq : goal.returns-else-eq
returns-else-eq c = λ z is.
    let read = short_read z c.args.word.now _ _ is.0 is.1 c.in-Ok.ensures.cases.0 c.parse.ensures.value.0 in
    let same : c.in-Ok-parse.number ≡ z = cc in
    differs c.format.result.now c.in-Ok.text.now c.eq.result c.eq.ensures c.if-eq.false (c.format.ensures.text ∙ (held w32 c.in-Ok-parse.number z is.0 same ∙ (is.1 ∙ sym c.in-Ok.ensures.cases.0)))

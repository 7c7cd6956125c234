use Rattle.std.proofs.Common.{◌≡◌, ap, sym, ◌∙◌, decimal}
use Rattle.ca_traces.proofs.Numerals.{differs, utf8_decimal, unsigned_read}
use Rattle.ca_traces.proofs.numbers.unsigned.Goals as goal

pub returns-in_default : goal.returns-in_default
returns-in_default c = λ n is. c.in_default.ensures.cases.0 (utf8_decimal n c.args.word.now is.0 is.1)

pub returns-in_default-parse : goal.returns-in_default-parse
returns-in_default-parse c = λ n is.
    absurd (cc (unsigned_read n c.args.word.now _ _ is.0 is.1 c.in-Ok.ensures.cases.0 c.parse.ensures.value.0))

pub returns-else-eq : goal.returns-else-eq
returns-else-eq c = λ n is.
    let read = unsigned_read n c.args.word.now _ _ is.0 is.1 c.in-Ok.ensures.cases.0 c.parse.ensures.value.0 in
    let same : c.in-Ok-parse.number ≡ n = cc in
    differs c.format.result.now c.in-Ok.text.now c.eq.result c.eq.ensures c.if-eq.false (c.format.ensures.text ∙ (ap decimal same ∙ (is.1 ∙ sym c.in-Ok.ensures.cases.0)))

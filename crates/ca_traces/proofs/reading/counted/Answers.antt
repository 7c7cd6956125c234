use Rattle.std.proofs.Common.{Some}
use Rattle.std.proofs.lemmas.Bool.Decides.{Decides-eqb}
use Rattle.std.proofs.lemmas.Slice.Eq.{strip_prefix_is}
use Rattle.ca_traces.proofs.Lines.{few_fit, count_parts, counted_text, too_many}
use Rattle.ca_traces.proofs.reading.counted.Goals as goal

pub returns-in_err-count : goal.returns-in_err-count
returns-in_err-count c = rw c.from_residual-in_err-count.ensures (λ n rest few is.
    let split = strip_prefix_is Decides-eqb c.in_ok-line.line.now c.as_slice.result.now (Some c.in_ok-digits.digits) c.in_ok-digits.ensures.cases in
    let t = count_parts n c.args.text.now c.in_ok-line.line.now c.in_ok-line.rest.now c.as_slice.result.now c.in_ok-digits.digits.now rest few is c.in_ok-line.ensures split c.as_slice.ensures in
    c.in_err-count.ensures n (few_fit n few, t.0))

pub returns-then-count-le-MOST_ENTRIES : goal.returns-then-count-le-MOST_ENTRIES
returns-then-count-le-MOST_ENTRIES c =
    let split = strip_prefix_is Decides-eqb c.in_ok-line.line.now c.as_slice.result.now (Some c.in_ok-digits.digits) c.in_ok-digits.ensures.cases in
    (c.if-count-le-MOST_ENTRIES.true, counted_text c.in_ok-count.count c.args.text.now c.in_ok-line.line.now c.in_ok-line.rest.now c.as_slice.result.now c.in_ok-digits.digits.now c.in_ok-line.ensures split c.as_slice.ensures c.in_ok-count.ensures.1)

pub returns-else-count-le-MOST_ENTRIES : goal.returns-else-count-le-MOST_ENTRIES
returns-else-count-le-MOST_ENTRIES c = λ n rest few is.
    let split = strip_prefix_is Decides-eqb c.in_ok-line.line.now c.as_slice.result.now (Some c.in_ok-digits.digits) c.in_ok-digits.ensures.cases in
    let t = count_parts n c.args.text.now c.in_ok-line.line.now c.in_ok-line.rest.now c.as_slice.result.now c.in_ok-digits.digits.now rest few is c.in_ok-line.ensures split c.as_slice.ensures in
    too_many n c.in_ok-count.count c.in_ok-digits.digits.now few c.in_ok-count.ensures.0 c.if-count-le-MOST_ENTRIES.false t.0 c.in_ok-count.ensures.1

use Rattle.std.proofs.Common.{◌≡◌, ◌<◌, ◌^◌, rules, arith, sym, ap, ◌∙◌, decimal}
use Rattle.std.proofs.lemmas.Fmt.{parse-decimal}
use Rattle.ca_commands.proofs.numbers.number.Goals as goal
use Rattle.ca_commands.proofs.numbers.number.Goals.{else-eq-via-then-eq+then-least-number+else-number-most, else-eq-via-then-eq+else-least-number, else-eq-via-else-eq}

pub returns-in_default-clause-none : goal.returns-in_default-clause-none
returns-in_default-clause-none c = λ n is.
    let below = is.below in
    let fits : n < 2 ^ 32 = omega (arith, below) in
    let wide : n < 2 ^ 64 = omega (arith, below) in
    absurd (cc (parse-decimal 32 n _ _ fits wide is.spelled c.parse.ensures.value.0))

pub returns-else-eq-clause-none : goal.returns-else-eq-clause-none
returns-else-eq-clause-none c = λ n is.
    let below = is.below in
    let above = is.above in
    let fits : n < 2 ^ 32 = omega (arith, below) in
    let wide : n < 2 ^ 64 = omega (arith, below) in
    let read = parse-decimal 32 n _ _ fits wide is.spelled c.parse.ensures.value.0 in
    let got = c.in-Ok.is in
    let same : c.in-Ok.number ≡ n = cc in
    let text : c.format.result.now ≡ c.args.text.now = c.format.ensures.text ∙ (ap decimal same ∙ sym is.spelled) in
    elim c.else-eq.branch [
      | else-eq-via-then-eq+then-least-number+else-number-most w ↦ let big = w.if-number-most in omega (arith, below, same, big)
      | else-eq-via-then-eq+else-least-number w ↦ let small = w.if-least-number in omega (arith, above, same, small)
      | else-eq-via-else-eq w ↦ search rules
    ]

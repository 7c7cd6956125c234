use Rattle.ca_traces.proofs.Numerals.{nothing}
use Rattle.ca_traces.proofs.Parts.{access_parts}
use Rattle.ca_traces.proofs.acts.access.Goals as goal

pub returns-in_err-at : goal.returns-in_err-at
returns-in_err-at c = nothing _ _ c.from_residual-in_err-at.ensures (λ p is.
    let t = access_parts p.0 p.1 c.args.words.now c.in_ok-place.place.now c.in_ok-place.held.now is.0 is.2 c.in_ok-place.ensures in
    c.in_err-at.ensures p.0 (is.0, t.0))

pub returns-in_err-value : goal.returns-in_err-value
returns-in_err-value c = nothing _ _ c.from_residual-in_err-value.ensures (λ p is.
    let t = access_parts p.0 p.1 c.args.words.now c.in_ok-place.place.now c.in_ok-place.held.now is.0 is.2 c.in_ok-place.ensures in
    c.in_err-value.ensures p.1 (is.1, t.1))

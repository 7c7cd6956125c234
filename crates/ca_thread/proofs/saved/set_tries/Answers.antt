use Rattle.std.proofs.Common.{◌<◌, ◌≤◌, List, length, ap, subst, ◌∙◌, arith}
use Rattle.std.specs.Prelude.{slice_set}
use Rattle.ca_thread.specs.declared.saved.Tried.{Tried}
use Rattle.ca_thread.specs.Kept.{count_in, place_in}
use Rattle.ca_thread.proofs.Tries.{set_there, set_behind}
use Rattle.ca_thread.proofs.saved.set_tries.Goals as goal

pub returns-then-place-len : goal.returns-then-place-len
returns-then-place-len c k =
    let ts : List Tried = c.args.tried.now.items in
    let s = c.args.site in
    let place = c.place_of-place.ensures ∙ ap (λ (xs : List Tried). place_in xs s) c.deref.ensures.value in
    let within : c.place_of-place.result < length ts = omega (arith, c.if-place-len.true, c.len.ensures, c.args.tried.now.ok.0) in
    ap (λ p. count_in (slice_set ts p (record { site = s; count = c.args.count })) k) place ∙ set_there ts s k c.args.count (subst (λ p. p < length ts) place within)

pub returns-else-place-len : goal.returns-else-place-len
returns-else-place-len c k =
    let ts : List Tried = c.args.tried.now.items in
    let s = c.args.site in
    let place = c.place_of-place.ensures ∙ ap (λ (xs : List Tried). place_in xs s) c.deref.ensures.value in
    let past : length ts ≤ c.place_of-place.result = omega (arith, c.if-place-len.false, c.len.ensures, c.args.tried.now.ok.0) in
    ap (λ xs. count_in xs k) c.push_try.ensures ∙ set_behind ts s k c.args.count (subst (λ p. length ts ≤ p) place past)

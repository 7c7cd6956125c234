use Rattle.std.proofs.Common.{◌≡◌, true, false, [], ◌∷◌, ◌++◌, ◌-◌, ◌+◌, drop, get_or, not, inl, inr, sym, ap, ◌∙◌, arith, refl, append-nil}
use Rattle.ca_model.specs.declared.values.Given.{Given}
use Rattle.ca_model.specs.declared.values.Given.TheVariants as given
use Rattle.ca_model.specs.ComingEntries.{is_held}
use Rattle.ca_entries.specs.Shares.{given_back}
use Rattle.ca_entries.proofs.Giving.{goes_on, both_hold, one_fails, met_on}
use Rattle.ca_entries.proofs.rollback.gives.Goals.{else-first-via-then-first+else-is_held, else-first-via-else-first}
use Rattle.ca_entries.proofs.rollback.gives.Goals as goal

-- what a place outside of the list would have
abbrev nothing : Given
nothing = given.Mutex (record { 0 = 0 })

pub things-preserved-then-is_held : goal.things-preserved-then-is_held
things-preserved-then-is_held c =
    let some = c.things-test.true in
    let within = c.things.invariant.within in
    let step : c.things.left ≡ c.things.left - 1 + 1 = omega (arith, some) in
    record {
      within = omega (arith, within);
      met = λ x. met_on c.args.taken.now c.things.left (c.things.left - 1) _ x _ _ step within (c.in_ok-first.ensures.met x) (c.things.invariant.met x);
      given = λ g shares.
          c.in_ok-push.ensures.items ∙ ap (λ gs. gs ++ get_or c.args.taken.now (c.things.left - 1) nothing ∷ []) (c.things.invariant.given g shares)
          ∙ sym (goes_on (is_held g c.args.thread) c.args.taken.now c.things.left (c.things.left - 1) _ c.in_ok-first.first c.is_held.result true step within (c.in_ok-first.ensures.first ∙ ap not (c.things.invariant.met _)) (sym (c.is_held.ensures g shares))
          (both_hold c.in_ok-first.first c.is_held.result c.if-first.true c.if-is_held.true));
    }

pub things-preserved : goal.things-preserved
things-preserved c =
    let some = c.things-test.true in
    let within = c.things.invariant.within in
    let step : c.things.left ≡ c.things.left - 1 + 1 = omega (arith, some) in
    record {
      within = omega (arith, within);
      met = λ x. met_on c.args.taken.now c.things.left (c.things.left - 1) _ x _ _ step within (c.in_ok-first.ensures.met x) (c.things.invariant.met x);
      given = λ g shares.
          c.things.invariant.given g shares ∙ sym (append-nil _)
          ∙ sym (goes_on (is_held g c.args.thread) c.args.taken.now c.things.left (c.things.left - 1) nothing c.in_ok-first.first (is_held g c.args.thread (get_or c.args.taken.now (c.things.left - 1) nothing)) false step within (c.in_ok-first.ensures.first ∙ ap not (c.things.invariant.met _)) refl
          (one_fails c.in_ok-first.first (is_held g c.args.thread (get_or c.args.taken.now (c.things.left - 1) nothing))
          (elim c.else-first.branch [
            | else-first-via-then-first+else-is_held w ↦ inr (sym (w.is_held.ensures g shares) ∙ w.if-is_held.false)
            | else-first-via-else-first w ↦ inl w.if-first.false
          ])));
    }

pub returns : goal.returns
returns c =
    let over = c.things-test.false in
    let none : c.things.left ≡ 0 = omega (arith, over) in
    λ g shares. c.from_vec.ensures ∙ c.things.invariant.given g shares ∙ ap (λ n. given_back g c.args.thread (drop n c.args.taken.now)) none

-- In a run that hasn't ended each thread that hasn't ended moves or waits, and none does both.
use Rattle.std.proofs.Common.{◌≡◌, List, inl, inr}
use Rattle.ca_model.specs.declared.plan.Plan.{Plan}
use Rattle.ca_model.specs.declared.values.Event.{Event}
use Rattle.ca_model.specs.Frames.{Code}
use Rattle.ca_model.specs.Private.{Thread, stand}
use Rattle.ca_model.specs.Shared.{Shared, Open}
use Rattle.ca_model.specs.Machine.{State, Run}
use Rattle.ca_model.specs.Source.{plain}
use Rattle.ca_model.specs.Hardened.{Hardened, hardened}
use Rattle.ca_model.specs.Codes.{Typed, code_of}
use Rattle.ca_model.specs.Opening.{opening}
use Rattle.ca_model.specs.SourceRuns.{no_plan, rules_of}
use Rattle.ca_model.specs.WellFormed.{IsWellFormed}
use Rattle.ca_model.specs.Waits.{WaitsAt, HardenedWaits, EachMovesOrWaits, NoneWaitsInVain}
use Rattle.ca_model.proofs.Offers.{offer_moves, none_does_both, steps_or_all_wait}
use Rattle.ca_model.proofs.Moves.{not_both, no_entry}
use Rattle.ca_model.proofs.PlacedRuns.{hardened_offers, source_offers}

module _ (p : Typed) (wf : IsWellFormed p) where
  module _ (plan : Plan) where
    abbrev code : Code
    code = code_of p plan

    each_hardened : (es : List Event) (s : State Hardened) → Run (hardened code) (opening (hardened code) p) es s → s.shared.phase ≡ Open → EachMovesOrWaits (hardened code) (HardenedWaits code) s
    each_hardened es s run is t h at on = (
      elim (hardened_offers p wf plan es s run is t h at on) [ inl o ↦ inl (offer_moves (hardened code) s t h at o) | inr w ↦ inr w ],
      none_does_both (hardened code) (HardenedWaits code) s t h at (not_both code s.shared t h),
    )

    pub none_waits_hardened : NoneWaitsInVain (hardened code) (HardenedWaits code) p
    none_waits_hardened es s run is = let each = each_hardened es s run is in (each, steps_or_all_wait (hardened code) (HardenedWaits code) s each)

  abbrev SourceWaits : Shared → Thread → Type 0
  SourceWaits s t = WaitsAt s ((rules_of p).want t)

  each_of_source : (es : List Event) (s : State Thread) → Run (rules_of p) (opening (rules_of p) p) es s → s.shared.phase ≡ Open → EachMovesOrWaits (rules_of p) SourceWaits s
  each_of_source es s run is t x at on = (
    elim (source_offers p wf es s run is t x at on) [ inl o ↦ inl (offer_moves (rules_of p) s t x at o) | inr w ↦ inr w ],
    none_does_both (rules_of p) SourceWaits s t x at (λ a y e legal due waits. no_entry s.shared t (stand (plain (code_of p no_plan)) x) a y waits e legal.allowed due),
  )

  pub none_waits_in_a_source : NoneWaitsInVain (rules_of p) SourceWaits p
  none_waits_in_a_source es s run is = let each = each_of_source es s run is in (each, steps_or_all_wait (rules_of p) SourceWaits s each)

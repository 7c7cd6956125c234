use Rattle.std.proofs.Common.{◌≡◌, ◌<◌, zero, suc, false, sym, subst, ◌∙◌, to_z, of_z, w32, refl}
use Rattle.std.specs.Prelude.{ℤ, pos, negsuc}
use Rattle.std.proofs.lemmas.Int.{to_z-of_z}
use Rattle.std.specs.FinSet as set
use Rattle.ca_model.specs.Asks.{Joins}
use Rattle.ca_model.specs.Shared.{Shared}
use Rattle.ca_model.specs.Waits.{WaitsAt}
use Rattle.ca_shared.specs.Histories.{state}
use Rattle.ca_machine.proofs.waits.at_join.Goals as goal

waits_so : (s : Shared) (n : ℤ) → lib.Signed.lt_z n (pos 1) ≡ false → lib.IntN.nat_abs n < s.threads → set.contains s.ended (lib.IntN.nat_abs n) ≡ false → (n ≡ pos (lib.IntN.nat_abs n)) × WaitsAt s (Joins n)
waits_so s (pos zero) e lt going = absurd cc
waits_so s (pos (suc u)) e lt going = (refl, (u, refl, lt, going))
waits_so s (negsuc u) e lt going = absurd cc

pub returns : goal.returns
returns c =
    let same : to_z w32 (of_z w32 c.args.number) ≡ c.args.number = to_z-of_z w32 c.args.number c.ranges.number in
    let n : ℤ = to_z w32 (of_z w32 c.args.number) in
    subst (λ m. (m ≡ pos (lib.IntN.nat_abs n)) × WaitsAt (state c.args.shared.now) (Joins m)) same
    (waits_so (state c.args.shared.now) n c.if-number-lt1.false (subst (λ m. lib.IntN.nat_abs n < m) c.threads.ensures c.if-thread-threads.false) (sym c.has_ended.ensures ∙ c.if-has_ended.false))

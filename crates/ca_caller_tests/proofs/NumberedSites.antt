-- Each number up to how many sites there are is a site's.
use Rattle.std.proofs.Common.{◌≡◌, ◌<◌, ◌≤◌, ℕ, zero, suc, List, [], ◌∷◌, length, Some, arith, refl}
use Rattle.std.specs.Prelude.{slice_get}
use Rattle.ca_model.specs.Codes.{Typed}
use Rattle.ca_model.specs.Accesses.{Site, all_sites, numbered}
use Rattle.ca_model.specs.Plans.{IsSite}

standing : (xs : List Site) (k : ℕ) → k < length xs → (x : Site) × (slice_get xs k ≡ Some x)
standing [] k lt = absurd (omega (arith, lt))
standing (x ∷ xs) zero lt = (x, refl)
standing (x ∷ xs) (suc k) lt = standing xs k (omega (arith, lt))

there : (xs : List Site) (n : ℕ) → 0 < n → n ≤ length xs → (x : Site) × (numbered xs n ≡ Some x)
there xs zero above within = absurd (omega (arith, above))
there xs (suc k) above within = standing xs k (omega (arith, within))

pub site_there : (p : Typed) (n : ℕ) → 0 < n → n ≤ length (all_sites p) → (x : Site) × IsSite p x (record { 0 = n })
site_there p n above within = there (all_sites p) n above within

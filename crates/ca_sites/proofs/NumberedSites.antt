-- Sites with their numbers keep their items and kinds.
use Rattle.std.proofs.Common.{◌≡◌, ℕ, ◌+◌, List, [], ◌∷◌, map, refl, ap}
use Rattle.ca_sites.specs.declared.items.TextSite.{TextSite}
use Rattle.ca_sites.specs.SiteLists.{in_text, in_list, with_numbers}

pub numbers_keep : (k : ℕ) (ss : List TextSite) → map in_list (with_numbers k ss) ≡ map in_text ss
numbers_keep k [] = refl
numbers_keep k (s ∷ ss) = ap (λ l. in_text s ∷ l) (numbers_keep (k + 1) ss)

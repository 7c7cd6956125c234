-- Saved states as they are kept.
use Rattle.std.specs.Prelude.{◌≡◌, ◌==◌, ◌<◌, vec_len, vec_capacity, ℕ, suc, List, [], ◌∷◌, Option, Some, None, if◌then◌else◌}
use Rattle.ca_tree.specs.declared.numbers.SiteId.{SiteId}
use Rattle.ca_model.specs.Hardened.{Saved, tries}
use Rattle.ca_flow.specs.Lowerings.{Lowering}
use Rattle.ca_thread.specs.declared.saved.SavedState.{SavedState}
use Rattle.ca_thread.specs.declared.saved.Tried.{Tried}
use Rattle.ca_thread.specs.Standing.{AreStanding}

-- how often a site was tried, by the first count of it
abbrev pub count_in : List Tried → SiteId → ℕ
count_in [] s = 0
count_in (t ∷ ts) s = if t.site.0 == s.0 then t.count else count_in ts s

-- the place of the first count of a site, or behind all
abbrev pub place_in : List Tried → SiteId → ℕ
place_in [] s = 0
place_in (t ∷ ts) s = if t.site.0 == s.0 then 0 else suc (place_in ts s)

-- the copy stands for the copy, each site has its number of tries, and the same was taken
pub record IsKept (l : Lowering) (s : SavedState) (sv : Saved) : Type 0 where
  pub copy : AreStanding l s.copy.items sv.copy
  pub tries : (k : SiteId) → count_in s.tried.items k ≡ tries sv k
  pub taken : s.taken.items ≡ sv.taken

abbrev pub AreKept : Lowering → Option SavedState → Option Saved → Type 0
AreKept l None None = Unit {0}
AreKept l (Some s) (Some sv) = IsKept l s sv
AreKept l _ _ = ⊥

-- there is a place for one thing more to be taken, and for one count more
abbrev pub HasPlace : SavedState → Type 0
HasPlace s = (vec_len s.taken < vec_capacity s.taken) × (vec_len s.tried < vec_capacity s.tried)

abbrev pub HavePlace : Option SavedState → Type 0
HavePlace None = Unit {0}
HavePlace (Some s) = HasPlace s

-- a site can be counted once more
abbrev pub HaveTries : Option SavedState → SiteId → Type 0
HaveTries None k = Unit {0}
HaveTries (Some s) k = count_in s.tried.items k < 4294967295

-- The list of sites, and what each site is called.
use Rattle.std.specs.Prelude.{ℕ, ◌+◌, List, [], ◌∷◌}
use Rattle.ca_tree.specs.declared.numbers.ItemId.{ItemId}
use Rattle.ca_model.specs.Accesses as accesses
use Rattle.ca_model.specs.Accesses.{Kind, An_assertion, A_load, A_store, A_free, A_lock}
use Rattle.ca_sites.specs.declared.items.TextSite.{TextSite}
use Rattle.ca_sites.specs.declared.site.Site.{Site}
use Rattle.ca_sites.specs.declared.site.SiteKind.{SiteKind}
use Rattle.ca_sites.specs.declared.site.SiteKind.TheVariants as kind

-- what a site is called
abbrev pub kind_of : Kind → SiteKind
kind_of An_assertion = kind.Assert
kind_of A_load = kind.Load
kind_of A_store = kind.Store
kind_of A_free = kind.Free
kind_of A_lock = kind.Lock

-- ---- a site's item and kind: in the typed tree, in the text, and in the list

abbrev pub in_tree : accesses.Site → ItemId × SiteKind
in_tree s = (s.item.id, kind_of s.kind)

abbrev pub in_text : TextSite → ItemId × SiteKind
in_text s = (s.item, s.kind)

abbrev pub in_list : Site → ItemId × SiteKind
in_list s = (s.item, s.kind)

-- ---- the list

-- sites of the text with their numbers, where k sites stand before them
abbrev pub with_numbers : ℕ → List TextSite → List Site
with_numbers k [] = []
with_numbers k (s ∷ ss) = record { id = record { 0 = k + 1 }; item = s.item; pos = s.pos; kind = s.kind } ∷ with_numbers (k + 1) ss

-- The lines of a table, site by site.
use Rattle.std.proofs.Common.{arith, ◌≡◌, ◌<◌, ◌≤◌, ◌+◌, ◌-◌, ℕ, zero, suc, List, [], ◌∷◌, ◌++◌, map, length, take, get_or, Option, Some, None, refl, sym, ap, ◌∙◌, subst, inl, inr, append_assoc, append-nil}
use Rattle.std.specs.Prelude.{Contains, slice_get}
use Rattle.std.specs.List.{flat_map}
use Rattle.std.proofs.lemmas.List.{take_all, take_more, map-append, length-map}
use Rattle.std.proofs.lemmas.List.Folds.{flat_map-map}
use Rattle.std.proofs.lemmas.Grind.{flat_map-append}
use Rattle.std.proofs.lemmas.List.Elements.{Contains-append_cases}
use Rattle.ca_tree.specs.declared.numbers.SiteId.{SiteId}
use Rattle.ca_tree.specs.declared.numbers.ItemId.{ItemId}
use Rattle.ca_model.specs.declared.tree.Item.{Item}
use Rattle.ca_model.specs.typing.Sources.{Source}
use Rattle.ca_model.specs.Accesses.{Site, all_sites, numbered}
use Rattle.ca_model.specs.Codes.{Typed}
use Rattle.ca_model.specs.SourceRuns.{no_plan}
use Rattle.ca_model.specs.WellFormed.{IsWellFormed}
use Rattle.ca_model.specs.Plans.{Options, IsItem, IsSite}
use Rattle.ca_model.proofs.Members.{in_none, in_one}
use Rattle.ca_flow.specs.declared.searches.Reason.{Reason}
use Rattle.ca_flow.proofs.SiteItems.{number_of_site}
use Rattle.ca_callers.proofs.Rows.{read_or}
use Rattle.ca_prune.specs.Pruning.{Tells}
use Rattle.ca_sites.specs.declared.site.Site.{Site as ListedSite}
use Rattle.ca_sites.specs.declared.items.TextSite.{TextSite}
use Rattle.ca_sites.specs.declared.site.SiteKind.{SiteKind}
use Rattle.ca_sites.specs.SiteLists.{in_tree, in_list, with_numbers}
use Rattle.ca_sites.specs.TextSites.{text_sites}
use Rattle.ca_plan.specs.declared.state.SiteState.{SiteState}
use Rattle.ca_plan.specs.SiteTables.{IsStateOf, Row, IsRow, IsSiteTable, listed_sites, site_line, row_line, count_line}
use Rattle.ca_plan.specs.Finding.{AreWordsOf, IsKnown, IsKnownIfAny}
use Rattle.ca_plan.specs.declared.finder.Known.{Known}

-- ---- the list of sites

-- lists that show the same, from the left by one function and from the right by another
shows_at : {A B C : Type 0} (f : A → C) (g : B → C) (xs : List A) (ys : List B) → map f xs ≡ map g ys → (k : ℕ) (d : A) → k < length xs → (y : B) × (slice_get ys k ≡ Some y) × (f (get_or xs k d) ≡ g y)
shows_at f g [] ys same k d lt = absurd (omega (arith, lt))
shows_at f g (x ∷ xs) [] same k d lt = absurd cc
shows_at f g (x ∷ xs) (y ∷ ys) same zero d lt = let head : f x ≡ g y = cc in (y, refl, head)
shows_at f g (x ∷ xs) (y ∷ ys) same (suc k) d lt = let rest : map f xs ≡ map g ys = cc in shows_at f g xs ys rest k d (omega (arith, lt))

number_at : (n : ℕ) (ss : List TextSite) (k : ℕ) (d : ListedSite) → k < length (with_numbers n ss) → (get_or (with_numbers n ss) k d).id.0 ≡ n + k + 1
number_at n [] k d lt = absurd (omega (arith, lt))
number_at n (s ∷ ss) zero d lt = omega arith
number_at n (s ∷ ss) (suc k) d lt = let h = number_at (n + 1) ss k d (omega (arith, lt)) in omega (arith, h)

-- a site of the list has its number, and is a site of the source
pub site_at : (x : Source) → map in_list (listed_sites x) ≡ map in_tree (all_sites x.typed) → (k : ℕ) (site : ListedSite) → k < length (listed_sites x) → site ≡ get_or (listed_sites x) k site
    → (s : Site) × IsSite x.typed s site.id × (site.id.0 ≡ k + 1) × (site.item ≡ s.item.id)
site_at x shown k site lt is =
    let (s, at, shows) = shows_at in_list in_tree (listed_sites x) (all_sites x.typed) shown k site lt in
    let number = number_at 0 (text_sites x.program) k site lt in
    let here : site.id.0 ≡ suc k = let h : site.id.0 ≡ 0 + k + 1 = ap (λ (l : ListedSite). l.id.0) is ∙ number in omega (arith, h) in
    (s, ap (numbered (all_sites x.typed)) here ∙ at, (omega (arith, here)), ap (λ (l : ListedSite). l.item) is ∙ ap (λ (e : ItemId × SiteKind). e.0) shows)

pub site_item : (p : Typed) → IsWellFormed p → (s : Site) (n : SiteId) (i : ItemId) → IsSite p s n → i ≡ s.item.id → IsItem p s.item i
site_item p formed s n i is item = ((number_of_site p no_plan formed s n is).0, sym item)

pub told_at : (q p : Typed) → q ≡ p → (depth : ℕ) (reasons : List (Option Reason)) → ((k : ℕ) (s : Site) → IsSite q s (record { 0 = k + 1 }) → Tells q depth s (get_or reasons k None))
    → (k : ℕ) (n : SiteId) → n.0 ≡ k + 1 → (s : Site) → IsSite p s n → (list : List (Option Reason)) → list ≡ reasons → (r : Option Reason) → r ≡ get_or list (n.0 - 1) None → Tells p depth s r
told_at q p same depth reasons exact k n number s is list list-is r read =
    let there : IsSite q s (record { 0 = k + 1 }) = subst (λ (t : Typed). IsSite t s (record { 0 = k + 1 })) (sym same) (ap (numbered (all_sites p)) (sym number) ∙ is) in
    let place : n.0 - 1 ≡ k = omega (arith, number) in
    subst (λ (t : Typed). Tells t depth s r) same (subst (Tells q depth s) (sym (read ∙ (ap (λ (l : List (Option Reason)). get_or l (n.0 - 1) None) list-is ∙ ap (λ j. get_or reasons j None) place))) (exact k s there))

-- ---- rows

module _ (x : Source) (o : Options) where
  -- the rows of the first k sites
  pub record RowsTo (n k : ℕ) (text : List ℕ) : Type 0 where
    pub rows : List Row
    pub sites : map (λ (r : Row). r.listed) rows ≡ take k (listed_sites x)
    pub each : (r : Row) → Contains rows r → IsRow x.typed o r
    pub lines : text ≡ count_line n ++ flat_map (row_line x.program) rows

  none_of : (xs : List ListedSite) → [] ≡ take 0 xs
  none_of [] = refl
  none_of (s ∷ xs) = refl

  pub no_rows : (n : ℕ) (text : List ℕ) → text ≡ count_line n → RowsTo n 0 text
  no_rows n text is = record { rows = []; sites = none_of (listed_sites x); each = λ r c. absurd (in_none r c); lines = is ∙ sym (append-nil (count_line n)) }

  pub row_more : (n k : ℕ) (text text' : List ℕ) (site : ListedSite) → RowsTo n k text → k < length (listed_sites x) → site ≡ get_or (listed_sites x) k site → (s : Site) → IsSite x.typed s site.id → (state : SiteState) → IsStateOf x.typed o s site.id state
      → (words : List ℕ) → AreWordsOf x o.depth s.item words → text' ≡ text ++ site_line site state words → RowsTo n (k + 1) text'
  row_more n k text text' site so_far lt is s at state becomes words (entries, after, points, words-are) line = record {
    rows = so_far.rows ++ row ∷ [];
    sites = map-append (λ (r : Row). r.listed) so_far.rows (row ∷ []) ∙ (ap (λ l. l ++ site ∷ []) so_far.sites ∙ (ap (λ (l : ListedSite). take k (listed_sites x) ++ l ∷ []) is ∙ sym (take_more (listed_sites x) k site lt)));
    each = λ r c. elim (Contains-append_cases so_far.rows (row ∷ []) r c) [
      | inl old ↦ so_far.each r old
      | inr new ↦ subst (IsRow x.typed o) (in_one row r new) (record { site = s; number = at; becomes = becomes; points = points })
    ];
    lines = line ∙ (ap (λ t. t ++ site_line site state words) so_far.lines ∙ (append_assoc (count_line n) (flat_map (row_line x.program) so_far.rows) (site_line site state words)
        ∙ ap (λ t. count_line n ++ t) (ap (λ w. flat_map (row_line x.program) so_far.rows ++ site_line site state w) words-are
        ∙ (ap (λ t. flat_map (row_line x.program) so_far.rows ++ t) (sym (append-nil (row_line x.program row))) ∙ sym (flat_map-append (row_line x.program) so_far.rows (row ∷ []))))));
  }
    where
      row : Row
      row = record { listed = site; state = state; entries = entries; after = after }

  pub all_rows : (n k : ℕ) (text : List ℕ) → n ≡ length (listed_sites x) → length (listed_sites x) ≤ k → RowsTo n k text → IsSiteTable x o text
  all_rows n k text count past so_far =
      let sites : map (λ (r : Row). r.listed) so_far.rows ≡ listed_sites x = so_far.sites ∙ take_all k (listed_sites x) past in
      let many : n ≡ length so_far.rows = count ∙ (sym (ap length sites) ∙ length-map so_far.rows (λ (r : Row). r.listed)) in
      record {
        rows = so_far.rows;
        sites = sites;
        each = so_far.each;
        lines = so_far.lines ∙ (ap (λ m. count_line m ++ flat_map (row_line x.program) so_far.rows) many ∙ ap (λ t. count_line (length so_far.rows) ++ t) (sym (flat_map-map (λ line. line) (row_line x.program) so_far.rows)));
      }

-- ---- a turn of the loop over the sites

-- the site at a place of a list that is read
site_read : (xs ys : List ListedSite) → xs ≡ ys → (k : ℕ) (d site : ListedSite) → k < length xs → get_or xs k d ≡ site → (k < length ys) × (site ≡ get_or ys k site)
site_read xs ys same k d site lt is =
    (subst (λ (l : List ListedSite). k < length l) same lt, sym is ∙ (read_or xs k d lt ∙ (ap (λ (l : List ListedSite). get_or l k (get_or xs k d)) same ∙ ap (get_or ys k) is)))

module _ (x : Source) (formed : IsWellFormed x.typed) (xs : List ListedSite) (same : xs ≡ listed_sites x) (shown : map in_list xs ≡ map in_tree (all_sites x.typed)) where
  listed_shown : map in_list (listed_sites x) ≡ map in_tree (all_sites x.typed)
  listed_shown = subst (λ (l : List ListedSite). map in_list l ≡ map in_tree (all_sites x.typed)) same shown

  pub item_there : (f : Source) → f ≡ x → (k : ℕ) (d site : ListedSite) → k < length xs → get_or xs k d ≡ site → (y : Item) × IsItem f.typed y site.item
  item_there f source k d site lt is =
      let (within, read) = site_read xs (listed_sites x) same k d site lt is in
      let (s, at, number, item) = site_at x listed_shown k site within read in
      (s.item, subst (λ (t : Source). IsItem t.typed s.item site.item) (sym source) (site_item x.typed formed s site.id site.item at item))

  pub next_row : (o : Options) (f : Source) → f ≡ x → (n k : ℕ) (text text' : List ℕ) (d site : ListedSite) → k < length xs → get_or xs k d ≡ site → RowsTo x o n k text → (state : SiteState)
      → ((s : Site) → site.id.0 ≡ k + 1 → IsSite x.typed s site.id → IsStateOf x.typed o s site.id state)
      → ((y : Item) → IsItem f.typed y site.item → (words : List ℕ) × AreWordsOf f o.depth y words × (text' ≡ text ++ site_line site state words)) → RowsTo x o n (k + 1) text'
  next_row o f source n k text text' d site lt is so_far state becomes line =
      let (within, read) = site_read xs (listed_sites x) same k d site lt is in
      let (s, at, number, item) = site_at x listed_shown k site within read in
      let own : IsItem x.typed s.item site.item = site_item x.typed formed s site.id site.item at item in
      let (words, are, text-is) = line s.item (subst (λ (t : Source). IsItem t.typed s.item site.item) (sym source) own) in
      row_more x o n k text text' site so_far within read s at state (becomes s number at) words (subst (λ (t : Source). AreWordsOf t o.depth s.item words) source are) text-is

-- words that are kept, of another equal source
pub known_of : (f x : Source) → f ≡ x → (depth : ℕ) (k : Known) → IsKnown f depth k → IsKnown x depth k
known_of f x same depth k is = subst (λ (s : Source). IsKnown s depth k) same is

pub known_if_any_of : (f x : Source) → f ≡ x → (depth : ℕ) (k : Option Known) → IsKnownIfAny x depth k → IsKnownIfAny f depth k
known_if_any_of f x same depth k is = subst (λ (s : Source). IsKnownIfAny s depth k) (sym same) is

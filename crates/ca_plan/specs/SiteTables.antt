-- The table of the sites of a source: a line for each, with what becomes of it in the plan and with its points.
use Rattle.std.specs.Prelude.{◌≡◌, ℕ, List, [], ◌∷◌, ◌++◌, map, length, get_or, Contains, codes, ◌↔◌}
use Rattle.std.specs.Fmt.{decimal}
use Rattle.std.specs.List.{flat_map}
use Rattle.std.specs.List.Sorted.{IsStrictlyIncreasing}
use Rattle.ca_tree.specs.declared.numbers.FunId.{FunId}
use Rattle.ca_tree.specs.declared.numbers.SiteId.{SiteId}
use Rattle.ca_tree.specs.declared.text.Pos.{Pos}
use Rattle.ca_tree.specs.declared.tree.Function.{Function as WrittenFunction}
use Rattle.ca_tree.specs.declared.tree.Program.{Program}
use Rattle.ca_model.specs.declared.tree.Item.{Item}
use Rattle.ca_model.specs.declared.tree.Function.{Function}
use Rattle.ca_model.specs.typing.Programs.{definitions}
use Rattle.ca_model.specs.typing.Sources.{Source}
use Rattle.ca_model.specs.Accesses.{Site}
use Rattle.ca_model.specs.Codes.{Typed}
use Rattle.ca_model.specs.Hopeless.{IsHopeless}
use Rattle.ca_model.specs.Paths.{PointAfter, PointAtEntry}
use Rattle.ca_model.specs.Plans.{Options, IsSite, IsNamed, IsTaken}
use Rattle.ca_flow.specs.declared.searches.Reason.{Reason}
use Rattle.ca_flow.specs.declared.searches.Reason.TheVariants as reason
use Rattle.ca_prune.specs.Pruning.{reason_of}
use Rattle.ca_sites.specs.declared.site.Site.{Site as ListedSite}
use Rattle.ca_sites.specs.declared.site.SiteKind.{SiteKind}
use Rattle.ca_sites.specs.declared.site.SiteKind.TheVariants as kind
use Rattle.ca_sites.specs.SiteLists.{with_numbers}
use Rattle.ca_sites.specs.TextSites.{text_sites}
use Rattle.ca_plan.specs.declared.state.SiteState.{SiteState}
use Rattle.ca_plan.specs.declared.state.SiteState.TheVariants as state

-- ---- what a line tells

-- the sites of a source as they are listed: each with its number, its item, its place in the text and its kind
abbrev pub listed_sites : Source → List ListedSite
listed_sites x = with_numbers 0 (text_sites x.program)

-- what becomes of a site: going back can't help at it, the options name others alone, or the plan takes it
abbrev pub IsStateOf : Typed → Options → Site → SiteId → SiteState → Type 0
IsStateOf p o s n (state.Pruned why) = IsHopeless p o.depth s × (why ≡ reason_of s.kind)
IsStateOf p o s n state.Left = (IsHopeless p o.depth s → ⊥) × (IsNamed o.only n → ⊥)
IsStateOf p o s n state.Planned = IsTaken p o s n

-- the points of an item: the functions at whose entry its backward paths stop, and the items behind which they do, both in order
pub record ArePointsOf (p : Typed) (depth : ℕ) (x : Item) (entries : List Function) (after : List Item) : Type 0 where
  pub at_entries : (f : Function) → Contains entries f ↔ PointAtEntry p depth x f
  pub behind_items : (j : Item) → Contains after j ↔ PointAfter p depth x j
  pub entries_ascend : IsStrictlyIncreasing (map (λ (f : Function). f.id.0) entries)
  pub after_ascend : IsStrictlyIncreasing (map (λ (j : Item). j.id.0) after)

-- a site as it is listed, its state, and the points of its item
pub record Row : Type 0 where
  pub listed : ListedSite
  pub state : SiteState
  pub entries : List Function
  pub after : List Item

pub record IsRow (p : Typed) (o : Options) (r : Row) : Type 0 where
  pub site : Site
  pub number : IsSite p site r.listed.id
  pub becomes : IsStateOf p o site r.listed.id r.state
  pub points : ArePointsOf p o.depth site.item r.entries r.after

-- ---- its text; each text groups to the right

abbrev pub line_end : List ℕ
line_end = 10 ∷ []

-- `<line>:<column>`
abbrev pub place_text : Pos → List ℕ
place_text p = decimal p.line ++ (codes ":" ++ decimal p.column)

abbrev pub kind_text : SiteKind → List ℕ
kind_text kind.Assert = codes "assert"
kind_text kind.Load = codes "load"
kind_text kind.Store = codes "store"
kind_text kind.Free = codes "free"
kind_text kind.Lock = codes "lock"

abbrev pub reason_text : Reason → List ℕ
reason_text reason.Local = codes "pruned:local"
reason_text reason.Lock = codes "pruned:lock"

abbrev pub state_text : SiteState → List ℕ
state_text (state.Pruned why) = reason_text why
state_text state.Left = codes "left"
state_text state.Planned = codes "planned"

-- the names of the functions that a program defines, in order, and the name of one
abbrev pub names : Program → List (List ℕ)
names x = map (λ (f : WrittenFunction). f.name.text) (definitions x.tops)

abbrev pub name_of : Program → FunId → List ℕ
name_of x f = get_or (names x) f.0 []

-- ` entry:<name>`
abbrev pub entry_text : List ℕ → List ℕ
entry_text name = codes " entry:" ++ name

-- ` after:<line>:<column>`
abbrev pub after_text : Pos → List ℕ
after_text p = codes " after:" ++ place_text p

-- each point after a space: entries first, then items
abbrev pub points_text : Program → List Function → List Item → List ℕ
points_text x entries after = flat_map (λ (f : Function). entry_text (name_of x f.id)) entries ++ flat_map (λ (j : Item). after_text j.pos) after

-- `s<id> <line>:<column> <kind> <state>`, and the points
abbrev pub site_line : ListedSite → SiteState → List ℕ → List ℕ
site_line s becomes points =
    codes "s" ++ (decimal s.id.0 ++ (codes " " ++ (place_text s.pos ++ (codes " " ++ (kind_text s.kind ++ (codes " " ++ (state_text becomes ++ (points ++ line_end))))))))

abbrev pub row_line : Program → Row → List ℕ
row_line x r = site_line r.listed r.state (points_text x r.entries r.after)

-- `sites <n>`
abbrev pub count_line : ℕ → List ℕ
count_line n = codes "sites " ++ (decimal n ++ line_end)

abbrev pub table_lines : Program → List Row → List (List ℕ)
table_lines x rows = count_line (length rows) ∷ map (row_line x) rows

-- ---- the table of a source and options

pub record IsSiteTable (x : Source) (o : Options) (text : List ℕ) : Type 0 where
  pub rows : List Row
  pub sites : map (λ (r : Row). r.listed) rows ≡ listed_sites x
  pub each : (r : Row) → Contains rows r → IsRow x.typed o r
  pub lines : text ≡ flat_map (λ line. line) (table_lines x.program rows)

abbrev pub OneSiteTable : Type 0
OneSiteTable = (x : Source) (o : Options) (text other : List ℕ) → IsSiteTable x o text → IsSiteTable x o other → text ≡ other

-- Tables of a whole source by the numbers of its items, and one layer of a search through callers.
use Rattle.std.specs.Prelude.{◌≡◌, ◌<◌, ℕ, Bool, true, false, List, [], length, Contains, ◌⊎◌, ◌↔◌}
use Rattle.ca_tree.specs.declared.numbers.ItemId.{ItemId}
use Rattle.ca_reach.specs.Reach.{Table, row, rows_of, Reached, IsSet}
use Rattle.ca_model.specs.declared.tree.Item.{Item}
use Rattle.ca_model.specs.declared.tree.Function.{Function}
use Rattle.ca_model.specs.Codes.{Typed}
use Rattle.ca_model.specs.WellFormed.{IsWellFormed}
use Rattle.ca_model.specs.Sites.{all_items, items_of}
use Rattle.ca_model.specs.Links.{Next, first_item}
use Rattle.ca_model.specs.Destroying.{destroys}
use Rattle.ca_model.specs.Paths.{IsCall, BeginsThreads, Goes, GoesUp, OnPath, Stop}
use Rattle.ca_model.specs.Plans.{IsItem}
use Rattle.ca_flow.specs.declared.links.Link.{Link}
use Rattle.ca_callers.specs.declared.tables.Tables.{Tables}
use Rattle.ca_callers.specs.declared.search.Marks.{Marks}

-- something holds of one of the items with these numbers
abbrev pub ForOne : Typed → List ItemId → (Item → Type 0) → Type 0
ForOne p from P = (x : Item) × Contains from x.id × IsItem p x x.id × P x

-- ---- tables

-- an item from which one goes on to another in its function, and whether it destroys
abbrev pub IsBehind : Typed → Bool → Item → Item → Type 0
IsBehind p b j i = Next p j i × (destroys j.act ≡ b)

-- a call of the function that an item begins, where no thread begins with the function
abbrev pub IsAbove : Typed → Item → Item → Type 0
IsAbove p j i = (f : Function) × Contains p.functions f × (first_item f ≡ i) × (BeginsThreads p f → ⊥) × IsCall p j f

-- a function that an item begins
abbrev pub IsBegun : Typed → Function → Item → Type 0
IsBegun p f i = Contains p.functions f × (first_item f ≡ i)

-- the row of each item has the numbers of the things that stand to it in some relation
abbrev pub IsTableOf : (A : Type 0) → Typed → (A → ℕ) → (A → Item → Type 0) → Table → Type 0
IsTableOf A p number R t = (i : Item) (n : ℕ) → Contains (all_items p.functions) i → Contains (row t i.id.0) n ↔ ((x : A) × R x i × (number x ≡ n))

-- such things of one function, for rows that are filled function by function
abbrev pub InRow : (A : Type 0) → (A → ℕ) → (A → Item → Type 0) → ℕ → ℕ → Type 0
InRow A number R k n = (i : Item) × (x : A) × R x i × (i.id.0 ≡ k) × (number x ≡ n)

abbrev pub item_number : Item → ℕ
item_number i = i.id.0

abbrev pub function_number : Function → ℕ
function_number f = f.id.0

-- the relations above, of one function
abbrev pub IsBehindIn : Typed → Bool → Function → Item → Item → Type 0
IsBehindIn p b f j i = Contains (items_of f) i × IsBehind p b j i

abbrev pub IsAboveOf : Typed → Function → Item → Item → Type 0
IsAboveOf p f j i = (first_item f ≡ i) × (BeginsThreads p f → ⊥) × IsCall p j f

abbrev pub IsTheFirst : Function → Function → Item → Type 0
IsTheFirst f g i = (g ≡ f) × (first_item f ≡ i)

-- a row has a number for one of some things
abbrev pub AnyOf : (A : Type 0) → List A → (A → ℕ → ℕ → Type 0) → ℕ → ℕ → Type 0
AnyOf A xs P k n = (x : A) × Contains xs x × P x k n

-- a link back to an item that destroys or not
abbrev pub IsLinked : Bool → Link → ℕ → ℕ → Type 0
IsLinked b l k n = (l.destroys ≡ b) × (l.to.0 ≡ k) × (l.from.0 ≡ n)

-- the rows of a table have what they had, and what stands in some relation
abbrev pub AddsAll : Table → Table → (ℕ → ℕ → Type 0) → Type 0
AddsAll t t' P = (k x : ℕ) → Contains (row t' k) x ↔ (Contains (row t k) x ⊎ (P k x × (k < length t)))

-- the rows of tables have numbers below 2 ^ 32
pub record AreSmall (t : Tables) : Type 0 where
  pub back : length (rows_of t.back.items) < 4294967296
  pub stops : length (rows_of t.stops.items) < 4294967296
  pub above : length (rows_of t.above.items) < 4294967296
  pub begun : length (rows_of t.begun.items) < 4294967296

-- the tables of a source
pub record AreTables (p : Typed) (t : Tables) : Type 0 where
  pub formed : IsWellFormed p
  pub small : AreSmall t
  pub within : (i : Item) → Contains (all_items p.functions) i → i.id.0 < length (rows_of t.back.items)
  pub functions : t.functions ≡ length p.functions
  pub back : IsTableOf Item p item_number (IsBehind p false) (rows_of t.back.items)
  pub stops : IsTableOf Item p item_number (IsBehind p true) (rows_of t.stops.items)
  pub above : IsTableOf Item p item_number (IsAbove p) (rows_of t.above.items)
  pub begun : IsTableOf Function p function_number (IsBegun p) (rows_of t.begun.items)

-- ---- one layer

-- a number in the row of one that has a property
abbrev pub InOneRow : Table → (ℕ → Type 0) → ℕ → Type 0
InOneRow t At m = (n : ℕ) × At n × Contains (row t n) m

-- from a number one doesn't go up: at the last layer, or since nothing is above it
abbrev pub IsClosed : Table → Bool → ℕ → Type 0
IsClosed above last n = (last ≡ true) ⊎ (row above n ≡ [])

-- the numbers of a layer
abbrev pub IsReached : Tables → List ℕ → ℕ → Type 0
IsReached t starts n = Reached (rows_of t.back.items) starts n

abbrev pub Sets : List Bool → List Bool → (ℕ → Type 0) → Type 0
Sets flags flags' P = (m : ℕ) → IsSet flags' m ↔ (IsSet flags m ⊎ (P m × (m < length flags)))

-- a layer marks what stands in its rows, and its calls are the starts of the next one
pub record IsLayer (t : Tables) (starts : List ℕ) (last : Bool) (marks marks' : Marks) (next : List ℕ) : Type 0 where
  pub next_are : (m : ℕ) → Contains next m ↔ ((last ≡ false) × InOneRow (rows_of t.above.items) (IsReached t starts) m)
  pub before : Sets marks.before.items marks'.before.items (λ m. InOneRow (rows_of t.back.items) (IsReached t starts) m ⊎ ((last ≡ false) × InOneRow (rows_of t.above.items) (IsReached t starts) m))
  pub after : Sets marks.after.items marks'.after.items (InOneRow (rows_of t.stops.items) (IsReached t starts))
  pub entries : Sets marks.entries.items marks'.entries.items (InOneRow (rows_of t.begun.items) (λ n. IsReached t starts n × IsClosed (rows_of t.above.items) last n))
  pub before_length : length marks'.before.items ≡ length marks.before.items
  pub after_length : length marks'.after.items ≡ length marks.after.items
  pub entries_length : length marks'.entries.items ≡ length marks.entries.items

-- ---- all layers

-- what is seen in some way from a pair on a path with fewer than k calls gone up
abbrev pub SeenFrom : (A : Type 0) → Typed → ℕ → List ItemId → (Stop → A → Type 0) → ℕ → A → Type 0
SeenFrom A p depth from Q k x = ForOne p from (λ s. (a : Stop) × OnPath p depth s a × (a.1 < k) × Q a x)

abbrev pub SeesBefore : Typed → ℕ → Stop → Item → Type 0
SeesBefore p depth a j = (k : ℕ) × Goes p depth a (j, k)

abbrev pub SeesAfter : Typed → Stop → Item → Type 0
SeesAfter p a j = Next p j a.0 × (destroys j.act ≡ true)

abbrev pub SeesEntry : Typed → ℕ → Stop → Function → Type 0
SeesEntry p depth a f = Contains p.functions f × (first_item f ≡ a.0) × ((b : Stop) → GoesUp p depth a b → ⊥)

-- flags are those of the numbers of some things
abbrev pub AreFlagsOf : (A : Type 0) → (A → ℕ) → (A → Type 0) → List Bool → Type 0
AreFlagsOf A number P flags = (m : ℕ) → IsSet flags m ↔ ((x : A) × P x × (number x ≡ m))

-- what layers up to the k-th have marked
pub record AreMarks (p : Typed) (depth : ℕ) (from : List ItemId) (k : ℕ) (marks : Marks) : Type 0 where
  pub before : AreFlagsOf Item item_number (SeenFrom Item p depth from (SeesBefore p depth) k) marks.before.items
  pub after : AreFlagsOf Item item_number (SeenFrom Item p depth from (SeesAfter p) k) marks.after.items
  pub entries : AreFlagsOf Function function_number (SeenFrom Function p depth from (SeesEntry p depth) k) marks.entries.items

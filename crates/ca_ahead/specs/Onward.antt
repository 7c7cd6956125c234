-- Where a source leads onward from its items, by their numbers.
use Rattle.std.specs.Prelude.{◌≡◌, ◌<◌, ℕ, Bool, false, List, length, Contains, ◌⊎◌, ◌↔◌}
use Rattle.ca_reach.specs.Reach.{Table, row, IsSet}
use Rattle.ca_model.specs.declared.tree.Item.{Item}
use Rattle.ca_model.specs.declared.tree.Function.{Function}
use Rattle.ca_model.specs.Codes.{Typed}
use Rattle.ca_model.specs.Links.{Next, first_item}
use Rattle.ca_model.specs.Destroying.{destroys}
use Rattle.ca_model.specs.Paths.{IsCall, BeginsThreads}
use Rattle.ca_flow.specs.declared.links.Link.{Link}
use Rattle.ca_flow.specs.Graphs.{ControlFlow}

-- an item that doesn't destroy, of number n, is linked to one of number m
abbrev pub LeadsOn : Typed → ℕ → ℕ → Type 0
LeadsOn p n m = (j i : Item) × Next p j i × (destroys j.act ≡ false) × (j.id.0 ≡ n) × (i.id.0 ≡ m)

-- the same of a link, of one of some links, and of one in some graphs
abbrev pub IsOnward : Link → ℕ → ℕ → Type 0
IsOnward l n m = (l.destroys ≡ false) × (l.from.0 ≡ n) × (l.to.0 ≡ m)

abbrev pub HasOnward : List Link → ℕ → ℕ → Type 0
HasOnward ls n m = (l : Link) × Contains ls l × IsOnward l n m

abbrev pub InGraphs : List ControlFlow → ℕ → ℕ → Type 0
InGraphs gs n m = (g : ControlFlow) × Contains gs g × HasOnward g.links n m

-- the rows of a table get what is onward, and a list gets some numbers
abbrev pub Grows : Table → Table → (ℕ → ℕ → Type 0) → Type 0
Grows t t' P = (length t' ≡ length t) × ((n m : ℕ) → Contains (row t' n) m ↔ (Contains (row t n) m ⊎ ((n < length t) × P n m)))

abbrev pub Gains : List ℕ → List ℕ → (ℕ → Type 0) → Type 0
Gains xs ys P = (n : ℕ) → Contains ys n ↔ (Contains xs n ⊎ P n)

-- number m stands in the row of a marked number below a count
abbrev pub FollowsMarked : Table → List Bool → ℕ → ℕ → Type 0
FollowsMarked t marked count m = (n : ℕ) × (n < count) × IsSet marked n × Contains (row t n) m

-- a number is marked, or was found one call further up
abbrev pub IsEither : List Bool → List Bool → ℕ → Type 0
IsEither marked above n = IsSet marked n ⊎ IsSet above n

-- a path may go up from a function, to a call that is marked or found
abbrev pub HasCall : Typed → List Bool → List Bool → Function → Type 0
HasCall p marked above f = (BeginsThreads p f → ⊥) × ((c : Item) × IsCall p c f × IsEither marked above c.id.0)

-- and n is the number of its first item
abbrev pub IsEntered : Typed → List Bool → List Bool → Function → ℕ → Type 0
IsEntered p marked above f n = HasCall p marked above f × ((first_item f).id.0 ≡ n)

abbrev pub EntersOne : Typed → List Bool → List Bool → List Function → ℕ → Type 0
EntersOne p marked above fs n = (f : Function) × Contains fs f × IsEntered p marked above f n

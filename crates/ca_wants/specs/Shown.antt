-- The action that the code names is what a thread wants, but for its sites and items.
use Rattle.std.specs.Prelude.{◌≡◌, List, Option, Some, None, ◌⊎◌}
use Rattle.ca_tree.specs.declared.numbers.SiteId.{SiteId}
use Rattle.ca_tree.specs.declared.numbers.ItemId.{ItemId}
use Rattle.ca_model.specs.declared.values.Value.{Value}
use Rattle.ca_model.specs.declared.values.FaultKind.TheVariants as fault
use Rattle.ca_model.specs.Asks as asks
use Rattle.ca_model.specs.Asks.{Want}
use Rattle.ca_wants.specs.declared.next.Next.{Next}
use Rattle.ca_wants.specs.declared.next.Next.TheVariants as next

-- of a thread that wants w, with the site r at which a retry may come: an assertion that is false is a retry there, and else a fault
abbrev pub Shows : Next → Want → Option SiteId → Type 0
Shows (next.Read at by kind) w r = (s : Option SiteId) × (w ≡ asks.Reads at by kind s)
Shows (next.Write at by value) w r = (s : Option SiteId) × (w ≡ asks.Writes at by value s)
Shows (next.Lock m) w r = (s : SiteId) × (i : ItemId) × (w ≡ asks.Locks m s i)
Shows (next.Unlock m) w r = w ≡ asks.Unlocks m
Shows (next.Malloc cells) w r = (i : ItemId) × (w ≡ asks.Mallocs cells i)
Shows (next.Free at) w r = (s : SiteId) × (w ≡ asks.Frees at s)
Shows (next.Print text) w r = w ≡ asks.Prints text.now
Shows (next.Create f x) w r = w ≡ asks.Creates f x
Shows (next.Join n) w r = w ≡ asks.Joins n
Shows (next.Call f) w r = (xs : List Value) × (w ≡ asks.Calls f xs)
Shows (next.Return x) w r = w ≡ asks.Returns x
Shows next.Turn w r = w ≡ asks.Turns
Shows next.End w r = w ≡ asks.Ends
Shows (next.Fault k) w r = ((k ≡ fault.Arith) × (w ≡ asks.Faults fault.Arith)) ⊎ ((k ≡ fault.Assert) × ((s : SiteId) × (w ≡ asks.Fails s) × (r ≡ None)))
Shows next.Save w r = w ≡ asks.Saves
Shows (next.Retry site) w r = (s : SiteId) × (w ≡ asks.Fails s) × (r ≡ Some site)
Shows next.Ended w r = w ≡ asks.Ended

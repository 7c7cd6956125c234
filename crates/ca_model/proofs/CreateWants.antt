-- What an item's effect may ask for: it creates threads with the function that it names alone.
use Rattle.std.proofs.Common.{◌≡◌, ℕ, List, refl}
use Rattle.ca_tree.specs.declared.numbers.ItemId.{ItemId}
use Rattle.ca_model.specs.declared.values.Value.{Value}
use Rattle.ca_model.specs.declared.tree.Target.{Target}
use Rattle.ca_model.specs.declared.tree.Target.TheVariants as target
use Rattle.ca_model.specs.declared.tree.Act.{Act}
use Rattle.ca_model.specs.declared.tree.Act.TheVariants as act
use Rattle.ca_model.specs.Asks.{Want, Creates}
use Rattle.ca_model.specs.Items.{act_run}
use Rattle.ca_model.specs.Laws.{AsksOnly}
use Rattle.ca_model.specs.Paths as paths
use Rattle.ca_model.proofs.OwnWants.{OwnStores, OwnWants, act_only}

abbrev pub MakesOf : Act → Want → Type 0
MakesOf a (Creates f x) = paths.Creates a f
MakesOf a _ = Unit {0}

own_stores : (a : Act) (t : Target) → OwnStores (MakesOf a) t
own_stores a (target.Local x) = tt
own_stores a (target.Place q) = λ at by x s. tt

own : (a : Act) (i : ItemId) → OwnWants (MakesOf a) a i
own (act.Zero x) i = tt
own (act.Set t e) i = own_stores (act.Set t e) t
own (act.Update t o e) i = own_stores (act.Update t o e) t
own (act.Malloc t c n) i = ((λ cells. tt), own_stores (act.Malloc t c n) t)
own (act.Call x f es) i = λ xs. tt
own (act.Lock m) i = λ s. tt
own (act.Unlock m) i = tt
own (act.Create x f e) i = λ y. refl
own (act.Join e) i = λ n. tt
own (act.Free e) i = λ x s. tt
own (act.Assert e) i = λ s. tt
own (act.Print t es) i = λ text. tt
own (act.Return e) i = λ x. tt
own (act.Cond e) i = tt
own act.Close i = λ x. tt

pub creates_only : (a : Act) (i : ItemId) (l : List Value) (s : ℕ) → AsksOnly (MakesOf a) (act_run a i l s)
creates_only a i l s = act_only (MakesOf a) (λ at by k n. tt) a i (own a i) l s

-- How far a machine has come along a lifted list.
use Rattle.std.specs.Prelude.{◌≡◌, List, ◌∷◌, ◌++◌}
use Rattle.ca_model.specs.declared.values.Event.{Event}
use Rattle.ca_model.specs.Projection.{projection}
use Rattle.ca_erasure.specs.Lifted.{IsLifted}
use Rattle.ca_machine.specs.Machines.{Traced}

-- its entries open the lifted list of a list, and what follows them there projects to what is left of that list
pub record IsOnWay (m : Traced) (events left : List Event) : Type 0 where
  pub rest : List Event
  pub lifted : IsLifted m.source m.plan events (m.trace ++ rest)
  pub projected : projection rest ≡ left

-- and the next one there is this entry
pub record IsNext (m : Traced) (events : List Event) (entry : Event) (left : List Event) : Type 0 where
  pub rest : List Event
  pub lifted : IsLifted m.source m.plan events (m.trace ++ entry ∷ rest)
  pub projected : projection rest ≡ left

-- a machine for the same source and plan
pub record IsBeside (m n : Traced) : Type 0 where
  pub source : n.source ≡ m.source
  pub plan : n.plan ≡ m.plan

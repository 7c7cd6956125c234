use Rattle.ca_lower.proofs.MembersOf.{of_function}
use Rattle.ca_lower.proofs.scopes.InItem.behind.Goals as goal

pub behind-requires : goal.behind-requires
behind-requires c = of_function _ _ _ c.self.invariant.0 c.self.invariant.1

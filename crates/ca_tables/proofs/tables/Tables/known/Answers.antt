use Rattle.std.proofs.Common.{subst}
use Rattle.ca_model.specs.WellFormed.{IsWellFormed}
use Rattle.ca_model.specs.Bounds.{IsBounded}
use Rattle.ca_tables.specs.Tabled.{Planned}
use Rattle.ca_tables.proofs.tables.Tables.known.Goals as goal

pub returns-clause-formed : goal.returns-clause-formed
returns-clause-formed c = subst (λ (x : Planned). IsWellFormed x.source) c.self.view_is c.self.invariant.formed

pub returns-clause-bounded : goal.returns-clause-bounded
returns-clause-bounded c = subst (λ (x : Planned). IsBounded x.source) c.self.view_is c.self.invariant.bounded

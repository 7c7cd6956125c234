use Rattle.std.proofs.Common.{◌≡◌, drop}
use Rattle.ca_model.specs.Accesses.{accesses_of_all}
use Rattle.ca_flow.specs.Changes.{seen, see}
use Rattle.ca_flow.proofs.changes.exps.Given as goal

abbrev pub invariant-each : goal.invariant-each
invariant-each l = see (seen l.changes.items l.changed) (accesses_of_all (drop l.e-index l.fn.es)) ≡ see (seen l.fn.changes.items l.fn.changed) (accesses_of_all l.fn.es)

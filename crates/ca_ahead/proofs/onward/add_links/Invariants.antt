use Rattle.std.proofs.Common.{take}
use Rattle.ca_reach.specs.Reach.{rows_of}
use Rattle.ca_ahead.specs.Onward.{HasOnward, Grows}
use Rattle.ca_ahead.proofs.onward.add_links.Given as goal

abbrev pub invariant-links : goal.invariant-links
invariant-links l = Grows (rows_of l.fn.rows.items) (rows_of l.rows.items) (λ n m. HasOnward (take l.link-index l.links) n m)

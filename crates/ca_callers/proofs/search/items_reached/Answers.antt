use Rattle.std.proofs.Common.{length}
use Rattle.ca_reach.specs.Reach.{rows_of}
use Rattle.ca_callers.proofs.Listing.{none_listed, empty_is, flags_listed}
use Rattle.ca_callers.proofs.search.items_reached.Goals as goal

pub returns-then-is_empty : goal.returns-then-is_empty
returns-then-is_empty c n fits = none_listed (rows_of c.args.back.now) c.args.starts.now c.new.result.items (empty_is (length c.args.starts.now) c.is_empty.result c.is_empty.ensures c.if-is_empty.true) c.new.ensures.items n

pub returns : goal.returns
returns c = flags_listed (rows_of c.args.back.now) c.args.starts.now c.in_ok-flags.flags.items c.deref.result.now c.in_ok-items.items.items c.deref.ensures.value c.in_ok-flags.ensures.exact c.in_ok-items.ensures.exact

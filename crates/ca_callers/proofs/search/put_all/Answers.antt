use Rattle.std.proofs.Common.{refl, ◌∙◌, arith, get_or}
use Rattle.ca_callers.proofs.Rows.{read_or}
use Rattle.ca_callers.proofs.Listing.{put_none, put_turn, put_end}
use Rattle.ca_callers.proofs.search.put_all.Goals as goal

pub numbers-init : goal.numbers-init
numbers-init c = record { long = refl; sets = put_none c.args.flags.now.items }

pub numbers-preserved : goal.numbers-preserved
numbers-preserved c = record {
  long = c.put.ensures.length ∙ c.numbers.invariant.long;
  sets = put_turn c.args.flags.now.items c.numbers.flags.items c.put.new.flags.items c.args.numbers.now c.numbers.n-index (get_or c.args.numbers.now c.numbers.n-index 0) c.numbers-test.true
      (read_or c.args.numbers.now c.numbers.n-index 0 c.numbers-test.true) c.numbers.invariant.long c.numbers.invariant.sets c.put.ensures.sets;
}

pub returns-clause-sets : goal.returns-clause-sets
returns-clause-sets c = put_end c.args.flags.now.items c.numbers.flags.items c.args.numbers.now c.numbers.n-index (omega (arith, c.numbers-test.false)) c.numbers.invariant.sets

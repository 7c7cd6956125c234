use Rattle.std.proofs.Common.{arith, ◌≡◌, ◌<◌, ◌+◌, length, sym, subst}
use Rattle.ca_model.specs.Accesses.{all_sites}
use Rattle.ca_plan.specs.Planning.{options_of}
use Rattle.ca_plan.proofs.Naming.{there}
use Rattle.ca_plan.proofs.Taking.{AreTakenTo, none_taken, tells_at, turn_taken, all_taken, none_ascend}
use Rattle.ca_plan.proofs.taken.taken.Goals as goal

pub sites-init : goal.sites-init
sites-init c = record {
  are = subst (AreTakenTo c.args.code.now.source (options_of c.args.options.now) 0) (sym c.new-sites.ensures.items) (none_taken c.args.code.now.source (options_of c.args.options.now));
  ascend = none_ascend c.new-sites.result.items c.new-sites.ensures.items;
}

pub sites-preserved : goal.sites-preserved
sites-preserved c =
    let p = c.args.code.now.source in
    let k = c.sites.k in
    let size : length c.in_ok-reasons.reasons.items ≡ length (all_sites p) = c.in_ok-reasons.ensures.count in
    let lt : k < length c.in_ok-reasons.reasons.items = omega (arith, c.sites-test.true, c.sites-k-end.ensures, size) in
    let told = tells_at p (options_of c.args.options.now) k c.in_ok-reasons.reasons.items c.index.result.now c.is_taken-taken.result lt c.index.ensures (λ s is. c.in_ok-reasons.ensures.exact k s is) (λ s is tells. c.is_taken-taken.ensures p s is tells) in
    let h = turn_taken p (options_of c.args.options.now) k c.sites.sites.items c.push_if.new.sites.items c.is_taken-taken.result c.sites.invariant.are c.sites.invariant.ascend c.in_ok-push_if.ensures (there p (k + 1) (omega arith) (omega (arith, c.sites-test.true, c.sites-k-end.ensures))) told in
    record { are = h.0; ascend = h.1 }

pub returns-clause-taken : goal.returns-clause-taken
returns-clause-taken c = all_taken c.args.code.now.source (options_of c.args.options.now) c.sites.k c.sites.sites.items (omega (arith, c.sites-test.false, c.sites-k-end.ensures)) c.sites.invariant.are

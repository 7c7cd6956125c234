use Rattle.std.proofs.Common.{◌-◌, arith}
use Rattle.ca_lower.proofs.Arguments.{among_at, shallow_there, sites_from, sites_at, one_more_found, all_found}
use Rattle.ca_lower.proofs.builder.Builder.find_all.Goals as goal

pub find-requires-clause-among : goal.find-requires-clause-among
find-requires-clause-among c = among_at _ c.args.es.now _ _ (omega (arith, c.arguments.invariant.0, c.arguments-test.true)) c.index-es-left.is c.requires.shallow

pub find-requires-clause-registers : goal.find-requires-clause-registers
find-requires-clause-registers c =
    let lt = c.arguments-test.true in
    let le = c.arguments.invariant.0 in
    let shallow = shallow_there _ c.args.es.now (c.arguments.left - 1) _ (omega (arith, le, lt)) c.index-es-left.is c.requires.shallow in
    omega (arith, lt, le, shallow, c.requires.registers)

pub find-requires-clause-low : goal.find-requires-clause-low
find-requires-clause-low c =
    let count = sites_at c.args.es.now (c.arguments.left - 1) c.arguments.left c.index-es-left.result (omega (arith, c.arguments-test.true)) (omega (arith, c.arguments.invariant.0, c.arguments-test.true)) c.index-es-left.is in
    let le = sites_from c.args.es.now (c.arguments.left - 1) in
    omega (arith, count, le, c.requires.low, c.arguments.invariant.1.site)

pub arguments-preserved : goal.arguments-preserved
arguments-preserved c =
    let lt = c.arguments-test.true in
    let le = c.arguments.invariant.0 in (
      omega (arith, le),
      one_more_found c.args.at.now c.args.self.now c.arguments.self c.find.new.self _ _ _ c.args.free (c.arguments.left - 1) c.arguments.left c.args.es.now c.index-es-left.result c.requires.locals (omega (arith, lt)) (omega (arith, le, lt)) c.index-es-left.is
          c.requires.shallow c.arguments.invariant.1 c.in_ok-start.ensures.adds c.in_ok-start.ensures.grows c.in_ok-start.ensures.entry c.in_ok-start.ensures.site c.in_ok-start.ensures.sites,
    )

pub returns-clause-adds : goal.returns-clause-adds
returns-clause-adds c = all_found c.args.at.now c.args.self.now c.arguments.self _ _ c.args.free c.arguments.left c.args.es.now (omega (arith, c.arguments-test.false)) c.arguments.invariant.1

use Rattle.std.proofs.Common.{refl, arith}
use Rattle.ca_lower.specs.Building.{around}
use Rattle.ca_lower.proofs.Growing.{grows_on}
use Rattle.ca_lower.proofs.Turning.{closed, closes_on, stands_closed, site_closed}
use Rattle.ca_lower.proofs.builder.Builder.close_loop.Goals as goal

pub returns-clause-adds : goal.returns-clause-adds
returns-clause-adds c g width le stands =
    let opened_at = c.in_ok-start.ensures.grows.kept _ _ (c.in_ok-outside.ensures.grows.kept _ _ (c.in_ok-inside.ensures.grows.kept _ _ c.requires.open)) in
    let closes = closed (around c.args.at.now) c.args.at.now.item c.args.turn.0 c.in_ok-start.start c.choose.new.self c.close_turn.new.self c.close_turn.ensures.steps opened_at c.close_turn.ensures.registers c.in_ok-start.ensures.entry in
    let by_start = closes.stands g stands in
    let by_outside = c.in_ok-start.ensures.grows.stands g by_start in
    let by_inside = c.in_ok-outside.ensures.grows.stands g by_outside in
    record {
      cond = c.in_ok-start.start;
      one = c.in_ok-inside.inside.0;
      other = c.in_ok-outside.outside.0;
      node = _;
      at = stands_closed (around c.args.at.now) c.args.at.now.item c.args.turn.0 c.in_ok-start.start c.choose.new.self c.close_turn.new.self c.close_turn.ensures.steps opened_at g stands;
      turns = refl;
      chooses = c.in_ok-start.ensures.adds g width (omega (arith, le, c.close_turn.ensures.registers)) by_start;
      marks = c.in_ok-inside.ensures.adds g width by_inside;
      marks_out = c.in_ok-outside.ensures.adds g width by_outside;
    }

pub returns-clause-closes : goal.returns-clause-closes
returns-clause-closes c =
    let opened_at = c.in_ok-start.ensures.grows.kept _ _ (c.in_ok-outside.ensures.grows.kept _ _ (c.in_ok-inside.ensures.grows.kept _ _ c.requires.open)) in
    closes_on _ _ _ _ _ (grows_on _ _ _ _ c.in_ok-inside.ensures.grows (grows_on _ _ _ _ c.in_ok-outside.ensures.grows c.in_ok-start.ensures.grows))
    (closed (around c.args.at.now) c.args.at.now.item c.args.turn.0 c.in_ok-start.start c.choose.new.self c.close_turn.new.self c.close_turn.ensures.steps opened_at c.close_turn.ensures.registers c.in_ok-start.ensures.entry)

pub returns-clause-sites : goal.returns-clause-sites
returns-clause-sites c =
    let opened_at = c.in_ok-start.ensures.grows.kept _ _ (c.in_ok-outside.ensures.grows.kept _ _ (c.in_ok-inside.ensures.grows.kept _ _ c.requires.open)) in
    let closes = closed (around c.args.at.now) c.args.at.now.item c.args.turn.0 c.in_ok-start.start c.choose.new.self c.close_turn.new.self c.close_turn.ensures.steps opened_at c.close_turn.ensures.registers c.in_ok-start.ensures.entry in
    site_closed (around c.args.at.now) c.args.at.now.item _ _ _ _ _ closes opened_at c.in_ok-start.ensures.sites

use Rattle.ca_lex.proofs.Units.{passed_itself, passed_escape, close_found, none_behind, none_at_end, none_at_feed, none_escape_end, none_escape_feed}
use Rattle.ca_lex.proofs.strings.units_len.Goals as goal

pub overflow_sub-result : goal.overflow_sub-result
overflow_sub-result c = (close_found c.args.text.now c.units.rest.now c.in-Some.more.now c.in-Some.first.now c.units.invariant c.in-Some.ensures.cases.0 c.if-first-eq34.true).0

pub returns-then-first-eq34 : goal.returns-then-first-eq34
returns-then-first-eq34 c = (close_found c.args.text.now c.units.rest.now c.in-Some.more.now c.in-Some.first.now c.units.invariant c.in-Some.ensures.cases.0 c.if-first-eq34.true).1

pub returns-then-first-eq10 : goal.returns-then-first-eq10
returns-then-first-eq10 c = none_behind c.args.text.now c.units.rest.now c.units.invariant (none_at_feed c.units.rest.now c.in-Some.more.now c.in-Some.first.now c.in-Some.ensures.cases.0 c.if-first-eq10.true)

pub units-preserved-then-first-ne92 : goal.units-preserved-then-first-ne92
units-preserved-then-first-ne92 c =
    passed_itself c.args.text.now c.units.rest.now c.in-Some.more.now c.in-Some.first.now c.units.invariant c.in-Some.ensures.cases.0 c.if-first-eq10.false c.if-first-eq34.false c.if-first-ne92.true

pub returns-in_default-split_first : goal.returns-in_default-split_first
returns-in_default-split_first c =
    none_behind c.args.text.now c.units.rest.now c.units.invariant
    (none_escape_end c.units.rest.now c.in-Some.more.now c.in-Some.first.now c.in-Some.ensures.cases.0 c.if-first-ne92.false c.in_default-split_first.ensures.cases)

pub returns-then-second-eq10 : goal.returns-then-second-eq10
returns-then-second-eq10 c =
    none_behind c.args.text.now c.units.rest.now c.units.invariant
    (none_escape_feed c.units.rest.now c.in-Some.more.now c.in-Some-split_first.behind.now c.in-Some.first.now c.in-Some-split_first.second.now c.in-Some.ensures.cases.0 c.if-first-ne92.false c.in-Some-split_first.ensures.cases.0 c.if-second-eq10.true)

pub units-preserved : goal.units-preserved
units-preserved c =
    passed_escape c.args.text.now c.units.rest.now c.in-Some.more.now c.in-Some-split_first.behind.now c.in-Some.first.now c.in-Some-split_first.second.now c.units.invariant
    c.in-Some.ensures.cases.0 c.if-first-ne92.false c.in-Some-split_first.ensures.cases.0 c.if-second-eq10.false

pub returns : goal.returns
returns c = none_behind c.args.text.now c.units.rest.now c.units.invariant (none_at_end c.units.rest.now c.in_default.ensures.cases)

use Rattle.std.proofs.Common.{subst, sym, List, ℕ}
use Rattle.ca_lex.proofs.Units.{Taken, taken_none, taken_itself, taken_escape, bad_found, never_alone}
use Rattle.ca_lex.proofs.strings.unescaped.Goals as goal

pub units-init : goal.units-init
units-init c = subst (λ (t : List ℕ). Taken c.args.units.now c.args.units.now t) (sym c.new-bytes.ensures.items) (taken_none c.args.units.now c.requires.are)

pub units-preserved-then-first-ne92 : goal.units-preserved-then-first-ne92
units-preserved-then-first-ne92 c =
    taken_itself c.args.units.now c.units.rest.now c.in-Some.more.now c.units.bytes.items c.push.new.self.items c.in-Some.first.now c.units.invariant c.in-Some.ensures.cases.0 c.if-first-ne92.true c.in_ok-push.ensures.items

pub returns-in_default-split_first : goal.returns-in_default-split_first
returns-in_default-split_first c =
    absurd (never_alone c.args.units.now c.units.rest.now c.in-Some.more.now c.units.bytes.items c.in-Some.first.now c.units.invariant c.in-Some.ensures.cases.0 c.if-first-ne92.false c.in_default-split_first.ensures.cases)

pub returns-in_default-escape : goal.returns-in_default-escape
returns-in_default-escape c =
    bad_found c.args.units.now c.units.rest.now c.in-Some.more.now c.in-Some-split_first.behind.now c.units.bytes.items c.in-Some.first.now c.in-Some-split_first.second.now
    c.units.invariant c.in-Some.ensures.cases.0 c.if-first-ne92.false c.in-Some-split_first.ensures.cases.0 c.in_default-escape.ensures

pub units-preserved : goal.units-preserved
units-preserved c =
    taken_escape c.args.units.now c.units.rest.now c.in-Some.more.now c.in-Some-split_first.behind.now c.units.bytes.items c.push-in-Some.new.self.items c.in-Some.first.now c.in-Some-split_first.second.now c.in-Some-escape.byte
    c.units.invariant c.in-Some.ensures.cases.0 c.if-first-ne92.false c.in-Some-split_first.ensures.cases.0 c.in-Some-escape.ensures c.in_ok-push-2.ensures.items

use Rattle.std.proofs.Common.{◌≡◌, ◌∷◌, ◌∙◌, sym, ap, subst, false, true, List, ℕ}
use Rattle.ca_tree.specs.Tokens.{is_blank}
use Rattle.ca_tree.specs.Lexed.{has_line_feed, IsBare, at_line_feed, behind_blank}
use Rattle.ca_lex.proofs.Bare.{nothing_bare, bare_behind_blank, ends_bare, ends_found, ends_needed}
use Rattle.ca_lex.proofs.skipped.is_bare.Goals as goal

pub returns-then-first-eq10 : goal.returns-then-first-eq10
returns-then-first-eq10 c =
    let whole : c.line.rest.now ≡ c.in-Some.first.now ∷ c.in-Some.more.now = c.in-Some.ensures.cases.0 in
    let feed : c.line.rest.now ≡ 10 ∷ c.in-Some.more.now = whole ∙ ap (λ (b : ℕ). b ∷ c.in-Some.more.now) c.if-first-eq10.true in
    c.line.invariant.found (subst IsBare (sym feed) (at_line_feed c.in-Some.more.now))

pub line-preserved-then-is_blank : goal.line-preserved-then-is_blank
line-preserved-then-is_blank c =
    let whole : c.line.rest.now ≡ c.in-Some.first.now ∷ c.in-Some.more.now = c.in-Some.ensures.cases.0 in
    let blank : is_blank c.in-Some.first.now ≡ true = sym c.if-is_blank.ensures in
    record {
      found = λ h. c.line.invariant.found (subst IsBare (sym whole) (behind_blank c.in-Some.first.now c.in-Some.more.now blank h));
      needed = λ h. bare_behind_blank c.line.rest.now (c.line.invariant.needed h) c.in-Some.first.now c.in-Some.more.now whole blank c.if-first-eq10.false;
    }

pub returns-then-contains : goal.returns-then-contains
returns-then-contains c =
    let feed : has_line_feed c.split_at.result.0.now ≡ true = sym c.contains.ensures.value ∙ c.if-contains.true in
    c.line.invariant.found (ends_bare c.line.rest.now c.in-Ends.len c.in-Ends.ensures (subst (λ (t : List ℕ). has_line_feed t ≡ true) c.split_at.ensures.front feed))

pub line-preserved : goal.line-preserved
line-preserved c =
    let none : has_line_feed c.split_at.result.0.now ≡ false = sym c.contains.ensures.value ∙ c.if-contains.false in
    record {
      found = λ h. c.line.invariant.found (ends_found c.line.rest.now c.in-Ends.len c.in-Ends.ensures (subst IsBare c.split_at.ensures.back h));
      needed = λ h. subst IsBare (sym c.split_at.ensures.back) (ends_needed c.line.rest.now c.in-Ends.len c.in-Ends.ensures (subst (λ (t : List ℕ). has_line_feed t ≡ false) c.split_at.ensures.front none) (c.line.invariant.needed h));
    }

pub returns : goal.returns
returns c = c.line.invariant.found (nothing_bare c.line.rest.now c.in_default.ensures.cases)

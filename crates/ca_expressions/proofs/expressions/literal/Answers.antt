use Rattle.std.proofs.Common.{◌≡◌, rules, w32, SFits}
use mir.Val.{to_z, of_z}
use Rattle.std.proofs.lemmas.Int.{to_z-of_z}
use Rattle.ca_grammar.specs.Reads.{takes, overs, passes, wants, exceeds, misses}
use Rattle.ca_expressions.proofs.expressions.literal.Goals as goal

pub returns-in-Some-exceeded-clause-reads : goal.returns-in-Some-exceeded-clause-reads
returns-in-Some-exceeded-clause-reads c =
    let over = c.in-Some-exceeded.ensures in
    λ g on. (over.0, overs c.in-Some.ensures over.1, over.2)

pub returns-in-Some-clause-reads : goal.returns-in-Some-clause-reads
returns-in-Some-clause-reads c = λ g on o d. takes c.in-Some.ensures c.in_default-exceeded.ensures (rw c.leaf.ensures at d)

pub returns-in_default-number-clause-reads : goal.returns-in_default-number-clause-reads
returns-in_default-number-clause-reads c = λ g on. passes c.in_default.ensures (misses c.in_default-number.ensures.takes)

pub returns-in-Some-exceeded-2-clause-reads : goal.returns-in-Some-exceeded-2-clause-reads
returns-in-Some-exceeded-2-clause-reads c =
    let over = c.in-Some-exceeded-2.ensures in
    λ g on. (over.0, passes c.in_default.ensures (exceeds c.in-Some-number.ensures.takes over.1), over.2)

pub returns-clause-reads : goal.returns-clause-reads
returns-clause-reads c =
    let fits : SFits w32 c.in-Some-number.value = search rules in
    let same : to_z w32 (of_z w32 c.in-Some-number.value) ≡ c.in-Some-number.value = to_z-of_z w32 c.in-Some-number.value fits in
    λ g on o d. passes c.in_default.ensures (wants c.in-Some-number.ensures.takes c.in_default-exceeded-2.ensures (rw (c.leaf-2.ensures, same) at d))

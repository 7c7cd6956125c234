use Rattle.std.proofs.Common.{◌≡◌, rules, w32, SFits}
use mir.Val.{to_z, of_z}
use Rattle.std.proofs.lemmas.Int.{to_z-of_z}
use Rattle.ca_grammar.specs.Reads.{takes, overs, passes, wants, exceeds, misses, gives}
use Rattle.ca_expressions.proofs.expressions.bare.Goals as goal

pub returns-in-Some-exceeded-clause-reads : goal.returns-in-Some-exceeded-clause-reads
returns-in-Some-exceeded-clause-reads c =
    let over = c.in-Some-exceeded.ensures in
    λ outer inside. (over.0, passes c.requires (overs c.in-Some.ensures over.1), over.2)

pub returns-in-Some-clause-reads : goal.returns-in-Some-clause-reads
returns-in-Some-clause-reads c = λ outer inside. rw c.leaf.ensures (passes c.requires (takes c.in-Some.ensures c.in_default-exceeded.ensures gives))

pub returns-in-Some-exceeded_by_name-clause-reads :
    goal.returns-in-Some-exceeded_by_name-clause-reads
returns-in-Some-exceeded_by_name-clause-reads c =
    let over = rw c.as_slice.ensures at c.in-Some-exceeded_by_name.ensures in
    λ outer inside. (over.0, passes c.requires (passes c.in_default.ensures (overs c.in-Some-name.ensures over.1)), over.2)

pub returns-in-Some-name-clause-reads : goal.returns-in-Some-name-clause-reads
returns-in-Some-name-clause-reads c =
    let fits = rw c.as_slice.ensures at c.in_default-exceeded_by_name.ensures in
    λ outer inside. rw (c.leaf-in-Some-name.ensures, c.in_ok-named.ensures) (passes c.requires (passes c.in_default.ensures (takes c.in-Some-name.ensures fits gives)))

pub returns-in_default-number-clause-reads : goal.returns-in_default-number-clause-reads
returns-in_default-number-clause-reads c = λ outer inside. passes c.requires (passes c.in_default.ensures (passes c.in_default-name.ensures (misses c.in_default-number.ensures.takes)))

pub returns-in-Some-exceeded-2-clause-reads : goal.returns-in-Some-exceeded-2-clause-reads
returns-in-Some-exceeded-2-clause-reads c =
    let over = c.in-Some-exceeded-2.ensures in
    λ outer inside. (over.0, passes c.requires (passes c.in_default.ensures (passes c.in_default-name.ensures (exceeds c.in-Some-number.ensures.takes over.1))), over.2)

pub returns-clause-reads : goal.returns-clause-reads
returns-clause-reads c =
    let fits : SFits w32 c.in-Some-number.value = search rules in
    let same : to_z w32 (of_z w32 c.in-Some-number.value) ≡ c.in-Some-number.value = to_z-of_z w32 c.in-Some-number.value fits in
    λ outer inside. rw (c.leaf-2.ensures, same) (passes c.requires (passes c.in_default.ensures (passes c.in_default-name.ensures (wants c.in-Some-number.ensures.takes c.in_default-exceeded-2.ensures gives))))

use Rattle.std.proofs.Common.{◌≡◌, refl, rules, w32, SFits}
use mir.Val.{to_z, of_z}
use Rattle.std.proofs.lemmas.Int.{to_z-of_z}
use Rattle.ca_grammar.specs.Reads.{takes, overs, passes, wants, misses}
use Rattle.ca_read.proofs.globals.array_length.Goals as goal

pub returns-in_default-clause-reads : goal.returns-in_default-clause-reads
returns-in_default-clause-reads c = λ g k o d. passes c.in_default.ensures d

pub returns-in-Some-exceeded-clause-reads : goal.returns-in-Some-exceeded-clause-reads
returns-in-Some-exceeded-clause-reads c =
    let over = c.in-Some-exceeded.ensures in
    λ g k. (over.0, overs c.in-Some.ensures over.1, over.2)

pub returns-in_default-number-clause-reads : goal.returns-in_default-number-clause-reads
returns-in_default-number-clause-reads c = λ g k. takes c.in-Some.ensures c.in_default-exceeded.ensures (misses c.in_default-number.ensures.takes)

pub returns-in_default-mark-clause-reads : goal.returns-in_default-mark-clause-reads
returns-in_default-mark-clause-reads c = λ g k. takes c.in-Some.ensures c.in_default-exceeded.ensures (wants c.in-Some-number.ensures.takes refl (misses c.in_default-mark.ensures))

pub returns-clause-reads : goal.returns-clause-reads
returns-clause-reads c =
    let fits : SFits w32 c.in-Some-number.length = search rules in
    let same : to_z w32 (of_z w32 c.in-Some-number.length) ≡ c.in-Some-number.length = to_z-of_z w32 c.in-Some-number.length fits in
    rw same (λ g k o d. takes c.in-Some.ensures c.in_default-exceeded.ensures (wants c.in-Some-number.ensures.takes refl (wants c.in-Some-mark.ensures refl d)))

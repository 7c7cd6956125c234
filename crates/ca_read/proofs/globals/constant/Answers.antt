use Rattle.std.proofs.Common.{◌≡◌, refl, rules, w32, SFits}
use mir.Val.{to_z, of_z}
use Rattle.std.proofs.lemmas.Int.{to_z-of_z}
use Rattle.ca_grammar.specs.Reads.{takes, passes, wants, misses, gives}
use Rattle.ca_read.proofs.globals.constant.Goals as goal

pub returns-in_default-number-clause-reads : goal.returns-in_default-number-clause-reads
returns-in_default-number-clause-reads c = takes c.in-Some.ensures refl (misses c.in_default-number.ensures.takes)

pub returns-in-Some-clause-reads : goal.returns-in-Some-clause-reads
returns-in-Some-clause-reads c =
    let fits : SFits w32 c.negated.result = search rules in
    let same : to_z w32 (of_z w32 c.negated.result) ≡ c.negated.result = to_z-of_z w32 c.negated.result fits in
    let value : SFits w32 c.in-Some-number.value = search rules in
    let same_value : to_z w32 (of_z w32 c.in-Some-number.value) ≡ c.in-Some-number.value = to_z-of_z w32 c.in-Some-number.value value in
    rw (same, c.negated.ensures, same_value) (takes c.in-Some.ensures refl (wants c.in-Some-number.ensures.takes refl gives))

pub returns-in-Some-word-clause-reads : goal.returns-in-Some-word-clause-reads
returns-in-Some-word-clause-reads c = passes c.in_default.ensures (takes c.in-Some-word.ensures refl gives)

pub returns-in_default-number-2-clause-reads : goal.returns-in_default-number-2-clause-reads
returns-in_default-number-2-clause-reads c = passes c.in_default.ensures (passes c.in_default-word.ensures (misses c.in_default-number-2.ensures.takes))

pub returns-clause-reads : goal.returns-clause-reads
returns-clause-reads c =
    let fits : SFits w32 c.in-Some-number-2.value = search rules in
    let same : to_z w32 (of_z w32 c.in-Some-number-2.value) ≡ c.in-Some-number-2.value = to_z-of_z w32 c.in-Some-number-2.value fits in
    rw same (passes c.in_default.ensures (passes c.in_default-word.ensures (wants c.in-Some-number-2.ensures.takes refl gives)))

use Rattle.std.proofs.Common.{refl}
use Rattle.std.proofs.lemmas.Result.{err_from_is_err_and}
use Rattle.ca_tree.specs.declared.tree.Base.TheVariants.{Struct}
use Rattle.ca_grammar.specs.Goals.{Behind_base, Behind_tag}
use Rattle.ca_grammar.specs.Reads.{takes, overs, passes, wants, misses, calls, fails, gives}
use Rattle.ca_read.specs.Declaring.{totals_of}
use Rattle.ca_expressions.proofs.Following.{pass, read_on}
use Rattle.ca_read.proofs.tops.behind_tag.Goals as goal

pub returns-in_default-clause-reads : goal.returns-in_default-clause-reads
returns-in_default-clause-reads c =
    read_on (Behind_base (Struct c.args.name) (totals_of c.args.totals)) (Behind_tag c.args.name (totals_of c.args.totals)) _ _ c.args.tokens.now c.args.tokens.now c.behind_base.result
    (λ x d. passes c.in_default.ensures (calls d gives)) (λ r vs d. passes c.in_default.ensures (fails d)) c.behind_base.ensures.reads

pub returns-in-Some-exceeded-clause-reads : goal.returns-in-Some-exceeded-clause-reads
returns-in-Some-exceeded-clause-reads c =
    let over = rw c.next-count.ensures at c.in-Some-exceeded.ensures in
    (over.0, overs c.in-Some.ensures over.1, over.2)

pub returns-in_err-fields-clause-reads : goal.returns-in_err-fields-clause-reads
returns-in_err-fields-clause-reads c =
    let p = err_from_is_err_and c.from_residual.result c.from_residual.ensures.1 in
    let fits = rw c.next-count.ensures at c.in_default-exceeded.ensures in
    rw (p.1, p.2) (pass c.in_err-fields.field-0.0 (λ r vs d. takes c.in-Some.ensures fits (fails d)) c.in_err-fields.ensures.reads)

pub returns-in_default-mark-clause-reads : goal.returns-in_default-mark-clause-reads
returns-in_default-mark-clause-reads c =
    let fits = rw c.next-count.ensures at c.in_default-exceeded.ensures in
    takes c.in-Some.ensures fits (calls c.in_ok-fields.ensures.reads (misses c.in_default-mark.ensures))

pub returns-clause-reads : goal.returns-clause-reads
returns-clause-reads c =
    let fits = rw c.next-count.ensures at c.in_default-exceeded.ensures in
    rw c.one_more_struct.ensures.count (takes c.in-Some.ensures fits (calls c.in_ok-fields.ensures.reads (wants c.in-Some-mark.ensures refl gives)))

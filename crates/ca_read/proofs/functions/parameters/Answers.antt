use Rattle.std.proofs.Common.{refl}
use Rattle.std.proofs.lemmas.Result.{err_from_is_err_and}
use Rattle.ca_tree.specs.declared.tree.ParameterType.TheVariants.{Pointer}
use Rattle.ca_grammar.specs.Goals.{Behind_type, Parameters}
use Rattle.ca_grammar.specs.Plan.{last}
use Rattle.ca_grammar.specs.Reads.{takes, passes, wants, misses, calls, fails, gives}
use Rattle.ca_expressions.proofs.Following.{pass}
use Rattle.ca_read.proofs.DeclarationSteps.{read_from}
use Rattle.ca_read.proofs.functions.parameters.Goals as goal

pub returns-in-Some-clause-reads : goal.returns-in-Some-clause-reads
returns-in-Some-clause-reads c = rw (c.from_vec.ensures, c.new.ensures.items) (takes c.in-Some.ensures refl gives)

pub returns-in_err-of-clause-reads : goal.returns-in_err-of-clause-reads
returns-in_err-of-clause-reads c =
    let p = err_from_is_err_and c.from_residual.result c.from_residual.ensures.1 in
    rw (p.1, p.2) (pass c.in_err-of.field-0.0 (λ r vs d. passes c.in_default.ensures (passes c.in_default-word.ensures d)) (c.in_err-of.ensures.reads Parameters (λ of. last (Behind_type of 0) Parameters (λ ds. ds))))

pub returns-in_default-word-clause-reads : goal.returns-in_default-word-clause-reads
returns-in_default-word-clause-reads c =
    read_from (Behind_type c.in_ok-of.of 0) Parameters _ _ c.in_ok-of.rest.now c.args.tokens.now c.behind_type.result
    (λ x d. passes c.in_default.ensures (passes c.in_default-word.ensures (c.in_ok-of.ensures.reads Parameters (λ of. last (Behind_type of 0) Parameters (λ ds. ds)) _ (calls d gives))))
    (λ r vs d. passes c.in_default.ensures (passes c.in_default-word.ensures (c.in_ok-of.ensures.reads Parameters (λ of. last (Behind_type of 0) Parameters (λ ds. ds)) _ (fails d)))) c.behind_type.ensures.reads

pub returns-in-Some-mark-clause-reads : goal.returns-in-Some-mark-clause-reads
returns-in-Some-mark-clause-reads c =
    read_from (Behind_type Pointer 0) Parameters _ _ c.in-Some-mark.rest.now c.args.tokens.now c.behind_type-in-Some-mark.result
    (λ x d. passes c.in_default.ensures (takes c.in-Some-word.ensures refl (takes c.in-Some-mark.ensures refl (calls d gives))))
    (λ r vs d. passes c.in_default.ensures (takes c.in-Some-word.ensures refl (takes c.in-Some-mark.ensures refl (fails d)))) c.behind_type-in-Some-mark.ensures.reads

pub returns-in_default-mark-2-clause-reads : goal.returns-in_default-mark-2-clause-reads
returns-in_default-mark-2-clause-reads c = passes c.in_default.ensures (takes c.in-Some-word.ensures refl (passes c.in_default-mark.ensures (misses c.in_default-mark-2.ensures)))

pub returns-clause-reads : goal.returns-clause-reads
returns-clause-reads c = rw (c.from_vec-2.ensures, c.new-2.ensures.items) (passes c.in_default.ensures (takes c.in-Some-word.ensures refl (passes c.in_default-mark.ensures (wants c.in-Some-mark-2.ensures refl gives))))

use Rattle.std.proofs.Common.{None, refl, arith}
use Rattle.std.proofs.lemmas.Result.{err_from_is_err_and}
use Rattle.ca_tree.specs.declared.tree.Base.TheVariants.{Struct}
use Rattle.ca_grammar.specs.Goals.{Behind_base, Qualified}
use Rattle.ca_grammar.specs.Plan.{give}
use Rattle.ca_grammar.specs.Reads.{wants, misses, calls, fails, gives}
use Rattle.ca_read.specs.Declaring.{totals_of}
use Rattle.ca_expressions.proofs.Following.{pass}
use Rattle.ca_read.proofs.DeclarationSteps.{read_from, qualified_on, a_struct_or_none}
use Rattle.ca_read.proofs.tops.qualified.Goals as goal

pub qualifiers-preserved : goal.qualifiers-preserved
qualifiers-preserved c = record {
  at = qualified_on (totals_of c.args.totals) c.qualifiers.rest.now c.in-Some.after.now c.args.tokens.now c.in-Some.ensures.reads c.qualifiers.invariant.at;
  shorter = omega (arith, c.in-Some.ensures.shorter, c.qualifiers.invariant.shorter);
}

pub returns-in_err-found-clause-reads : goal.returns-in_err-found-clause-reads
returns-in_err-found-clause-reads c =
    let p = err_from_is_err_and c.from_residual.result c.from_residual.ensures.1 in
    let m = totals_of c.args.totals in
    rw (p.1, p.2) (pass c.in_err-found.field-0.0 (λ r vs d. c.qualifiers.invariant.at.no r vs (c.in_default.ensures.reads (Qualified m) _ _ _ d)) (c.in_err-found.ensures.reads (Qualified m) give (a_struct_or_none m)))

pub returns-in-Some-2-clause-reads : goal.returns-in-Some-2-clause-reads
returns-in-Some-2-clause-reads c =
    let m = totals_of c.args.totals in
    let found = rw c.in-Some-2.is at c.in_ok-found.ensures.reads in
    c.qualifiers.invariant.at.yes _ _ (c.in_default.ensures.reads (Qualified m) _ _ _ (found (Qualified m) give (a_struct_or_none m) _ gives))

pub returns-in_default-word-clause-reads : goal.returns-in_default-word-clause-reads
returns-in_default-word-clause-reads c =
    let m = totals_of c.args.totals in
    let none = rw c.in_default-2.is at c.in_ok-found.ensures.reads in
    c.qualifiers.invariant.at.no None _ (c.in_default.ensures.reads (Qualified m) _ _ _ (none (Qualified m) give (a_struct_or_none m) _ (misses c.in_default-word.ensures)))

pub returns-in_err-name-clause-reads : goal.returns-in_err-name-clause-reads
returns-in_err-name-clause-reads c =
    let p = err_from_is_err_and c.from_residual-in_err-name.result c.from_residual-in_err-name.ensures.1 in
    let m = totals_of c.args.totals in
    let none = rw c.in_default-2.is at c.in_ok-found.ensures.reads in
    rw (p.1, p.2) (pass c.in_err-name.field-0.0 (λ r vs d. c.qualifiers.invariant.at.no r vs (c.in_default.ensures.reads (Qualified m) _ _ _ (none (Qualified m) give (a_struct_or_none m) _ (wants c.in-Some-word.ensures refl d)))) (c.in_err-name.ensures.reads (Qualified m) _))

pub returns-clause-reads : goal.returns-clause-reads
returns-clause-reads c =
    let m = totals_of c.args.totals in
    let none = rw c.in_default-2.is at c.in_ok-found.ensures.reads in
    read_from (Behind_base (Struct c.in_ok-name.name) m) (Qualified m) _ _ c.in_ok-name.rest.now c.args.tokens.now c.behind_base.result
    (λ x d. c.qualifiers.invariant.at.yes _ _ (c.in_default.ensures.reads (Qualified m) _ _ _ (none (Qualified m) give (a_struct_or_none m) _ (wants c.in-Some-word.ensures refl (c.in_ok-name.ensures.reads _ _ _ (calls d gives))))))
    (λ r vs d. c.qualifiers.invariant.at.no r vs (c.in_default.ensures.reads (Qualified m) _ _ _ (none (Qualified m) give (a_struct_or_none m) _ (wants c.in-Some-word.ensures refl (c.in_ok-name.ensures.reads _ _ _ (fails d)))))) c.behind_base.ensures.reads

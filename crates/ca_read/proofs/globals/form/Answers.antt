use Rattle.std.proofs.Common.{◌≡◌, rules, w32, SFits}
use mir.Val.{to_z, of_z}
use Rattle.std.proofs.lemmas.Int.{to_z-of_z}
use Rattle.std.proofs.lemmas.Result.{err_from_is_err_and}
use Rattle.ca_read.specs.Declaring.{totals_of}
use Rattle.ca_read.proofs.DeclarationSteps.{length_fails, array_form, array_fails, plain_form, plain_fails, assign_over, constant_fails, constant_form, behind_constant_fails}
use Rattle.ca_read.proofs.globals.form.Goals as goal

pub returns-in_err-length-clause-reads : goal.returns-in_err-length-clause-reads
returns-in_err-length-clause-reads c =
    let p = err_from_is_err_and c.from_residual.result c.from_residual.ensures.1 in
    let sized = rw c.next.ensures at c.in_err-length.ensures.reads in
    rw (p.1, p.2) (λ b k n. length_fails b k n (totals_of c.args.totals) c.args.tokens.now c.in_err-length.field-0.0 sized)

pub returns-in_err-more-clause-reads : goal.returns-in_err-more-clause-reads
returns-in_err-more-clause-reads c =
    let p = err_from_is_err_and c.from_residual-in_err-more.result c.from_residual-in_err-more.ensures.1 in
    let sized = rw (c.next.ensures, c.in-Some.is) at c.in_ok-length.ensures.reads in
    let inside = rw c.in-Some.is at c.in_ok-length.ensures.counted in
    let comma = rw inside at c.in_err-more.ensures.reads in
    rw (p.1, p.2) (λ b k n. array_fails b k n (totals_of c.args.totals) c.in_ok-length.counts.now c.in-Some.length c.in_ok-length.rest.now c.args.tokens.now c.in_err-more.field-0.0 sized comma)

pub returns-in-Some-clause-reads : goal.returns-in-Some-clause-reads
returns-in-Some-clause-reads c =
    let sized = rw (c.next.ensures, c.in-Some.is) at c.in_ok-length.ensures.reads in
    let inside = rw c.in-Some.is at c.in_ok-length.ensures.counted in
    let comma = rw inside at c.in_ok-more.ensures.reads in
    let fits : SFits w32 c.in-Some.length = search rules in
    let same : to_z w32 (of_z w32 c.in-Some.length) ≡ c.in-Some.length = to_z-of_z w32 c.in-Some.length fits in
    rw same (λ b k n. array_form b k n (totals_of c.args.totals) c.in_ok-length.counts.now c.in-Some.length c.in_ok-more.more c.in_ok-length.rest.now c.in_ok-more.rest.now c.args.tokens.now sized comma)

pub returns-in_err-more-2-clause-reads : goal.returns-in_err-more-2-clause-reads
returns-in_err-more-2-clause-reads c =
    let p = err_from_is_err_and c.from_residual-in_err-more-2.result c.from_residual-in_err-more-2.ensures.1 in
    let sized = rw (c.next.ensures, c.in_default.is) at c.in_ok-length.ensures.reads in
    rw (p.1, p.2) (λ b k n. plain_fails b k n (totals_of c.args.totals) c.in_ok-length.counts.now c.in_ok-length.rest.now c.args.tokens.now c.in_err-more-2.field-0.0 sized c.in_default-mark.ensures c.in_err-more-2.ensures.reads)

pub returns-in_default-mark-clause-reads : goal.returns-in_default-mark-clause-reads
returns-in_default-mark-clause-reads c =
    let sized = rw (c.next.ensures, c.in_default.is) at c.in_ok-length.ensures.reads in
    λ b k n. plain_form b k n (totals_of c.args.totals) c.in_ok-length.counts.now c.in_ok-more-2.more c.in_ok-length.rest.now c.in_ok-more-2.rest.now c.args.tokens.now sized c.in_default-mark.ensures c.in_ok-more-2.ensures.reads

pub returns-in-Some-exceeded-clause-reads : goal.returns-in-Some-exceeded-clause-reads
returns-in-Some-exceeded-clause-reads c =
    let sized = rw (c.next.ensures, c.in_default.is) at c.in_ok-length.ensures.reads in
    let over = c.in-Some-exceeded.ensures in
    λ b k n. (over.0, assign_over b k n (totals_of c.args.totals) c.in_ok-length.counts.now c.in-Some-mark.field-0-0 c.in_ok-length.rest.now c.in-Some-mark.after.now c.args.tokens.now sized c.in-Some-mark.ensures over.0 over.1, over.2)

pub returns-in_err-constant-clause-reads : goal.returns-in_err-constant-clause-reads
returns-in_err-constant-clause-reads c =
    let p = err_from_is_err_and c.from_residual-in_err-constant.result c.from_residual-in_err-constant.ensures.1 in
    let sized = rw (c.next.ensures, c.in_default.is) at c.in_ok-length.ensures.reads in
    rw (p.1, p.2) (λ b k n. constant_fails b k n (totals_of c.args.totals) c.in_ok-length.counts.now c.in-Some-mark.field-0-0 c.in_ok-length.rest.now c.in-Some-mark.after.now c.args.tokens.now sized c.in-Some-mark.ensures
    c.in_err-constant.field-0.0 c.in_default-exceeded.ensures c.in_err-constant.ensures.reads)

pub returns-in_err-more-3-clause-reads : goal.returns-in_err-more-3-clause-reads
returns-in_err-more-3-clause-reads c =
    let p = err_from_is_err_and c.from_residual-in_err-more-3.result c.from_residual-in_err-more-3.ensures.1 in
    let sized = rw (c.next.ensures, c.in_default.is) at c.in_ok-length.ensures.reads in
    rw (p.1, p.2) (λ b k n. behind_constant_fails b k n (totals_of c.args.totals) c.in_ok-length.counts.now c.in-Some-mark.field-0-0 c.in_ok-length.rest.now c.in-Some-mark.after.now c.args.tokens.now sized c.in-Some-mark.ensures
    c.in_ok-constant.constant c.in_ok-constant.rest.now c.in_err-more-3.field-0.0 c.in_default-exceeded.ensures c.in_ok-constant.ensures.reads c.in_err-more-3.ensures.reads)

pub returns-clause-reads : goal.returns-clause-reads
returns-clause-reads c =
    let sized = rw (c.next.ensures, c.in_default.is) at c.in_ok-length.ensures.reads in
    λ b k n. constant_form b k n (totals_of c.args.totals) c.in_ok-length.counts.now c.in-Some-mark.field-0-0 c.in_ok-length.rest.now c.in-Some-mark.after.now c.args.tokens.now sized c.in-Some-mark.ensures
    c.in_ok-constant.constant c.in_ok-more-3.more c.in_ok-constant.rest.now c.in_ok-more-3.rest.now c.in_default-exceeded.ensures c.in_ok-constant.ensures.reads c.in_ok-more-3.ensures.reads

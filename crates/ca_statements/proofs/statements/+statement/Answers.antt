use Rattle.std.proofs.Common.{refl, arith, add-one}
use Rattle.std.proofs.lemmas.Result.{err_from_is_err_and}
use Rattle.ca_grammar.specs.Goals.{A_statement, A_body, Braceless, Else_part}
use Rattle.ca_grammar.specs.Reads.{No, plan, takes, overs, passes, wants, misses, gives, calls, fails}
use Rattle.ca_statements.specs.declared.statements.Keyword.TheVariants.{If, While, Do, For}
use Rattle.ca_statements.specs.StatementReading.{behind_keyword, branch}
use Rattle.ca_expressions.proofs.Following.{pass, read_on}
use Rattle.ca_statements.proofs.StatementSteps.{answers, keyword_over, keyword_read, if_read, while_read, do_read, open_if, no_else, else_fails, else_read, statement_read, statement_fails, close_over, statements_end, no_declaration}
use Rattle.ca_statements.proofs.statements.+statement.Goals as goal

-- ---- `if`, and its `else`

pub behind_if-returns-in_err-condition-clause-reads : goal.behind_if-returns-in_err-condition-clause-reads
behind_if-returns-in_err-condition-clause-reads t c =
    let p = err_from_is_err_and c.from_residual.result c.from_residual.ensures.1 in
    rw (p.1, p.2) (pass c.in_err-condition.field-0.0 (λ r vs d. fails d) c.in_err-condition.ensures.reads)

pub behind_if-returns-in_err-yes-clause-reads : goal.behind_if-returns-in_err-yes-clause-reads
behind_if-returns-in_err-yes-clause-reads t c =
    let p = err_from_is_err_and c.from_residual-in_err-yes.result c.from_residual-in_err-yes.ensures.1 in
    rw (p.1, p.2) (pass c.in_err-yes.field-0.0 (λ r vs d. calls c.in_ok-condition.ensures.reads (fails (rw (add-one c.args.items, add-one c.args.depth) at d))) c.in_err-yes.ensures.reads)

pub behind_if-returns-clause-reads : goal.behind_if-returns-clause-reads
behind_if-returns-clause-reads t c =
    if_read c.args.in_loop c.args.depth c.args.items _ _ c.in_ok-condition.condition c.item-item.result (branch c.in_ok-yes.yes) c.args.tokens.now c.in_ok-condition.rest.now c.in_ok-yes.rest.now c.else_part.result
    c.item-item.ensures (add-one c.args.depth) (add-one c.args.items) c.in_ok-condition.ensures.reads c.in_ok-yes.ensures.reads c.else_part.ensures.reads

pub else_part-returns-then-yes-clause-reads : goal.else_part-returns-then-yes-clause-reads
else_part-returns-then-yes-clause-reads t c =
    answers (Else_part c.args.in_loop c.args.depth c.args.item c.args.condition (branch c.args.yes).what c.args.yes.items) (plan _) c.args.tokens.now c.args.tokens.now _ _ c.in_ok-without_else.ensures
    (open_if c.args.in_loop c.args.depth c.args.item c.args.condition (branch c.args.yes).what c.args.yes.items c.args.tokens.now c.if-yes.true)

pub else_part-returns-in_default-clause-reads : goal.else_part-returns-in_default-clause-reads
else_part-returns-in_default-clause-reads t c =
    answers (Else_part c.args.in_loop c.args.depth c.args.item c.args.condition (branch c.args.yes).what c.args.yes.items) (plan _) c.args.tokens.now c.args.tokens.now _ _ c.in_ok-without_else-2.ensures
    (no_else c.args.in_loop c.args.depth c.args.item c.args.condition (branch c.args.yes).what c.args.yes.items c.args.tokens.now c.in_default.ensures)

pub else_part-returns-in_err-no-clause-reads : goal.else_part-returns-in_err-no-clause-reads
else_part-returns-in_err-no-clause-reads t c =
    let p = err_from_is_err_and c.from_residual-in_err-no.result c.from_residual-in_err-no.ensures.1 in
    rw (p.1, p.2) (pass c.in_err-no.field-0.0
    (λ r vs d. else_fails c.args.in_loop c.args.depth c.args.item c.args.condition (branch c.args.yes).what c.args.yes.items _ c.args.tokens.now c.in-Some.rest.now vs r c.if-yes.false c.in-Some.ensures (rw (add-one c.args.depth) at d))
    c.in_err-no.ensures.reads)

pub else_part-returns-clause-reads : goal.else_part-returns-clause-reads
else_part-returns-clause-reads t c =
    answers (Else_part c.args.in_loop c.args.depth c.args.item c.args.condition (branch c.args.yes).what c.args.yes.items) (plan _) c.args.tokens.now c.in_ok-no.rest.now _ _ c.in_ok-with_else.ensures
    (else_read c.args.in_loop c.args.depth c.args.item c.args.condition (branch c.args.yes).what c.args.yes.items _ c.args.tokens.now c.in-Some.rest.now c.in_ok-no.rest.now (branch c.in_ok-no.no) c.if-yes.false c.in-Some.ensures
    (rw (add-one c.args.depth) at c.in_ok-no.ensures.reads))

-- ---- loops

pub behind_while-returns-in_err-condition-clause-reads : goal.behind_while-returns-in_err-condition-clause-reads
behind_while-returns-in_err-condition-clause-reads t c =
    let p = err_from_is_err_and c.from_residual.result c.from_residual.ensures.1 in
    rw (p.1, p.2) (pass c.in_err-condition.field-0.0 (λ r vs d. fails d) c.in_err-condition.ensures.reads)

pub behind_while-returns-in_err-body-clause-reads : goal.behind_while-returns-in_err-body-clause-reads
behind_while-returns-in_err-body-clause-reads t c =
    let p = err_from_is_err_and c.from_residual-in_err-body.result c.from_residual-in_err-body.ensures.1 in
    rw (p.1, p.2) (pass c.in_err-body.field-0.0 (λ r vs d. calls c.in_ok-condition.ensures.reads (fails (rw (add-one c.args.items, add-one c.args.depth) at d))) c.in_err-body.ensures.reads)

pub behind_while-returns-clause-reads : goal.behind_while-returns-clause-reads
behind_while-returns-clause-reads t c =
    while_read c.args.in_loop c.args.depth c.args.items _ _ c.in_ok-condition.condition c.item-item.result (branch c.in_ok-body.body) _ c.args.tokens.now c.in_ok-condition.rest.now c.in_ok-body.rest.now
    c.item-item.ensures (add-one c.args.depth) (add-one c.args.items) c.in_ok-while_loop.ensures c.in_ok-condition.ensures.reads c.in_ok-body.ensures.reads

pub behind_do-returns-in_err-body-clause-reads : goal.behind_do-returns-in_err-body-clause-reads
behind_do-returns-in_err-body-clause-reads t c =
    let p = err_from_is_err_and c.from_residual.result c.from_residual.ensures.1 in
    rw (p.1, p.2) (pass c.in_err-body.field-0.0 (λ r vs d. fails (rw (add-one c.args.depth) at d)) c.in_err-body.ensures.reads)

pub behind_do-returns-in_default-clause-reads : goal.behind_do-returns-in_default-clause-reads
behind_do-returns-in_default-clause-reads t c = calls (rw (add-one c.args.depth) at c.in_ok-body.ensures.reads) (misses c.in_default.ensures)

pub behind_do-returns-in_err-condition-clause-reads : goal.behind_do-returns-in_err-condition-clause-reads
behind_do-returns-in_err-condition-clause-reads t c =
    let p = err_from_is_err_and c.from_residual-in_err-condition.result c.from_residual-in_err-condition.ensures.1 in
    rw (p.1, p.2) (pass c.in_err-condition.field-0.0 (λ r vs d. calls (rw (add-one c.args.depth) at c.in_ok-body.ensures.reads) (wants c.in-Some.ensures refl (fails d))) c.in_err-condition.ensures.reads)

pub behind_do-returns-in_default-mark-clause-reads : goal.behind_do-returns-in_default-mark-clause-reads
behind_do-returns-in_default-mark-clause-reads t c =
    calls (rw (add-one c.args.depth) at c.in_ok-body.ensures.reads) (wants c.in-Some.ensures refl (calls c.in_ok-condition.ensures.reads (misses c.in_default-mark.ensures)))

pub behind_do-returns-clause-reads : goal.behind_do-returns-clause-reads
behind_do-returns-clause-reads t c =
    do_read c.args.in_loop c.args.depth c.args.items _ c.in_ok-condition.condition c.item-item.result (branch c.in_ok-body.body) _ _ _ c.args.tokens.now c.in_ok-body.rest.now c.in-Some.rest.now c.in_ok-condition.rest.now c.in-Some-mark.rest.now
    c.item-item.ensures (add-one c.args.depth) c.in_ok-do_loop.ensures c.in_ok-body.ensures.reads c.in-Some.ensures c.in_ok-condition.ensures.reads c.in-Some-mark.ensures

pub behind_for-returns-in_err-head-clause-reads : goal.behind_for-returns-in_err-head-clause-reads
behind_for-returns-in_err-head-clause-reads t c =
    let p = err_from_is_err_and c.from_residual.result c.from_residual.ensures.1 in
    rw (p.1, p.2) (c.in_err-head.ensures.reads c.args.in_loop c.args.depth)

pub behind_for-returns-in_err-body-clause-reads : goal.behind_for-returns-in_err-body-clause-reads
behind_for-returns-in_err-body-clause-reads t c =
    let p = err_from_is_err_and c.from_residual-in_err-body.result c.from_residual-in_err-body.ensures.1 in
    rw (p.1, p.2) (pass c.in_err-body.field-0.0 (λ r vs d. c.in_ok-head.ensures.reads c.args.in_loop c.args.depth (No r vs) (fails (rw (add-one c.args.depth) at d))) c.in_err-body.ensures.reads)

pub behind_for-returns-clause-reads : goal.behind_for-returns-clause-reads
behind_for-returns-clause-reads t c =
    answers (Braceless c.args.in_loop c.args.depth c.args.items) (behind_keyword For c.args.in_loop c.args.depth c.args.items) c.args.tokens.now c.in_ok-body.rest.now _ _ c.in_ok-for_loop.ensures
    (c.in_ok-head.ensures.reads c.args.in_loop c.args.depth _ (calls (rw (add-one c.args.depth) at c.in_ok-body.ensures.reads) gives))

-- ---- statements

pub braceless-returns-in-Some-over_depth-clause-reads : goal.braceless-returns-in-Some-over_depth-clause-reads
braceless-returns-in-Some-over_depth-clause-reads t c =
    let over = c.in-Some-over_depth.ensures.exceeded in
    (over.0, keyword_over c.in-Some.keyword c.args.in_loop c.args.depth c.args.items _ c.args.tokens.now c.in-Some.rest.now over.0 c.in-Some.ensures.1 over.1, over.2)

pub braceless-returns-in-If-clause-reads : goal.braceless-returns-in-If-clause-reads
braceless-returns-in-If-clause-reads t c =
    keyword_read c.in-Some.keyword If c.args.in_loop c.args.depth c.args.items _ c.args.tokens.now c.in-Some.rest.now c.behind_if.result c.in-If.is c.in-Some.ensures.1 c.in_default-over_depth.ensures.exceeded c.behind_if.ensures.reads

pub braceless-returns-in-While-clause-reads : goal.braceless-returns-in-While-clause-reads
braceless-returns-in-While-clause-reads t c =
    keyword_read c.in-Some.keyword While c.args.in_loop c.args.depth c.args.items _ c.args.tokens.now c.in-Some.rest.now c.behind_while.result c.in-While.is c.in-Some.ensures.1 c.in_default-over_depth.ensures.exceeded c.behind_while.ensures.reads

pub braceless-returns-in-Do-clause-reads : goal.braceless-returns-in-Do-clause-reads
braceless-returns-in-Do-clause-reads t c =
    keyword_read c.in-Some.keyword Do c.args.in_loop c.args.depth c.args.items _ c.args.tokens.now c.in-Some.rest.now c.behind_do.result c.in-Do.is c.in-Some.ensures.1 c.in_default-over_depth.ensures.exceeded c.behind_do.ensures.reads

pub braceless-returns-in-For-clause-reads : goal.braceless-returns-in-For-clause-reads
braceless-returns-in-For-clause-reads t c =
    keyword_read c.in-Some.keyword For c.args.in_loop c.args.depth c.args.items _ c.args.tokens.now c.in-Some.rest.now c.behind_for.result c.in-For.is c.in-Some.ensures.1 c.in_default-over_depth.ensures.exceeded c.behind_for.ensures.reads

pub body-returns-in_default-clause-reads : goal.body-returns-in_default-clause-reads
body-returns-in_default-clause-reads t c =
    read_on (Braceless c.args.in_loop c.args.depth c.args.items) (A_body c.args.in_loop c.args.depth c.args.items) _ _ c.args.tokens.now c.args.tokens.now c.braceless.result
    (λ x d. passes c.in_default.ensures (calls d gives)) (λ r vs d. passes c.in_default.ensures (fails d)) c.braceless.ensures.reads

pub body-returns-in_err-inner-clause-reads : goal.body-returns-in_err-inner-clause-reads
body-returns-in_err-inner-clause-reads t c =
    let p = err_from_is_err_and c.from_residual.result c.from_residual.ensures.1 in
    rw (p.1, p.2) (pass c.in_err-inner.field-0.0 (λ r vs d. takes c.in-Some.ensures refl (fails d)) c.in_err-inner.ensures.reads)

pub body-returns-clause-reads : goal.body-returns-clause-reads
body-returns-clause-reads t c =
    answers (A_body c.args.in_loop c.args.depth c.args.items) (plan _) c.args.tokens.now c.in_ok-inner.rest.now _ _ c.closed.ensures (takes c.in-Some.ensures refl (calls c.in_ok-inner.ensures.reads gives))

pub statement-returns-in_default-clause-reads : goal.statement-returns-in_default-clause-reads
statement-returns-in_default-clause-reads t c =
    read_on (Braceless c.args.in_loop c.args.depth c.args.items) (A_statement c.args.in_loop c.args.depth c.args.items) _ _ c.args.tokens.now c.args.tokens.now c.braceless.result
    (λ x d. passes c.in_default.ensures (calls d gives)) (λ r vs d. passes c.in_default.ensures (fails d)) c.braceless.ensures.reads

pub statement-returns-in-Some-over_depth-clause-reads : goal.statement-returns-in-Some-over_depth-clause-reads
statement-returns-in-Some-over_depth-clause-reads t c =
    let over = c.in-Some-over_depth.ensures.exceeded in
    (over.0, overs c.in-Some.ensures over.1, over.2)

pub statement-returns-in_err-inner-clause-reads : goal.statement-returns-in_err-inner-clause-reads
statement-returns-in_err-inner-clause-reads t c =
    let p = err_from_is_err_and c.from_residual.result c.from_residual.ensures.1 in
    rw (p.1, p.2) (pass c.in_err-inner.field-0.0 (λ r vs d. takes c.in-Some.ensures c.in_default-over_depth.ensures.exceeded (fails (rw (add-one c.args.depth) at d))) c.in_err-inner.ensures.reads)

pub statement-returns-clause-reads : goal.statement-returns-clause-reads
statement-returns-clause-reads t c =
    answers (A_statement c.args.in_loop c.args.depth c.args.items) (plan _) c.args.tokens.now c.in_ok-inner.rest.now _ _ c.closed.ensures
    (takes c.in-Some.ensures c.in_default-over_depth.ensures.exceeded (calls (rw (add-one c.args.depth) at c.in_ok-inner.ensures.reads) gives))

-- ---- blocks

pub in_block-returns-in_err-locals-clause-reads : goal.in_block-returns-in_err-locals-clause-reads
in_block-returns-in_err-locals-clause-reads t c =
    let p = err_from_is_err_and c.from_residual.result c.from_residual.ensures.1 in
    rw (p.1, p.2) (λ of_function. c.in_err-locals.ensures.reads c.args.in_loop of_function)

pub in_block-returns-in_err-branch-clause-reads : goal.in_block-returns-in_err-branch-clause-reads
in_block-returns-in_err-branch-clause-reads t c =
    let p = err_from_is_err_and c.from_residual-in_err-branch.result c.from_residual-in_err-branch.ensures.1 in
    let none = no_declaration c.args.depth c.args.items c.args.tokens.now c.in_ok-locals.field-0 c.in_default.not-Some (c.in_ok-locals.ensures.reads) in
    rw (p.1, p.2) (λ of_function. pass c.in_err-branch.field-0.0 (λ r vs d. passes none.0 (passes none.1 (passes none.2 (passes none.3 (fails d))))) c.in_err-branch.ensures.reads)

pub in_block-returns-clause-reads : goal.in_block-returns-clause-reads
in_block-returns-clause-reads t c =
    let none = no_declaration c.args.depth c.args.items c.args.tokens.now c.in_ok-locals.field-0 c.in_default.not-Some (c.in_ok-locals.ensures.reads) in
    λ of_function o d. passes none.0 (passes none.1 (passes none.2 (passes none.3 (calls c.in_ok-branch.ensures.reads d))))

pub statements-returns-in-Some-over_close-clause-reads : goal.statements-returns-in-Some-over_close-clause-reads
statements-returns-in-Some-over_close-clause-reads t c =
    let over = c.in-Some-over_close.ensures.exceeded in (
      over.0,
      close_over c.args.in_loop c.args.depth c.args.of_function c.args.items c.statements.number c.statements.all.items c.in-Some.pos c.statements.rest.now c.in-Some.after.now c.args.tokens.now over.0 c.in-Some.ensures over.1
          c.statements.invariant.at,
      over.2,
    )

pub statements-returns-in-Some-clause-reads : goal.statements-returns-in-Some-clause-reads
statements-returns-in-Some-clause-reads t c =
    rw c.from_vec.ensures (statements_end c.args.in_loop c.args.depth c.args.of_function c.args.items c.statements.number c.statements.all.items c.in-Some.pos c.statements.rest.now c.in-Some.after.now c.args.tokens.now c.in-Some.ensures
    c.in_default-over_close.ensures.exceeded c.statements.invariant.at)

pub statements-returns-in_err-next-clause-reads : goal.statements-returns-in_err-next-clause-reads
statements-returns-in_err-next-clause-reads t c =
    let p = err_from_is_err_and c.from_residual.result c.from_residual.ensures.1 in
    rw (p.1, p.2) (pass c.in_err-next.field-0.0
    (λ r vs d. statement_fails c.args.in_loop c.args.depth c.args.of_function c.args.items c.statements.number c.statements.all.items c.statements.rest.now vs c.args.tokens.now r c.in_default.ensures d c.statements.invariant.at)
    (c.in_err-next.ensures.reads c.args.of_function))

pub statements-statements-preserved : goal.statements-statements-preserved
statements-statements-preserved t c = record {
  at = statement_read c.args.in_loop c.args.depth c.args.of_function c.args.items c.statements.number c.in_ok-next.behind c.statements.all.items _ c.in_ok-next.next c.statements.rest.now c.in_ok-next.after.now c.args.tokens.now
      c.in_ok-push.ensures.items c.in_default.ensures c.in_ok-next.ensures.reads c.statements.invariant.at;
  room = c.in_ok-next.ensures.room;
  shorter = omega (arith, c.in_ok-next.ensures.shorter, c.statements.invariant.shorter);
}

use Rattle.std.proofs.lemmas.Result.{err_from_is_err_and}
use Rattle.ca_statements.proofs.StatementSteps.{volatile_behind, threads_behind, int_behind, struct_behind}
use Rattle.ca_statements.proofs.locals.locals_behind.Goals as goal

pub returns-in-Volatile-clause-reads : goal.returns-in-Volatile-clause-reads
returns-in-Volatile-clause-reads c = rw c.in-Volatile.is (volatile_behind c.args.pos c.args.items c.args.tokens.now c.volatile_locals.result c.volatile_locals.ensures.reads)

pub returns-in-Threads-clause-reads : goal.returns-in-Threads-clause-reads
returns-in-Threads-clause-reads c = rw c.in-Threads.is (threads_behind c.args.pos c.args.items c.args.tokens.now c.threads.result c.threads.ensures.reads)

pub returns-in-Int-clause-reads : goal.returns-in-Int-clause-reads
returns-in-Int-clause-reads c = rw c.in-Int.is (int_behind c.args.pos c.args.items c.args.tokens.now c.variables.result c.variables.ensures.reads)

pub returns-in_err-tag-in-Struct-clause-reads : goal.returns-in_err-tag-in-Struct-clause-reads
returns-in_err-tag-in-Struct-clause-reads c =
    let p = err_from_is_err_and c.from_residual.result c.from_residual.ensures.1 in
    rw (p.1, p.2, c.in-Struct.is) (λ g f. c.in_err-tag-in-Struct.ensures.reads g _)

pub returns-in_ok-tag-in-Struct-clause-reads : goal.returns-in_ok-tag-in-Struct-clause-reads
returns-in_ok-tag-in-Struct-clause-reads c =
    rw c.in-Struct.is (struct_behind c.args.pos c.args.items c.in_ok-tag-in-Struct.tag c.in_ok-tag-in-Struct.rest.now c.args.tokens.now _ c.in_ok-tag-in-Struct.ensures.reads c.variables-in-Struct.ensures.reads)

use Rattle.ca_model.specs.typing.Locals.{a_thread}
use Rattle.ca_blocks.proofs.Telling.{IsWhole}
use Rattle.ca_blocks.proofs.locals.threads.Given as goal

abbrev pub invariant-loop-declarator : goal.invariant-loop-declarator
invariant-loop-declarator l = IsWhole a_thread l.fn.declarators l.fn.inside l.fn.out.items l.fn.faults.first l.declarator-index l.inside l.out.items l.faults.first

use Rattle.std.proofs.Common.{refl}
use Rattle.ca_shared.specs.Histories.{state}
use Rattle.ca_machine.specs.Moves.{IsEntry, IsMove}
use Rattle.std.specs.Prelude.{Option}
use Rattle.ca_thread.specs.Privates.{Thread}
use Rattle.ca_machine.proofs.Entering.{refused}
use Rattle.ca_machine.proofs.steps.take.Goals as goal

pub returns-in-Err-clause-kept : goal.returns-in-Err-clause-kept
returns-in-Err-clause-kept c = (refl, (c.args.own.now.prepared, refl))

pub returns-then-not-due-clause-kept : goal.returns-then-not-due-clause-kept
returns-then-not-due-clause-kept c = (refl, (c.args.own.now.prepared, refl))

pub returns-in-Err-made_by-clause-kept : goal.returns-in-Err-made_by-clause-kept
returns-in-Err-made_by-clause-kept c = (refl, (c.args.own.now.prepared, refl))

pub returns-in-Err-append-clause-exact : goal.returns-in-Err-append-clause-exact
returns-in-Err-append-clause-exact c h at =
    refused (Unit {0}) (Option Thread) c.in-Err-append.no (IsEntry (state c.args.shared.now) c.args.own.now h c.args.event.now) (IsMove (state c.args.shared.now) c.args.own.now h c.args.event.now) (λ m. m.entry) (c.in-Err-append.ensures.exact h at)

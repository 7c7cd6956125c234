use Rattle.std.proofs.Common.{ap, sym, ◌∙◌}
use Rattle.ca_thread.specs.Gives.{has}
use Rattle.ca_thread.proofs.Latest.{met_new}
use Rattle.ca_thread.proofs.gives.add_new.Goals as goal

pub returns-clause-known : goal.returns-clause-known
returns-clause-known c g = met_new c.args.list.now.items c.args.one g _ _ (c.in_ok-first.ensures.met g) (c.requires.known g) ∙ ap (λ xs. has xs g) (sym c.in_ok-push.ensures.items)

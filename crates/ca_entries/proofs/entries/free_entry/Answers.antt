use Rattle.std.proofs.Common.{ap, cond}
use Rattle.ca_model.specs.declared.values.EventAct.TheVariants as act
use Rattle.ca_entries.proofs.Frees.{cannot_free}
use Rattle.ca_entries.proofs.entries.free_entry.Goals as goal

pub returns-else-can_release : goal.returns-else-can_release
returns-else-can_release c = λ missing.
    ap (λ b. cond b (act.Free c.args.at) missing) (cannot_free c.args.memory.now c.args.at (λ can. let e = c.can_release.ensures.1 can in absurd cc))

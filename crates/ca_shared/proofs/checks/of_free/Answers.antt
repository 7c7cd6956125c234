use Rattle.std.proofs.Common.{Some, None, sym, ap, ◌∙◌}
use Rattle.std.proofs.lemmas.Bool.{cond-false, false_from_ne_true}
use Rattle.ca_model.specs.ComingEntries.{can_free}
use Rattle.ca_model.proofs.Entries.{can_free_is}
use Rattle.ca_shared.specs.Refusals.{bad}
use Rattle.ca_shared.proofs.checks.of_free.Goals as goal

pub returns-else-can_release : goal.returns-else-can_release
returns-else-can_release c =
    ap Some c.bad.ensures
    ∙ sym (cond-false (can_free c.args.memory.now c.args.at) None (Some (bad c.args.at)) (false_from_ne_true (can_free c.args.memory.now c.args.at) (λ e. let is = c.if-can_release.ensures.1 (can_free_is c.args.memory.now c.args.at e) in absurd cc)))

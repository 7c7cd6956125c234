use Rattle.std.proofs.Common.{◌≡◌, Bool, List, [], sym, ap, subst, ◌∙◌}
use Rattle.ca_model.specs.declared.values.Value.{Value}
use Rattle.ca_model.specs.Asks.{Want, Got, Wants}
use Rattle.std.specs.Prelude.{pos, ◌*ℤ◌}
use Rattle.ca_model.specs.Arith.{number}
use Rattle.ca_model.specs.Hardened.{taking}
use Rattle.ca_model.specs.Sites.{if_any}
use Rattle.ca_flow.specs.Instructions.{reg, instr_run}
use Rattle.ca_flow.specs.Lowerings.{acquiring_in}
use Rattle.ca_thread.proofs.entries.given.Goals as goal

wanted : {v w : Want} → ◌≡◌ {A = Got (List Value × Bool)} (Wants v) (Wants w) → v ≡ w
wanted e = cc

pub returns-in-Lock-clause-wanted : goal.returns-in-Lock-clause-wanted
returns-in-Lock-clause-wanted c i r w code marks e =
    subst (λ v. if_any c.given_lock.result ≡ taking code v c.args.act.now) (wanted (sym (ap (λ n. instr_run n i r []) c.in-Lock.is) ∙ e))
    (c.given_lock.ensures c.in-Lock.mutex c.in-Lock.at.site i code (marks c.in-Lock.acquiring (ap acquiring_in c.in-Lock.is)))

pub returns-in-Malloc-clause-wanted : goal.returns-in-Malloc-clause-wanted
returns-in-Malloc-clause-wanted c i r w code marks e =
    subst (λ v. if_any c.given_block.result ≡ taking code v c.args.act.now) (wanted (sym (ap (λ n. instr_run n i r []) c.in-Malloc.is) ∙ e))
    (c.given_block.ensures (number (reg r c.in-Malloc.count) *ℤ pos c.in-Malloc.size) i code (marks c.in-Malloc.acquiring (ap acquiring_in c.in-Malloc.is)))

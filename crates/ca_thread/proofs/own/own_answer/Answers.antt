use Rattle.std.proofs.Common.{◌≡◌, Bool, true, false, None, refl, subst}
use Rattle.ca_tree.specs.declared.numbers.SiteId.{SiteId}
use Rattle.ca_model.specs.declared.values.EventAct.{EventAct}
use Rattle.ca_model.specs.Asks.{Fails}
use Rattle.ca_model.specs.Private.{answer}
use Rattle.ca_thread.specs.Asked.{last_or}
use Rattle.ca_thread.proofs.Asserts.{assert_wants}
use Rattle.ca_thread.proofs.own.own_answer.Goals as goal

none_fits : (last : Bool) (s : SiteId) (a : EventAct) → None ≡ answer (last_or last (Fails s)) a
none_fits true s a = refl
none_fits false s a = refl

pub returns-in-Assert-clause-wanted : goal.returns-in-Assert-clause-wanted
returns-in-Assert-clause-wanted c i w e text =
    subst (λ v. None ≡ answer (last_or c.args.last v) c.args.act.now) (assert_wants c.args.instr.now c.in-Assert.value c.in-Assert.at i c.args.row.now w c.in-Assert.is e) (none_fits c.args.last c.in-Assert.at.site c.args.act.now)

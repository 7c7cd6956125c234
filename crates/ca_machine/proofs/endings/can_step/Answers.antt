use Rattle.std.proofs.Common.{◌≡◌, refl, sym, ap, subst, inl, inr, arith}
use Rattle.ca_model.specs.Shared.{Shared}
use Rattle.ca_flow.specs.Lowerings.{rules_of}
use Rattle.ca_shared.specs.Histories.{state}
use Rattle.ca_machine.specs.Coming.{IsStatusOf}
use Rattle.ca_machine.specs.declared.coming.Status.TheVariants as status
use Rattle.ca_machine.proofs.Groups.{below_or}
use Rattle.ca_machine.proofs.Resting.{moves_step, late_step, none_steps}
use Rattle.ca_machine.proofs.endings.can_step.Goals as goal

pub returns-in-Moves : goal.returns-in-Moves
returns-in-Moves c s st open' = ((λ t. moves_step c.args.code.now c.args.shared.now c.args.privates.now s st c.threads.thread (c.in-Moves.ensures 0 0 s st)), (λ can. refl))

pub returns-in-TimesOut : goal.returns-in-TimesOut
returns-in-TimesOut c s st open' = ((λ t. late_step c.args.code.now c.args.shared.now c.args.privates.now s st c.threads.thread (c.in-TimesOut.ensures 0 0 s st)), (λ can. refl))

pub threads-preserved : goal.threads-preserved
threads-preserved c t lt s st = elim (below_or t c.threads.thread lt) [
  | inl before ↦ c.threads.invariant t before s st
  | inr e ↦ subst (λ n. IsStatusOf (rules_of c.args.code.now) 0 0 s n status.Rests) (sym e) (c.in-Rests.ensures 0 0 s st)
]

pub returns : goal.returns
returns c s st open' = (
  (λ t. absurd cc),
  (λ can. absurd (none_steps c.args.code.now c.args.shared.now c.args.privates.now s st c.least_block-least.result c.least_block-least.ensures.least c.least_block-least.ensures.few c.least_block-least.ensures.kept open'
      (λ t lt. c.threads.invariant t (let same : s.shared.threads ≡ (state c.args.shared.now).threads = ap (λ (x : Shared). x.threads) st.same in let end = c.threads-thread-end.ensures in let over = c.threads-test.false in omega arith) s st) can)),
)

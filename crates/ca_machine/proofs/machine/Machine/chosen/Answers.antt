use Rattle.std.proofs.Common.{◌≡◌, sym, ap, subst, ◌∙◌, rules, to_z, of_z, w64, SFits}
use Rattle.std.specs.Prelude.{ℤ}
use Rattle.std.proofs.lemmas.Int.{to_z-of_z}
use Rattle.ca_model.specs.declared.values.EventAct.TheVariants as act
use Rattle.ca_model.specs.Codes.{code_of}
use Rattle.ca_model.specs.ComingEntries.{EndedBelow}
use Rattle.ca_model.specs.Runner.{Comes, IsLeastUnused}
use Rattle.ca_model.specs.Shared.{Shared}
use Rattle.ca_machine.specs.Choices.{IsStepBy}
use Rattle.ca_machine.proofs.Chosen.{malloc_by, other_by, is_other, entry_there}
use Rattle.ca_machine.proofs.machine.Machine.chosen.Goals as goal

pub unreachable-requires : goal.unreachable-requires
unreachable-requires c =
    let m = c.args.self.now in
    let s = c.shared.ensures.runs.0 in
    let reach = c.shared.ensures.runs.1 in
    let same = c.shared.ensures.reached s reach in
    let run = c.requires.running s reach in
    let h = c.requires.stands s reach in
    let each = (c.none_waits_in_vain.ensures.hardened m.source c.shared.ensures.formed m.plan m.trace s reach run.run).0 c.args.thread h.0 h.1 run.going in
    entry_there m s c.args.thread c.args.choice c.least_block-least.result h.0 (subst (λ (x : Shared). IsLeastUnused x.blocks c.least_block-least.result) (sym same) c.least_block-least.ensures.least) c.least_block-least.ensures.few
    (subst EndedBelow (sym same) (c.least_block-least.ensures.kept.made (sym (ap (λ (x : Shared). x.phase) same) ∙ run.run))) run h.1 (c.requires.free s h.0 reach h.1) each.0
    ((rw c.in-Ok-None.field-0-is at c.in-Ok-None.ensures) 0 0 s reach)

pub returns-in-Malloc-clause-step : goal.returns-in-Malloc-clause-step
returns-in-Malloc-clause-step c = λ s reach.
    let m = c.args.self.now in
    let x = (rw c.in-Ok-Some.field-0-is at c.in-Ok-Some.ensures) 0 0 s reach in
    let co = subst (λ a. Comes (code_of m.source m.plan) 0 0 s c.args.thread a x.1.0) c.in-Malloc.is x.1.1 in
    let fits : SFits w64 c.in-Malloc.cells = search rules in
    let same : to_z w64 (of_z w64 c.in-Malloc.cells) ≡ c.in-Malloc.cells = to_z-of_z w64 c.in-Malloc.cells fits in
    subst (λ (n : ℤ). IsStepBy m s c.args.thread c.args.choice (act.Malloc n c.fresh_value.result)) (sym same)
    (malloc_by m s c.args.thread c.args.choice 0 0 c.in-Malloc.cells c.in-Malloc.at c.fresh_value.result x.1.0 co
    (c.fresh_value.ensures.made s.shared.blocks c.in-Malloc.cells co.chosen co.step.legal.allowed (c.requires.unused s reach)) (c.fresh_value.ensures.fresh s.shared.blocks c.in-Malloc.cells co.chosen))

pub returns-in_default : goal.returns-in_default
returns-in_default c = record {
  thread = ((rw c.in-Ok-Some.field-0-is at c.in-Ok-Some.ensures) 0 0 c.shared.ensures.runs.0 c.shared.ensures.runs.1).0;
  step = λ s reach.
      let x = (rw c.in-Ok-Some.field-0-is at c.in-Ok-Some.ensures) 0 0 s reach in
      other_by c.args.self.now s c.args.thread c.args.choice 0 0 c.in-Ok-Some.event.act x.1.0 x.1.1 (is_other c.in-Ok-Some.event.act c.in_default.not-Malloc) (λ h there. c.requires.free s h reach there);
}

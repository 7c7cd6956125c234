use Rattle.std.proofs.Common.{◌≡◌, true, false, refl, sym, ◌∙◌}
use Rattle.ca_flow.specs.Lowerings.{rules_of}
use Rattle.ca_shared.specs.Histories.{state}
use Rattle.ca_machine.proofs.Dues.{others_due, due_one, due_none}
use Rattle.ca_machine.proofs.coming.is_due.Goals as goal

pub returns-then-not-is_judged : goal.returns-then-not-is_judged
returns-then-not-is_judged c h at entry = (
  (λ t. others_due (rules_of c.args.own.now.code) (state c.args.shared.now) c.args.event.now.thread h c.args.event.now.act (λ j. let no : false ≡ true = sym c.if-not-is_judged.true ∙ c.is_judged.ensures.1 j in absurd cc)),
  (λ due. refl),
)

pub returns-in-Ok-Some : goal.returns-in-Ok-Some
returns-in-Ok-Some c h at entry =
    due_one c.args.own.now c.args.shared.now h c.args.event.now c.least_block-least.result c.least_block-least.ensures.least c.least_block-least.ensures.few c.least_block-least.ensures.kept entry
    c.in-Ok-Some.field-0 (c.in-Ok-Some.ensures h c.least_block-least.result at c.least_block-least.ensures.least) (c.is_judged.ensures.0 c.if-not-is_judged.false) c.in-Ok-Some.act c.eq.result c.in-Ok-Some.field-0-is c.eq.ensures

pub returns-in-Ok-None : goal.returns-in-Ok-None
returns-in-Ok-None c h at entry =
    due_none c.args.own.now c.args.shared.now h c.args.event.now c.least_block-least.result c.least_block-least.ensures.least c.least_block-least.ensures.few c.least_block-least.ensures.kept entry
    c.in-Ok-None.field-0 (c.in-Ok-None.ensures h c.least_block-least.result at c.least_block-least.ensures.least) (c.is_judged.ensures.0 c.if-not-is_judged.false) c.in-Ok-None.field-0-is

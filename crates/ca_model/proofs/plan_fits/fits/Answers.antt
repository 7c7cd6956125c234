use Rattle.std.proofs.Common.{ap, sym, ◌∙◌}
use Rattle.ca_model.specs.Fitting.{left, behind_functions, ascending_to}
use Rattle.ca_model.proofs.TypedCounts.{typing_is_counted}
use Rattle.ca_model.proofs.FittingPlans.{no_last, told_by_rest}
use Rattle.ca_model.proofs.plan_fits.fits.Goals as goal

pub returns-in_default : goal.returns-in_default
returns-in_default c = (
  λ t. absurd cc,
  λ fits. absurd (no_last c.args.checked.now.typed (typing_is_counted c.all_functions-all.ensures.checked.program c.all_functions-all.ensures.checked.typing) c.args.plan.now
      (ap (ascending_to 0) (sym c.as_slice.ensures) ∙ sym c.last_site.ensures ∙ c.in_default.is) fits),
)

pub returns : goal.returns
returns c =
    told_by_rest c.args.checked.now.typed (typing_is_counted c.all_functions-all.ensures.checked.program c.all_functions-all.ensures.checked.typing) c.args.plan.now c.in-Some.sites
    c.is_nothing.result c.functions.new.left c.if-plan-gt10000.false (ap (ascending_to 0) (sym c.as_slice.ensures) ∙ sym c.last_site.ensures ∙ c.in-Some.is)
    (c.functions.ensures ∙ λ i. behind_functions (left (c.as_slice-2.ensures i) (c.as_slice-3.ensures i) (c.as_slice-4.ensures i) c.in-Some.sites) (c.all_functions-all.ensures.value i)) c.is_nothing.ensures

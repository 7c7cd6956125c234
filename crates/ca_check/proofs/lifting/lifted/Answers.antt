use Rattle.std.proofs.Common.{subst}
use Rattle.ca_model.specs.declared.plan.Plan.{Plan}
use Rattle.ca_model.specs.SourceRuns.{no_plan}
use Rattle.ca_check.specs.Verdicts.{IsRunTo}
use Rattle.ca_check.proofs.Answering.{refused_fault, liftable, lift_of}
use Rattle.ca_check.proofs.lifting.lifted.Goals as goal

pub returns-in-Some : goal.returns-in-Some
returns-in-Some c =
    let p = c.args.checked.now.typed in
    let events = c.args.events.now in
    let run : IsRunTo p no_plan events c.in-Ok.field-0 = subst (λ (plan : Plan). IsRunTo p plan events c.in-Ok.field-0) c.empty.ensures c.in-Ok.ensures.verdict in
    refused_fault p c.args.plan.now events c.in-Some.index c.in-Ok.field-0 c.fault_at.result run c.in-Some.ensures.found c.fault_at.ensures

pub lifted_list-requires-clause-lifted : goal.lifted_list-requires-clause-lifted
lifted_list-requires-clause-lifted c =
    let p = c.args.checked.now.typed in
    let events = c.args.events.now in
    let run : IsRunTo p no_plan events c.in-Ok.field-0 = subst (λ (plan : Plan). IsRunTo p plan events c.in-Ok.field-0) c.empty.ensures c.in-Ok.ensures.verdict in
    liftable p c.args.plan.now events c.in-Ok.field-0 run c.in-None.ensures.none

pub returns-in-Ok-lifted_list : goal.returns-in-Ok-lifted_list
returns-in-Ok-lifted_list c =
    let p = c.args.checked.now.typed in
    let events = c.args.events.now in
    let run : IsRunTo p no_plan events c.in-Ok.field-0 = subst (λ (plan : Plan). IsRunTo p plan events c.in-Ok.field-0) c.empty.ensures c.in-Ok.ensures.verdict in
    lift_of p c.args.plan.now events c.in-Ok-lifted_list.list c.in-Ok.field-0 run c.in-None.ensures.none c.in-Ok-lifted_list.ensures

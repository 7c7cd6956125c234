use Rattle.ca_check.proofs.Answering.{only_projection, only_refusal, erased_so}
use Rattle.ca_check.proofs.projecting.project.Goals as goal

pub returns-clause-erased : goal.returns-clause-erased
returns-clause-erased c =
    let source = c.args.checked.now in
    let checked = c.program-program.ensures.checked in
    let formed = c.typed_programs_are_well_formed.ensures.well_formed source.program source.typed checked.program checked.typing in
    let globals = c.typed_programs_are_well_formed.ensures.globals source.program source.typed checked.program checked.typing in
    erased_so source.typed c.args.plan.now c.args.events.now c.projected.result (λ sound. c.attempts_can_be_erased.ensures source.typed formed globals c.args.plan.now sound) c.projected.ensures

pub returns-clause-ok : goal.returns-clause-ok
returns-clause-ok c = λ run. only_projection c.args.checked.now.typed c.args.plan.now c.args.events.now c.projected.result c.projected.ensures run

pub returns-clause-not_a_run : goal.returns-clause-not_a_run
returns-clause-not_a_run c = λ index first. only_refusal c.args.checked.now.typed c.args.plan.now c.args.events.now c.projected.result index c.projected.ensures first

use Rattle.std.proofs.Common.{◌≡◌, ◌≤◌, ℕ, List, subst}
use Rattle.ca_tree.specs.declared.numbers.SiteId.{SiteId}
use Rattle.ca_model.specs.declared.values.EventAct.{EventAct}
use Rattle.ca_model.specs.Activations.{IsActivation, tries_in}
use Rattle.ca_model.specs.Hardened.{Hardened}
use Rattle.ca_model.specs.Machine.{State}
use Rattle.ca_model.specs.WellFormed.{IsWellFormed}
use Rattle.ca_flow.specs.Lowerings.{rules_of}
use Rattle.ca_shared.specs.Histories.{state}
use Rattle.ca_machine.specs.Machines.{Traced, Reaches}
use Rattle.ca_machine.proofs.Entering.{stands_as}
use Rattle.ca_machine.proofs.machine.Machine.shared.Goals as goal

pub returns-clause-reached : goal.returns-clause-reached
returns-clause-reached c = subst (λ (m : Traced). (s : State Hardened) → Reaches m s → s.shared ≡ state c.self.inside.shared) c.self.view_is (λ s run. (stands_as _ _ _ s c.self.invariant run).same)

pub returns-clause-runs : goal.returns-clause-runs
returns-clause-runs c = subst (λ m. (s : State Hardened) × Reaches m s) c.self.view_is (c.self.invariant.0, c.self.invariant.1.run)

pub returns-clause-bounded : goal.returns-clause-bounded
returns-clause-bounded c =
    subst (λ (m : Traced). (t : ℕ) (activation : List EventAct) (site : SiteId) → IsActivation t m.trace activation → tries_in site activation ≤ m.plan.limit) c.self.view_is
    (λ t activation site is. c.retries_are_bounded.ensures c.self.inside.code.source (rules_of c.self.inside.code) c.self.inside.shared.trace c.self.invariant.0 c.self.invariant.1.run t activation is site)

pub returns-clause-formed : goal.returns-clause-formed
returns-clause-formed c = subst (λ (m : Traced). IsWellFormed m.source) c.self.view_is c.graphs-graphs.ensures.lowered.formed

use Rattle.std.proofs.Common.{◌∙◌, ap, subst, sym}
use Rattle.ca_tree.specs.declared.tree.Globals.{Globals}
use Rattle.ca_tree.specs.declared.tree.Globals.TheVariants as globals
use Rattle.ca_model.specs.typing.Globals.{with_globals}
use Rattle.ca_types.specs.Holds.{Holds}
use Rattle.ca_types.proofs.Holding.{variables_hold}
use Rattle.ca_types.proofs.globals.declare_globals.Goals as goal

pub returns-in_ok-variable_list-in-Variables-clause-holds : goal.returns-in_ok-variable_list-in-Variables-clause-holds
returns-in_ok-variable_list-in-Variables-clause-holds c = λ k h.
    let new = c.variable_list.new in
    subst (λ (g : Globals). Holds (with_globals k g) new.scope new.starts.starts.items new.starts.cells c.args.mutexes.now c.note_type.new.faults.first)
    (ap (globals.Variables c.in-Variables.base) c.as_slice-in-Variables.ensures ∙ sym c.in-Variables.is)
    (variables_hold c.in-Variables.base k c.as_slice-in-Variables.result.now _ _ _ c.args.mutexes.now _ _ (c.in_ok-variable_list-in-Variables.ensures.holds k c.args.mutexes.now h) c.note_type.ensures)

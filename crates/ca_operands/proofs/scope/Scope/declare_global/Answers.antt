use Rattle.std.proofs.Common.{◌∙◌}
use Rattle.ca_operands.proofs.Lookups.{is_declared, declared_new, declared_again}
use Rattle.ca_operands.proofs.scope.Scope.declare_global.Goals as goal

pub returns-in_ok-insert-clause-ok : goal.returns-in_ok-insert-clause-ok
returns-in_ok-insert-clause-ok c =
    declared_new c.self.inside.structs.entries c.self.inside.globals.entries c.insert.new.self.entries c.self.inside.locals.items c.args.name c.args.means c.args.self.now
    c.in_ok-insert.ensures.entries c.self.view_is
    (is_declared c.args.name c.self.inside.globals.entries c.contains_key.result c.contains_key.ensures ∙ c.if-not-contains_key.true)

pub returns-else-not-contains_key-clause-ok : goal.returns-else-not-contains_key-clause-ok
returns-else-not-contains_key-clause-ok c =
    declared_again c.self.inside.structs.entries c.self.inside.globals.entries c.self.inside.locals.items c.args.name c.args.means c.args.self.now c.self.view_is
    (is_declared c.args.name c.self.inside.globals.entries c.contains_key.result c.contains_key.ensures ∙ c.if-not-contains_key.false)

use Rattle.ca_operands.proofs.Lookups.{kept}
use Rattle.ca_operands.proofs.scope.Scope.keep_locals.Goals as goal

pub returns : goal.returns
returns c = kept c.self.inside.structs.entries c.self.inside.globals.entries c.self.inside.locals.items c.truncate.new.self.items c.args.count c.args.self.now c.truncate.ensures.items c.self.view_is

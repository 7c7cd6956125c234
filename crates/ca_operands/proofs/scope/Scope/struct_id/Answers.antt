use Rattle.std.proofs.Common.{◌∙◌}
use Rattle.ca_operands.proofs.Lookups.{tag_place}
use Rattle.ca_operands.proofs.scope.Scope.struct_id.Goals as goal

pub returns-in_err-index : goal.returns-in_err-index
returns-in_err-index c =
    c.from_residual.ensures
    ∙ tag_place c.self.inside.structs.entries c.self.inside.globals.entries c.self.inside.locals.items c.args.tag.now c.args.self.now _ c.self.view_is c.in_err-index.ensures.index

pub returns : goal.returns
returns c =
    tag_place c.self.inside.structs.entries c.self.inside.globals.entries c.self.inside.locals.items c.args.tag.now c.args.self.now _ c.self.view_is c.in_ok-index.ensures.index

use Rattle.std.proofs.Common.{◌≡◌, ◌∙◌, map, refl, sym}
use Rattle.indexmap.specs.IndexMap.{insert_entry}
use Rattle.ca_operands.specs.Shown.{same_text, shown, shown_field, Completes}
use Rattle.ca_operands.proofs.Tags.{is_declared_tag, completes, kept_small, still_small, if_made}
use Rattle.ca_operands.proofs.scope.Scope.complete_struct.Goals as goal

pub invariant_of-self : goal.invariant_of-self
invariant_of-self c =
    let es = c.self.inside.structs.entries in
    still_small c.put.result es c.put.new.structs.entries (insert_entry same_text es c.args.tag c.args.fields) c.put.ensures.entries c.put.ensures.err c.self.invariant
    (kept_small es _ c.args.tag c.args.fields c.self.invariant refl c.requires.few
    (sym (is_declared_tag es c.self.inside.globals.entries c.self.inside.locals.items c.args.tag.now c.args.self.now _ c.self.view_is refl) ∙ c.requires.declared))

pub returns : goal.returns
returns c =
    let es = c.self.inside.structs.entries in
    if_made c.put.result (c.put.new.structs.entries ≡ insert_entry same_text es c.args.tag c.args.fields)
    (Completes c.args.self.now (shown c.put.new.structs.entries c.self.inside.globals.entries c.self.inside.locals.items) c.args.tag.now (map shown_field c.args.fields.items)) c.put.ensures.entries
    (completes es c.put.new.structs.entries c.self.inside.globals.entries c.self.inside.locals.items c.args.tag c.args.fields c.args.self.now c.self.view_is)

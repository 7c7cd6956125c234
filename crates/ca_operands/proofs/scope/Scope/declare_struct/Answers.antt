use Rattle.std.proofs.Common.{◌≡◌, ◌+◌, ◌≤◌, ◌∙◌, length, ap, sym, arith}
use Rattle.std.proofs.lemmas.List.{length-map}
use Rattle.indexmap.specs.IndexMap.{insert_entry}
use Rattle.ca_model.specs.typing.Scopes.{Scope}
use Rattle.ca_operands.specs.Shown.{same_text, shown_struct}
use Rattle.ca_operands.proofs.Tags.{is_declared_tag, tag_new, tag_again, new_small, last_entry, still_small}
use Rattle.ca_operands.proofs.scope.Scope.declare_struct.Goals as goal

pub invariant_of-self : goal.invariant_of-self
invariant_of-self c =
    let es = c.self.inside.structs.entries in
    let few : length es + 1 ≤ 64 = let n : length c.args.self.now.structs ≡ length es = sym (ap (λ (s : Scope). length s.structs) c.self.view_is) ∙ length-map es shown_struct in omega (arith, c.requires) in
    still_small c.put.result es c.put.new.structs.entries (insert_entry same_text es c.args.tag c.new.result) c.put.ensures.entries c.put.ensures.err c.self.invariant
    (new_small es _ c.args.tag c.new.result c.self.invariant few (last_entry es c.args.tag c.new.result (sym c.contains_key.ensures ∙ c.if-not-contains_key.true)) c.new.ensures.items)

pub returns-in_ok-put-clause-ok : goal.returns-in_ok-put-clause-ok
returns-in_ok-put-clause-ok c =
    let es = c.self.inside.structs.entries in
    tag_new es c.put.new.structs.entries c.self.inside.globals.entries c.self.inside.locals.items c.args.tag c.new.result c.args.self.now
    (c.in_ok-put.ensures.entries ∙ last_entry es c.args.tag c.new.result (sym c.contains_key.ensures ∙ c.if-not-contains_key.true)) c.new.ensures.items c.self.view_is
    (is_declared_tag es c.self.inside.globals.entries c.self.inside.locals.items c.args.tag.now c.args.self.now _ c.self.view_is c.contains_key.ensures ∙ c.if-not-contains_key.true)

pub returns-else-not-contains_key-clause-ok : goal.returns-else-not-contains_key-clause-ok
returns-else-not-contains_key-clause-ok c =
    tag_again c.args.tag.now c.args.self.now
    (is_declared_tag c.self.inside.structs.entries c.self.inside.globals.entries c.self.inside.locals.items c.args.tag.now c.args.self.now _ c.self.view_is c.contains_key.ensures ∙ c.if-not-contains_key.false)

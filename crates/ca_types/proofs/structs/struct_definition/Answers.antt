use Rattle.std.proofs.Common.{◌≡◌, ◌∙◌, [], length, ap, sym, arith}
use Rattle.std.proofs.lemmas.List.{length-map}
use Rattle.ca_tree.specs.ProgramTrees.{field_count}
use Rattle.ca_model.specs.typing.Scopes.{Scope}
use Rattle.ca_model.specs.typing.Structs.{is_tag}
use Rattle.ca_operands.specs.Shown.{shown_field}
use Rattle.ca_types.proofs.Twice.{is_tagged, length_fields, struct_noted}
use Rattle.ca_types.proofs.structs.struct_definition.Goals as goal

pub complete_struct-requires-clause-declared : goal.complete_struct-requires-clause-declared
complete_struct-requires-clause-declared c =
    ap (λ (s : Scope). is_tag s c.as_slice-tag.result.now) c.in_ok-declare_struct.ensures.ok ∙ is_tagged c.args.scope.now c.as_slice-tag.result.now []

pub complete_struct-requires-clause-few : goal.complete_struct-requires-clause-few
complete_struct-requires-clause-few c =
    let fs = c.in_ok-fields.fields.items in
    let e : length fs ≡ field_count c.args.of.now.fields = sym (length-map fs shown_field) ∙ ap length c.in_ok-fields.ensures ∙ length_fields c.declare_struct.new.self c.as_slice-groups.result.now ∙ ap field_count c.as_slice-groups.ensures in
    let few = c.requires.fields in
    omega arith

pub returns-in_ok-complete_struct-clause-noted : goal.returns-in_ok-complete_struct-clause-noted
returns-in_ok-complete_struct-clause-noted c =
    struct_noted c.args.scope.now _ c.args.of.now _ _ _ _ _ _ _ c.as_slice-tag.ensures c.as_slice-groups.ensures c.in_ok-declare_struct.ensures.ok c.is_free.ensures c.unless.ensures c.note_bases.ensures
    c.in_ok-note_field_names.ensures

pub returns-else-not-was_declared-clause-noted : goal.returns-else-not-was_declared-clause-noted
returns-else-not-was_declared-clause-noted c =
    struct_noted c.args.scope.now _ c.args.of.now _ _ _ _ _ _ _ c.as_slice-tag.ensures c.as_slice-groups.ensures c.in_ok-declare_struct.ensures.ok c.is_free.ensures c.unless.ensures c.note_bases.ensures
    c.in_ok-note_field_names.ensures

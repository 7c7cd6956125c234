use Rattle.std.proofs.Common.{◌∙◌, ◌||◌, ℕ, List, Bool, not, take, ap}
use Rattle.std.specs.List.{list_any}
use Rattle.std.specs.Str.{bytes_eq}
use Rattle.ca_tree.specs.Names.{is_library_word}
use Rattle.ca_model.specs.declared.types.TypeKind.TheVariants as wrong
use Rattle.ca_model.specs.typing.Faults.{fault, unless}
use Rattle.ca_operands.specs.Noted.{noted}
use Rattle.ca_types.proofs.Twice.{seen_next}
use Rattle.ca_types.proofs.structs.note_twice.Goals as goal

pub loop-index-preserved : goal.loop-index-preserved
loop-index-preserved c =
    let x = c.index-names-index.result in
    let before = take c.loop-index.index c.args.names.now in
    seen_next c.args.names.now c.args.faults.now.first c.loop-index.index c.loop-index.faults.first c.unless.new.self.first x c.loop-index-test.true c.index-names-index.is c.loop-index.invariant
    (c.unless.ensures ∙ ap (λ (b : Bool). noted c.loop-index.faults.first (unless (not b) (fault x.now.pos wrong.Twice)))
    (c.is_taken-is_taken.ensures ∙ ap (λ (t : List ℕ). is_library_word t || list_any (λ n. bytes_eq t n.now.text) before) c.as_slice.ensures))

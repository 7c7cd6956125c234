use Rattle.std.proofs.Common.{◌≡◌, ◌∙◌, ap, sym, [], ◌∷◌, List, ℕ, Bor, map, Option}
use Rattle.std.specs.Prelude.{is_some}
use Rattle.std.proofs.lemmas.List.{map-append, length-map}
use Rattle.ca_tree.specs.declared.numbers.FunId.{FunId}
use Rattle.ca_model.specs.typing.Scopes.{find}
use Rattle.ca_operands.specs.Shown.{shown_entry}
use Rattle.ca_operands.proofs.Lookups.{looked_up}
use Rattle.ca_bodies.specs.Shown.{number_in}
use Rattle.ca_bodies.proofs.Numbering.{again, anew}
use Rattle.ca_bodies.proofs.functions.Functions.define.Goals.{then-not-contains_key+in_ok-insert, else-not-contains_key}
use Rattle.ca_bodies.proofs.functions.Functions.define.Goals as goal

pub invariant_of-result : goal.invariant_of-result
invariant_of-result c = λ n.
    (elim c.if-not-contains_key.branch [
      | then-not-contains_key+in_ok-insert w ↦ ap (λ (m : _). find n (map shown_entry m.entries)) w.numbers-is ∙ anew c.self.inside.numbers.entries w.insert.new.self.entries ds c.args.name n (record { 0 = c.len.result }) c.self.invariant (asked ∙ w.if-not-contains_key.true) w.in_ok-insert.ensures.entries (ap (λ (l : ℕ). record { 0 = l }) (c.len.ensures ∙ c.self.inside.defined.ok.0 ∙ sym (length-map c.self.inside.defined.items (λ (d : Bor (List ℕ)). d.now))))
      | else-not-contains_key w ↦ ap (λ (m : _). find n (map shown_entry m.entries)) w.numbers-is ∙ again c.self.inside.numbers.entries ds c.args.name.now n c.self.invariant (asked ∙ w.if-not-contains_key.false)
    ])
    ∙ ap (number_in n 0) (sym (ap (map (λ d. d.now)) c.in_ok-push.ensures.items ∙ map-append (λ d. d.now) c.self.inside.defined.items (c.args.name ∷ [])))
  where
    ds : List (List ℕ)
    ds = map (λ d. d.now) c.self.inside.defined.items

    asked : is_some (find c.args.name.now (map shown_entry c.self.inside.numbers.entries)) ≡ c.contains_key.result
    asked = ap (λ (o : Option FunId). is_some o) (sym (looked_up c.args.name.now c.self.inside.numbers.entries)) ∙ sym c.contains_key.ensures

use Rattle.std.proofs.Common.{◌≡◌, ◌<◌, ◌+◌, ℕ, Some, length}
use Rattle.std.specs.Prelude.{slice_get, get_or, ◌⊎◌}
use Rattle.ca_flow.specs.declared.instr.AtSite.{AtSite}
use Rattle.ca_flow.specs.declared.instr.Step.{Step}
use Rattle.ca_flow.specs.Lowerings.{site_in}
use Rattle.ca_flow.specs.Places.{no_place, IsPlace}
use Rattle.ca_flow.proofs.places.note.Given as goal

abbrev pub invariant-steps : goal.invariant-steps
invariant-steps l = record {
  number : l.node ≡ l.step-index;
  count : length l.places.items ≡ length l.fn.places.items;
  noted : (k n : ℕ) (at : Step) (a : AtSite) → k < length l.fn.places.items → n < l.step-index → slice_get l.fn.steps n ≡ Some at → site_in at.node.instr ≡ Some a → a.site.0 ≡ k + 1 → IsPlace l.fn.function l.fn.steps (record { 0 = k + 1 }) (get_or l.places.items k no_place);
  other : (k : ℕ) → (get_or l.places.items k no_place ≡ get_or l.fn.places.items k no_place) ⊎ IsPlace l.fn.function l.fn.steps (record { 0 = k + 1 }) (get_or l.places.items k no_place);
}

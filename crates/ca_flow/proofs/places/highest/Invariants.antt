use Rattle.std.proofs.Common.{◌≡◌, ◌<◌, ◌≤◌, ℕ, Some}
use Rattle.std.specs.Prelude.{slice_get, ◌⊎◌}
use Rattle.ca_flow.specs.declared.instr.AtSite.{AtSite}
use Rattle.ca_flow.specs.declared.instr.Step.{Step}
use Rattle.ca_flow.specs.Lowerings.{site_in, HasSite}
use Rattle.ca_flow.proofs.places.highest.Given as goal

abbrev pub invariant-steps : goal.invariant-steps
invariant-steps l = record {
  least : l.above ≤ l.last;
  all : (n : ℕ) (at : Step) (a : AtSite) → n < l.step-index → slice_get l.steps n ≡ Some at → site_in at.node.instr ≡ Some a → a.site.0 ≤ l.last;
  one : (l.last ≡ l.above) ⊎ HasSite l.steps (record { 0 = l.last });
}

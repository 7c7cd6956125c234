use Rattle.std.proofs.Common.{subst}
use Rattle.ca_tree.specs.declared.numbers.FunId.{FunId}
use Rattle.ca_tree.specs.declared.numbers.ItemId.{ItemId}
use Rattle.ca_tree.specs.declared.numbers.SiteId.{SiteId}
use Rattle.ca_tables.specs.Tabled.{Tells}
use Rattle.ca_tables.proofs.tables.Tables.new.Goals as goal

pub invariant_of-result : goal.invariant_of-result
invariant_of-result c = record {
  formed = c.typed_programs_are_well_formed.ensures.well_formed _ _ c.program-program.ensures.checked.program c.program-program.ensures.checked.typing;
  bounded = c.typed_programs_are_well_formed.ensures.bounded _ _ c.program-program.ensures.checked.program c.program-program.ensures.checked.typing;
  behind_is = c.in_ok-behind.ensures;
  saves_are = subst (Tells c.in_ok-saves.saves.items (λ (i : ItemId). i.0)) c.as_slice.ensures c.in_ok-saves.ensures;
  entries_are = subst (Tells c.in_ok-entries.entries.items (λ (f : FunId). f.0)) c.as_slice-2.ensures c.in_ok-entries.ensures;
  sites_are = subst (Tells c.in_ok-sites.sites.items (λ (s : SiteId). s.0)) c.as_slice-3.ensures c.in_ok-sites.ensures;
  acquires_are = subst (Tells c.in_ok-acquires.acquires.items (λ (i : ItemId). i.0)) c.as_slice-4.ensures c.in_ok-acquires.ensures;
}

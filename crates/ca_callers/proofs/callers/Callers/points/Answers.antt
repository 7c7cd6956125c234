use Rattle.std.proofs.Common.{◌+◌, List, ℕ, map, sym, ap, ◌∙◌, subst}
use Rattle.std.specs.List.Sorted.{IsStrictlyIncreasing}
use Rattle.ca_tree.specs.declared.numbers.FunId.{FunId}
use Rattle.ca_model.specs.declared.tree.Item.{Item}
use Rattle.ca_model.specs.declared.tree.Function.{Function}
use Rattle.ca_model.specs.Paths.{Before, PointAfter, PointAtEntry}
use Rattle.ca_callers.specs.Callers.{ForOne, SeenFrom, SeesBefore, SeesAfter, SeesEntry}
use Rattle.ca_callers.proofs.MarkedPoints.{items_listed, functions_listed, all_before, all_after, all_entries}
use Rattle.ca_callers.proofs.callers.Callers.points.Goals as goal

pub returns-clause-items : goal.returns-clause-items
returns-clause-items c =
    let p = c.args.self.now in
    let d = c.args.depth in
    let from = c.args.from.now in
    let marks = c.in_ok-marks.marks in
    items_listed (SeenFrom Item p d from (SeesBefore p d) (d + 1)) (λ j. ForOne p from (λ x. Before p d x j)) marks.before.items c.deref.result.now c.in_ok-items.items.items c.from_vec.result
    (all_before p d from) c.in_ok-marks.ensures.before c.deref.ensures.value c.in_ok-items.ensures.exact c.from_vec.ensures

pub returns-clause-after : goal.returns-clause-after
returns-clause-after c =
    let p = c.args.self.now in
    let d = c.args.depth in
    let from = c.args.from.now in
    let marks = c.in_ok-marks.marks in
    items_listed (SeenFrom Item p d from (SeesAfter p) (d + 1)) (λ j. ForOne p from (λ x. PointAfter p d x j)) marks.after.items c.deref-2.result.now c.in_ok-after.after.items c.from_vec-2.result
    (all_after p d from) c.in_ok-marks.ensures.after c.deref-2.ensures.value c.in_ok-after.ensures.exact c.from_vec-2.ensures

pub returns-clause-entries : goal.returns-clause-entries
returns-clause-entries c =
    let p = c.args.self.now in
    let d = c.args.depth in
    let from = c.args.from.now in
    let marks = c.in_ok-marks.marks in
    let same = c.in_ok-entries.ensures ∙ ap (map (λ i. i.0)) c.deref-4.ensures.value in
    functions_listed (SeenFrom Function p d from (SeesEntry p d) (d + 1)) (λ f. ForOne p from (λ x. PointAtEntry p d x f)) marks.entries.items c.deref-3.result.now c.in_ok-begun.begun.items c.in_ok-entries.entries.items c.from_vec-3.result
    (all_entries p d from) c.in_ok-marks.ensures.entries c.deref-3.ensures.value c.in_ok-begun.ensures.exact same c.from_vec-3.ensures

pub returns-clause-entries_ascend : goal.returns-clause-entries_ascend
returns-clause-entries_ascend c =
    let same = c.in_ok-entries.ensures ∙ ap (map (λ i. i.0)) c.deref-4.ensures.value in
    let numbers = ap (map (λ (f : FunId). f.0)) c.from_vec-3.ensures ∙ same in
    subst (λ (ns : List ℕ). IsStrictlyIncreasing ns) (sym numbers) c.in_ok-begun.ensures.ascend

use Rattle.std.proofs.Common.{◌≡◌, ◌≤◌, ◌+◌, ℕ, List, length, subst, refl, arith}
use Rattle.std.specs.Prelude.{◌==◌}
use Rattle.ca_callers.specs.Callers.{AreTables, AreMarks, IsLayer}
use Rattle.ca_callers.proofs.Layers.{first_starts}
use Rattle.ca_callers.proofs.Marking.{last_is, long_at_first, as_long_yet, no_marks_yet, marks_more, next_marked}
use Rattle.ca_callers.proofs.callers.Callers.marks.Goals as goal

pub layers-init : goal.layers-init
layers-init c =
    let p = c.args.self.now in
    let t = c.self.inside.tables in
    record {
      long = long_at_first t c.in_ok-marks.marks c.in_ok-marks.ensures.before c.in_ok-marks.ensures.after c.in_ok-marks.ensures.entries;
      marked = no_marks_yet p c.args.depth c.args.from.now (length t.back.items) t.functions c.in_ok-marks.marks c.in_ok-marks.ensures.before c.in_ok-marks.ensures.after c.in_ok-marks.ensures.entries;
      starts = λ are le. first_starts p c.args.depth c.args.from.now t are c.in_ok-starts.starts.items c.in_ok-starts.ensures c.requires.from;
    }

pub layers-preserved : goal.layers-preserved
layers-preserved c =
    let p = c.args.self.now in
    let d = c.args.depth in
    let t = c.self.inside.tables in
    let k = c.layers.k in
    let le : k ≤ d = omega (arith, c.layers-test.true) in
    let are : AreTables p t = subst (λ q. AreTables q t) c.self.view_is c.self.invariant in
    let last = last_is d k (k == d) le refl in
    let layer = subst (λ (ns : List ℕ). IsLayer t ns (k == d) c.layers.marks c.layer.new.marks c.in_ok-starts-2.starts.items) c.deref.ensures.value c.in_ok-starts-2.ensures in
    let here = c.layers.invariant.starts are le in
    record {
      long = as_long_yet t c.layers.starts.items c.in_ok-starts-2.starts.items _ c.layers.marks c.layer.new.marks c.layers.invariant.long layer;
      marked = marks_more p d c.args.from.now t are k c.layers.starts.items _ here last c.in_ok-starts-2.starts.items c.layers.marks c.layer.new.marks c.layers.invariant.long c.layers.invariant.marked layer;
      starts = λ are' le'. next_marked p d c.args.from.now t are' k c.layers.starts.items c.in_ok-starts-2.starts.items _ le' (c.layers.invariant.starts are' le) last layer.next_are;
    }

pub returns : goal.returns
returns c =
    let all : c.layers.k ≡ c.args.depth + 1 = omega (arith, c.layers-test.false, c.layers.auto.k-end) in
    subst (λ n. AreMarks c.args.self.now c.args.depth c.args.from.now n c.layers.marks) all c.layers.invariant.marked

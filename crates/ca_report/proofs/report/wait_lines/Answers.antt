use Rattle.std.proofs.Common.{◌≡◌, ◌<◌, ◌≤◌, ◌+◌, ℕ, List, [], ◌∷◌, ◌++◌, length, map, drop, string_bytes, sym, ap, ◌∙◌, arith}
use Rattle.std.specs.FinSet as set
use Rattle.std.proofs.lemmas.List.{append-nil}
use Rattle.ca_model.specs.Shared.{Shared}
use Rattle.ca_model.specs.Reports.{waits_from}
use Rattle.ca_model.proofs.Law.{get_one}
use Rattle.ca_model.proofs.FramesOfRuns.{kept_in_progress}
use Rattle.ca_shared.specs.Histories.{state}
use Rattle.ca_machine.specs.Machines.{rules}
use Rattle.ca_report.proofs.Lists.{none_left, one_ended, one_waits, pushed}
use Rattle.ca_report.proofs.report.wait_lines.Goals as goal
use Rattle.ca_report.proofs.report.wait_lines.Goals.{then-not-has_ended+in_ok-line+in_ok-push, else-not-has_ended}

pub threads-preserved : goal.threads-preserved
threads-preserved c s reach =
    let m = c.args.machine.now in
    let t = c.threads.thread in
    let count : s.shared.threads ≡ length s.threads = (kept_in_progress m.source m.plan m.trace s reach).count in
    let same = c.shared-in-threads.ensures.reached s reach in
    let first = c.shared.ensures.reached s reach in
    let within : t < length s.threads = let n : s.shared.threads ≡ (state c.shared.result.now).threads = ap (λ (x : Shared). x.threads) first in let e = c.threads-thread-end.ensures in let lt = c.threads-test.true in omega arith in
    let h = get_one s.threads t within in
    let ended : c.has_ended.result ≡ set.contains s.shared.ended t = c.has_ended.ensures ∙ ap (λ (x : Shared). set.contains x.ended t) (sym same) in
    let rest : List (List ℕ) = waits_from (rules m) s.shared (t + 1) (drop (t + 1) s.threads) in
    let whole : List (List ℕ) = waits_from (rules m) s.shared 0 s.threads in
    elim c.if-not-has_ended.branch [
      | then-not-has_ended+in_ok-line+in_ok-push w ↦
          let items : c.if-not-has_ended.lines.items ≡ c.threads.lines.items ++ w.in_ok-line.line ∷ [] = ap (λ v. v.items) w.lines-is ∙ w.in_ok-push.ensures.items in
          let line = w.in_ok-line.ensures s.shared ((rules m).want h.0) (w.wait_at.ensures s h.0 reach h.1) in
          ap (λ l. l ++ rest) (pushed string_bytes c.threads.lines.items c.if-not-has_ended.lines.items w.in_ok-line.line items)
          ∙ one_waits (rules m) s t h.0 h.1 whole (map string_bytes c.threads.lines.items) (c.threads.invariant s reach) (string_bytes w.in_ok-line.line) line (sym ended ∙ w.if-not-has_ended.true)
      | else-not-has_ended w ↦
          let items : c.if-not-has_ended.lines.items ≡ c.threads.lines.items = ap (λ v. v.items) w.lines-is in
          ap (λ l. map string_bytes l ++ rest) items ∙ one_ended (rules m) s t h.0 h.1 whole (map string_bytes c.threads.lines.items) (c.threads.invariant s reach) (sym ended ∙ w.if-not-has_ended.false)
    ]

pub returns : goal.returns
returns c s reach =
    let m = c.args.machine.now in
    let t = c.threads.thread in
    let count : s.shared.threads ≡ length s.threads = (kept_in_progress m.source m.plan m.trace s reach).count in
    let out : length s.threads ≤ t = let n : s.shared.threads ≡ (state c.shared.result.now).threads = ap (λ (x : Shared). x.threads) (c.shared.ensures.reached s reach) in let e = c.threads-thread-end.ensures in let over = c.threads-test.false in omega arith in
    sym (append-nil (map string_bytes c.threads.lines.items)) ∙ (ap (λ l. map string_bytes c.threads.lines.items ++ waits_from (rules m) s.shared t l) (sym (none_left s.threads t out)) ∙ c.threads.invariant s reach)

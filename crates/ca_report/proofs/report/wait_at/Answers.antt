use Rattle.std.proofs.Common.{◌≡◌, ◌<◌, length, inl, inr, arith}
use Rattle.ca_model.proofs.Law.{get_one}
use Rattle.ca_model.proofs.FramesOfRuns.{kept_in_progress}
use Rattle.ca_report.proofs.report.wait_at.Goals as goal

pub unreachable-requires : goal.unreachable-requires
unreachable-requires c =
    let m = c.args.machine.now in
    let s = c.shared-shared.ensures.runs.0 in
    let reach = c.shared-shared.ensures.runs.1 in
    let run = c.requires.running s reach in
    let there : c.args.thread < s.shared.threads = run.there in
    let count : s.shared.threads ≡ length s.threads = (kept_in_progress m.source m.plan m.trace s reach).count in
    let within : c.args.thread < length s.threads = omega arith in
    let h = get_one s.threads c.args.thread within in
    let all = (c.none_waits_in_vain.ensures.hardened m.source c.shared-shared.ensures.formed m.plan m.trace s reach run.run).1.0 (c.requires.deadlock s reach).1 in
    let waits = (all c.args.thread h.0 h.1 run.going).0 in
    elim ((c.in-None.ensures s reach).there h.0 h.1) [
      | inl (is, none) ↦ none waits
      | inr (closed, e) ↦ closed run.run
    ]

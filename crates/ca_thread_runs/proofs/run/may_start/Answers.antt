use Rattle.ca_flow.proofs.SiteItems.{at_place}
use Rattle.ca_thread_runs.proofs.Starts.{in_source, other_starts}
use Rattle.ca_thread_runs.proofs.run.may_start.Goals as goal

pub returns-then-function-main : goal.returns-then-function-main
returns-then-function-main c starts =
    let l = c.args.code.now in
    let lt = in_source l c.graphs.result.now c.graphs.ensures.lowered c.args.function.0 c.graphs.ensures.graphs c.if-function-graphs.false in
    let fn = at_place l.source.functions c.args.function.0 lt in
    other_starts l.source c.graphs.ensures.lowered.formed c.args.thread c.args.function c.main-2.result c.if-thread-eq0.false c.main-2.ensures c.if-function-main.true lt fn.0 fn.1 ((c.is_start.ensures fn.0 fn.1).0 starts)

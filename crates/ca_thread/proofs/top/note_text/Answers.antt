use Rattle.ca_thread.proofs.Tops.{graph_under}
use Rattle.ca_thread.proofs.top.note_text.Goals as goal

pub write_asked-requires-clause-short : goal.write_asked-requires-clause-short
write_asked-requires-clause-short c =
    let node = c.in-Some-step_at.ensures.some in
    ((graph_under c.args.code.now c.step_at.ensures.lowered c.in-Some.top.now.function.0 node.0 node.1).2.marks c.in-Some.top.now.node.0 c.in-Some-step_at.at.now node.2).short

use Rattle.ca_thread.proofs.Tops.{graph_under}
use Rattle.ca_thread.proofs.stack.graph_of.Goals as goal

pub returns-clause-drawn : goal.returns-clause-drawn
returns-clause-drawn c = (graph_under c.args.code.now c.find_graph.ensures.lowered c.args.f.0 c.in-Some.graph.now c.in-Some.ensures.found).2.drawn

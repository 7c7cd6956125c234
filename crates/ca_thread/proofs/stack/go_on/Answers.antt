use Rattle.std.proofs.Common.{◌≡◌, refl, ap, subst, ◌∙◌}
use Rattle.ca_flow.specs.Graphs.{ControlFlow}
use Rattle.ca_thread.specs.Standing.{Answered}
use Rattle.ca_thread.proofs.Tops.{answered_standing, one_graph}
use Rattle.ca_thread.proofs.stack.go_on.Goals as goal

pub returns : goal.returns
returns c f w s asks other =
    let l = c.args.code.now in
    let x = c.args.frame.now in
    let same : c.steps-steps.result.now ≡ s.graph.steps = c.steps-steps.ensures.steps ∙ ap (λ (g : ControlFlow). g.steps) (one_graph l x.function.0 c.in-Some.graph.now s.graph c.in-Some.ensures.found s.found) in
    answered_standing l x _ f c.args.answer w c.in-Some.ensures.lowered s asks other
    (subst (λ g. Answered g c.args.answer x.node.0 x.row c.answered-frame.result.0 c.answered-frame.new.row) same c.answered-frame.ensures) refl

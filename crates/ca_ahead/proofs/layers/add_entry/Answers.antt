use Rattle.std.proofs.Common.{sym, subst, [], ◌∷◌, ◌∙◌}
use Rattle.ca_model.proofs.Members.{in_one, at_head}
use Rattle.std.specs.Prelude.{Contains}
use Rattle.ca_ahead.specs.Onward.{IsEntered}
use Rattle.ca_ahead.proofs.Growing.{gains_all}
use Rattle.ca_ahead.proofs.Sources.{first_number}
use Rattle.ca_ahead.proofs.layers.add_entry.Goals as goal

pub returns : goal.returns
returns c f at =
    let l = c.args.code.now in
    let number = first_number l c.graph-graph.ensures.lowered c.args.function f c.graph-graph.result.now c.first-first.result at c.graph-graph.ensures.graph c.first-first.ensures in
    gains_all c.args.numbers.now.items (c.first-first.result.0 ∷ []) c.push.new.self.items (IsEntered l.source c.args.marked.now c.args.above.now f) c.in_ok-push.ensures.items
    (λ n. (
      (λ h. subst (Contains (c.first-first.result.0 ∷ [])) (number ∙ h.1) (at_head c.first-first.result.0 [])),
      (λ has. ((c.has_call.ensures f at).0 c.if-not-has_call.false, sym number ∙ in_one c.first-first.result.0 n has)),
    ))

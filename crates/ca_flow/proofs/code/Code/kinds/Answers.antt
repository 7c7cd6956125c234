use Rattle.std.proofs.Common.{◌≡◌, ap, subst, ◌∙◌}
use Rattle.ca_model.specs.Sites.{all_items}
use Rattle.ca_flow.specs.Lowerings.{Lowering}
use Rattle.ca_flow.specs.Tables.{Uses}
use Rattle.ca_flow.specs.Changes.{kinds_of}
use Rattle.ca_flow.proofs.KindsFound.{kinds_are}
use Rattle.ca_flow.proofs.code.Code.kinds.Goals as goal

pub returns : goal.returns
returns c =
    let fs = c.self.inside.source.value.typed.functions in
    subst (λ (l : Lowering). c.kinds.result.now ≡ kinds_of (all_items l.source.functions)) c.self.view_is (c.kinds.ensures ∙ ap (λ (u : Uses). u.kinds) c.self.invariant.1.uses_are ∙ kinds_are fs)

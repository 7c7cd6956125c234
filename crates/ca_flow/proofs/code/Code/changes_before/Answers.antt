use Rattle.std.proofs.Common.{◌≡◌, false, ap, subst, sym, ◌∙◌}
use Rattle.ca_model.specs.Accesses.{Site}
use Rattle.ca_model.specs.Plans.{IsSite}
use Rattle.ca_flow.specs.Lowerings.{Lowering}
use Rattle.ca_flow.specs.Tables.{Uses}
use Rattle.ca_flow.specs.Changes.{any_changes}
use Rattle.ca_flow.proofs.KindsFound.{change_at}
use Rattle.ca_flow.proofs.code.Code.changes_before.Goals as goal

pub changes_at-requires : goal.changes_at-requires
changes_at-requires c =
    let p = c.self.inside.source.value.typed in
    let s = subst (λ (l : Lowering). (s : Site) × IsSite l.source s c.args.site) (sym c.self.view_is) c.requires in
    (change_at p c.self.inside.uses.changes c.args.site s.0 false (ap (λ (u : Uses). u.changes) c.self.invariant.1.uses_are) s.1).0

pub returns : goal.returns
returns c =
    let p = c.self.inside.source.value.typed in
    subst (λ (l : Lowering). (s : Site) → IsSite l.source s c.args.site → c.changes_at.result ≡ any_changes s.earlier) c.self.view_is
    (λ s is. c.changes_at.ensures ∙ (change_at p c.self.inside.uses.changes c.args.site s c.changes_at.result (ap (λ (u : Uses). u.changes) c.self.invariant.1.uses_are) is).1)

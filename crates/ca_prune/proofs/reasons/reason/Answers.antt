use Rattle.std.proofs.Common.{true, false, sym, subst, ◌∙◌, true≢false}
use Rattle.std.specs.Prelude.{Option}
use Rattle.ca_flow.specs.declared.searches.Reason.{Reason}
use Rattle.ca_prune.specs.Pruning.{Tells}
use Rattle.ca_prune.proofs.Answering.{own_item, item_at, kind_at, lock_told, before_told, earlier_told}
use Rattle.ca_prune.proofs.reasons.reason.Goals as goal

pub kind_of-requires : goal.kind_of-requires
kind_of-requires c = let x = c.requires.site in (x.0.item, (own_item c.args.code.now.source c.requires.formed c.args.site x.0 x.1, x.2))

pub returns-then-kind_of : goal.returns-then-kind_of
returns-then-kind_of c = λ depth s is lock change.
    let p = c.args.code.now.source in
    let x = c.requires.site in
    let own = item_at p c.requires.formed c.args.site c.args.item x.0 s x.1 x.2 is in
    let kind = kind_at p c.args.site s c.kind_of.result true is (c.kind_of.ensures s.item own) c.if-kind_of.true in
    subst (λ (r : Option Reason). Tells p depth s r) (sym c.unless.ensures) (lock_told p depth s kind c.args.lock_before lock)

pub returns-then-change_before : goal.returns-then-change_before
returns-then-change_before c = λ depth s is lock change.
    let p = c.args.code.now.source in
    let x = c.requires.site in
    let own = item_at p c.requires.formed c.args.site c.args.item x.0 s x.1 x.2 is in
    let kind = kind_at p c.args.site s c.kind_of.result false is (c.kind_of.ensures s.item own) c.if-kind_of.false in
    before_told p depth s kind (change.0 c.if-change_before.true)

pub returns : goal.returns
returns c = λ depth s is lock change.
    let p = c.args.code.now.source in
    let x = c.requires.site in
    let own = item_at p c.requires.formed c.args.site c.args.item x.0 s x.1 x.2 is in
    let kind = kind_at p c.args.site s c.kind_of.result false is (c.kind_of.ensures s.item own) c.if-kind_of.false in
    subst (λ (r : Option Reason). Tells p depth s r) (sym c.unless-2.ensures)
    (earlier_told p depth s kind (λ h. true≢false (sym (change.1 h) ∙ c.if-change_before.false)) c.changes_before-earlier.result (c.changes_before-earlier.ensures s is))

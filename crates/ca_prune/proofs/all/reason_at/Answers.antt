use Rattle.std.proofs.Common.{◌≡◌}
use Rattle.ca_flow.specs.declared.changes.ItemKind.{ItemKind}
use Rattle.ca_prune.proofs.Answering.{own_item, told_behind}
use Rattle.ca_prune.proofs.all.reason_at.Goals as goal

pub returns : goal.returns
returns c = λ depth s is locks changes.
    let p = c.args.code.now.source in
    let formed = c.item_of-item.ensures.formed.0 in
    let own = own_item p formed c.args.site s is in
    let number : s.item.id ≡ c.item_of-item.result = c.item_of-item.ensures.item s is in
    c.reason.ensures depth s is
    (told_behind p formed depth s.item c.item_of-item.result (λ (k : ItemKind). k.is_lock) c.args.locks.now c.is_set-lock_before.result own number locks c.is_set-lock_before.ensures)
    (told_behind p formed depth s.item c.item_of-item.result (λ (k : ItemKind). k.can_change) c.args.changes.now c.is_set-change_before.result own number changes c.is_set-change_before.ensures)

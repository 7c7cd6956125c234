use Rattle.ca_plan.proofs.RunHeads.{longer, head_more, heads_read}
use Rattle.ca_plan.proofs.heads.heads.Goals as goal

pub head_of-head-requires : goal.head_of-head-requires
head_of-head-requires c = heads_read c.args.callers.now c.items.heads.items c.deref.result.now c.deref.ensures.value c.items.invariant.are

pub items-preserved : goal.items-preserved
items-preserved c = record {
  many = longer c.items.heads.items c.push.new.self.items c.items.number c.head_of-head.result c.items.invariant.many c.in_ok-push.ensures.items;
  are = head_more c.args.callers.now c.items.heads.items c.push.new.self.items c.items.number c.head_of-head.result c.items.invariant.many c.items.invariant.are c.in_ok-push.ensures.items c.head_of-head.ensures;
}

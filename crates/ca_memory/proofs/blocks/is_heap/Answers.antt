use Rattle.std.proofs.Common.{sym}
use Rattle.ca_memory.proofs.Tables.{live_slot, starts_where, starts_none, kept_at, absent}
use Rattle.ca_memory.proofs.blocks.is_heap.Goals as goal

pub returns-in-Live : goal.returns-in-Live
returns-in-Live c =
    let is = live_slot c.args.table.now.entries c.args.block _ _ (sym c.in-Some.ensures.value) c.in-Live.is in
    (λ heap. kept_at _ c.args.block _ _ is heap, λ start. (starts_where _ c.args.block _ is start).0)

pub returns-in-Dead : goal.returns-in-Dead
returns-in-Dead c =
    let is = live_slot c.args.table.now.entries c.args.block _ _ (sym c.in-Some.ensures.value) c.in-Dead.is in
    (λ no. absurd cc, λ start. (starts_where _ c.args.block _ is start).1)

pub returns-in-None : goal.returns-in-None
returns-in-None c = (λ no. absurd cc, λ start. absurd (starts_none _ c.args.block (absent c.args.table.now.entries c.args.block (sym c.in-None.ensures.value)) start))

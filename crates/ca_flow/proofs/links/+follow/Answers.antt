use Rattle.std.proofs.Common.{◌++◌, ap, ◌∙◌, reverse}
use Rattle.ca_flow.specs.Linked.{first_of_all, links_from_all}
use Rattle.ca_flow.proofs.Following.{block_begins, block_linked, if_linked}
use Rattle.ca_flow.proofs.links.+follow.Goals as goal

pub follow-returns-in_ok-first-in-Block-clause-first : goal.follow-returns-in_ok-first-in-Block-clause-first
follow-returns-in_ok-first-in-Block-clause-first t c w ways =
    c.in_ok-first-in-Block.ensures.first w ways ∙ (ap (λ ss. first_of_all ss w) c.as_slice-inner.ensures ∙ block_begins c.args.s.now c.in-Block.ss w c.in-Block.is)

pub follow-returns-in_ok-first-in-Block-clause-added : goal.follow-returns-in_ok-first-in-Block-clause-added
follow-returns-in_ok-first-in-Block-clause-added t c w ways =
    c.in_ok-first-in-Block.ensures.added w ways
    ∙ ap (λ ls. ls ++ reverse c.args.links.now.items) (ap (λ ss. links_from_all ss w) c.as_slice-inner.ensures ∙ block_linked c.args.s.now c.in-Block.ss w c.in-Block.is)

pub follow-returns-in_ok-add-in-If-2-clause-added : goal.follow-returns-in_ok-add-in-If-2-clause-added
follow-returns-in_ok-add-in-If-2-clause-added t c w ways =
    if_linked c.args.s.now c.in-If.cond c.in-If.yes c.get-inner.result.now c.in-If.no w _ _ _ _ _ _ _ c.in-If.is c.get-inner.ensures c.in_ok-add-in-If-2.ensures c.in_ok-add-in-If.ensures
    (c.in_ok-one-in-If.ensures.added w ways) (c.in_ok-other-in-If.ensures.added w ways) (c.in_ok-one-in-If.ensures.first w ways) (c.in_ok-other-in-If.ensures.first w ways)

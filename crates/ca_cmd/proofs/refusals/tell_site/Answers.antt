use Rattle.ca_cmd.proofs.refusals.tell_site.Goals as goal

pub returns-in-Ok : goal.returns-in-Ok
returns-in-Ok g c = rw c.in-Ok.ensures.ok at (rw c.as_str.ensures.value at c.tell.ensures)

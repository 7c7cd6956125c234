use Rattle.ca_read.proofs.reading.refusal.Goals as goal

pub returns-in-Over : goal.returns-in-Over
returns-in-Over c = rw c.in-Over.is (λ r h front e. c.exceeding.ensures.place front e r h, c.exceeding.ensures.kind)

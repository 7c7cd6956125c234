use Rattle.ca_cmd.proofs.refusals.tell_source.Goals as goal

pub returns-in-TooLong : goal.returns-in-TooLong
returns-in-TooLong g c = rw c.in-TooLong.is c.tell-in-TooLong.ensures

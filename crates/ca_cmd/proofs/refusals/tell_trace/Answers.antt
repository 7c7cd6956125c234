use Rattle.ca_cmd.proofs.refusals.tell_trace.Goals as goal

pub returns-in-TooLong : goal.returns-in-TooLong
returns-in-TooLong g c = rw c.in-TooLong.is c.tell-in-TooLong.ensures

pub returns-in-NoLine : goal.returns-in-NoLine
returns-in-NoLine g c = rw c.in-NoLine.is (rw c.from.ensures at c.tell_part.ensures)

pub returns-in-NoStep : goal.returns-in-NoStep
returns-in-NoStep g c = rw c.in-NoStep.is c.tell_entry.ensures

pub returns-in-Fault : goal.returns-in-Fault
returns-in-Fault g c = rw c.in-Fault.is c.tell_entry-in-Fault.ensures

use Rattle.std.proofs.Common.{◌≡◌, take}
use Rattle.ca_check.proofs.checking.follow_all.Given as goal

-- the machine has followed the entries so far
abbrev pub invariant-entries : goal.invariant-entries
invariant-entries l = l.machine ≡ record l.initial.machine { trace = take l.index l.events }

use Rattle.ca_callers.proofs.search.calls_above.Goals as goal

pub returns : goal.returns
returns c m = ((λ h. (c.if-last.false, (c.in_ok-calls.ensures m).0 h)), λ h. (c.in_ok-calls.ensures m).1 h.1)

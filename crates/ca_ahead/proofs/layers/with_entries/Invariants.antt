use Rattle.std.proofs.Common.{take}
use Rattle.ca_ahead.specs.Onward.{Gains, EntersOne}
use Rattle.ca_ahead.proofs.layers.with_entries.Given as goal

abbrev pub invariant-functions : goal.invariant-functions
invariant-functions l = Gains l.numbers l.all.items (λ n. EntersOne l.code.source l.marked l.above (take l.k l.code.source.functions) n)

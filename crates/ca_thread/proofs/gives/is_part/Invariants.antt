use Rattle.std.proofs.Common.{◌≡◌, drop}
use Rattle.ca_model.specs.Hardened.{is_part}
use Rattle.ca_thread.proofs.gives.is_part.Given as goal

abbrev pub invariant-of : goal.invariant-of
invariant-of l = is_part l.left (drop l.one-index l.of) ≡ is_part l.gives l.of

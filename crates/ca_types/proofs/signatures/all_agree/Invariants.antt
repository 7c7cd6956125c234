use Rattle.std.proofs.Common.{◌≡◌, drop, map}
use Rattle.ca_model.specs.typing.Signatures.{all_agree}
use Rattle.ca_bodies.specs.Shown.{shown_signature}
use Rattle.ca_types.proofs.signatures.all_agree.Given as goal

abbrev pub invariant-loop-other : goal.invariant-loop-other
invariant-loop-other l = all_agree (shown_signature l.of) (map shown_signature (drop l.other-index l.others)) ≡ all_agree (shown_signature l.of) (map shown_signature l.others)

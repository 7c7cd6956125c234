use Rattle.std.proofs.Common.{◌≡◌, drop}
use Rattle.ca_flow.specs.Tables.{with_functions, uses_of}
use Rattle.ca_flow.proofs.uses.find_uses.Given as goal

abbrev pub invariant-functions : goal.invariant-functions
invariant-functions l = with_functions l.uses (drop l.k l.checked.typed.functions) ≡ uses_of l.checked.typed.functions

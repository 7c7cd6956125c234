use Rattle.std.proofs.Common.{◌≡◌, drop}
use Rattle.ca_model.specs.Fitting.{behind_functions}
use Rattle.ca_model.proofs.plan_fits.functions.Given as goal

abbrev pub invariant-loop-each : goal.invariant-loop-each
invariant-loop-each l = behind_functions l.left (drop l.each-index l.fn.functions) ≡ behind_functions l.fn.left l.fn.functions

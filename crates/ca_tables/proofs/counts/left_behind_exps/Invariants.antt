use Rattle.std.proofs.Common.{◌≡◌, ◌-◌, drop}
use Rattle.ca_model.specs.Sites.{sites_of_all}
use Rattle.ca_tables.proofs.counts.left_behind_exps.Given as goal

abbrev pub invariant-loop-exp : goal.invariant-loop-exp
invariant-loop-exp l = l.rest - sites_of_all (drop l.exp-index l.fn.exps) ≡ l.fn.left - sites_of_all l.fn.exps

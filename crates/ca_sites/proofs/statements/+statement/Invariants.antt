use Rattle.std.proofs.Common.{◌≡◌, ◌++◌, drop}
use Rattle.ca_sites.specs.TextSites.{stmts_sites}
use Rattle.ca_sites.proofs.statements.+statement.Given as goal

abbrev pub invariant-statements-loop-stmt : goal.invariant-statements-loop-stmt
invariant-statements-loop-stmt l = l.sites.items ++ stmts_sites (drop l.stmt-index l.fn.stmts) ≡ l.fn.sites.items ++ stmts_sites l.fn.stmts

use Rattle.ca_expressions.proofs.expressions.+behind_unary.Given as goal

abbrev pub decreases-behind_unary : goal.decreases-behind_unary
decreases-behind_unary l = l.top

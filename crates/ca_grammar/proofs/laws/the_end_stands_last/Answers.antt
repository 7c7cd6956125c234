use Rattle.ca_grammar.proofs.LexedEnds.{ends_once}
use Rattle.ca_grammar.proofs.laws.the_end_stands_last.Goals as goal

pub returns : goal.returns
returns c = ends_once

use Rattle.std.proofs.Common.{refl}
use Rattle.ca_grammar.specs.Reads.{wants, misses}
use Rattle.ca_phrases.proofs.Phrases.{address_begins}
use Rattle.ca_phrases.proofs.library.address.Goals as goal

pub returns-in_default-clause-reads : goal.returns-in_default-clause-reads
returns-in_default-clause-reads c = λ g on. misses c.in_default.ensures

pub returns-in_default-mark-clause-reads : goal.returns-in_default-mark-clause-reads
returns-in_default-mark-clause-reads c = λ g on. wants c.in-Some.ensures refl (misses c.in_default-mark.ensures)

pub returns-clause-reads : goal.returns-clause-reads
returns-clause-reads c =
    address_begins c.in-Some.field-0-0 c.in-Some-mark.field-0-0 c.args.tokens.now c.in-Some.rest.now c.in-Some-mark.rest.now c.wanted_name.result c.in-Some.ensures c.in-Some-mark.ensures c.wanted_name.ensures.reads

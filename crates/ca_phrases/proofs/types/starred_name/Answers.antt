use Rattle.ca_grammar.specs.Reads.{No, wants, exceeds, misses, gives, calls}
use Rattle.ca_phrases.proofs.Phrases.{star_taken, star_over}
use Rattle.ca_phrases.proofs.types.starred_name.Goals as goal

pub returns-in-Int-clause-reads : goal.returns-in-Int-clause-reads
returns-in-Int-clause-reads c = rw c.in-Int.is c.unstarred.ensures.reads

pub returns-in-Struct-clause-reads : goal.returns-in-Struct-clause-reads
returns-in-Struct-clause-reads c = rw c.in-Struct.is (misses c.in_default.ensures)

pub returns-in-Some-exceeded-clause-reads : goal.returns-in-Some-exceeded-clause-reads
returns-in-Some-exceeded-clause-reads c =
    let over = c.in-Some-exceeded.ensures in
    (over.0, star_over c.args.base.now c.args.counts.now c.args.at_name.now c.in-Some.pos c.args.tokens.now c.in-Some.rest.now over.0 c.in-Some.ensures over.1, over.2)

pub returns-in_default-name-clause-reads : goal.returns-in_default-name-clause-reads
returns-in_default-name-clause-reads c =
    star_taken c.args.base.now c.args.counts.now c.args.at_name.now c.in-Some.pos c.args.tokens.now c.in-Some.rest.now _ c.in-Some.ensures c.in_default-exceeded.ensures
    (calls c.more_stars-stars.ensures.reads (misses c.in_default-name.ensures))

pub returns-in-Some-exceeded_by_name-clause-reads :
    goal.returns-in-Some-exceeded_by_name-clause-reads
returns-in-Some-exceeded_by_name-clause-reads c =
    let over = rw c.as_slice.ensures at c.in-Some-exceeded_by_name.ensures in (
      over.0,
      star_taken c.args.base.now c.args.counts.now c.args.at_name.now c.in-Some.pos c.args.tokens.now c.in-Some.rest.now (No _ _) c.in-Some.ensures c.in_default-exceeded.ensures
          (calls c.more_stars-stars.ensures.reads (exceeds c.in-Some-name.ensures over.1)),
      over.2,
    )

pub returns-clause-reads : goal.returns-clause-reads
returns-clause-reads c =
    let fits = rw c.as_slice.ensures at c.in_default-exceeded_by_name.ensures in
    rw c.in_ok-name.ensures (star_taken c.args.base.now c.args.counts.now c.args.at_name.now c.in-Some.pos c.args.tokens.now c.in-Some.rest.now _ c.in-Some.ensures c.in_default-exceeded.ensures
    (calls c.more_stars-stars.ensures.reads (wants c.in-Some-name.ensures fits gives)))

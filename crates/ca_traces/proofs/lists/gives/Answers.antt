use Rattle.ca_traces.proofs.Things.{listing_more, listing_all, no_thing, no_last}
use Rattle.ca_traces.proofs.lists.gives.Goals as goal

pub returns-in_default-given : goal.returns-in_default-given
returns-in_default-given c = no_thing c.args.words.now c.things.gives.items c.things.rest.now c.in-Some.word.now c.in-Some.more.now c.things.invariant c.in-Some.ensures c.in_default-given.ensures

pub things-preserved : goal.things-preserved
things-preserved c = listing_more c.args.words.now c.things.gives.items c.push.new.self.items c.things.rest.now c.in-Some.word.now c.in-Some.more.now c.in-Some-given.thing c.things.invariant c.in-Some.ensures c.in-Some-given.ensures c.in_ok-push.ensures.items

pub returns-in_default-given-2 : goal.returns-in_default-given-2
returns-in_default-given-2 c = no_last c.args.words.now c.things.gives.items c.things.rest.now c.things.invariant c.in_default.ensures c.in_default-given-2.ensures

pub returns : goal.returns
returns c = rw c.from_vec.ensures (listing_all c.args.words.now c.things.gives.items c.push-2.new.self.items c.things.rest.now c.in-Some-given-2.thing c.things.invariant c.in-Some-given-2.ensures c.in_ok-push-2.ensures.items)

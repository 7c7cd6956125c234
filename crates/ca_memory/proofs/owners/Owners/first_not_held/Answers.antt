use Rattle.std.proofs.Common.{take}
use Rattle.ca_memory.proofs.Lending.{unchanged, none_found, some_found}
use Rattle.ca_memory.proofs.owners.Owners.first_not_held.Goals as goal

pub returns-clause-same : goal.returns-clause-same
returns-clause-same c = unchanged c.args.self.now c.give_all-held.new.owners _ c.args.t (take c.give_all-held.result c.args.things.now) c.give_all-held.ensures.were c.give_all-held.ensures.given c.take_all.ensures

pub returns-clause-none : goal.returns-clause-none
returns-clause-none c = none_found c.args.self.now c.give_all-held.new.owners c.args.t c.args.things.now c.give_all-held.result c.no_mutex_at-first.result c.give_all-held.ensures.were c.give_all-held.ensures.first c.no_mutex_at-first.ensures.none

pub returns-clause-first : goal.returns-clause-first
returns-clause-first c =
    some_found c.args.self.now c.give_all-held.new.owners c.args.t c.args.things.now c.give_all-held.result c.no_mutex_at-first.result c.give_all-held.ensures.were c.give_all-held.ensures.given
    c.give_all-held.ensures.first c.no_mutex_at-first.ensures.mutex

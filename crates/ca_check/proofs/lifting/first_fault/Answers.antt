use Rattle.std.proofs.Common.{length, refl, sym, ◌∙◌}
use Rattle.std.proofs.lemmas.Option.{slice_get_read}
use Rattle.ca_check.proofs.Answering.{fine_on}
use Rattle.ca_check.proofs.lifting.first_fault.Goals as goal

pub entries-preserved : goal.entries-preserved
entries-preserved c =
    fine_on c.args.events.now c.entries.index c.index-events-index.result c.entries.invariant
    (slice_get_read c.args.events.now (length c.args.events.now) c.entries.index c.index-events-index.result refl c.entries-test.true c.index-events-index.is)
    (sym c.is_fault.ensures ∙ c.if-is_fault.false)

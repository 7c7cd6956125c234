use Rattle.std.proofs.Common.{refl, sym}
use Rattle.ca_reach.specs.Reach.{rows_of}
use Rattle.ca_callers.specs.Callers.{IsLinked}
use Rattle.ca_callers.proofs.Rows.{one_added}
use Rattle.ca_callers.proofs.tables.add_link.Goals as goal

pub returns-clause-added : goal.returns-clause-added
returns-clause-added c =
    one_added (rows_of c.args.rows.now.items) (rows_of c.add.new.rows.items) c.args.link.now.to.0 c.args.link.now.from.0 (IsLinked c.args.destroys c.args.link.now) c.in_ok-add.ensures.added (c.is_of.ensures.0 c.if-not-is_of.false, refl, refl) (λ k x h. (sym h.1, sym h.2))

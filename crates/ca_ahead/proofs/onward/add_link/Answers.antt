use Rattle.std.proofs.Common.{sym, ◌∙◌}
use Rattle.ca_reach.specs.Reach.{rows_of}
use Rattle.ca_reach.proofs.Searched.{rows_length}
use Rattle.ca_ahead.proofs.Growing.{grows_link, passed}
use Rattle.ca_ahead.proofs.onward.add_link.Goals as goal

pub returns : goal.returns
returns c =
    grows_link (rows_of c.args.rows.now.items) (rows_of c.add.new.rows.items) c.args.link.now (rows_length c.add.new.rows.items ∙ (c.in_ok-add.ensures.length ∙ sym (rows_length c.args.rows.now.items)))
    (passed c.args.link.now.destroys (sym c.is_passed.ensures ∙ c.if-not-is_passed.false)) c.in_ok-add.ensures.added

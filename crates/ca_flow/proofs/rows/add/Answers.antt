use Rattle.std.proofs.Common.{arith}
use Rattle.ca_flow.proofs.RowTables.{longer_row}
use Rattle.ca_flow.proofs.rows.add.Goals as goal

pub returns-in_ok-push : goal.returns-in_ok-push
returns-in_ok-push g c =
    longer_row c.args.rows.now.items c.args.n c.args.x c.index_mut.result.now c.push.new.self (omega (arith, c.if-k-len.true, c.len.ensures, c.args.rows.now.ok.0)) c.index_mut.ensures.value c.in_ok-push.ensures.items

use Rattle.std.proofs.Common.{map}
use Rattle.ca_flow.specs.Instructions.{reg}
use Rattle.ca_thread.proofs.PrintedParts.{plain, doubled, argument}
use Rattle.ca_thread.proofs.text.put_next.Goals as goal

pub returns-then-first-ne37-clause-written : goal.returns-then-first-ne37-clause-written
returns-then-first-ne37-clause-written c =
    plain c.args.format.now c.args.text.now.items c.put_bytes-then-first-ne37.new.text.items (map (reg c.args.row.now) c.args.arguments.now) c.requires.some c.if-format-eq1.false c.if-first-ne37.true c.put_bytes-then-first-ne37.ensures.items

pub returns-then-format-eq37-clause-written : goal.returns-then-format-eq37-clause-written
returns-then-format-eq37-clause-written c =
    doubled c.args.format.now c.args.text.now.items c.put_bytes-then-format-eq37.new.text.items (map (reg c.args.row.now) c.args.arguments.now) c.requires.some c.if-format-eq1.false c.if-first-ne37.false c.if-format-eq37.true c.put_bytes-then-format-eq37.ensures.items

pub returns-clause-written : goal.returns-clause-written
returns-clause-written c =
    argument c.args.format.now c.args.text.now.items c.put_argument-left.new.text.items (map (reg c.args.row.now) c.args.arguments.now) (map (reg c.args.row.now) c.put_argument-left.result.now) c.requires.some c.if-format-eq1.false c.if-first-ne37.false c.if-format-eq37.false c.put_argument-left.ensures.items c.put_argument-left.ensures.rest

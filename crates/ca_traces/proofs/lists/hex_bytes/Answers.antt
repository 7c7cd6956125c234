use Rattle.std.proofs.Common.{length}
use Rattle.ca_traces.proofs.Bytes.{next_pair, no_pair, one_left, not_empty}
use Rattle.ca_traces.proofs.lists.hex_bytes.Goals as goal

pub returns-in_default-hex_byte : goal.returns-in_default-hex_byte
returns-in_default-hex_byte c = no_pair c.args.digits.now c.pairs.bytes.items c.pairs.rest.now c.pairs.invariant c.in-len2-up.len_at_least c.in_default-hex_byte.ensures

pub pairs-preserved : goal.pairs-preserved
pairs-preserved c = next_pair c.args.digits.now c.pairs.bytes.items c.push.new.self.items c.pairs.rest.now c.in-Some.byte c.pairs.invariant c.in-len2-up.len_at_least c.in-Some.ensures c.in_ok-push.ensures.items

pub returns-else-is_empty : goal.returns-else-is_empty
returns-else-is_empty c = one_left c.args.digits.now c.pairs.bytes.items c.pairs.rest.now c.pairs.invariant (not_empty (length c.pairs.rest.now) c.is_empty.result c.is_empty.ensures c.if-is_empty.false) c.in_default.len_below

use Rattle.ca_lex.proofs.Comments.{block_ends, line_ends}
use Rattle.ca_lex.proofs.skipped.comment_at.Goals as goal

pub overflow_sub-result : goal.overflow_sub-result
overflow_sub-result c = (block_ends c.args.text.now c.in-Some.more.now c.in-Some-behind_close.rest.now c.in-Some.ensures c.in-Some-behind_close.ensures).0

pub returns-in-Some : goal.returns-in-Some
returns-in-Some c = (block_ends c.args.text.now c.in-Some.more.now c.in-Some-behind_close.rest.now c.in-Some.ensures c.in-Some-behind_close.ensures).1

pub overflow_sub-result-2 : goal.overflow_sub-result-2
overflow_sub-result-2 c = (line_ends c.args.text.now c.in-Some-after_front.more.now c.at_line_feed.result.now c.in-Some-after_front.ensures c.at_line_feed.ensures).0

pub returns : goal.returns
returns c = (line_ends c.args.text.now c.in-Some-after_front.more.now c.at_line_feed.result.now c.in-Some-after_front.ensures c.at_line_feed.ensures).1

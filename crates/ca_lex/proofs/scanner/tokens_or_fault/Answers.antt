use Rattle.std.proofs.Common.{arith}
use Rattle.std.proofs.lemmas.Result.{IfOk-weaker}
use Rattle.ca_tree.specs.Lexed.{too_long, not_utf8}
use Rattle.ca_lex.proofs.Turns.{of_whole}
use Rattle.ca_lex.proofs.scanner.tokens_or_fault.Goals as goal

pub returns-then-text-gt-MOST_BYTES : goal.returns-then-text-gt-MOST_BYTES
returns-then-text-gt-MOST_BYTES c = too_long (omega arith)

pub returns-in-Err : goal.returns-in-Err
returns-in-Err c = rw (c.place_after-pos.ensures, c.split_at.ensures.front, c.valid_up_to.ensures) (not_utf8 _ (omega arith) c.in-Err.ensures.cases.0 c.in-Err.ensures.cases.1)

pub returns : goal.returns
returns c = IfOk-weaker c.scan.result _ _ (of_whole c.args.text.now (omega arith) c.in_default.ensures.cases.1) c.scan.ensures

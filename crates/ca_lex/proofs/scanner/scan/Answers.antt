use Rattle.std.proofs.Common.{arith}
use Rattle.ca_lex.proofs.Turns.{skipped_lexed, skipped_faulted, token_lexed, token_faulted, wrong_faulted, ended, line_moved, column_moved}
use Rattle.ca_lex.proofs.scanner.scan.Goals as goal

pub turns-preserved-in-Skipped : goal.turns-preserved-in-Skipped
turns-preserved-in-Skipped c =
    let found = rw c.in-Skipped.is at c.in_ok-len.ensures in
    record {
      lexed = skipped_lexed c.turns.fresh _ c.turns.place _ c.args.text.now c.turns.rest.now _ _ c.in-Skipped.len c.turns.tokens.items c.turns.invariant.lexed found.1 c.split_at.ensures.front c.split_at.ensures.back c.fresh_after-fresh.ensures c.place_after-place.ensures;
      faulted = skipped_faulted c.turns.fresh _ c.turns.place _ c.args.text.now c.turns.rest.now _ _ c.in-Skipped.len c.turns.invariant.faulted found.1 c.split_at.ensures.front c.split_at.ensures.back c.fresh_after-fresh.ensures c.place_after-place.ensures;
      line = line_moved c.turns.place _ c.turns.rest.now _ _ c.in-Skipped.len _ c.turns.invariant.line found.0.1 c.split_at.ensures.front c.split_at.ensures.back c.place_after-place.ensures;
      column = column_moved c.turns.place _ c.turns.rest.now _ _ c.in-Skipped.len _ c.turns.invariant.column found.0.1 c.split_at.ensures.front c.split_at.ensures.back c.place_after-place.ensures;
    }

pub turns-preserved : goal.turns-preserved
turns-preserved c =
    let found = rw c.in-Token.is at c.in_ok-len.ensures in
    record {
      lexed = token_lexed c.turns.fresh c.turns.place _ c.args.text.now c.turns.rest.now _ _ c.in-Token.len c.in-Token.word c.turns.tokens.items _ c.turns.invariant.lexed found.1 c.split_at-in-Token.ensures.front c.split_at-in-Token.ensures.back c.place_after-place-in-Token.ensures c.in_ok-push-in-Token.ensures.items;
      faulted = token_faulted c.turns.fresh c.turns.place _ c.args.text.now c.turns.rest.now _ _ c.in-Token.len c.in-Token.word c.turns.invariant.faulted found.1 c.split_at-in-Token.ensures.front c.split_at-in-Token.ensures.back c.place_after-place-in-Token.ensures;
      line = line_moved c.turns.place _ c.turns.rest.now _ _ c.in-Token.len _ c.turns.invariant.line found.0.1 c.split_at-in-Token.ensures.front c.split_at-in-Token.ensures.back c.place_after-place-in-Token.ensures;
      column = column_moved c.turns.place _ c.turns.rest.now _ _ c.in-Token.len _ c.turns.invariant.column found.0.1 c.split_at-in-Token.ensures.front c.split_at-in-Token.ensures.back c.place_after-place-in-Token.ensures;
    }

pub returns-in-Wrong : goal.returns-in-Wrong
returns-in-Wrong c =
    let found = rw c.in-Wrong.is at c.in_ok-len.ensures in
    wrong_faulted c.turns.fresh c.turns.place _ c.args.text.now c.turns.rest.now _ c.in-Wrong.at c.in-Wrong.kind c.turns.invariant.faulted found.1 c.split_at-in-Wrong.ensures.front c.place_after-pos.ensures

pub returns : goal.returns
returns c =
    rw c.in_ok-push.ensures.items (ended c.turns.fresh c.turns.place c.args.text.now c.turns.rest.now c.turns.tokens.items (grind arith) c.turns.invariant.lexed)

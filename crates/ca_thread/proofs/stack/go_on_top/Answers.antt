use Rattle.std.proofs.Common.{refl, sym, ◌∙◌}
use Rattle.ca_thread.proofs.FrameLists.{none_stand, top_answered}
use Rattle.ca_thread.proofs.stack.go_on_top.Goals as goal

pub returns-then-count-eq0-clause-some : goal.returns-then-count-eq0-clause-some
returns-then-count-eq0-clause-some c f fs w standing asks other =
    absurd (none_stand c.args.code.now c.args.frames.now.items f fs (sym (c.len-count.ensures ∙ c.args.frames.now.ok.0) ∙ c.if-count-eq0.true) standing)

pub returns-clause-some : goal.returns-clause-some
returns-clause-some c f fs w standing asks other =
    top_answered c.args.code.now c.args.frames.now.items _ c.len-count.result c.index_mut.result.now c.go_on.new.frame c.args.answer f fs w (c.len-count.ensures ∙ c.args.frames.now.ok.0) c.if-count-eq0.false c.index_mut.ensures.value refl standing
    (λ top. c.go_on.ensures f w top asks other)

use Rattle.std.proofs.Common.{sym, ◌∙◌, inl}
use Rattle.ca_model.specs.Codes.{code_of}
use Rattle.ca_model.specs.Hardened.{retry_site}
use Rattle.ca_machine.proofs.Chosen.{blocked_so, retries_so, none_site}
use Rattle.ca_machine.proofs.machine.Machine.blocked.Goals as goal

pub returns-then-may_retry : goal.returns-then-may_retry
returns-then-may_retry c = λ s h reach there run. retries_so (code_of c.args.self.now.source c.args.self.now.plan) s c.args.thread c.args.timeout h c.if-not-timeout.false (sym c.if-may_retry.true ∙ c.may_retry.ensures s h reach there)

pub returns : goal.returns
returns c = λ s h reach there run.
    let code = code_of c.args.self.now.source c.args.self.now.plan in
    blocked_so code s c.args.thread c.args.timeout h c.waits-2.result there run (c.waits-2.ensures s reach) (inl (none_site code s c.args.thread c.args.timeout (retry_site code h) (sym c.if-may_retry.false ∙ c.may_retry.ensures s h reach there)))

use Rattle.std.proofs.Common.{sym}
use Rattle.std.proofs.lemmas.Option.{slice_get-get_or}
use Rattle.ca_shared.proofs.Ended.{flag_is}
use Rattle.ca_shared.proofs.threads.has_ended.Goals as goal

pub returns : goal.returns
returns c = sym (flag_is c.args.threads.now c.args.t _ (slice_get-get_or c.args.threads.now c.args.t _ c.requires))

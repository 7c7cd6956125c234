use Rattle.std.proofs.Common.{List, ℕ, [], get_or, ap, ◌∙◌}
use Rattle.ca_commands.specs.Options.{command}
use Rattle.ca_cmd.proofs.Refusing.{unopened_as, untraced_as}
use Rattle.ca_cmd.proofs.traced.prepare.Goals as goal

pub returns-in-Err-clause-prepared : goal.returns-in-Err-clause-prepared
returns-in-Err-clause-prepared g c = λ said these. unopened_as said (command c.args.words.now) these _ _ c.source_name.result.now c.in-Err.no c.source_name.ensures c.in-Err.ensures.opened

pub returns-in-Err-open_trace-clause-prepared : goal.returns-in-Err-open_trace-clause-prepared
returns-in-Err-open_trace-clause-prepared g c = λ said these.
    let (name, named) = c.requires.trace in
    let (source, asked) = (rw c.source_name.ensures at c.in-Ok.ensures.opened) in
    untraced_as g.F.Files.holds g.F.Files.faults g.F.Files.asked c.args.files.now c.open_source.new.files c.open_trace.new.files c.in-Ok.ensures.kept c.in-Ok.ensures.later said (command c.args.words.now) these name named c.in-Ok.checked c.in-Ok-hardening.plan source
    (rw c.is_plain.ensures at (rw c.plan_words.ensures at c.in-Ok-hardening.ensures.hardened)) asked c.trace_name.result.now c.in-Err-open_trace.no (c.trace_name.ensures ∙ ap (λ (ts : List (List ℕ)). get_or ts 0 []) named) c.in-Err-open_trace.ensures.opened

use Rattle.std.proofs.Common.{Err, ap}
use Rattle.ca_commands.specs.Options.{run_options}
use Rattle.ca_cmd.proofs.Reporting.{serves, serves_failed, serves_starved}
use Rattle.ca_cmd.proofs.run.serve_run.Goals as goal

pub returns-in-Ok-write_report-clause-served : goal.returns-in-Ok-write_report-clause-served
returns-in-Ok-write_report-clause-served g c = λ said these.
    let (source, asked) = (rw c.as_str.ensures.value at c.in-Ok.ensures.opened) in
    let run = c.in-Ok-run.ensures.run in
    serves c.each_program_of_a_text_is_written.ensures said _ _ _ (run_options c.args.words.now) c.in-Ok-run.ran these asked c.in-Ok.checked c.in-Ok-hardening.plan source c.in-Ok-hardening.ensures.hardened run
    c.status.result c.status.ensures (record { whole = c.in-Ok-write_report.ensures.whole run.last run.reaches; passed = c.in-Ok-write_report.ensures.passed })

pub returns-in-Err-Failed-clause-served : goal.returns-in-Err-Failed-clause-served
returns-in-Err-Failed-clause-served g c = λ said these.
    let (source, asked) = (rw c.as_str.ensures.value at c.in-Ok.ensures.opened) in
    let run = c.in-Ok-run.ensures.run in
    serves_failed c.each_program_of_a_text_is_written.ensures said _ _ _ (run_options c.args.words.now) c.in-Ok-run.ran these asked c.in-Ok.checked c.in-Ok-hardening.plan source c.in-Ok-hardening.ensures.hardened run
    (c.in-Err-Failed.ensures.part run.last run.reaches) (c.in-Err-Failed.ensures.failed (ap Err c.in-Err-Failed.field-0-is))

pub returns-clause-served : goal.returns-clause-served
returns-clause-served g c = λ said these.
    let (source, asked) = (rw c.as_str.ensures.value at c.in-Ok.ensures.opened) in
    let run = c.in-Ok-run.ensures.run in
    serves_starved c.each_program_of_a_text_is_written.ensures said _ _ _ (run_options c.args.words.now) c.in-Ok-run.ran these asked c.in-Ok.checked c.in-Ok-hardening.plan source c.in-Ok-hardening.ensures.hardened run
    (c.in-Err-NoMemory.ensures.part run.last run.reaches)

use Rattle.std.proofs.Common.{Err, refl, ap, subst}
use Rattle.ca_cmd.specs.Serving.{Makes}
use Rattle.ca_cmd.proofs.Ends.{wrote_nothing}
use Rattle.ca_cmd.proofs.Making.{stopped, put_whole, put_failed, put_starved}
use Rattle.ca_cmd.proofs.texts.put_made.Goals as goal

pub returns-in-Err : goal.returns-in-Err
returns-in-Err g c = λ said files asks k makes. stopped said files asks _ k (wrote_nothing g.O.Sink.written g.O.Sink.faults c.args.out.now c.args.out.now refl) c.in-Err.no (subst (Makes said files asks k) c.in-Err.is makes)

pub returns-in-Ok-put_lines : goal.returns-in-Ok-put_lines
returns-in-Ok-put_lines g c = λ said files asks k makes.
    put_whole said files asks _ k c.in-Ok.text (subst (Makes said files asks k) c.in-Ok.is makes) (record { whole = rw c.as_slice.ensures at c.in-Ok-put_lines.ensures.whole; passed = c.in-Ok-put_lines.ensures.passed })

pub returns-in-Err-Failed : goal.returns-in-Err-Failed
returns-in-Err-Failed g c = λ said files asks k makes.
    put_failed said files asks _ k c.in-Ok.text (subst (Makes said files asks k) c.in-Ok.is makes) (rw c.as_slice.ensures at c.in-Err-Failed.ensures.part) (c.in-Err-Failed.ensures.failed (ap Err c.in-Err-Failed.field-0-is))

pub returns : goal.returns
returns g c = λ said files asks k makes. put_starved said files asks _ k c.in-Ok.text (subst (Makes said files asks k) c.in-Ok.is makes) (rw c.as_slice.ensures at c.in-Err-NoMemory.ensures.part)

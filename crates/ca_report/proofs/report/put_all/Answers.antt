use Rattle.std.proofs.Common.{◌≡◌, rules, string_bytes, IsErrOf, subst, List, ℕ}
use Rattle.ca_io.specs.Outside.{AppendsPart}
use Rattle.ca_io.specs.declared.outside.PutNo.TheVariants.{Failed, NoMemory}
use Rattle.ca_io.proofs.Puts.{part_after, part_kept}
use Rattle.ca_report.proofs.report.put_all.Goals as goal

pub returns-in-Err-Failed-clause-part : goal.returns-in-Err-Failed-clause-part
returns-in-Err-Failed-clause-part g c =
    let piece : c.as_bytes.result.now ≡ string_bytes c.text-item.result = search rules in
    let why : IsErrOf c.put.result Failed = search rules in
    let part = subst (λ (t : List ℕ). AppendsPart (g.O.Sink.written c.lines.out) (g.O.Sink.written c.put.new.self) t) piece (c.put.ensures.part why) in
    part_after string_bytes c.args.lines.now c.lines.text-index c.text-item.result _ _ _ c.lines-test.true c.text-item.is c.lines.invariant.whole part

pub returns-in-Err-NoMemory-clause-part : goal.returns-in-Err-NoMemory-clause-part
returns-in-Err-NoMemory-clause-part g c =
    let why : IsErrOf c.put.result NoMemory = search rules in
    part_kept string_bytes c.args.lines.now c.lines.text-index c.text-item.result _ _ _ c.lines-test.true c.text-item.is c.lines.invariant.whole (c.put.ensures.no_memory why)

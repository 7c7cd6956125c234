use Rattle.std.proofs.Common.{◌≡◌, rules, sym, ap, ◌∙◌, to_z-of_z, SFits, w32, w64, to_z, of_z}
use Rattle.std.specs.Option.{is_some}
use Rattle.ca_entries.proofs.Coming.{read_comes, write_comes, free_comes, held_comes, join_comes, retry_comes}
use Rattle.ca_entries.proofs.entries.entry.Goals as goal

pub returns-then-is_some : goal.returns-then-is_some
returns-then-is_some c = λ g k w shares joined least shows.
    held_comes g _ _ _ shares c.args.thread k c.args.retry _ w _ shows c.in-Lock.m c.in-Lock.is _ (ap is_some (sym c.owner_if_there.ensures) ∙ sym c.is_some.ensures ∙ c.if-is_some.true) (c.in_ok-act-in-Lock.ensures g shares)

pub returns-in_ok-act-in-Read : goal.returns-in_ok-act-in-Read
returns-in_ok-act-in-Read c =
    let fits : SFits w64 c.in-Read.by = search rules in
    let by_is : to_z w64 (of_z w64 c.in-Read.by) ≡ c.in-Read.by = to_z-of_z fits in
    λ g k w shares joined least shows.
    read_comes g _ _ _ shares c.args.thread k c.args.retry _ w _ shows c.in-Read.at c.in-Read.by c.in-Read.kind c.in-Read.is c.read_entry-found.result _ (rw by_is at c.read_entry-found.ensures) (c.in_ok-act-in-Read.ensures g shares)

pub returns-in_ok-act-in-Write : goal.returns-in_ok-act-in-Write
returns-in_ok-act-in-Write c =
    let fits : SFits w64 c.in-Write.by = search rules in
    let by_is : to_z w64 (of_z w64 c.in-Write.by) ≡ c.in-Write.by = to_z-of_z fits in
    λ g k w shares joined least shows.
    write_comes g _ _ _ shares c.args.thread k c.args.retry _ w _ shows c.in-Write.at c.in-Write.by c.in-Write.value c.in-Write.is c.write_entry-found.result _ (rw by_is at c.write_entry-found.ensures) (c.in_ok-act-in-Write.ensures g shares)

pub returns-in_ok-act-in-Free : goal.returns-in_ok-act-in-Free
returns-in_ok-act-in-Free c = λ g k w shares joined least shows.
    free_comes g _ _ _ shares c.args.thread k c.args.retry _ w _ shows c.in-Free.at c.in-Free.is c.free_entry-found.result _ c.free_entry-found.ensures (c.in_ok-act-in-Free.ensures g shares)

pub returns-in-Join : goal.returns-in-Join
returns-in-Join c =
    let fits : SFits w32 c.in-Join.number = search rules in
    let number_is : to_z w32 (of_z w32 c.in-Join.number) ≡ c.in-Join.number = to_z-of_z fits in
    λ g k w shares joined least shows. join_comes g _ _ _ shares c.args.thread k c.args.retry _ w _ shows c.in-Join.number c.args.joined_ended c.in-Join.is _ joined (rw number_is at c.join_entry.ensures g)

pub returns-in_ok-act-in-Retry : goal.returns-in_ok-act-in-Retry
returns-in_ok-act-in-Retry c = λ g k w shares joined least shows. retry_comes g _ _ _ shares c.args.thread k c.args.retry _ w _ shows c.in-Retry.field-0 c.in-Retry.is _ (c.in_ok-act-in-Retry.ensures g shares)

use Rattle.std.proofs.Common.{Err, ap, map, string_bytes, sym, subst, ◌∙◌, ◌≡◌, Some}
use Rattle.ca_commands.specs.Gathering.{Gathered, gathered_as, gathered, start, IsDone}
use Rattle.ca_commands.proofs.Spelling.{no_spelling, unfinished, read_spells}
use Rattle.ca_commands.proofs.pieces.pieces.Goals as goal

pub returns-in-Err-Misworded-clause-misworded : goal.returns-in-Err-Misworded-clause-misworded
returns-in-Err-Misworded-clause-misworded c = λ is. no_spelling (map string_bytes c.args.words.now) (rw c.new-reader.ensures at c.in-Err-Misworded.ensures.refused (ap Err c.in-Err-Misworded.field-0-is))

pub returns-in-Value-clause-misworded : goal.returns-in-Value-clause-misworded
returns-in-Value-clause-misworded c = λ is.
    let h : Gathered = gathered_as c.reader.inside.mode c.reader.inside.pieces.items in
    let read : gathered start (map string_bytes c.args.words.now) ≡ Some h = (rw c.new-reader.ensures at c.in-Ok.ensures.taken) ∙ ap Some (sym c.reader.view_is) in
    unfinished (map string_bytes c.args.words.now) h c.in-Value.field-0 read c.in-Value.is

pub returns-in-Options-clause-found : goal.returns-in-Options-clause-found
returns-in-Options-clause-found c =
    let h : Gathered = gathered_as c.reader.inside.mode c.reader.inside.pieces.items in
    let read : gathered start (map string_bytes c.args.words.now) ≡ Some h = (rw c.new-reader.ensures at c.in-Ok.ensures.taken) ∙ ap Some (sym c.reader.view_is) in
    read_spells (map string_bytes c.args.words.now) h read (subst IsDone (sym c.in-Options.is) tt)

pub returns-clause-found : goal.returns-clause-found
returns-clause-found c =
    let h : Gathered = gathered_as c.reader.inside.mode c.reader.inside.pieces.items in
    let read : gathered start (map string_bytes c.args.words.now) ≡ Some h = (rw c.new-reader.ensures at c.in-Ok.ensures.taken) ∙ ap Some (sym c.reader.view_is) in
    read_spells (map string_bytes c.args.words.now) h read (subst IsDone (sym c.in-Names.is) tt)

use Rattle.std.proofs.Common.{ℕ, List, map, string_bytes, Err, refl, ap, inl}
use Rattle.ca_io.specs.Ports.{LoadPort, load_port}
use Rattle.ca_commands.specs.Words.{Command}
use Rattle.ca_commands.specs.Options.{command}
use Rattle.ca_cmd.specs.Commands.{Misworded, Refused}
use Rattle.ca_cmd.specs.declared.refusals.ServeNo.TheVariants as serve_no
use Rattle.ca_cmd.proofs.Ends.{served_as, wrote_nothing, asked_nothing, ends_told, ends_served, ends_failed, ends_starved, answered_at, cut_at}
use Rattle.ca_cmd.proofs.Statuses.{decided_at}
use Rattle.ca_cmd.proofs.command.command_alone.Goals as goal

pub returns-in-Err-Misworded-clause-answered : goal.returns-in-Err-Misworded-clause-answered
returns-in-Err-Misworded-clause-answered g c =
    let words : List (List ℕ) = map string_bytes c.args.words.now in
    let files : LoadPort = load_port g.F.Files.holds g.F.Files.faults c.args.files.now c.args.files.now in
    let ends = ends_told words files _ _ _ c.close.result Misworded (record { stands = c.in-Err-Misworded.ensures.misworded (ap Err c.in-Err-Misworded.field-0-is); asked = asked_nothing g.F.Files.asked c.args.files.now c.args.files.now refl; faithful = tt }) (wrote_nothing g.O.Sink.written g.O.Sink.faults c.args.out.now c.args.out.now refl) (inl c.close.ensures) in
    answered_at words _ _ _ _ c.close.result ends

pub returns-in-Err-Misworded-clause-cut : goal.returns-in-Err-Misworded-clause-cut
returns-in-Err-Misworded-clause-cut g c =
    let words : List (List ℕ) = map string_bytes c.args.words.now in
    let files : LoadPort = load_port g.F.Files.holds g.F.Files.faults c.args.files.now c.args.files.now in
    let ends = ends_told words files _ _ _ c.close.result Misworded (record { stands = c.in-Err-Misworded.ensures.misworded (ap Err c.in-Err-Misworded.field-0-is); asked = asked_nothing g.F.Files.asked c.args.files.now c.args.files.now refl; faithful = tt }) (wrote_nothing g.O.Sink.written g.O.Sink.faults c.args.out.now c.args.out.now refl) (inl c.close.ensures) in
    cut_at words _ _ _ _ c.close.result ends

pub returns-in-Err-Misworded-clause-decided : goal.returns-in-Err-Misworded-clause-decided
returns-in-Err-Misworded-clause-decided g c =
    let words : List (List ℕ) = map string_bytes c.args.words.now in
    let files : LoadPort = load_port g.F.Files.holds g.F.Files.faults c.args.files.now c.args.files.now in
    let ends = ends_told words files _ _ _ c.close.result Misworded (record { stands = c.in-Err-Misworded.ensures.misworded (ap Err c.in-Err-Misworded.field-0-is); asked = asked_nothing g.F.Files.asked c.args.files.now c.args.files.now refl; faithful = tt }) (wrote_nothing g.O.Sink.written g.O.Sink.faults c.args.out.now c.args.out.now refl) (inl c.close.ensures) in
    decided_at words _ _ _ _ c.close.result ends

pub returns-in-Ok-serve-clause-answered : goal.returns-in-Ok-serve-clause-answered
returns-in-Ok-serve-clause-answered g c =
    let words : List (List ℕ) = map string_bytes c.args.words.now in
    let ends = ends_served words _ _ _ _ c.in-Ok-serve.status (command c.in-Ok.words) c.in-Ok.ensures.found (c.in-Ok-serve.ensures.served words c.in-Ok.ensures.found) (wrote_nothing g.E.Sink.written g.E.Sink.faults c.args.err.now c.args.err.now refl) in
    answered_at words _ _ _ _ c.in-Ok-serve.status ends

pub returns-in-Ok-serve-clause-decided : goal.returns-in-Ok-serve-clause-decided
returns-in-Ok-serve-clause-decided g c =
    let words : List (List ℕ) = map string_bytes c.args.words.now in
    let ends = ends_served words _ _ _ _ c.in-Ok-serve.status (command c.in-Ok.words) c.in-Ok.ensures.found (c.in-Ok-serve.ensures.served words c.in-Ok.ensures.found) (wrote_nothing g.E.Sink.written g.E.Sink.faults c.args.err.now c.args.err.now refl) in
    decided_at words _ _ _ _ c.in-Ok-serve.status ends

pub returns-in-Err-Refused-clause-cut : goal.returns-in-Err-Refused-clause-cut
returns-in-Err-Refused-clause-cut g c =
    let words : List (List ℕ) = map string_bytes c.args.words.now in
    let said : Command = command c.in-Ok.words in
    let served = served_as words _ _ _ said c.in-Err-Refused.field-0 (serve_no.Refused c.in-Err-Refused.refusal) c.in-Err-Refused.field-0-is (c.in-Err-Refused.ensures.served words c.in-Ok.ensures.found) in
    let ends = ends_told words _ _ _ _ c.refuse.result (Refused said c.in-Err-Refused.refusal) served.0 served.1 c.refuse.ensures in
    cut_at words _ _ _ _ c.refuse.result ends

pub returns-in-Err-Refused-clause-decided : goal.returns-in-Err-Refused-clause-decided
returns-in-Err-Refused-clause-decided g c =
    let words : List (List ℕ) = map string_bytes c.args.words.now in
    let said : Command = command c.in-Ok.words in
    let served = served_as words _ _ _ said c.in-Err-Refused.field-0 (serve_no.Refused c.in-Err-Refused.refusal) c.in-Err-Refused.field-0-is (c.in-Err-Refused.ensures.served words c.in-Ok.ensures.found) in
    let ends = ends_told words _ _ _ _ c.refuse.result (Refused said c.in-Err-Refused.refusal) served.0 served.1 c.refuse.ensures in
    decided_at words _ _ _ _ c.refuse.result ends

pub returns-in-Err-Put-clause-cut : goal.returns-in-Err-Put-clause-cut
returns-in-Err-Put-clause-cut g c =
    let words : List (List ℕ) = map string_bytes c.args.words.now in
    let said : Command = command c.in-Ok.words in
    let ends = ends_failed words _ _ _ _ 7 said c.in-Ok.ensures.found (served_as words _ _ _ said c.in-Err-Put.field-0 serve_no.Put c.in-Err-Put.field-0-is (c.in-Err-Put.ensures.served words c.in-Ok.ensures.found)) refl (wrote_nothing g.E.Sink.written g.E.Sink.faults c.args.err.now c.args.err.now refl) in
    cut_at words _ _ _ _ 7 ends

pub returns-clause-cut : goal.returns-clause-cut
returns-clause-cut g c =
    let words : List (List ℕ) = map string_bytes c.args.words.now in
    let said : Command = command c.in-Ok.words in
    let ends = ends_starved words _ _ _ _ c.out_of_memory-in-Err-NoMemory-serve.result said c.in-Ok.ensures.found (served_as words _ _ _ said c.in-Err-NoMemory-serve.field-0 serve_no.NoMemory c.in-Err-NoMemory-serve.field-0-is (c.in-Err-NoMemory-serve.ensures.served words c.in-Ok.ensures.found)) c.out_of_memory-in-Err-NoMemory-serve.ensures in
    cut_at words _ _ _ _ c.out_of_memory-in-Err-NoMemory-serve.result ends

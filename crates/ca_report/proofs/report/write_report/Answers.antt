use Rattle.std.proofs.Common.{◌≡◌, List, ℕ, string_bytes, sym, ap, subst, ◌∙◌}
use Rattle.std.specs.Prelude.{Result, Ok, Err, OnOk, OnErr}
use Rattle.std.specs.List.{flat_map}
use Rattle.std.specs.Io.KnownBytes.{Appends}
use Rattle.ca_io.specs.Outside.{AppendsPart}
use Rattle.ca_io.proofs.Puts.{put_whole, put_part, part_front, text_is}
use Rattle.ca_model.specs.Hardened.{Hardened}
use Rattle.ca_model.specs.Machine.{State}
use Rattle.ca_model.specs.Reports.{lines_of, wait_lines}
use Rattle.ca_model.specs.Shared.{Shared}
use Rattle.ca_machine.specs.Machines.{Traced, Reaches, rules}
use Rattle.ca_report.proofs.report.write_report.Goals as goal

all_ok : {T E : Type 0} (m : Traced) (r : Result T E) (P : State Hardened → Type 0) → ((s : State Hardened) → Reaches m s → OnOk r (P s)) → OnOk r ((s : State Hardened) → Reaches m s → P s)
all_ok m (Ok x) P h = h
all_ok m (Err e) P h = tt

all_err : {T E : Type 0} (m : Traced) (r : Result T E) (P : State Hardened → Type 0) → ((s : State Hardened) → Reaches m s → OnErr r (P s)) → OnErr r ((s : State Hardened) → Reaches m s → P s)
all_err m (Ok x) P h = tt
all_err m (Err e) P h = h

pub returns-in-Ok-put_all-clause-whole : goal.returns-in-Ok-put_all-clause-whole
returns-in-Ok-put_all-clause-whole g c = all_ok c.args.machine.now c.put.result _ (λ s reach.
    let m = c.args.machine.now in
    let lines = lines_of m.trace c.args.ending (wait_lines (rules m) s c.args.ending) s.shared.output in
    let text = text_is string_bytes c.deref.result.now c.in-Ok.lines.items lines c.deref.ensures.value (c.in-Ok.ensures s reach) in
    let out : c.output.result.now ≡ s.shared.output = c.output.ensures ∙ ap (λ (x : Shared). x.output) (sym (c.shared.ensures.reached s reach)) in
    put_whole c.put.result (g.O.Sink.written c.args.out.now) (g.O.Sink.written c.put_all.new.out) (g.O.Sink.written c.put.new.self) (flat_map (λ (t : List ℕ). t) lines) s.shared.output
    (subst (λ (t : List ℕ). Appends (g.O.Sink.written c.args.out.now) (g.O.Sink.written c.put_all.new.out) t) text c.in-Ok-put_all.ensures.whole)
    (subst (λ (t : List ℕ). OnOk c.put.result (Appends (g.O.Sink.written c.put_all.new.out) (g.O.Sink.written c.put.new.self) t)) out c.put.ensures.whole))

pub returns-in-Ok-put_all-clause-part : goal.returns-in-Ok-put_all-clause-part
returns-in-Ok-put_all-clause-part g c = all_err c.args.machine.now c.put.result _ (λ s reach.
    let m = c.args.machine.now in
    let lines = lines_of m.trace c.args.ending (wait_lines (rules m) s c.args.ending) s.shared.output in
    let text = text_is string_bytes c.deref.result.now c.in-Ok.lines.items lines c.deref.ensures.value (c.in-Ok.ensures s reach) in
    let out : c.output.result.now ≡ s.shared.output = c.output.ensures ∙ ap (λ (x : Shared). x.output) (sym (c.shared.ensures.reached s reach)) in
    put_part c.put.result (g.O.Sink.written c.args.out.now) (g.O.Sink.written c.put_all.new.out) (g.O.Sink.written c.put.new.self) (flat_map (λ (t : List ℕ). t) lines) s.shared.output
    (subst (λ (t : List ℕ). Appends (g.O.Sink.written c.args.out.now) (g.O.Sink.written c.put_all.new.out) t) text c.in-Ok-put_all.ensures.whole)
    (rw out at c.put.ensures.part)
    c.put.ensures.no_memory)

pub returns-in-Err-Failed-clause-part : goal.returns-in-Err-Failed-clause-part
returns-in-Err-Failed-clause-part g c = λ s reach.
    let m = c.args.machine.now in
    let lines = lines_of m.trace c.args.ending (wait_lines (rules m) s c.args.ending) s.shared.output in
    let text = text_is string_bytes c.deref.result.now c.in-Ok.lines.items lines c.deref.ensures.value (c.in-Ok.ensures s reach) in
    part_front _ _ (flat_map (λ (t : List ℕ). t) lines) s.shared.output
    (subst (λ (t : List ℕ). AppendsPart (g.O.Sink.written c.args.out.now) (g.O.Sink.written c.put_all.new.out) t) text c.in-Err-Failed.ensures.part)

pub returns-clause-part : goal.returns-clause-part
returns-clause-part g c = λ s reach.
    let m = c.args.machine.now in
    let lines = lines_of m.trace c.args.ending (wait_lines (rules m) s c.args.ending) s.shared.output in
    let text = text_is string_bytes c.deref.result.now c.in-Ok.lines.items lines c.deref.ensures.value (c.in-Ok.ensures s reach) in
    part_front _ _ (flat_map (λ (t : List ℕ). t) lines) s.shared.output
    (subst (λ (t : List ℕ). AppendsPart (g.O.Sink.written c.args.out.now) (g.O.Sink.written c.put_all.new.out) t) text c.in-Err-NoMemory.ensures.part)

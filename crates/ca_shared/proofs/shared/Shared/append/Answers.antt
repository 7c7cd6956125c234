use Rattle.std.proofs.Common.{◌≡◌, ◌<◌, ◌+◌, ◌++◌, ◌∷◌, [], length, arith, refl, ap, ◌∙◌}
use Rattle.std.proofs.lemmas.Grind.{common_steps}
use Rattle.ca_shared.specs.Refusals.{of_act, refusal}
use Rattle.ca_shared.specs.Kept.{shared_of}
use Rattle.ca_shared.proofs.Legality.{act_if, there_if}
use Rattle.ca_shared.proofs.Appending.{well, forbids, no_refusal, fit, counted_all, there, whole, one_more_of, legal_of}
use Rattle.ca_shared.proofs.shared.Shared.append.Goals as goal

pub refusal-why-requires : goal.refusal-why-requires
refusal-why-requires c =
    let s = c.self.inside in
    let few = (well s.globals.items s.trace.items s.memory s.owners s.output.items s.threads.items s.frames s.phase c.self.invariant).few in
    let is = ap length c.as_slice.ensures.value in
    omega (arith, few, is)

pub returns-in-Some-clause-forbidden : goal.returns-in-Some-clause-forbidden
returns-in-Some-clause-forbidden c = λ i is.
    let s = c.self.inside in
    let why = c.in-Some.ensures.why s.output.items ∙ ap (λ l. refusal (shared_of s.memory s.owners s.output.items l s.phase) c.args.event) c.as_slice.ensures.value in
    forbids s.globals.items s.trace.items s.memory s.owners s.output.items s.threads.items s.frames s.phase c.self.invariant c.args.self.now c.args.event c.in-Some.why c.self.view_is why

pub apply-applied-requires-clause-there : goal.apply-applied-requires-clause-there
apply-applied-requires-clause-there c =
    let s = c.self.inside in
    let k = c.self.invariant in
    let e = c.args.event in
    let short : length s.trace.items < 4000000000 = let l = c.len-entries.ensures in let i = c.if-entries-ge-MOST_ENTRIES.false in let k = s.trace.ok.0 in grind (arith, common_steps) in
    let place = c.len-entries.result + 1 in
    let last : place ≡ length s.trace.items + 1 = let l = c.len-entries.ensures in let k = s.trace.ok.0 in grind (arith, common_steps) in
    let none = no_refusal s.globals.items s.trace.items s.memory s.owners s.output.items s.threads.items s.frames s.phase k e short place last c.as_slice.result.now c.as_slice.ensures.value (c.in-None.ensures.why s.output.items) in
    there_if (shared_of s.memory s.owners s.output.items s.threads.items s.phase) e none

pub apply-applied-requires-clause-legal : goal.apply-applied-requires-clause-legal
apply-applied-requires-clause-legal c =
    let s = c.self.inside in
    let k = c.self.invariant in
    let e = c.args.event in
    let short : length s.trace.items < 4000000000 = let l = c.len-entries.ensures in let i = c.if-entries-ge-MOST_ENTRIES.false in let k = s.trace.ok.0 in grind (arith, common_steps) in
    let place = c.len-entries.result + 1 in
    let last : place ≡ length s.trace.items + 1 = let l = c.len-entries.ensures in let k = s.trace.ok.0 in grind (arith, common_steps) in
    let none = no_refusal s.globals.items s.trace.items s.memory s.owners s.output.items s.threads.items s.frames s.phase k e short place last c.as_slice.result.now c.as_slice.ensures.value (c.in-None.ensures.why s.output.items) in
    (λ i. of_act (shared_of (c.in-None.ensures.memory i) (c.in-None.ensures.owners i) s.output.items s.threads.items s.phase) e.thread e.act) ∙ act_if (shared_of s.memory s.owners s.output.items s.threads.items s.phase) e none

pub note-requires-clause-there : goal.note-requires-clause-there
note-requires-clause-there c =
    let s = c.self.inside in
    let k = c.self.invariant in
    let e = c.args.event in
    let short : length s.trace.items < 4000000000 = let l = c.len-entries.ensures in let i = c.if-entries-ge-MOST_ENTRIES.false in let k = s.trace.ok.0 in grind (arith, common_steps) in
    let place = c.len-entries.result + 1 in
    let last : place ≡ length s.trace.items + 1 = let l = c.len-entries.ensures in let k = s.trace.ok.0 in grind (arith, common_steps) in
    let none = no_refusal s.globals.items s.trace.items s.memory s.owners s.output.items s.threads.items s.frames s.phase k e short place last c.as_slice.result.now c.as_slice.ensures.value (c.in-None.ensures.why s.output.items) in
    there s.globals.items s.trace.items s.memory s.owners s.output.items s.threads.items s.frames s.phase k e short place last c.apply-applied.new.threads.items c.in-Ok-applied.ensures.threads (there_if (shared_of s.memory s.owners s.output.items s.threads.items s.phase) e none)

pub note-requires-clause-counted : goal.note-requires-clause-counted
note-requires-clause-counted c =
    let s = c.self.inside in
    let k = c.self.invariant in
    let e = c.args.event in
    let short : length s.trace.items < 4000000000 = let l = c.len-entries.ensures in let i = c.if-entries-ge-MOST_ENTRIES.false in let k = s.trace.ok.0 in grind (arith, common_steps) in
    let place = c.len-entries.result + 1 in
    let last : place ≡ length s.trace.items + 1 = let l = c.len-entries.ensures in let k = s.trace.ok.0 in grind (arith, common_steps) in
    counted_all s.globals.items s.trace.items s.memory s.owners s.output.items s.threads.items s.frames s.phase k e short place last c.apply-applied.new.threads.items c.in-Ok-applied.ensures.threads

pub note-requires-clause-fits : goal.note-requires-clause-fits
note-requires-clause-fits c =
    let s = c.self.inside in
    let k = c.self.invariant in
    let e = c.args.event in
    let short : length s.trace.items < 4000000000 = let l = c.len-entries.ensures in let i = c.if-entries-ge-MOST_ENTRIES.false in let k = s.trace.ok.0 in grind (arith, common_steps) in
    let place = c.len-entries.result + 1 in
    let last : place ≡ length s.trace.items + 1 = let l = c.len-entries.ensures in let k = s.trace.ok.0 in grind (arith, common_steps) in
    fit s.globals.items s.trace.items s.memory s.owners s.output.items s.threads.items s.frames s.phase k e short place last c.apply-applied.new.threads.items c.in-Ok-applied.ensures.threads

pub invariant_of-self-2 : goal.invariant_of-self-2
invariant_of-self-2 c =
    let s = c.self.inside in
    let k = c.self.invariant in
    let e = c.args.event in
    let short : length s.trace.items < 4000000000 = let l = c.len-entries.ensures in let i = c.if-entries-ge-MOST_ENTRIES.false in let k = s.trace.ok.0 in grind (arith, common_steps) in
    let place = c.len-entries.result + 1 in
    let last : place ≡ length s.trace.items + 1 = let l = c.len-entries.ensures in let k = s.trace.ok.0 in grind (arith, common_steps) in
    let none = no_refusal s.globals.items s.trace.items s.memory s.owners s.output.items s.threads.items s.frames s.phase k e short place last c.as_slice.result.now c.as_slice.ensures.value (c.in-None.ensures.why s.output.items) in
    (whole s.globals.items s.trace.items s.memory s.owners s.output.items s.threads.items s.frames s.phase k e short place last none (c.in-None.ensures.numbered refl) c.apply-applied.new.memory c.refusal-why.new.memory c.refusal-why.new.owners c.apply-applied.new.owners
    c.apply-applied.new.output.items c.apply-applied.new.threads.items c.note.new.threads.items c.apply-applied.new.phase c.note.new.frames c.push_reserved.new.self.items c.in-None.ensures.memory c.in-None.ensures.owners
    c.in-Ok-applied.ensures.ok c.in-Ok-applied.ensures.threads c.note.ensures.threads c.note.ensures.frames (c.push_reserved.ensures.items ∙ ap (λ l. l ++ e ∷ []) c.in-Ok.ensures.items)).1

pub returns-clause-ok : goal.returns-clause-ok
returns-clause-ok c =
    let s = c.self.inside in
    let k = c.self.invariant in
    let e = c.args.event in
    let short : length s.trace.items < 4000000000 = let l = c.len-entries.ensures in let i = c.if-entries-ge-MOST_ENTRIES.false in let k = s.trace.ok.0 in grind (arith, common_steps) in
    let place = c.len-entries.result + 1 in
    let last : place ≡ length s.trace.items + 1 = let l = c.len-entries.ensures in let k = s.trace.ok.0 in grind (arith, common_steps) in
    let none = no_refusal s.globals.items s.trace.items s.memory s.owners s.output.items s.threads.items s.frames s.phase k e short place last c.as_slice.result.now c.as_slice.ensures.value (c.in-None.ensures.why s.output.items) in
    let more = c.push_reserved.ensures.items ∙ ap (λ l. l ++ e ∷ []) c.in-Ok.ensures.items in
    one_more_of s.globals.items s.trace.items s.memory s.owners s.output.items s.threads.items s.frames s.phase k e short place last c.args.self.now c.apply-applied.new.owners c.push_reserved.new.self.items c.self.view_is
    (whole s.globals.items s.trace.items s.memory s.owners s.output.items s.threads.items s.frames s.phase k e short place last none (c.in-None.ensures.numbered refl) c.apply-applied.new.memory c.refusal-why.new.memory c.refusal-why.new.owners c.apply-applied.new.owners
    c.apply-applied.new.output.items c.apply-applied.new.threads.items c.note.new.threads.items c.apply-applied.new.phase c.note.new.frames c.push_reserved.new.self.items c.in-None.ensures.memory c.in-None.ensures.owners
    c.in-Ok-applied.ensures.ok c.in-Ok-applied.ensures.threads c.note.ensures.threads c.note.ensures.frames more).0 more

pub returns-clause-legal : goal.returns-clause-legal
returns-clause-legal c =
    let s = c.self.inside in
    let k = c.self.invariant in
    let e = c.args.event in
    let short : length s.trace.items < 4000000000 = let l = c.len-entries.ensures in let i = c.if-entries-ge-MOST_ENTRIES.false in let k = s.trace.ok.0 in grind (arith, common_steps) in
    let place = c.len-entries.result + 1 in
    let last : place ≡ length s.trace.items + 1 = let l = c.len-entries.ensures in let k = s.trace.ok.0 in grind (arith, common_steps) in
    let none = no_refusal s.globals.items s.trace.items s.memory s.owners s.output.items s.threads.items s.frames s.phase k e short place last c.as_slice.result.now c.as_slice.ensures.value (c.in-None.ensures.why s.output.items) in
    legal_of s.globals.items s.trace.items s.memory s.owners s.output.items s.threads.items s.frames s.phase k e short place last c.args.self.now c.self.view_is (c.in-None.ensures.numbered refl) none

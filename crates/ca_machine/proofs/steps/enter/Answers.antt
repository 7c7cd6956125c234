use Rattle.std.proofs.Common.{◌≡◌, ◌<◌, ◌++◌, ℕ, List, length, Some, sym, ap, subst, ◌∙◌, get_or}
use Rattle.std.specs.Prelude.{slice_get, slice_set, Option, option_to_list}
use Rattle.std.proofs.lemmas.Option.{slice_get_read}
use Rattle.std.proofs.lemmas.List.{append-nil}
use Rattle.ca_model.specs.declared.values.Event.{Event}
use Rattle.ca_model.specs.Hardened.{Hardened, hardened}
use Rattle.ca_model.specs.Machine.{State, Step, created}
use Rattle.ca_flow.specs.Lowerings.{Lowering, rules_of}
use Rattle.ca_shared.specs.Histories.{History, state, appended}
use Rattle.ca_thread.specs.Privates.{Thread}
use Rattle.ca_machine.specs.Machines.{IsAt, StandAs, AreParts, went_on}
use Rattle.ca_machine.specs.Moves.{IsMove, IsOwn, AreMade, number_of}
use Rattle.ca_machine.proofs.Entering.{threaded, codes_are, room_made, moves, entered, refused}
use Rattle.ca_machine.proofs.Named.{can_create}
use Rattle.ca_machine.proofs.steps.enter.Goals as goal

pub returns-in-Err-clause-parts : goal.returns-in-Err-clause-parts
returns-in-Err-clause-parts c = subst (AreParts c.args.code.now c.args.shared.now) (sym c.reserve.ensures.items) c.requires

here : (xs ys : List Thread) (m n t : ℕ) (p : Thread) → ys ≡ xs → n ≡ m → m ≡ length xs → t < n → p ≡ get_or ys t p → slice_get xs t ≡ Some p
here xs ys m n t p same l k lt is = slice_get_read xs n t p (l ∙ k) lt (subst (λ zs. p ≡ get_or zs t p) same is)

moved : (code : Lowering) (sh sh' : History) (xs ys : List Thread) (t : ℕ) (p q : Thread) (s : State Hardened) → StandAs code sh (slice_set xs t p) s → sh' ≡ sh → ys ≡ xs → q ≡ p → StandAs code sh' (slice_set ys t q) s
moved code sh sh' xs ys t p q s st i j k = subst (λ x. StandAs code x (slice_set ys t q) s) (sym i) (subst (λ x. StandAs code sh (slice_set x t q) s) (sym j) (subst (λ x. StandAs code sh (slice_set xs t x) s) (sym k) st))

pub take-requires-clause-code : goal.take-requires-clause-code
take-requires-clause-code c = codes_are _ _ c.args.privates.now.items c.args.event.now.thread c.index_mut.result.now c.requires (here c.args.privates.now.items c.reserve.new.self.items c.args.privates.now.len c.len.result c.args.event.now.thread _ c.reserve.ensures.items c.len.ensures c.args.privates.now.ok.0 c.if-thread-len.false c.index_mut.ensures.value)

pub returns-in-Err-take-clause-parts : goal.returns-in-Err-take-clause-parts
returns-in-Err-take-clause-parts c =
    let at = here c.args.privates.now.items c.reserve.new.self.items c.args.privates.now.len c.len.result c.args.event.now.thread c.index_mut.result.now c.reserve.ensures.items c.len.ensures c.args.privates.now.ok.0 c.if-thread-len.false c.index_mut.ensures.value in
    let kept = c.in-Err-take.ensures.kept in (
      c.requires.0,
      moved c.args.code.now c.args.shared.now _ c.args.privates.now.items _ c.args.event.now.thread _ _ c.requires.0
          (room_made c.args.code.now c.args.shared.now c.args.privates.now.items c.requires.0 c.args.event.now.thread c.index_mut.result.now kept.1.0 c.requires.1 at) kept.0 c.reserve.ensures.items kept.1.1,
    )

pub returns-in-Err-take-clause-exact : goal.returns-in-Err-take-clause-exact
returns-in-Err-take-clause-exact c s st =
    let p = c.index_mut.result.now in
    let at = here c.args.privates.now.items c.reserve.new.self.items c.args.privates.now.len c.len.result c.args.event.now.thread p c.reserve.ensures.items c.len.ensures c.args.privates.now.ok.0 c.if-thread-len.false c.index_mut.ensures.value in
    let x = threaded c.args.code.now c.args.shared.now c.args.privates.now.items s c.args.event.now.thread p st at in
    refused (Option Thread) (Unit {0}) c.in-Err-take.no (IsMove (state c.args.shared.now) p x.0 c.args.event.now) ((new : State Hardened) × Step (hardened (rules_of c.args.code.now)) s c.args.event.now new)
    (λ step. moves c.args.code.now c.args.shared.now c.args.privates.now.items s step.0 c.args.event.now p x.0 st at x.1 step.1) (c.in-Err-take.ensures.exact x.0 x.2.stands)

-- the parts stand on where one thread went on, and maybe another one was made
pub went_so : (code : Lowering) (shared shared' : History) (ps ys : List Thread) (s : State Hardened) (e : Event) (p q : Thread) (made : Option Thread) → StandAs code shared ps s → slice_get ps e.thread ≡ Some p
    → shared' ≡ appended shared e → ys ≡ ps → q ≡ went_on p e
    → ((h : Hardened) → IsAt p h → IsMove (state shared) p h e)
    → ((h : Hardened) → IsAt p h → IsOwn p h e → AreMade code (number_of e.act) (created (hardened (rules_of code)) e.act ((hardened (rules_of code)).want h)) made)
    → (new : State Hardened) × Step (hardened (rules_of code)) s e new × StandAs code shared' (slice_set ys e.thread q ++ option_to_list made) new
went_so code shared shared' ps ys s e p q made st at i j k move more =
    let x = entered code shared ps s e p made st at move more in (
      x.0,
      x.1,
      subst (λ z. StandAs code z (slice_set ys e.thread q ++ option_to_list made) x.0) (sym i) (subst (λ z. StandAs code (appended shared e) (slice_set z e.thread q ++ option_to_list made) x.0) (sym j)
          (subst (λ z. StandAs code (appended shared e) (slice_set ps e.thread z ++ option_to_list made) x.0) (sym k) x.2)),
    )

pub take-requires-clause-named : goal.take-requires-clause-named
take-requires-clause-named c = can_create c.args.code.now c.graphs-graphs.ensures.lowered.formed c.args.shared.now c.args.privates.now.items c.requires.0 c.args.event.now.thread c.index_mut.result.now c.requires.1 (here c.args.privates.now.items c.reserve.new.self.items c.args.privates.now.len c.len.result c.args.event.now.thread _ c.reserve.ensures.items c.len.ensures c.args.privates.now.ok.0 c.if-thread-len.false c.index_mut.ensures.value)

pub returns-in_default-clause-parts : goal.returns-in_default-clause-parts
returns-in_default-clause-parts c =
    let p = c.index_mut.result.now in
    let at = here c.args.privates.now.items c.reserve.new.self.items c.args.privates.now.len c.len.result c.args.event.now.thread p c.reserve.ensures.items c.len.ensures c.args.privates.now.ok.0 c.if-thread-len.false c.index_mut.ensures.value in
    let e = c.in-Ok-take.ensures in
    let x = went_so c.args.code.now c.args.shared.now c.take.new.shared c.args.privates.now.items c.reserve.new.self.items c.requires.0 c.args.event.now p c.take.new.own c.in-Ok-take.made c.requires.1 at e.made.0 c.reserve.ensures.items e.made.1 e.exact e.thread in
    let same = ap (λ o. slice_set c.reserve.new.self.items c.args.event.now.thread c.take.new.own ++ option_to_list o) c.in_default.is ∙ append-nil _ in
    (x.0, subst (λ l. StandAs c.args.code.now c.take.new.shared l x.0) same x.2)

pub returns-in_default-clause-exact : goal.returns-in_default-clause-exact
returns-in_default-clause-exact c s st =
    let p = c.index_mut.result.now in
    let at = here c.args.privates.now.items c.reserve.new.self.items c.args.privates.now.len c.len.result c.args.event.now.thread p c.reserve.ensures.items c.len.ensures c.args.privates.now.ok.0 c.if-thread-len.false c.index_mut.ensures.value in
    let e = c.in-Ok-take.ensures in
    let x = went_so c.args.code.now c.args.shared.now c.take.new.shared c.args.privates.now.items c.reserve.new.self.items s c.args.event.now p c.take.new.own c.in-Ok-take.made st at e.made.0 c.reserve.ensures.items e.made.1 e.exact e.thread in
    (x.0, x.1)

pub returns-clause-parts : goal.returns-clause-parts
returns-clause-parts c =
    let p = c.index_mut.result.now in
    let at = here c.args.privates.now.items c.reserve.new.self.items c.args.privates.now.len c.len.result c.args.event.now.thread p c.reserve.ensures.items c.len.ensures c.args.privates.now.ok.0 c.if-thread-len.false c.index_mut.ensures.value in
    let e = c.in-Ok-take.ensures in
    let x = went_so c.args.code.now c.args.shared.now c.take.new.shared c.args.privates.now.items c.reserve.new.self.items c.requires.0 c.args.event.now p c.take.new.own c.in-Ok-take.made c.requires.1 at e.made.0 c.reserve.ensures.items e.made.1 e.exact e.thread in
    let same = ap (λ o. slice_set c.reserve.new.self.items c.args.event.now.thread c.take.new.own ++ option_to_list o) c.in-Some.is ∙ sym c.push_reserved.ensures.items in
    (x.0, subst (λ l. StandAs c.args.code.now c.take.new.shared l x.0) same x.2)

pub returns-clause-exact : goal.returns-clause-exact
returns-clause-exact c s st =
    let p = c.index_mut.result.now in
    let at = here c.args.privates.now.items c.reserve.new.self.items c.args.privates.now.len c.len.result c.args.event.now.thread p c.reserve.ensures.items c.len.ensures c.args.privates.now.ok.0 c.if-thread-len.false c.index_mut.ensures.value in
    let e = c.in-Ok-take.ensures in
    let x = went_so c.args.code.now c.args.shared.now c.take.new.shared c.args.privates.now.items c.reserve.new.self.items s c.args.event.now p c.take.new.own c.in-Ok-take.made st at e.made.0 c.reserve.ensures.items e.made.1 e.exact e.thread in
    (x.0, x.1)

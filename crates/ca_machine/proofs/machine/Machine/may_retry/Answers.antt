use Rattle.std.proofs.Common.{◌≡◌, ◌≤◌, length, Some, ap, subst, ◌∙◌, arith, false}
use Rattle.std.specs.Prelude.{is_some, slice_get}
use Rattle.std.proofs.lemmas.Option.{slice_get_within}
use Rattle.ca_model.specs.Codes.{code_of}
use Rattle.ca_model.specs.Hardened.{Hardened, retry_site}
use Rattle.ca_model.specs.Machine.{State}
use Rattle.ca_flow.specs.Lowerings.{Lowering, rules_of}
use Rattle.ca_machine.specs.Machines.{Traced, Reaches}
use Rattle.ca_machine.proofs.Entering.{codes_are, stands_as}
use Rattle.ca_machine.proofs.Standing.{found}
use Rattle.ca_machine.proofs.machine.Machine.may_retry.Goals as goal

pub can_retry-requires : goal.can_retry-requires
can_retry-requires c =
    codes_are c.self.inside.code c.self.inside.shared c.self.inside.privates.items c.args.thread c.in-Some.own.now c.self.invariant
    (subst (λ ps. slice_get ps c.args.thread ≡ Some c.in-Some.own.now) c.deref.ensures.value (found c.deref.result.now c.args.thread c.in-Some.own.now c.in-Some.ensures.lookup.0 c.in-Some.ensures.lookup.1))

pub returns-in-Some : goal.returns-in-Some
returns-in-Some c =
    subst (λ (m : Traced). (s : State Hardened) (h : Hardened) → Reaches m s → slice_get s.threads c.args.thread ≡ Some h → c.is_some.result ≡ is_some (retry_site (code_of m.source m.plan) h)) c.self.view_is (λ s h run there.
    let st = stands_as _ _ _ s c.self.invariant run in
    let i = st.each c.args.thread c.in-Some.own.now h (subst (λ ps. slice_get ps c.args.thread ≡ Some c.in-Some.own.now) c.deref.ensures.value (found c.deref.result.now c.args.thread c.in-Some.own.now c.in-Some.ensures.lookup.0 c.in-Some.ensures.lookup.1)) there in
    c.is_some.ensures ∙ (ap is_some (c.can_retry.ensures h i.stands) ∙ ap (λ (l : Lowering). is_some (retry_site (rules_of l) h)) i.code))

pub returns-in-None : goal.returns-in-None
returns-in-None c =
    subst (λ (m : Traced). (s : State Hardened) (h : Hardened) → Reaches m s → slice_get s.threads c.args.thread ≡ Some h → false ≡ is_some (retry_site (code_of m.source m.plan) h)) c.self.view_is (λ s h run there.
    let st = stands_as _ _ _ s c.self.invariant run in
    let lt = slice_get_within s.threads c.args.thread h there in
    let many : length c.self.inside.privates.items ≡ length s.threads = st.as_many in
    let same : length c.deref.result.now ≡ length c.self.inside.privates.items = ap length c.deref.ensures.value in
    let out : length c.deref.result.now ≤ c.args.thread = c.in-None.ensures.lookup.3 in
    absurd (omega arith))

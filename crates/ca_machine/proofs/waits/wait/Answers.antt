use Rattle.std.proofs.Common.{◌≡◌, ◌≤◌, ◌<◌, length, Some, arith, refl, sym, ap, subst, ◌∙◌, inl}
use Rattle.std.specs.Prelude.{slice_get}
use Rattle.std.proofs.lemmas.Option.{slice_get_within}
use Rattle.ca_model.specs.Hardened.{hardened}
use Rattle.ca_model.specs.Shared.{Shared}
use Rattle.ca_flow.specs.Lowerings.{Lowering, rules_of}
use Rattle.ca_shared.specs.Histories.{state}
use Rattle.ca_thread.specs.Privates.{Thread}
use Rattle.ca_machine.specs.Coming.{IsWaitAt}
use Rattle.ca_machine.proofs.Entering.{codes_are}
use Rattle.ca_machine.proofs.Standing.{found}
use Rattle.ca_machine.proofs.waits.wait.Goals as goal

pub wait_of-requires : goal.wait_of-requires
wait_of-requires c = codes_are c.args.code.now c.args.shared.now c.args.privates.now c.args.thread c.in-Some.own.now c.requires (found c.args.privates.now c.args.thread c.in-Some.own.now c.in-Some.ensures.lookup.0 c.in-Some.ensures.lookup.1)

pub returns-in-Some : goal.returns-in-Some
returns-in-Some c s st = record {
  there = λ h there.
      let i = st.each c.args.thread p h own there in
      let told : IsWaitAt (state c.args.shared.now) ((hardened (rules_of c.args.code.now)).want h) c.wait_of.result = subst (λ (l : Lowering). IsWaitAt (state c.args.shared.now) ((hardened (rules_of l)).want h) c.wait_of.result) i.code (c.wait_of.ensures h i.stands) in
      inl (ap (λ (x : Shared). x.phase) st.same ∙ sym c.in-Open.ensures, subst (λ (x : Shared). IsWaitAt x ((hardened (rules_of c.args.code.now)).want h) c.wait_of.result) (sym st.same) told);
  beyond = λ le.
      let lt : c.args.thread < length c.args.privates.now = slice_get_within c.args.privates.now c.args.thread p own in
      let many : length c.args.privates.now ≡ length s.threads = st.as_many in
      let counted : s.shared.threads ≡ length s.threads = st.counted in
      absurd (omega arith);
}
  where
    p : Thread
    p = c.in-Some.own.now

    own : slice_get c.args.privates.now c.args.thread ≡ Some p
    own = found c.args.privates.now c.args.thread p c.in-Some.ensures.lookup.0 c.in-Some.ensures.lookup.1

pub returns-in-None : goal.returns-in-None
returns-in-None c s st = record {
  there = λ h there.
      let lt = slice_get_within s.threads c.args.thread h there in
      let many : length c.args.privates.now ≡ length s.threads = st.as_many in
      let out : length c.args.privates.now ≤ c.args.thread = c.in-None.ensures.lookup.3 in
      absurd (omega arith);
  beyond = λ le. refl;
}

-- What the parts of a machine say of an event, both ways.
use Rattle.std.proofs.Common.{◌≡◌, ◌<◌, ℕ, zero, suc, List, [], ◌∷◌, ◌++◌, length, Option, Some, None, refl, sym, ap, subst, ◌∙◌, arith, inl, inr}
use Rattle.std.specs.Prelude.{Err, ◌==◌, if◌then◌else◌, slice_get, slice_set, option_to_list}
use Rattle.std.proofs.lemmas.Bool.{eq-eqb}
use Rattle.std.proofs.lemmas.Option.{slice_get_within}
use Rattle.ca_model.specs.declared.values.Event.{Event}
use Rattle.ca_model.specs.Hardened.{Hardened, hardened, hardened_advance, HardenedDue}
use Rattle.ca_model.specs.Machine.{Rules, State, Step, Run, created}
use Rattle.ca_model.specs.Opening.{opening}
use Rattle.ca_model.specs.Shared.{IsLegal}
use Rattle.ca_model.specs.Arith.{null}
use Rattle.ca_model.proofs.Law.{get_set, length_set, get_one, one_of}
use Rattle.ca_model.proofs.OneEntry.{if_some}
use Rattle.ca_model.proofs.Steps.{next_is_fixed}
use Rattle.ca_flow.specs.Lowerings.{Lowering, rules_of}
use Rattle.ca_shared.specs.Histories.{History, state, appended}
use Rattle.ca_thread.specs.Privates.{Thread}
use Rattle.ca_machine.specs.Machines.{IsAt, IsThread, StandAs, AreParts, Reaches, went_on}
use Rattle.ca_machine.specs.Moves.{Decides, IsOwn, IsMove, AreMade, number_of}
use Rattle.ca_machine.specs.declared.steps.FollowNo.{FollowNo}
use Rattle.ca_machine.specs.declared.steps.FollowNo.TheVariants as no
use Rattle.ca_machine.proofs.Stepping.{step, stand_on}

-- the thread of a state at the place of a private one
pub threaded : (code : Lowering) (shared : History) (ps : List Thread) (s : State Hardened) (t : ℕ) (p : Thread) → StandAs code shared ps s → slice_get ps t ≡ Some p → (h : Hardened) × (slice_get s.threads t ≡ Some h) × IsThread code t h p
threaded code shared ps s t p st at =
    let within : t < length s.threads = let w = slice_get_within ps t p at in let m = st.as_many in omega arith in
    let h = get_one s.threads t within in
    (h.0, h.1, st.each t p h.0 at h.1)

pub codes_are : (code : Lowering) (shared : History) (ps : List Thread) (t : ℕ) (p : Thread) → AreParts code shared ps → slice_get ps t ≡ Some p → code ≡ p.code
codes_are code shared ps t p st at = let x = threaded code shared ps st.0 t p st.1 at in sym x.2.code

-- a private state that has made room is the same thread
pub room_made : (code : Lowering) (shared : History) (ps : List Thread) (s : State Hardened) (t : ℕ) (p : Thread) (e : Option Event) → StandAs code shared ps s → slice_get ps t ≡ Some p → StandAs code shared (slice_set ps t (record p { prepared = e })) s
room_made code shared ps s t p e st at = record {
  run = st.run;
  globals = st.globals;
  mutexes = st.mutexes;
  same = st.same;
  counted = st.counted;
  as_many = length_set ps t (record p { prepared = e }) ∙ st.as_many;
  each = λ u q h there stands. elim (get_set ps t u (record p { prepared = e }) q there) [
    | inl x ↦
        let i = st.each t p h at (subst (λ n. slice_get s.threads n ≡ Some h) (sym x.0) stands) in
        subst (λ n. IsThread code n h q) x.0 (subst (IsThread code t h) (one_of (record p { prepared = e }) q x.1) (record { code = i.code; number = i.number; stands = i.stands }))
    | inr x ↦ st.each u q h x.1 stands
  ];
}

-- a step is a move of its thread
pub moves : (code : Lowering) (shared : History) (ps : List Thread) (s new : State Hardened) (e : Event) (p : Thread) (h : Hardened) → StandAs code shared ps s → slice_get ps e.thread ≡ Some p → slice_get s.threads e.thread ≡ Some h → Step (hardened (rules_of code)) s e new
    → IsMove (state shared) p h e
moves code shared ps s new e p h st at there step' =
    let i = st.each e.thread p h at there in
    let same : step'.before ≡ h = one_of step'.before h (sym step'.stands ∙ there) in
    let own : hardened_advance (rules_of p.code) h e.act ≡ Some step'.after = subst (λ c. hardened_advance (rules_of c) h e.act ≡ Some step'.after) (sym i.code) (subst (λ x. hardened_advance (rules_of code) x e.act ≡ Some step'.after) same step'.own) in
    let due : HardenedDue (rules_of code) (state shared) e.thread h e.act = subst (λ x. HardenedDue (rules_of code) x e.thread h e.act) st.same (subst (λ x. HardenedDue (rules_of code) s.shared e.thread x e.act) same step'.due) in
    record {
      entry = record {
        own = (step'.after, ap (λ b. if b then hardened_advance (rules_of p.code) h e.act else None) (eq-eqb e.thread p.thread (sym i.number)) ∙ own);
        legal = subst (λ x. IsLegal x e.thread e.act) st.same step'.legal;
      };
      due = subst (λ c. HardenedDue (rules_of c) (state shared) e.thread h e.act) (sym i.code) due;
    }

-- and a move is a step
pub entered : (code : Lowering) (shared : History) (ps : List Thread) (s : State Hardened) (e : Event) (p : Thread) (made : Option Thread) → StandAs code shared ps s → slice_get ps e.thread ≡ Some p
    → ((h : Hardened) → IsAt p h → IsMove (state shared) p h e)
    → ((h : Hardened) → IsAt p h → IsOwn p h e → AreMade code (number_of e.act) (created (hardened (rules_of code)) e.act ((hardened (rules_of code)).want h)) made)
    → (new : State Hardened) × Step (hardened (rules_of code)) s e new × StandAs code (appended shared e) (slice_set ps e.thread (went_on p e) ++ option_to_list made) new
entered code shared ps s e p made st at move more =
    let x = threaded code shared ps s e.thread p st at in
    let m = move x.0 x.2.stands in
    let own : (hardened (rules_of code)).advance x.0 e.act ≡ Some m.entry.own.0 =
    subst (λ c. hardened_advance (rules_of c) x.0 e.act ≡ Some m.entry.own.0) x.2.code (if_some (e.thread == p.thread) (hardened_advance (rules_of p.code) x.0 e.act) m.entry.own.0 m.entry.own.1).1 in
    let due : HardenedDue (rules_of code) (state shared) e.thread x.0 e.act = subst (λ c. HardenedDue (rules_of c) (state shared) e.thread x.0 e.act) x.2.code m.due in
    let made' = more x.0 x.2.stands m.entry.own in
    (_, step code shared ps s st e p x.0 m.entry.own.0 made at x.1 own m.entry.legal due made', stand_on code shared ps s st e p x.0 m.entry.own.0 made at x.1 own m.entry.legal due made')

-- what refuses one thing refuses each that implies it
pub refused : (S T : Type 0) (n : FollowNo) (P Q : Type 0) → (Q → P) → Decides {T = S} (Err n) P → Decides {T = T} (Err n) Q
refused S T no.NotAStep P Q f d = λ q. d (f q)
refused S T no.NoMemory P Q f d = tt

-- a run reaches one state
pub one_state : (r : Rules Hardened) (es : List Event) (old a b : State Hardened) → Run r old es a → Run r old es b → a ≡ b
one_state r [] old a b p q = p ∙ sym q
one_state r (e ∷ es) old a b (m, s, p) (n, t, q) = one_state r es n a b (subst (λ x. Run r x es a) (next_is_fixed r old e m n s t) p) q

-- the parts stand as each state that the entries reach
pub stands_as : (code : Lowering) (shared : History) (ps : List Thread) (s : State Hardened) → AreParts code shared ps → Reaches (record { source = code.source; plan = code.plan; trace = shared.trace }) s → StandAs code shared ps s
stands_as code shared ps s parts run = subst (StandAs code shared ps) (one_state (hardened (rules_of code)) shared.trace _ parts.0 s parts.1.run run) parts.1

abbrev pub first_thread : Lowering → Thread
first_thread code = record { code = code; thread = 0; own = record { function = code.source.main; argument = null; entries = [] }; prepared = None }

pub opening_stands : (code : Lowering) → StandAs code (record { globals = code.source.globals; mutexes = code.source.mutexes; trace = [] }) (first_thread code ∷ []) (opening (hardened (rules_of code)) code.source)
opening_stands code = record {
  run = refl;
  globals = refl;
  mutexes = refl;
  same = refl;
  counted = refl;
  as_many = refl;
  each = first;
}
  where
    first : (t : ℕ) (p : Thread) (h : Hardened) → slice_get (first_thread code ∷ []) t ≡ Some p → slice_get (opening (hardened (rules_of code)) code.source).threads t ≡ Some h → IsThread code t h p
    first zero p h at stands = subst (λ x. IsThread code 0 x p) (one_of _ h stands) (subst (IsThread code 0 ((hardened (rules_of code)).start code.source.main null)) (one_of (first_thread code) p at) (record { code = refl; number = refl; stands = refl }))
    first (suc t) p h at stands = absurd cc

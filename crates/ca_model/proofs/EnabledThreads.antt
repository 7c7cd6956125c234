-- The enabled threads of a state are found one by one.
use Rattle.std.proofs.Common.{◌≡◌, ℕ, zero, suc, ◌+◌, ◌^◌, ◌<◌, ◌≤◌, true, false, List, [], ◌∷◌, Option, Some, None, refl, sym, ap, ◌∙◌, subst, arith, inl, inr}
use Rattle.std.specs.Prelude.{ℤ, ◌⊎◌, ◌↔◌, Contains, slice_get}
use Rattle.std.specs.FinSet as set
use Rattle.std.specs.List.{AllPairs}
use Rattle.std.specs.List.Sorted.{IsStrictlyIncreasing}
use Rattle.std.proofs.lemmas.Bool.{cases_Bool, cases_lt, false≢true}
use Rattle.std.proofs.lemmas.List.Elements.{All-weaker, All-contains_itself}
use Rattle.std.proofs.lemmas.List.Kept.{AllPairs-cons}
use Rattle.ca_tree.specs.declared.numbers.SiteId.{SiteId}
use Rattle.ca_model.specs.declared.values.Value.{Value}
use Rattle.ca_model.specs.declared.values.Given.{Given}
use Rattle.ca_model.specs.declared.values.Event.{Event}
use Rattle.ca_model.specs.declared.values.EventAct.{EventAct}
use Rattle.ca_model.specs.declared.values.EventAct.TheVariants as act
use Rattle.ca_model.specs.Asks.{Want, Locks, Mallocs}
use Rattle.ca_model.specs.Private.{stand, answer, going_on}
use Rattle.ca_model.specs.Shared.{Shared, Open, effect}
use Rattle.ca_model.specs.Frames.{Code}
use Rattle.ca_model.specs.Machine.{by, State, Step, threads_after}
use Rattle.ca_model.specs.Hardened.{Hardened, hardened, retry_site, taking, HardenedDue}
use Rattle.ca_model.specs.Opening.{CanStep}
use Rattle.ca_model.specs.Runner.{IsLeastUnused, IsTimeout, since_last, Comes, Moves, TimesOut, IsReady, IsEnabled, AreEnabled}
use Rattle.ca_model.specs.ComingEntries.{EndedBelow, gives_at, the_entry, entry_of}
use Rattle.ca_model.proofs.Law.{one_of}
use Rattle.ca_model.proofs.Members.{in_none, in_cons, at_head, at_tail}
use Rattle.ca_model.proofs.Creates.{frames_some}
use Rattle.ca_model.proofs.OneEntry.{answer_some, comes_as, due_from, one_event}
use Rattle.ca_model.proofs.MayCome.{Possible, decide}

-- a fact that is known to hold or not to hold
abbrev pub Known : Type 0 → Type 0
Known P = P ⊎ (P → ⊥)

-- of the numbers below a bound, those with a property that is known at each
module _ (P : ℕ → Type 0) (known : (n : ℕ) → Known (P n)) where
  pub any_below : (m : ℕ) → Known ((n : ℕ) × (n < m) × P n)
  any_below zero = inr (λ a. omega (arith, a.1))
  any_below (suc m) = found (known m) (any_below m)
    where
      found : Known (P m) → Known ((n : ℕ) × (n < m) × P n) → Known ((n : ℕ) × (n < suc m) × P n)
      found (inl h) rest = inl (m, omega arith, h)
      found (inr no') (inl (n, lt, h)) = inl (n, omega (arith, lt), h)
      found (inr no') (inr none) = inr (λ (n, lt, h). last n lt h (cases_lt n m))
        where
          last : (n : ℕ) → n < suc m → P n → (n < m) ⊎ (m ≤ n) → ⊥
          last n lt h (inl below) = none (n, below, h)
          last n lt h (inr above) = no' (subst P (omega (arith, lt, above)) h)

  abbrev Below : ℕ → ℕ → Type 0
  Below x y = x < y

  record Selected (a m : ℕ) : Type 0 where
    list : List ℕ
    up : AllPairs Below list
    exact : (n : ℕ) → Contains list n ↔ ((a ≤ n) × (n < a + m) × P n)

  select : (a m : ℕ) → Selected a m
  select a zero = record {
    list = [];
    up = λ i j d lt within. absurd (let never : ⊥ = omega (arith, within) in never);
    exact = λ n. ((λ c. absurd (in_none n c)), (λ b. absurd (let never : ⊥ = omega (arith, b.0, b.1) in never)));
  }
  select a (suc m) = chosen (known a) (select (suc a) m)
    where
      chosen : Known (P a) → Selected (suc a) m → Selected a (suc m)
      chosen (inl h) rest = record {
        list = a ∷ rest.list;
        up = AllPairs-cons Below a rest.list (All-weaker (Contains rest.list) (Below a) (λ n c. let b = (rest.exact n).0 c in omega (arith, b.0)) rest.list (All-contains_itself rest.list)) rest.up;
        exact = λ n. (
          (λ c. elim (in_cons a rest.list n c) [
            | inl is ↦ (omega (arith, is), omega (arith, is), subst P is h)
            | inr d ↦ let b = (rest.exact n).0 d in (omega (arith, b.0), omega (arith, b.1), b.2)
          ]),
          (λ b. elim (cases_lt a n) [
            | inl lt ↦ at_tail a rest.list n ((rest.exact n).1 (omega (arith, lt), omega (arith, b.1), b.2))
            | inr le ↦ subst (Contains (a ∷ rest.list)) (omega (arith, le, b.0)) (at_head a rest.list)
          ]),
        );
      }
      chosen (inr no') rest = record {
        list = rest.list;
        up = rest.up;
        exact = λ n. (
          (λ c. let b = (rest.exact n).0 c in (omega (arith, b.0), omega (arith, b.1), b.2)),
          (λ b. elim (cases_lt a n) [
            | inl lt ↦ (rest.exact n).1 (omega (arith, lt), omega (arith, b.1), b.2)
            | inr le ↦ absurd (no' (subst P (omega (arith, le, b.0)) b.2))
          ]),
        );
      }

  -- the list of them, if none is at or above the bound
  pub all_below : (m : ℕ) → ((n : ℕ) → P n → n < m) → (list : List ℕ) × IsStrictlyIncreasing list × ((n : ℕ) → Contains list n ↔ P n)
  all_below m bound =
      let all = select 0 m in
      (all.list, (λ k lt. all.up k (k + 1) 0 (omega arith) lt), λ n. ((λ c. ((all.exact n).0 c).2), (λ h. (all.exact n).1 (omega arith, omega (arith, bound n h), h))))

pub timeout_known : (a : EventAct) (w : Want) → Known (IsTimeout a w)
timeout_known (act.Retry site gives) (Locks m s i) = inl tt
timeout_known _ _ = inr (λ w. w)

-- a thread that makes a block wants one
pub wants_block : (g : Shared) (t k : ℕ) (r : Option SiteId) (gives : List Given) (w : Want) (n : ℤ) (x y : Value) → answer w (act.Malloc n x) ≡ Some y → the_entry g t k r gives w ≡ None → ⊥
wants_block g t k r gives (Mallocs cells i) n x y e none = cc
wants_block g t k r gives _ n x y e none = cc

module _ (code : Code) (events patience : ℕ) where
  module _ (s : State Hardened) (past : List Event) (k : ℕ) (used : IsLeastUnused s.shared.blocks k) (few : k < 2 ^ 32) (ended : EndedBelow s.shared) (run : s.shared.phase ≡ Open) where
    -- an entry of a thread that goes on
    pub comes : (t : ℕ) (h : Hardened) → slice_get s.threads t ≡ Some h → t < s.shared.threads → set.contains s.shared.ended t ≡ false
        → (a : EventAct) → Possible code h s.shared t k (stand code h.frames).go (stand code h.frames).want a → (new : State Hardened) × Comes code events patience s t a new
    comes t h stands there going a p = (
      record { shared = effect s.shared t a; threads = threads_after (hardened code) s.threads t (stand code h.frames).want a p.after },
      record {
        step = record {
          before = h;
          after = p.after;
          stands = stands;
          own = p.own;
          legal = record { run = run; there = there; going = going; allowed = p.allowed };
          due = due_from code s.shared t h a p.due;
          shared = refl;
          threads = refl;
        };
        chosen = p.chosen;
      },
    )

    abbrev Nothing : ℕ → Type 0
    Nothing t = (a : EventAct) (new : State Hardened) → Comes code events patience s t a new → ⊥

    abbrev SomeEntry : ℕ → Type 0
    SomeEntry t = (a : EventAct) × (new : State Hardened) × Comes code events patience s t a new

    some_known : (t : ℕ) → SomeEntry t ⊎ Nothing t
    some_known t = stood (slice_get s.threads t) refl (cases_lt t s.shared.threads) (cases_Bool (set.contains s.shared.ended t))
      where
        stood : (o : Option Hardened) → slice_get s.threads t ≡ o → (t < s.shared.threads) ⊎ (s.shared.threads ≤ t) → (set.contains s.shared.ended t ≡ true) ⊎ (set.contains s.shared.ended t ≡ false) → SomeEntry t ⊎ Nothing t
        stood None is there going = inr (λ a new c. let no' : None ≡ Some c.step.before = sym is ∙ c.step.stands in absurd cc)
        stood (Some h) is (inr le) going = inr (λ a new c. omega (arith, le, c.step.legal.there))
        stood (Some h) is (inl lt) (inl was) = inr (λ a new c. false≢true (sym c.step.legal.going ∙ was))
        stood (Some h) is (inl lt) (inr going) = elim (decide code h s.shared t k (stand code h.frames).go used few (omega (arith, lt)) (stand code h.frames).want) [
          | inl (a, p) ↦ let c = comes t h is lt going a p in inl (a, c.0, c.1)
          | inr none ↦ inr (λ a new c.
              let same : h ≡ c.step.before = one_of h c.step.before (sym is ∙ c.step.stands) in
              let no' : None ≡ Some a = sym none ∙ (ap (entry_of code s.shared t k) same ∙ comes_as code events patience s t k used ended a new c) in
              absurd cc)
        ]

    abbrev MovesNow : ℕ → Type 0
    MovesNow t = Moves code events patience s t

    abbrev TimesOutNow : ℕ → Type 0
    TimesOutNow t = TimesOut code events patience s t

    -- what a thread may do
    data Status (t : ℕ) : Type 0 where
      moves : MovesNow t → Status t
      times_out : TimesOutNow t → (MovesNow t → ⊥) → Status t
      rests : (MovesNow t → ⊥) → (TimesOutNow t → ⊥) → Status t

    status : (t : ℕ) → Status t
    status t = elim (some_known t) [
      | inl (a, new, c) ↦ elim (timeout_known a ((hardened code).want c.step.before)) [
        | inl late ↦ times_out (a, new, c, late) (λ (b, other, d, no'). no' (timed a b new other c d late))
        | inr no' ↦ moves (a, new, c, no')
      ]
      | inr none ↦ rests (λ (a, new, c, w). none a new c) (λ (a, new, c, w). none a new c)
    ]
      where
        timed : (a b : EventAct) (new other : State Hardened) (c : Comes code events patience s t a new) (d : Comes code events patience s t b other) → IsTimeout a ((hardened code).want c.step.before) → IsTimeout b ((hardened code).want d.step.before)
        timed a b new other c d late =
            subst (λ h. IsTimeout b ((hardened code).want h)) (one_of c.step.before d.step.before (sym c.step.stands ∙ d.step.stands))
            (subst (λ e. IsTimeout e ((hardened code).want c.step.before)) (one_event code events patience s t k used ended a b new other c d) late)

    abbrev Ready : ℕ → Type 0
    Ready t = IsReady code events patience s past t

    abbrev Enabled : ℕ → Type 0
    Enabled t = IsEnabled code events patience s past t

    ready_known : (t : ℕ) → Known (Ready t)
    ready_known t = elim (status t) [
      | moves m ↦ inl (inl m)
      | times_out o no' ↦ elim (cases_lt (since_last 0 t past) patience) [
        | inl early ↦ inr (λ r. elim r [ inl m ↦ no' m | inr w ↦ omega (arith, early, w.1) ])
        | inr waited ↦ inl (inr (o, waited))
      ]
      | rests no' none ↦ inr (λ r. elim r [ inl m ↦ no' m | inr w ↦ none w.0 ])
    ]

    there_ready : (t : ℕ) → Ready t → t < s.shared.threads
    there_ready t (inl m) = m.2.step.legal.there
    there_ready t (inr w) = w.0.2.step.legal.there

    pub there_enabled : (t : ℕ) → Enabled t → t < s.shared.threads
    there_enabled t (inl r) = there_ready t r
    there_enabled t (inr w) = w.1.2.step.legal.there

    enabled_known : (t : ℕ) → Known (Enabled t)
    enabled_known t = elim (ready_known t) [
      | inl r ↦ inl (inl r)
      | inr no' ↦ elim (any_below Ready ready_known s.shared.threads) [
        | inl some ↦ inr (λ e. elim e [ inl r ↦ no' r | inr w ↦ w.0 some.0 some.2 ])
        | inr none ↦ elim (status t) [
          | moves m ↦ absurd (no' (inl m))
          | times_out o never ↦ inl (inr ((λ u r. none (u, there_ready u r, r)), o))
          | rests never not ↦ inr (λ e. elim e [ inl r ↦ no' r | inr w ↦ not w.1 ])
        ]
      ]
    ]

    -- the list of the enabled threads
    pub enabled_list : (list : List ℕ) × AreEnabled code events patience s past list
    enabled_list = let all = all_below Enabled enabled_known s.shared.threads there_enabled in (all.0, record { ascend = all.1; exactly = all.2 })

    -- an enabled thread has an entry
    pub enabled_comes : (t : ℕ) → Enabled t → SomeEntry t
    enabled_comes t (inl (inl m)) = (m.0, m.1, m.2)
    enabled_comes t (inl (inr w)) = (w.0.0, w.0.1, w.0.2)
    enabled_comes t (inr w) = (w.1.0, w.1.1, w.1.2)

    -- where a step of a thread is possible, so is an entry that the runner may choose
    pub none_stuck : (t : ℕ) (a : EventAct) (new : State Hardened) (st : Step (hardened code) s (by t a) new) → entry_of code s.shared t k st.before ≡ None → ⊥
    none_stuck t (act.Malloc n x) new st none =
        let h = st.before in
        let frames = frames_some (going_on (stand code h.frames) (answer (stand code h.frames).want (act.Malloc n x))) (taking code (stand code h.frames).want (act.Malloc n x)) h.saved st.after st.own in
        let value = answer_some (stand code h.frames) (answer (stand code h.frames).want (act.Malloc n x)) frames.0 frames.1 in
        wants_block s.shared t k (retry_site code h) (gives_at s.shared t h.saved) (stand code h.frames).want n x value.0 value.1 none
    none_stuck t a new st none =
        let no' : None ≡ Some a = sym none ∙ comes_as code events patience s t k used ended a new (record { step = st; chosen = tt }) in
        cc

    pub step_comes : (t : ℕ) (a : EventAct) (new : State Hardened) → Step (hardened code) s (by t a) new → SomeEntry t
    step_comes t a new st =
        let h = st.before in
        elim (decide code h s.shared t k (stand code h.frames).go used few (omega (arith, st.legal.there)) (stand code h.frames).want) [
          | inl (b, p) ↦ let c = comes t h st.stands st.legal.there st.legal.going b p in (b, c.0, c.1)
          | inr none ↦ absurd (none_stuck t a new st none)
        ]

    -- so where no thread is enabled, no step is possible
    pub no_step : ((t : ℕ) → Enabled t → ⊥) → CanStep (hardened code) s → ⊥
    no_step none (e, new, st) = late (step_comes e.thread e.act new st)
      where
        late : SomeEntry e.thread → ⊥
        late (a, mid, c) = elim (timeout_known a ((hardened code).want c.step.before)) [
          | inl w ↦ none e.thread (inr ((λ u r. none u (inl r)), (a, mid, c, w)))
          | inr no' ↦ none e.thread (inl (inl (a, mid, c, no')))
        ]

    pub enabled_steps : (t : ℕ) → Enabled t → CanStep (hardened code) s
    enabled_steps t e = let c = enabled_comes t e in (by t c.0, c.1, c.2.step)

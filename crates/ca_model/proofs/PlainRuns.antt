-- Without a plan the hardened machine has the source's runs.
use Rattle.std.proofs.Common.{◌≡◌, ℕ, Bool, true, false, List, [], ◌∷◌, ◌++◌, map, Option, Some, None, refl, sym, ap, ◌∙◌, subst}
use Rattle.std.specs.Prelude.{slice_set, ◌↔◌}
use Rattle.std.proofs.lemmas.List.{map-append}
use Rattle.ca_tree.specs.declared.numbers.ItemId.{ItemId}
use Rattle.ca_tree.specs.declared.numbers.SiteId.{SiteId}
use Rattle.ca_model.specs.declared.values.Given.{Given}
use Rattle.ca_model.specs.declared.values.Value.{Value}
use Rattle.ca_model.specs.declared.values.Event.{Event}
use Rattle.ca_model.specs.declared.values.EventAct.{EventAct}
use Rattle.ca_model.specs.declared.values.EventAct.TheVariants as event
use Rattle.ca_model.specs.declared.values.Ending.{Ending}
use Rattle.ca_model.specs.declared.values.Ending.TheVariants as ending
use Rattle.ca_model.specs.declared.tree.Act.{Act}
use Rattle.ca_model.specs.declared.tree.Act.TheVariants as act
use Rattle.ca_model.specs.declared.tree.Target.{Target}
use Rattle.ca_model.specs.declared.tree.Target.TheVariants as target
use Rattle.ca_model.specs.declared.tree.Stmt.{Stmt, out-Stmt}
use Rattle.ca_model.specs.declared.tree.Stmt.TheOpen.{Stmt-F}
use Rattle.ca_model.specs.Asks.{Want, Creates, Saves, Returns, Got, Is, Wants, No_result}
use Rattle.ca_model.specs.Laws.{OnWants, AsksOnly}
use Rattle.ca_model.specs.Items.{Done, act_run}
use Rattle.ca_model.specs.Frames.{Code, Left, Begin, Run, Loop, stmt_run, left_run, first_run, begun, wanted}
use Rattle.ca_model.specs.Private.{Thread, stand, answer, going_on, advance, last_want}
use Rattle.ca_model.specs.Shared.{Shared, effect, IsDue}
use Rattle.ca_model.specs.Machine.{Rules, State, Step, created, started, threads_after}
use Rattle.ca_model.specs.Machine as machine
use Rattle.ca_model.specs.Hardened.{Hardened, if_saves, hardened_advance, HardenedDue}
use Rattle.ca_model.specs.Codes.{Typed, code_of}
use Rattle.ca_model.specs.Opening.{opening, CanStep, EndsAs}
use Rattle.ca_model.specs.SourceRuns.{no_plan, rules_of}
use Rattle.ca_model.specs.Unhardened.{unsaved, unsaved_state, unhardened, RunsAlike}
use Rattle.ca_model.proofs.EmptyPlan.{unsaved_of, no_retry, as_plain}
use Rattle.ca_model.proofs.Law.{one_of}
use Rattle.ca_model.proofs.Mapped.{get_map, got_map, map_set}
use Rattle.ca_model.proofs.Steps.{same_state}
use Rattle.ca_model.proofs.OwnWants.{OwnStores, OwnWants, only_then, only_ask, act_only}

-- no item wants a save
abbrev wants_save : Want → Bool
wants_save Saves = true
wants_save w = false

abbrev NoSave : Want → Type 0
NoSave w = wants_save w ≡ false

stores_save : (t : Target) → OwnStores NoSave t
stores_save (target.Local x) = tt
stores_save (target.Place p) = λ at by x s. refl

items_save : (a : Act) (i : ItemId) → OwnWants NoSave a i
items_save (act.Zero x) i = tt
items_save (act.Set t e) i = stores_save t
items_save (act.Update t o e) i = stores_save t
items_save (act.Malloc t c n) i = ((λ cells. refl), stores_save t)
items_save (act.Call x f es) i = λ xs. refl
items_save (act.Lock m) i = λ s. refl
items_save (act.Unlock m) i = refl
items_save (act.Create x f e) i = λ y. refl
items_save (act.Join e) i = λ n. refl
items_save (act.Free e) i = λ x s. refl
items_save (act.Assert e) i = λ s. refl
items_save (act.Print t es) i = λ text. refl
items_save (act.Return e) i = λ x. refl
items_save (act.Cond e) i = tt
items_save act.Close i = λ x. refl

pub item_never_saves : (a : Act) (i : ItemId) (l : List Value) (s : ℕ) → AsksOnly NoSave (act_run a i l s)
item_never_saves a i l s = act_only NoSave (λ at by k n. refl) a i (items_save a i) l s

module _ (p : Typed) where
  abbrev code : Code
  code = code_of p no_plan

  stmt_never : (x : Stmt-F Stmt) (l : List Value) → AsksOnly NoSave (stmt_run code x l)
  stmt_never (Stmt-F.Item i) l = item_never_saves i.act i.id l _
  stmt_never (Stmt-F.If c a b) l = item_never_saves c.act c.id l _
  stmt_never _ l = λ xs. tt

  left_never : (x : Left) (l : List Value) → AsksOnly NoSave (left_run code x l)
  left_never (Begin i) l = item_never_saves i.act i.id l _
  left_never (Run s) l = stmt_never (out-Stmt s) l
  left_never (Loop c a step) l = only_then NoSave _ _ (only_ask NoSave _ refl) (λ x. item_never_saves c.act c.id l _)
  left_never _ l = λ xs. tt

  first_never : (ls : List Left) (l : List Value) → AsksOnly NoSave (first_run code ls l)
  first_never [] l = λ xs. refl
  first_never (x ∷ ls) l = left_never x l

  wanted_never : (g : Got Done) → OnWants NoSave g → NoSave (wanted g)
  wanted_never (Is d rest) h = refl
  wanted_never (Wants w) h = h
  wanted_never No_result h = refl

  last_never : (w : Want) (fs : Thread) → NoSave w → NoSave (last_want w fs)
  last_never (Returns x) [] h = refl
  last_never (Returns x) (f ∷ fs) h = h
  last_never w fs h = h

  never : (t : Thread) → NoSave (stand code t).want
  never [] = refl
  never (f ∷ fs) = last_never (wanted (begun code f)) fs (wanted_never (begun code f) (first_never f.left f.locals f.answers))

  -- an entry leads both to the same frames
  saves_none : (w : Want) (go : Value → Thread) → NoSave w → if_saves w go ≡ None
  saves_none Saves go h = cc
  saves_none _ go h = refl

  answers_none : (w : Want) → NoSave w → answer w event.Save ≡ None
  answers_none Saves h = cc
  answers_none _ h = refl

  own_alike : (t : Thread) (a : EventAct) → hardened_advance code (unsaved t) a ≡ unsaved_of (advance code t a)
  own_alike t event.Save =
      saves_none (stand code t).want (stand code t).go (never t)
      ∙ sym (ap (λ o. unsaved_of (going_on (stand code t) o)) (answers_none (stand code t).want (never t)))
  own_alike t a = as_plain code t a tt

  no_retry_of : (t u : Thread) (s : SiteId) (gives : List Given) → advance code t (event.Retry s gives) ≡ Some u → ⊥
  no_retry_of t u s gives h = let e : going_on (stand code t) None ≡ Some u = ap (going_on (stand code t)) (sym (no_retry (stand code t).want s gives)) ∙ h in cc

  due_hardened : (s : Shared) (n : ℕ) (t u : Thread) (a : EventAct) → advance code t a ≡ Some u → IsDue s n (stand code t).want a → HardenedDue code s n (unsaved t) a
  due_hardened s n t u (event.Retry site gives) own due = absurd (no_retry_of t u site gives own)
  due_hardened s n t u _ own due = due

  due_source : (s : Shared) (n : ℕ) (t u : Thread) (a : EventAct) → advance code t a ≡ Some u → HardenedDue code s n (unsaved t) a → IsDue s n (stand code t).want a
  due_source s n t u (event.Retry site gives) own due = absurd (no_retry_of t u site gives own)
  due_source s n t u _ own due = due

  started_alike : (w : Want) → map unsaved (started (rules_of p) w) ≡ started (unhardened p) w
  started_alike (Creates f x) = refl
  started_alike _ = refl

  created_alike : (a : EventAct) (w : Want) → map unsaved (created (rules_of p) a w) ≡ created (unhardened p) a w
  created_alike (event.Create u) w = started_alike w
  created_alike _ w = refl

  after_alike : (ts : List Thread) (n : ℕ) (w : Want) (a : EventAct) (x : Thread)
      → map unsaved (threads_after (rules_of p) ts n w a x) ≡ threads_after (unhardened p) (map unsaved ts) n w a (unsaved x)
  after_alike ts n w a x =
      map-append unsaved (slice_set ts n x) (created (rules_of p) a w)
      ∙ (ap (λ xs. xs ++ map unsaved (created (rules_of p) a w)) (map_set unsaved ts n x) ∙ ap (λ xs. slice_set (map unsaved ts) n (unsaved x) ++ xs) (created_alike a w))

  pub step_hardened : (s new : State Thread) (e : Event) → Step (rules_of p) s e new → Step (unhardened p) (unsaved_state s) e (unsaved_state new)
  step_hardened s new e st = record {
    before = unsaved st.before;
    after = unsaved st.after;
    stands = get_map unsaved s.threads e.thread st.before st.stands;
    own = own_alike st.before e.act ∙ ap unsaved_of st.own;
    legal = st.legal;
    due = due_hardened s.shared e.thread st.before st.after e.act st.own st.due;
    shared = st.shared;
    threads = ap (map unsaved) st.threads ∙ after_alike s.threads e.thread ((rules_of p).want st.before) e.act st.after;
  }

  was_unsaved : (o : Option Thread) (h : Hardened) → unsaved_of o ≡ Some h → (t : Thread) × (o ≡ Some t) × (unsaved t ≡ h)
  was_unsaved None h is = absurd (cc)
  was_unsaved (Some t) h is = (t, refl, one_of (unsaved t) h is)

  pub step_source : (s : State Thread) (new : State Hardened) (e : Event) → Step (unhardened p) (unsaved_state s) e new
      → (t : State Thread) × (new ≡ unsaved_state t) × Step (rules_of p) s e t
  step_source s new e st =
      let at = got_map unsaved s.threads e.thread st.before st.stands in
      let x : Thread = at.0 in
      let went = was_unsaved (advance code x e.act) st.after (sym (own_alike x e.act) ∙ (ap (λ h. hardened_advance code h e.act) at.2 ∙ st.own)) in
      let y : Thread = went.0 in
      let t : State Thread = record { shared = effect s.shared e.thread e.act; threads = threads_after (rules_of p) s.threads e.thread ((rules_of p).want x) e.act y } in
      let threads : new.threads ≡ map unsaved t.threads =
      st.threads
      ∙ (ap (λ h. threads_after (unhardened p) (map unsaved s.threads) e.thread ((unhardened p).want h) e.act st.after) (sym at.2)
      ∙ (ap (λ h. threads_after (unhardened p) (map unsaved s.threads) e.thread ((unhardened p).want (unsaved x)) e.act h) (sym went.2) ∙ sym (after_alike s.threads e.thread ((rules_of p).want x) e.act y))) in (
        t,
        same_state new (unsaved_state t) st.shared threads,
        record {
          before = x;
          after = y;
          stands = at.1;
          own = went.1;
          legal = st.legal;
          due = due_source s.shared e.thread x y e.act went.1 (subst (λ h. HardenedDue code s.shared e.thread h e.act) (sym at.2) st.due);
          shared = refl;
          threads = refl {a = t.threads};
        },
      )

  runs_hardened : (es : List Event) (s new : State Thread) → machine.Run (rules_of p) s es new → machine.Run (unhardened p) (unsaved_state s) es (unsaved_state new)
  runs_hardened [] s new run = ap unsaved_state run
  runs_hardened (e ∷ es) s new (mid, st, run) = (unsaved_state mid, step_hardened s mid e st, runs_hardened es mid new run)

  runs_source : (es : List Event) (s : State Thread) (new : State Hardened) → machine.Run (unhardened p) (unsaved_state s) es new
      → (t : State Thread) × (new ≡ unsaved_state t) × machine.Run (rules_of p) s es t
  runs_source [] s new run = (s, run, refl)
  runs_source (e ∷ es) s new (mid, st, run) =
      let one = step_source s mid e st in
      let rest = runs_source es one.0 new (subst (λ m. machine.Run (unhardened p) m es new) one.1 run) in
      (rest.0, rest.1, (one.0, one.2, rest.2))

  can_alike : (s : State Thread) → CanStep (rules_of p) s ↔ CanStep (unhardened p) (unsaved_state s)
  can_alike s = (
    (λ (e, new, st). (e, unsaved_state new, step_hardened s new e st)),
    (λ (e, new, st). let one = step_source s new e st in (e, one.0, one.2)),
  )

  ends_alike : (s : State Thread) (end : Ending) → EndsAs (rules_of p) s end ↔ EndsAs (unhardened p) (unsaved_state s) end
  ends_alike s ending.Deadlock = ((λ (open', none). (open', λ can. none ((can_alike s).1 can))), (λ (open', none). (open', λ can. none ((can_alike s).0 can))))
  ends_alike s ending.Unended = ((λ (open', can). (open', (can_alike s).0 can)), (λ (open', can). (open', (can_alike s).1 can)))
  ends_alike s _ = ((λ h. h), (λ h. h))

  pub runs_alike : RunsAlike p
  runs_alike = record {
    hardened = λ es s run. runs_hardened es (opening (rules_of p) p) s run;
    source = λ es s run. runs_source es (opening (rules_of p) p) s run;
    ends = ends_alike;
  }

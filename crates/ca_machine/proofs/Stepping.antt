-- One entry more: the parts of a machine stand as the next state.
use Rattle.std.proofs.Common.{◌≡◌, ◌+◌, ℕ, zero, suc, List, [], ◌∷◌, ◌++◌, length, Option, Some, None, refl, sym, ap, subst, ◌∙◌, arith, inl, inr, length-append}
use Rattle.std.specs.Prelude.{slice_get, slice_set, option_to_list}
use Rattle.std.proofs.lemmas.Option.{slice_get_within}
use Rattle.ca_model.specs.declared.values.Event.{Event}
use Rattle.ca_model.specs.declared.values.EventAct.{EventAct}
use Rattle.ca_model.specs.declared.values.EventAct.TheVariants as act
use Rattle.ca_model.specs.Frames.{Code}
use Rattle.ca_model.specs.Hardened.{Hardened, hardened}
use Rattle.ca_model.specs.Machine.{Rules, State, Step, Run, created, threads_after, private}
use Rattle.ca_model.specs.Matched.{Own, LeadsTo, start_of, shared_after}
use Rattle.ca_model.specs.Shared.{Shared, IsLegal, Allows, effect}
use Rattle.ca_model.specs.Asks.{Want}
use Rattle.ca_model.proofs.Law.{get_either, get_set, length_set, one_of, count_after, private_nil}
use Rattle.ca_model.proofs.Creates.{hardened_creates}
use Rattle.ca_flow.specs.Lowerings.{Lowering, rules_of}
use Rattle.ca_shared.specs.Histories.{History, state, appended}
use Rattle.ca_thread.specs.Privates.{Thread}
use Rattle.ca_machine.specs.Machines.{IsThread, StandAs, went_on}
use Rattle.ca_machine.specs.Moves.{AreMade, number_of}

-- a run with one step more
pub one_more : {T : Type 0} (r : Rules T) (es : List Event) (e : Event) (old mid new : State T) → Run r old es mid → Step r mid e new → Run r old (es ++ e ∷ []) new
one_more r [] e old mid new run s = (new, subst (λ m. Step r m e new) run s, refl)
one_more r (d ∷ es) e old mid new (next, s', run) s = (next, s', one_more r es e next mid new run s)

pub after_more : (s : Shared) (es : List Event) (e : Event) → shared_after s (es ++ e ∷ []) ≡ effect (shared_after s es) e.thread e.act
after_more s [] e = refl
after_more s (d ∷ es) e = after_more (effect s d.thread d.act) es e

private_join : {T : Type 0} (r : Rules T) (o : Option T) (xs : List EventAct) (a : EventAct) → private r o (xs ++ a ∷ []) ≡ private r (private r o xs) (a ∷ [])
private_join r None xs a = refl
private_join r (Some t) [] a = refl
private_join r (Some t) (b ∷ xs) a = private_join r (r.advance t b) xs a

-- a thread by itself after one entry more
pub led_on : (code : Code) (o : Own) (h g : Hardened) (a : EventAct) → LeadsTo code o h → (hardened code).advance h a ≡ Some g → LeadsTo code (record { function = o.function; argument = o.argument; entries = o.entries ++ a ∷ [] }) g
led_on code o h g a at own = private_join (hardened code) (Some (start_of code o)) o.entries a ∙ (ap (λ x. private (hardened code) x (a ∷ [])) at ∙ (private_nil (hardened code) ((hardened code).advance h a) ∙ own))

made_each : (code : Lowering) (n : ℕ) (hs : List Hardened) (o : Option Thread) (j : ℕ) (q : Thread) (k : Hardened) → AreMade code n hs o → slice_get (option_to_list o) j ≡ Some q → slice_get hs j ≡ Some k → (j ≡ 0) × IsThread code n k q
made_each code n [] None j q k m e f = absurd cc
made_each code n [] (Some p) j q k m e f = absurd m
made_each code n (h ∷ []) None j q k m e f = absurd m
made_each code n (h ∷ []) (Some p) zero q k m e f = (refl, subst (λ x. IsThread code n x q) (one_of h k f) (subst (IsThread code n h) (one_of p q e) m))
made_each code n (h ∷ []) (Some p) (suc j) q k m e f = absurd cc
made_each code n (h ∷ (i ∷ hs)) o j q k m e f = absurd m

made_length : (code : Lowering) (n : ℕ) (hs : List Hardened) (o : Option Thread) → AreMade code n hs o → length (option_to_list o) ≡ length hs
made_length code n [] None m = refl
made_length code n [] (Some p) m = absurd m
made_length code n (h ∷ []) None m = absurd m
made_length code n (h ∷ []) (Some p) m = refl
made_length code n (h ∷ (i ∷ hs)) o m = absurd m

numbered : (r : Rules Hardened) (w : Want) (sh : Shared) (t : ℕ) (a : EventAct) (j : ℕ) (k : Hardened) → Allows sh t a → slice_get (created r a w) j ≡ Some k → number_of a ≡ sh.threads
numbered r w sh t (act.Create u) j k al e = al.0
numbered r w sh t _ j k al e = absurd cc

module _ (code : Lowering) (shared : History) (ps : List Thread) (s : State Hardened) (st : StandAs code shared ps s) (e : Event) (p : Thread) (h g : Hardened) (made : Option Thread)
    (here : slice_get ps e.thread ≡ Some p) (stands : slice_get s.threads e.thread ≡ Some h)
    (own : (hardened (rules_of code)).advance h e.act ≡ Some g)
    (legal : IsLegal (state shared) e.thread e.act)
    (due : (hardened (rules_of code)).Due (state shared) e.thread h e.act)
    (more : AreMade code (number_of e.act) (created (hardened (rules_of code)) e.act ((hardened (rules_of code)).want h)) made) where
  abbrev r : Rules Hardened
  r = hardened (rules_of code)

  abbrev new : State Hardened
  new = record { shared = effect s.shared e.thread e.act; threads = threads_after r s.threads e.thread (r.want h) e.act g }

  pub step : Step r s e new
  step = record { before = h; after = g; stands = stands; own = own; legal = subst (λ x. IsLegal x e.thread e.act) (sym st.same) legal; due = subst (λ x. r.Due x e.thread h e.act) (sym st.same) due; shared = refl; threads = refl }

  same_count : new.shared.threads ≡ length new.threads
  same_count =
      let grown : new.shared.threads ≡ s.shared.threads + length (created r e.act (r.want h)) = count_after r (hardened_creates (rules_of code)) s.shared e.thread e.act h g own in
      let old : s.shared.threads ≡ length s.threads = st.counted in
      let both : length new.threads ≡ length (slice_set s.threads e.thread g) + length (created r e.act (r.want h)) = length-append (slice_set s.threads e.thread g) _ in
      let set : length (slice_set s.threads e.thread g) ≡ length s.threads = length_set s.threads e.thread g in
      omega arith

  as_many : length (slice_set ps e.thread (went_on p e) ++ option_to_list made) ≡ length new.threads
  as_many =
      let all : length (slice_set ps e.thread (went_on p e) ++ option_to_list made) ≡ length (slice_set ps e.thread (went_on p e)) + length (option_to_list made) = length-append (slice_set ps e.thread (went_on p e)) _ in
      let set : length (slice_set ps e.thread (went_on p e)) ≡ length ps = length_set ps e.thread (went_on p e) in
      let both : length new.threads ≡ length (slice_set s.threads e.thread g) + length (created r e.act (r.want h)) = length-append (slice_set s.threads e.thread g) _ in
      let set' : length (slice_set s.threads e.thread g) ≡ length s.threads = length_set s.threads e.thread g in
      let old : length ps ≡ length s.threads = st.as_many in
      let made' : length (option_to_list made) ≡ length (created r e.act (r.want h)) = made_length code (number_of e.act) _ made more in
      omega arith

  goes_on : IsThread code e.thread g (went_on p e)
  goes_on =
      let i = st.each e.thread p h here stands in
      record { code = i.code; number = i.number; stands = led_on (rules_of p.code) p.own h g e.act i.stands (subst (λ c. (hardened (rules_of c)).advance h e.act ≡ Some g) (sym i.code) own) }

  -- the thread that is made has the next number
  is_number : (u j : ℕ) (k : Hardened) → u ≡ length (slice_set ps e.thread (went_on p e)) + j → j ≡ 0 → slice_get (created r e.act (r.want h)) j ≡ Some k → number_of e.act ≡ u
  is_number u j k at first made' =
      let numbered' : number_of e.act ≡ (state shared).threads = numbered r (r.want h) (state shared) e.thread e.act j k legal.allowed made' in
      let same : s.shared.threads ≡ (state shared).threads = ap (λ x. x.threads) st.same in
      let counted : s.shared.threads ≡ length s.threads = st.counted in
      let old : length ps ≡ length s.threads = st.as_many in
      let set : length (slice_set ps e.thread (went_on p e)) ≡ length ps = length_set ps e.thread (went_on p e) in
      omega arith

  each : (u : ℕ) (q : Thread) (k : Hardened) → slice_get (slice_set ps e.thread (went_on p e) ++ option_to_list made) u ≡ Some q → slice_get new.threads u ≡ Some k → IsThread code u k q
  each u q k at there =
      let set : length (slice_set ps e.thread (went_on p e)) ≡ length ps = length_set ps e.thread (went_on p e) in
      let set' : length (slice_set s.threads e.thread g) ≡ length s.threads = length_set s.threads e.thread g in
      let old : length ps ≡ length s.threads = st.as_many in
      elim (get_either (slice_set ps e.thread (went_on p e)) (option_to_list made) u q at) [
        | inl a ↦ elim (get_either (slice_set s.threads e.thread g) (created r e.act (r.want h)) u k there) [
          | inl b ↦ elim (get_set ps e.thread u (went_on p e) q a) [
            | inl x ↦ elim (get_set s.threads e.thread u g k b) [
              | inl y ↦ subst (λ n. IsThread code n k q) x.0 (subst (λ z. IsThread code e.thread z q) (one_of g k y.1) (subst (IsThread code e.thread g) (one_of (went_on p e) q x.1) goes_on))
              | inr y ↦ absurd (y.0 x.0)
            ]
            | inr x ↦ elim (get_set s.threads e.thread u g k b) [
              | inl y ↦ absurd (x.0 y.0)
              | inr y ↦ st.each u q k x.1 y.1
            ]
          ]
          | inr b ↦ let w = slice_get_within _ u q a in let v = b.1 in absurd (omega arith)
        ]
        | inr a ↦ elim (get_either (slice_set s.threads e.thread g) (created r e.act (r.want h)) u k there) [
          | inl b ↦ let w = slice_get_within _ u k b in let v = a.1 in absurd (omega arith)
          | inr b ↦
              let v = a.1 in let v' = b.1 in
              let same : b.0 ≡ a.0 = omega arith in
              let m = made_each code (number_of e.act) _ made a.0 q k more a.2 (subst (λ j. slice_get (created r e.act (r.want h)) j ≡ Some k) same b.2) in
              subst (λ n. IsThread code n k q) (is_number u a.0 k a.1 m.0 (subst (λ j. slice_get (created r e.act (r.want h)) j ≡ Some k) same b.2)) m.1
        ]
      ]

  pub stand_on : StandAs code (appended shared e) (slice_set ps e.thread (went_on p e) ++ option_to_list made) new
  stand_on = record {
    run = one_more r shared.trace e _ s new st.run step;
    globals = st.globals;
    mutexes = st.mutexes;
    same = ap (λ x. effect x e.thread e.act) st.same ∙ sym (after_more _ shared.trace e);
    counted = same_count;
    as_many = as_many;
    each = each;
  }

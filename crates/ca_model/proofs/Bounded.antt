-- Retries are counted, up to the limit.
use Rattle.std.proofs.Common.{◌≡◌, ℕ, zero, suc, ◌+◌, ◌≤◌, ◌<◌, Bool, true, false, List, [], ◌∷◌, length, Option, Some, None, refl, sym, ap, ◌∙◌, subst, arith, inl, inr}
use Rattle.std.specs.Prelude.{◌&&◌, ◌==◌, nat_lt, count_by, cond, slice_get, IsSome, is_some, Contains, if◌then◌else◌}
use Rattle.ca_tree.specs.declared.numbers.SiteId.{SiteId}
use Rattle.std.proofs.lemmas.Bool.{and_parts, eqb-true, ltb-true}
use Rattle.std.proofs.lemmas.List.Sums.{sum_by-cons}
use Rattle.std.proofs.lemmas.Bool.Decides.{eqb_tells}
use Rattle.ca_model.specs.declared.values.Given.{Given}
use Rattle.ca_model.specs.declared.values.Event.{Event}
use Rattle.ca_model.specs.declared.values.EventAct.{EventAct}
use Rattle.ca_model.specs.declared.values.EventAct.TheVariants as event
use Rattle.ca_model.specs.Asks.{Want, Saves}
use Rattle.ca_model.specs.Frames.{Code}
use Rattle.ca_model.specs.Private.{Thread, stand, after_entry}
use Rattle.ca_model.specs.Machine.{own_of, private}
use Rattle.ca_model.specs.Hardened.{Saved, Hardened, site_of, tries, may_retry, latest_first, is_part, took, with_frames, back, retried, if_saves, hardened_advance, hardened}
use Rattle.ca_model.specs.Codes.{Typed}
use Rattle.ca_model.specs.Matched.{Own, start_of, IsPrivateRun}
use Rattle.ca_model.specs.Activations.{until_save, activations, is_retry_at, tries_in, RetriesAreBounded}
use Rattle.ca_model.proofs.Law.{one_of}
use Rattle.ca_model.proofs.OneEntry.{if_some}
use Rattle.ca_model.proofs.Matching.{run_matched}
use Rattle.ca_model.proofs.Members.{in_cons}
use Rattle.ca_model.proofs.Members.{in_none}

-- the tries of a thread at a site so far
abbrev so_far : Option Saved → SiteId → ℕ
so_far None s = 0
so_far (Some sv) s = tries sv s

-- one more, where an entry is a retry at the site
abbrev one_if : SiteId → EventAct → ℕ
one_if s a = cond (is_retry_at s a) 1 0

module _ (code : Code) where
  -- a retry comes while tries are left, and adds one
  record Counted (saved : Option Saved) (s : SiteId) (h : Hardened) : Type 0 where
    pub before : Saved
    pub was : saved ≡ Some before
    pub left : tries before s < code.limit
    pub after : h.saved ≡ Some (record { copy = before.copy; tried = s ∷ before.tried; taken = [] })

  went_back : (sv : Saved) (s at : SiteId) (gives : List Given) (h : Hardened) → at.0 ≡ s.0 → tries sv at < code.limit → back (Some sv) s gives ≡ Some h → Counted (Some sv) s h
  went_back sv s at gives h same lt is =
      let b = if_some (is_part gives (latest_first sv.taken)) _ h is in
      record {
        before = sv;
        was = refl;
        left = subst (λ n. count_by (λ r. r.0 == n) sv.tried < code.limit) same lt;
        after = ap (λ x. x.saved) (sym (one_of _ h b.1));
      }

  retry_counts : (o : Option SiteId) (saved : Option Saved) (s : SiteId) (gives : List Given) (h : Hardened) → retried (may_retry code o saved) saved s gives ≡ Some h → Counted saved s h
  retry_counts None saved s gives h is = absurd (cc)
  retry_counts (Some at) None s gives h is = absurd (cc)
  retry_counts (Some at) (Some sv) s gives h is =
      elim (code.planned at && nat_lt (tries sv at) code.limit) as (λ b. (code.planned at && nat_lt (tries sv at) code.limit) ≡ b → retried (if b then Some at else None) (Some sv) s gives ≡ Some h → Counted (Some sv) s h) [
        | true ↦ λ left got.
            let b = if_some (at.0 == s.0) (back (Some sv) s gives) h got in
            went_back sv s at gives h (eqb-true at.0 s.0 b.0) (ltb-true _ _ ((and_parts (code.planned at) _ left).1)) b.1
        | false ↦ λ left got. absurd (cc)
      ] refl is

  -- what an entry other than a save does to the tries at a site
  record Counts (before after : Option Saved) (s : SiteId) (a : EventAct) : Type 0 where
    pub grows : so_far after s ≡ so_far before s + one_if s a
    pub within : so_far before s ≤ code.limit → so_far after s ≤ code.limit

  kept : (saved : Option Saved) (gs : List Given) (s : SiteId) → so_far (took gs saved) s ≡ so_far saved s
  kept None gs s = refl
  kept (Some sv) gs s = refl

  frames_count : (o : Option Thread) (gs : List Given) (saved : Option Saved) (h : Hardened) (s : SiteId) (a : EventAct) → one_if s a ≡ 0 → with_frames o gs saved ≡ Some h → Counts saved h.saved s a
  frames_count None gs saved h s a none is = absurd (cc)
  frames_count (Some t) gs saved h s a none is =
      let same : so_far h.saved s ≡ so_far saved s = ap (λ x. so_far x.saved s) (sym (one_of _ h is)) ∙ kept saved gs s in
      record { grows = omega (arith, same, none); within = λ le. omega (arith, same, le) }

  fault_counts : (b : Bool) (o : Option Thread) (saved : Option Saved) (h : Hardened) (s : SiteId) (a : EventAct) → one_if s a ≡ 0 → (if b then None else with_frames o [] saved) ≡ Some h → Counts saved h.saved s a
  fault_counts true o saved h s a none is = absurd (cc)
  fault_counts false o saved h s a none is = frames_count o [] saved h s a none is

  retry_adds : (saved : Option Saved) (site s : SiteId) (gives : List Given) (h : Hardened) → Counted saved site h → Counts saved h.saved s (event.Retry site gives)
  retry_adds saved site s gives h c =
      let was : so_far saved s ≡ tries c.before s = ap (λ o. so_far o s) c.was in
      let now : so_far h.saved s ≡ cond (site.0 == s.0) 1 0 + tries c.before s = ap (λ o. so_far o s) c.after ∙ sum_by-cons (λ r. cond (r.0 == s.0) 1 0) site c.before.tried in
      elim (eqb_tells site.0 s.0) [
        | inl (is, same) ↦
            let one : ◌≡◌ {A = ℕ} (cond (site.0 == s.0) 1 0) 1 = ap (λ b. cond b 1 0) is in
            let lt : tries c.before s < code.limit = subst (λ n. count_by (λ r. r.0 == n) c.before.tried < code.limit) same c.left in
            record { grows = omega (arith, was, now, one); within = λ le. omega (arith, now, one, lt) }
        | inr (is, other) ↦
            let none : ◌≡◌ {A = ℕ} (cond (site.0 == s.0) 1 0) 0 = ap (λ b. cond b 1 0) is in
            record { grows = omega (arith, was, now, none); within = λ le. omega (arith, was, now, none, le) }
      ]

  abbrev IsNoSave : EventAct → Type 0
  IsNoSave event.Save = ⊥
  IsNoSave _ = Unit {0}

  entry_counts : (h after : Hardened) (a : EventAct) (s : SiteId) → IsNoSave a → hardened_advance code h a ≡ Some after → Counts h.saved after.saved s a
  entry_counts h after event.Save s other is = absurd other
  entry_counts h after (event.Retry site gives) s other is = retry_adds h.saved site s gives after (retry_counts (site_of (stand code h.frames).want) h.saved site gives after is)
  entry_counts h after (event.Fault k) s other is = fault_counts _ (after_entry (stand code h.frames) (event.Fault k)) h.saved after s (event.Fault k) refl is
  entry_counts h after a s other is = frames_count (after_entry (stand code h.frames) a) _ h.saved after s a refl is

  -- a save begins with no tries
  begins_anew : (w : Want) (go : _) (h : Hardened) (s : SiteId) → if_saves w go ≡ Some h → so_far h.saved s ≡ 0
  begins_anew Saves go h s is = ap (λ x. so_far x.saved s) (sym (one_of _ h is))
  begins_anew _ go h s is = cc

  went : (o : Option Hardened) (xs : List EventAct) → IsSome (private (hardened code) o xs) → (y : Hardened) × (o ≡ Some y)
  went None xs h = absurd (cc)
  went (Some y) xs h = (y, refl)

  abbrev IsOwn : Hardened → List EventAct → Type 0
  IsOwn h xs = IsSome (private (hardened code) (Some h) xs)

  -- the rest of an activation, and all that follow
  abbrev Within : ℕ → SiteId → List EventAct → Type 0
  Within n s xs = (n + tries_in s (until_save xs) ≤ code.limit) × ((as' : List EventAct) → Contains (activations xs) as' → tries_in s as' ≤ code.limit)

  further : (h after : Hardened) (a : EventAct) (xs : List EventAct) (s : SiteId) → tries_in s (a ∷ until_save xs) ≡ one_if s a + tries_in s (until_save xs) → Counts h.saved after.saved s a
      → so_far after.saved s + tries_in s (until_save xs) ≤ code.limit → so_far h.saved s + tries_in s (a ∷ until_save xs) ≤ code.limit
  further h after a xs s joins c le = omega (arith, joins, c.grows, le)

  within : (xs : List EventAct) (h : Hardened) (s : SiteId) → IsOwn h xs → so_far h.saved s ≤ code.limit → Within (so_far h.saved s) s xs
  within [] h s own le = (omega (arith, le), λ as' c. absurd (in_none as' c))
  within (event.Save ∷ xs) h s own le =
      let one = went (hardened_advance code h event.Save) xs own in
      let anew : so_far one.0.saved s ≡ 0 = begins_anew (stand code h.frames).want (stand code h.frames).go one.0 s one.1 in
      let more = within xs one.0 s (subst (λ o. IsSome (private (hardened code) o xs)) one.1 own) (omega (arith, anew)) in (
        omega (arith, le),
        λ as' c. elim (in_cons (until_save xs) (activations xs) as' c) [
          | inl is ↦ subst (λ ys. tries_in s ys ≤ code.limit) is (omega (arith, more.0, anew))
          | inr later ↦ more.1 as' later
        ],
      )
  within (a ∷ xs) h s own le =
      let one = went (hardened_advance code h a) xs own in
      let c = entry_counts h one.0 a s tt one.1 in
      let more = within xs one.0 s (subst (λ o. IsSome (private (hardened code) o xs)) one.1 own) (c.within le) in
      (further h one.0 a xs s (sum_by-cons (λ b. cond (is_retry_at s b) 1 0) a (until_save xs)) c more.0, more.1)

-- by the private run of each thread, and a thread that isn't there has no entries
private_bounded : (code : Code) (o : Own) (as' : List EventAct) (site : SiteId) → IsPrivateRun code o → Contains (activations o.entries) as' → tries_in site as' ≤ code.limit
private_bounded code o as' site (h, leads) c = (within code o.entries (start_of code o) site (ap is_some leads) (omega arith)).1 as' c

by_own : (code : Code) (os : List Own) (es : List Event) (t : ℕ) (as' : List EventAct) (site : SiteId) (o : Option Own) → slice_get os t ≡ o
    → ((o : Own) → slice_get os t ≡ Some o → IsPrivateRun code o) → ((o : Own) → slice_get os t ≡ Some o → o.entries ≡ own_of t es) → (length os ≤ t → own_of t es ≡ [])
    → Contains (activations (own_of t es)) as' → tries_in site as' ≤ code.limit
by_own code os es t as' site None at runs own none c = absurd (in_none as' (subst (λ xs. Contains (activations xs) as') (none (past os t at)) c))
  where
    past : (xs : List Own) (n : ℕ) → slice_get xs n ≡ None → length xs ≤ n
    past [] n h = omega arith
    past (x ∷ xs) zero h = cc
    past (x ∷ xs) (suc n) h = omega (arith, past xs n h)
by_own code os es t as' site (Some o) at runs own none c = private_bounded code o as' site (runs o at) (subst (λ xs. Contains (activations xs) as') (sym (own o at)) c)

pub bounded : (p : Typed) (code : Code) → RetriesAreBounded p code
bounded p code es new run t as' c site =
    let m = run_matched p code es new run in
    by_own code m.0 es t as' site (slice_get m.0 t) refl (m.2 t) (m.3 t) (m.6 t) c

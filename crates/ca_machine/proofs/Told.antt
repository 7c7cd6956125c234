-- Shown actions, and the entries that come for them.
use Rattle.std.proofs.Common.{◌≡◌, ℕ, Bool, true, false, List, Option, Some, None, refl, sym, ap, subst, ◌∙◌}
use Rattle.std.specs.Prelude.{is_some, IsTrue, ◌↔◌}
use Rattle.ca_tree.specs.declared.numbers.SiteId.{SiteId}
use Rattle.ca_model.specs.declared.values.Given.{Given}
use Rattle.ca_model.specs.declared.values.EventAct.{EventAct}
use Rattle.ca_model.specs.Asks.{Want}
use Rattle.ca_model.specs.Frames.{Code}
use Rattle.ca_model.specs.Shared.{Shared}
use Rattle.ca_model.specs.Hardened.{Hardened, Saved, hardened, retry_site}
use Rattle.ca_model.specs.Runner.{IsTimeout}
use Rattle.ca_model.specs.ComingEntries.{entry_of, gives_at, the_entry}
use Rattle.ca_wants.specs.declared.next.Next.{Next}
use Rattle.ca_wants.specs.Shown.{Shows}
use Rattle.ca_entries.specs.Shares.{given_back}
use Rattle.ca_thread.specs.Privates.{taken_in}
use Rattle.ca_machine.specs.Coming.{IsStatus}
use Rattle.ca_machine.specs.declared.coming.Status.TheVariants as status

-- what is given back of what a thread has taken
gives_taken : (g : Shared) (t : ℕ) (o : Option Saved) → given_back g t (taken_in o) ≡ gives_at g t o
gives_taken g t None = refl
gives_taken g t (Some sv) = refl

-- the site that is told is that at which the thread stands
shown_so : (n : Next) (w : Want) (r s : Option SiteId) → r ≡ s → Shows n w s → Shows n w r
shown_so n w r s e h = subst (Shows n w) (sym e) h

the_one : (g : Shared) (t k : ℕ) (w : Want) (r s : Option SiteId) (taken : List Given) (o : Option Saved) → r ≡ s → taken ≡ taken_in o
    → the_entry g t k r (given_back g t taken) w ≡ the_entry g t k s (gives_at g t o) w
the_one g t k w r s taken o e is = ap (λ x. the_entry g t k x (given_back g t taken) w) e ∙ ap (λ x. the_entry g t k s x w) (ap (given_back g t) is ∙ gives_taken g t o)

some_of : {A : Type 0} (o : Option A) → true ≡ is_some o → (x : A) × (o ≡ Some x)
some_of (Some x) e = (x, refl)
some_of None e = absurd cc

none_of : {A : Type 0} (o : Option A) → false ≡ is_some o → o ≡ None
none_of (Some x) e = absurd cc
none_of None e = refl

-- by whether an entry comes, and whether it is a retry at a held lock
late_told : (o : Option EventAct) (w : Want) (b : Bool) → true ≡ is_some o → ((a : EventAct) → o ≡ Some a → IsTrue b ↔ IsTimeout a w) → b ≡ true → IsStatus o w status.TimesOut
late_told o w b some tells e = let x = some_of o some in (x.0, x.1, (tells x.0 x.1).0 e)

moves_told : (o : Option EventAct) (w : Want) (b : Bool) → true ≡ is_some o → ((a : EventAct) → o ≡ Some a → IsTrue b ↔ IsTimeout a w) → b ≡ false → IsStatus o w status.Moves
moves_told o w b some tells e = let x = some_of o some in (x.0, x.1, λ late. let is : b ≡ true = (tells x.0 x.1).1 late in let no : true ≡ false = sym is ∙ e in absurd cc)

module _ (code : Code) (g : Shared) (t k : ℕ) (h : Hardened) (n : Next) (r : Option SiteId) (is : r ≡ retry_site code h) (shows : Shows n ((hardened code).want h) (retry_site code h)) where
  here : Shows n ((hardened code).want h) r
  here = shown_so n ((hardened code).want h) r (retry_site code h) is shows

  same : the_entry g t k r (gives_at g t h.saved) ((hardened code).want h) ≡ entry_of code g t k h
  same = ap (λ x. the_entry g t k x (gives_at g t h.saved) ((hardened code).want h)) is

  comes_told : (b : Bool) → ((gives : List Given) (w : Want) → Shows n w r → b ≡ is_some (the_entry g t k r gives w)) → b ≡ is_some (entry_of code g t k h)
  comes_told b tells = tells (gives_at g t h.saved) ((hardened code).want h) here ∙ ap is_some same

  late_so : (b : Bool) → ((gives : List Given) (w : Want) (a : EventAct) → Shows n w r → the_entry g t k r gives w ≡ Some a → IsTrue b ↔ IsTimeout a w) → (a : EventAct) → entry_of code g t k h ≡ Some a → IsTrue b ↔ IsTimeout a ((hardened code).want h)
  late_so b tells a e = tells (gives_at g t h.saved) ((hardened code).want h) a here (same ∙ e)

  -- what a thread may do, by those two tests
  module _ (b d : Bool) (comes : (gives : List Given) (w : Want) → Shows n w r → b ≡ is_some (the_entry g t k r gives w)) where
    pub rests_so : b ≡ false → IsStatus (entry_of code g t k h) ((hardened code).want h) status.Rests
    rests_so e = none_of (entry_of code g t k h) (sym e ∙ comes_told b comes)

    module _ (late : (gives : List Given) (w : Want) (a : EventAct) → Shows n w r → the_entry g t k r gives w ≡ Some a → IsTrue d ↔ IsTimeout a w) (some : b ≡ true) where
      pub times_out_so : d ≡ true → IsStatus (entry_of code g t k h) ((hardened code).want h) status.TimesOut
      times_out_so = late_told (entry_of code g t k h) ((hardened code).want h) d (sym some ∙ comes_told b comes) (late_so d late)

      pub moves_so : d ≡ false → IsStatus (entry_of code g t k h) ((hardened code).want h) status.Moves
      moves_so = moves_told (entry_of code g t k h) ((hardened code).want h) d (sym some ∙ comes_told b comes) (late_so d late)

  -- the entry that comes
  pub entry_so : (o : Option EventAct) (taken : List Given) → taken ≡ taken_in h.saved → ((w : Want) → Shows n w r → o ≡ the_entry g t k r (given_back g t taken) w) → o ≡ entry_of code g t k h
  entry_so o taken e tells = tells ((hardened code).want h) here ∙ the_one g t k ((hardened code).want h) r (retry_site code h) taken h.saved is e

-- The entry that comes, by what the code names.
use Rattle.std.proofs.Common.{◌≡◌, ℕ, ℤ, Bool, true, List, Option, Some, None, refl, sym, ap, ◌∙◌, cond, subst}
use Rattle.std.specs.FinMap as finite
use Rattle.std.specs.Option.{is_some}
use Rattle.ca_tree.specs.declared.numbers.SiteId.{SiteId}
use Rattle.ca_tree.specs.declared.numbers.MutexId.{MutexId}
use Rattle.ca_model.specs.declared.tree.LoadKind.{LoadKind}
use Rattle.ca_model.specs.declared.values.Value.{Value}
use Rattle.ca_model.specs.declared.values.Given.{Given}
use Rattle.ca_model.specs.declared.values.FaultKind.TheVariants as fault
use Rattle.ca_model.specs.declared.values.EventAct.{EventAct}
use Rattle.ca_model.specs.declared.values.EventAct.TheVariants as act
use Rattle.ca_model.specs.Asks.{Want}
use Rattle.ca_model.specs.Shared.{Shared, Blocks, reached}
use Rattle.ca_model.specs.ComingEntries.{aimed, read_entry, write_entry, lock_entry, join_entry, can_free, failing, retrying, the_entry}
use Rattle.ca_memory.specs.Mutexes.{Mutexes}
use Rattle.ca_wants.specs.declared.next.Next.{Next}
use Rattle.ca_wants.specs.declared.next.Next.TheVariants as next
use Rattle.ca_wants.specs.Shown.{Shows}
use Rattle.ca_entries.specs.Shares.{IsSharedBy, HasEnded, IsJoined, or_that}

module _ (g : Shared) (m : Blocks) (os : Mutexes) (threads : ℕ) (shares : IsSharedBy g m os threads) (t k : ℕ) (r : Option SiteId) (gives : List Given) (w : Want) (n : Next) (shows : Shows n w r) where
  abbrev comes : Want → Option EventAct
  comes = the_entry g t k r gives

  shown : (x : Next) → n ≡ x → Shows x w r
  shown x is = subst (λ y. Shows y w r) is shows

  pub read_comes : (at : Value) (by : ℤ) (kind : LoadKind) → n ≡ next.Read at by kind → (found : Option EventAct) (a : EventAct)
      → ((missing : EventAct) → read_entry (aimed at by) kind (reached m at by) missing ≡ or_that found missing) → a ≡ or_that found (failing r fault.Pointer gives) → Some a ≡ comes w
  read_comes at by kind is found a h e =
      ap (λ x. Some x) (e ∙ sym (h (failing r fault.Pointer gives)) ∙ ap (λ b. read_entry (aimed at by) kind (reached b at by) (failing r fault.Pointer gives)) (sym shares.blocks)) ∙ sym (ap comes (shown (next.Read at by kind) is).1)

  pub write_comes : (at : Value) (by : ℤ) (x : Value) → n ≡ next.Write at by x → (found : Option EventAct) (a : EventAct)
      → ((missing : EventAct) → write_entry (aimed at by) x (reached m at by) missing ≡ or_that found missing) → a ≡ or_that found (failing r fault.Pointer gives) → Some a ≡ comes w
  write_comes at by x is found a h e =
      ap (λ x. Some x) (e ∙ sym (h (failing r fault.Pointer gives)) ∙ ap (λ b. write_entry (aimed at by) x (reached b at by) (failing r fault.Pointer gives)) (sym shares.blocks)) ∙ sym (ap comes (shown (next.Write at by x) is).1)

  pub free_comes : (at : Value) → n ≡ next.Free at → (found : Option EventAct) (a : EventAct) → ((missing : EventAct) → cond (can_free m at) (act.Free at) missing ≡ or_that found missing)
      → a ≡ or_that found (failing r fault.Pointer gives) → Some a ≡ comes w
  free_comes at is found a h e =
      ap (λ x. Some x) (e ∙ sym (h (failing r fault.Pointer gives)) ∙ ap (λ b. cond (can_free b at) (act.Free at) (failing r fault.Pointer gives)) (sym shares.blocks)) ∙ sym (ap comes (shown (next.Free at) is).1)

  held_lock : (o : Option ℕ) (x : MutexId) (there : Bool) → is_some o ≡ true → lock_entry x there o (retrying r gives) ≡ retrying r gives
  held_lock None x there h = absurd cc
  held_lock (Some u) x there h = refl

  pub held_comes : (x : MutexId) → n ≡ next.Lock x → (a : Option EventAct) → is_some (finite.get os.owners x.0) ≡ true → a ≡ retrying r gives → a ≡ comes w
  held_comes x is a held e =
      e ∙ sym (held_lock (finite.get g.owners x.0) x _ (ap (λ o. is_some (finite.get o x.0)) shares.owners ∙ held)) ∙ sym (ap comes (shown (next.Lock x) is).2)

  pub join_comes : (u : ℤ) (b : Bool) → n ≡ next.Join u → (a : Option EventAct) → IsJoined g n b → (g.threads ≡ threads → HasEnded g u b → a ≡ join_entry g u) → a ≡ comes w
  join_comes u b is a joined e = e shares.threads (subst (λ y. IsJoined g y b) is joined) ∙ sym (ap comes (shown (next.Join u) is))

  pub retry_comes : (s : SiteId) → n ≡ next.Retry s → (a : Option EventAct) → a ≡ retrying r gives → a ≡ comes w
  retry_comes s is a e =
      let h = shown (next.Retry s) is in
      e ∙ ap (λ q. retrying q gives) h.2 ∙ sym (ap (λ q. Some (failing q fault.Assert gives)) h.2) ∙ sym (ap comes h.1)

-- By what a thread wants, at most one entry is possible.
use Rattle.std.proofs.Common.{◌≡◌, ℕ, zero, suc, ◌+◌, ◌^◌, ◌<◌, ◌≤◌, Bool, true, false, cond, List, Option, Some, None, refl, sym, ap, ◌∙◌, arith, inl, inr}
use Rattle.std.specs.Prelude.{◌&&◌, ◌⊎◌, ◌==◌, ℤ, pos, negsuc, ◌+ℤ◌, is_some, IsSome, nat_lt}
use Rattle.std.specs.Ordering.{int_eq}
use Rattle.std.specs.Str.{bytes_eq}
use Rattle.std.specs.FinMap as map
use Rattle.std.specs.FinSet as set
use Rattle.std.proofs.lemmas.Bool.{and_parts, and_from, eqb-true, eq-eqb, lt-ltb, ltb-true, ltb-false, le-leb, leb-true, false_from_ne_true, cond-true, cond-false, cases_order, le-ltb}
use Rattle.std.proofs.lemmas.Bool.Decides.{Decides-int_eq}
use Rattle.std.proofs.lemmas.Slice.Eq.{bytes_eq-Decides}
use Rattle.ca_tree.specs.declared.numbers.SiteId.{SiteId}
use Rattle.ca_model.specs.declared.values.Addr.{Addr}
use Rattle.ca_model.specs.declared.values.Value.{Value}
use Rattle.ca_model.specs.declared.values.Value.TheVariants as v
use Rattle.ca_model.specs.declared.values.Given.{Given}
use Rattle.ca_model.specs.declared.values.FaultKind.{FaultKind}
use Rattle.ca_model.specs.declared.values.FaultKind.TheVariants as fault
use Rattle.ca_model.specs.declared.values.EventAct.{EventAct}
use Rattle.ca_model.specs.declared.values.EventAct.TheVariants as act
use Rattle.ca_model.specs.declared.tree.LoadKind.{LoadKind}
use Rattle.ca_model.specs.Arith.{null, same, suits}
use Rattle.ca_model.specs.Asks.{Want, Reads, Writes, Locks, Unlocks, Mallocs, Frees, Prints, Creates, Joins, Calls, Returns, Turns, Ends, Fails, Faults, Saves}
use Rattle.ca_model.specs.Private.{is_at, when, answer, may_fault}
use Rattle.ca_model.specs.Shared.{Shared, Blocks, cell, reached, live_cells, CanFree, Allows, IsUnfit, FaultIsDue}
use Rattle.ca_model.specs.Hardened.{is_failing}
use Rattle.ca_model.specs.Runner.{HasRoom, IsLeastUnused, IsGiven, IsChosen}
use Rattle.ca_model.specs.ComingEntries.{EndedBelow, aimed, block_at, can_free, create_entry, failing, given_value, is_heap, is_owner, join_entry, lock_entry, read_entry, retrying, room, the_entry, write_entry}
use Rattle.ca_model.proofs.Retries.{owner_is, is_owner_so, heap_is}

-- the numbers of blocks that were used are those below k
abbrev pub Used : ℕ → Blocks → Type 0
Used k m = (b : ℕ) → is_some (map.get m b) ≡ nat_lt b k

-- k is the least number never used
pub is_none : {A : Type 0} (o : Option A) → is_some o ≡ false → o ≡ None
is_none None e = refl
is_none (Some x) e = absurd cc

pub least_from : (m : Blocks) (k : ℕ) → Used k m → IsLeastUnused m k
least_from m k used = (is_none (map.get m k) (used k ∙ le-ltb k k (omega arith)), λ c lt. used c ∙ lt-ltb c k lt)

pub one_least : (m : Blocks) (k b : ℕ) → IsLeastUnused m k → IsLeastUnused m b → k ≡ b
one_least m k b (none, below) (none', below') =
    let not_below : k < b → ⊥ = λ lt. no_some (map.get m k) none (below' k lt) in
    let not_above : b < k → ⊥ = λ lt. no_some (map.get m b) none' (below b lt) in
    elim (cases_order k b) [ inl e ↦ e | inr (inl lt) ↦ absurd (not_below lt) | inr (inr gt) ↦ absurd (not_above gt) ]
  where
    no_some : {A : Type 0} (o : Option A) → o ≡ None → IsSome o → ⊥
    no_some None e h = absurd cc
    no_some (Some x) e h = absurd cc

pub same_is : (x y : Value) → same x y ≡ true → x ≡ y
same_is (v.Num m) (v.Num n) e = ap v.Num ((Decides-int_eq m n).0 e)
same_is (v.Addr a) (v.Addr b) e =
    let two = and_parts (a.block == b.block) (int_eq a.offset b.offset) e in
    let block : a.block ≡ b.block = eqb-true a.block b.block two.0 in
    let offset : a.offset ≡ b.offset = (Decides-int_eq a.offset b.offset).0 two.1 in
    ap v.Addr (λ i. record { block = block i; offset = offset i })
same_is (v.Num m) (v.Addr b) e = absurd cc
same_is (v.Addr a) (v.Num n) e = absurd cc

-- a number, a text and a value are themselves
pub int_self : (n : ℤ) → int_eq n n ≡ true
int_self n = (Decides-int_eq n n).1 refl

pub text_self : (xs : List ℕ) → bytes_eq xs xs ≡ true
text_self xs = (bytes_eq-Decides xs xs).1 refl

pub same_self : (x : Value) → same x x ≡ true
same_self (v.Num n) = int_self n
same_self (v.Addr a) = and_from (a.block == a.block) (int_eq a.offset a.offset) (eq-eqb a.block a.block refl) (int_self a.offset)

aimed_is : (at : Value) (by : ℤ) (a : Addr) → is_at at by a ≡ true → aimed at by ≡ a
aimed_is (v.Num n) by a e = absurd cc
aimed_is (v.Addr b) by a e =
    let two = and_parts (b.block == a.block) (int_eq (b.offset +ℤ by) a.offset) e in
    let block : b.block ≡ a.block = eqb-true b.block a.block two.0 in
    let offset : b.offset +ℤ by ≡ a.offset = (Decides-int_eq (b.offset +ℤ by) a.offset).0 two.1 in
    λ i. record { block = block i; offset = offset i }

pub reached_is : (m : Blocks) (at : Value) (by : ℤ) (a : Addr) → is_at at by a ≡ true → reached m at by ≡ cell m a.block a.offset
reached_is m (v.Num n) by a e = absurd cc
reached_is m (v.Addr b) by a e = ap (λ (c : Addr). cell m c.block c.offset) (aimed_is (v.Addr b) by a e)

pub when_is : (b : Bool) (x y : Value) → when b x ≡ Some y → b ≡ true
when_is true x y e = refl
when_is false x y e = absurd cc

pub can_free_so : (m : Blocks) (x : Value) → CanFree m x → can_free m x ≡ true
can_free_so m x (inl is) = ap (can_free m) is
can_free_so m x (inr (b, c, is, h)) = ap (can_free m) is ∙ ap is_heap h

pub can_free_is : (m : Blocks) (x : Value) → can_free m x ≡ true → CanFree m x
can_free_is m (v.Num n) e = inl (ap v.Num ((Decides-int_eq n (pos 0)).0 e))
can_free_is m (v.Addr a) e =
    let two = and_parts (int_eq a.offset (pos 0)) (is_heap (map.get m a.block)) e in
    let offset : a.offset ≡ pos 0 = (Decides-int_eq a.offset (pos 0)).0 two.0 in
    let h = heap_is (map.get m a.block) two.1 in
    inr (a.block, h.0, ap v.Addr (λ i. record { block = a.block; offset = offset i }), h.1)

pub free_or_not : (m : Blocks) (x : Value) → CanFree m x ⊎ (CanFree m x → ⊥)
free_or_not m x = by_test (can_free m x) refl
  where
    by_test : (b : Bool) → can_free m x ≡ b → CanFree m x ⊎ (CanFree m x → ⊥)
    by_test true e = inl (can_free_is m x e)
    by_test false e = inr (λ can. let never : true ≡ false = sym (can_free_so m x can) ∙ e in cc)

pub room_so : (m : Blocks) (cells : ℤ) → HasRoom m cells → room m cells ≡ true
room_so m cells (n, is, fits) = ap (room m) is ∙ le-leb (live_cells m + suc n) (2 ^ 20) fits

pub room_is : (m : Blocks) (cells : ℤ) → room m cells ≡ true → HasRoom m cells
room_is m (pos zero) e = absurd cc
room_is m (pos (suc n)) e = (n, refl, leb-true (live_cells m + suc n) (2 ^ 20) e)
room_is m (negsuc n) e = absurd cc

pub least_is : (m : Blocks) (k b : ℕ) → Used k m → IsLeastUnused m b → k ≡ b
least_is m k b used (none, below) =
    let not_below : k ≤ b = ltb-false b k (sym (used b) ∙ ap is_some none) in
    let not_above : b ≤ k = not_less (below k) in
    omega (arith, not_below, not_above)
  where
    not_less : (k < b → IsSome (map.get m k)) → b ≤ k
    not_less h = ltb-false k b (false_from_ne_true (nat_lt k b) (λ e. omega (arith, ltb-true k k (sym (used k) ∙ h (ltb-true k b e)))))

given_is : (m : Blocks) (k : ℕ) (cells : ℤ) (x : Value) → IsLeastUnused m k → IsGiven m cells x → given_value m k cells ≡ x
given_is m k cells x used (inl (fits, (b, least, is))) =
    cond-true (room m cells) (block_at k) null (room_so m cells fits) ∙ (ap block_at (one_least m k b used least) ∙ sym is)
given_is m k cells x used (inr (full, is)) = cond-false (room m cells) (block_at k) null (false_from_ne_true (room m cells) (λ e. full (room_is m cells e))) ∙ sym is

some_write : (a : Addr) (x : Value) (o : Option Value) (missing : EventAct) → IsSome o → write_entry a x o missing ≡ act.Write a x
some_write a x None missing h = absurd cc
some_write a x (Some y) missing h = refl

unfit_entry : (a : Addr) (kd : LoadKind) (o : Option Value) (missing : EventAct) → IsUnfit kd o → read_entry a kd o missing ≡ act.Fault fault.Kind
unfit_entry a kd None missing h = absurd h
unfit_entry a kd (Some x) missing h = cond-false (suits kd x) (act.Read a x) (act.Fault fault.Kind) h

no_site : (r : Option SiteId) → (is_some r && true) ≡ false → r ≡ None
no_site None e = refl
no_site (Some s) e = absurd cc

module _ (g : Shared) (t k : ℕ) (used : IsLeastUnused g.blocks k) (ended : EndedBelow g) (r : Option SiteId) (gives : List Given) where
  -- an entry that is neither a fault nor a retry
  pub plain_is : (w : Want) (a : EventAct) (y : Value) → answer w a ≡ Some y → Allows g t a → IsChosen g a → the_entry g t k r gives w ≡ Some a
  plain_is (Reads at by kd s) (act.Read a x) y e ok is =
      let two = and_parts (is_at at by a) (suits kd x) (when_is (is_at at by a && suits kd x) x y e) in
      let missing = failing r fault.Pointer gives in
      ap (λ b. Some (read_entry b kd (reached g.blocks at by) missing)) (aimed_is at by a two.0)
      ∙ (ap (λ o. Some (read_entry a kd o missing)) (reached_is g.blocks at by a two.0 ∙ ok) ∙ ap (λ b. Some (cond b (act.Read a x) (act.Fault fault.Kind))) two.1)
  plain_is (Writes at by x s) (act.Write a z) y e ok is =
      let two = and_parts (is_at at by a) (same z x) (when_is (is_at at by a && same z x) null y e) in
      let missing = failing r fault.Pointer gives in
      ap (λ b. Some (write_entry b x (reached g.blocks at by) missing)) (aimed_is at by a two.0)
      ∙ (ap (λ o. Some (write_entry a x o missing)) (reached_is g.blocks at by a two.0) ∙ (ap Some (some_write a x (cell g.blocks a.block a.offset) missing ok) ∙ ap (λ z. Some (act.Write a z)) (sym (same_is z x two.1))))
  plain_is (Locks m s i) (act.Lock n) y e ok is =
      let number : m.0 ≡ n.0 = eqb-true m.0 n.0 (when_is (m.0 == n.0) null y e) in
      ap (λ j. lock_entry (record { 0 = j }) (nat_lt j g.mutexes) (map.get g.owners j) (retrying r gives)) number
      ∙ (ap (λ o. lock_entry n (nat_lt n.0 g.mutexes) o (retrying r gives)) ok.1 ∙ ap (λ b. cond b (Some (act.Lock n)) None) (lt-ltb n.0 g.mutexes ok.0))
  plain_is (Unlocks m) (act.Unlock n) y e ok is =
      let number : m.0 ≡ n.0 = eqb-true m.0 n.0 (when_is (m.0 == n.0) null y e) in
      ap (λ j. Some (cond (is_owner t (map.get g.owners j)) (act.Unlock (record { 0 = j })) (act.Fault fault.Mutex))) number
      ∙ ap (λ b. Some (cond b (act.Unlock n) (act.Fault fault.Mutex))) (is_owner_so (map.get g.owners n.0) t ok)
  plain_is (Mallocs cells i) (act.Malloc n x) y e ok is =
      ap (λ c. Some (act.Malloc c (given_value g.blocks k c))) ((Decides-int_eq cells n).0 (when_is (int_eq cells n) x y e))
      ∙ ap (λ z. Some (act.Malloc n z)) (given_is g.blocks k n x used is)
  plain_is (Frees x s) (act.Free z) y e ok is =
      ap (λ z. Some (cond (can_free g.blocks z) (act.Free z) (failing r fault.Pointer gives))) (same_is x z (when_is (same x z) null y e))
      ∙ ap (λ b. Some (cond b (act.Free z) (failing r fault.Pointer gives))) (can_free_so g.blocks z ok)
  plain_is (Prints text) (act.Print u) y e ok is = ap (λ l. Some (act.Print l)) ((bytes_eq-Decides text u).0 (when_is (bytes_eq text u) null y e))
  plain_is (Creates f x) (act.Create u) y e ok is =
      ap (λ b. cond b (Some (act.Create g.threads)) (cond (g.threads == 64) (Some (act.Fault fault.Thread)) None)) (lt-ltb g.threads 64 (omega (arith, ok.0, ok.1)))
      ∙ ap (λ n. Some (act.Create n)) (sym ok.0)
  plain_is (Joins n) (act.Join u) y e ok is = ap (join_entry g) ((Decides-int_eq n (pos u)).0 (when_is (int_eq n (pos u)) null y e)) ∙ joined u ok (ended u ok)
    where
      joined : (u : ℕ) → set.contains g.ended u ≡ true → (0 < u) × (u < g.threads) → join_entry g (pos u) ≡ Some (act.Join u)
      joined zero h b = absurd (let never : ⊥ = omega (arith, b.0) in never)
      joined (suc u) h b =
          ap (λ c. cond c (cond (set.contains g.ended (suc u)) (Some (act.Join (suc u))) None) (Some (act.Fault fault.Thread))) (lt-ltb (suc u) g.threads b.1)
          ∙ ap (λ c. cond c (Some (act.Join (suc u))) None) h
  plain_is (Calls f xs) (act.Call h) y e ok is = ap (λ j. Some (act.Call (record { 0 = j }))) (eqb-true f.0 h.0 (when_is (f.0 == h.0) null y e))
  plain_is (Returns x) (act.Return z) y e ok is = ap (λ z. Some (act.Return z)) (same_is x z (when_is (same x z) null y e))
  plain_is Turns act.Turn y e ok is = refl
  plain_is Ends act.End y e ok is = refl
  plain_is Saves act.Save y e ok is = refl
  plain_is _ _ y e ok is = absurd cc

  -- a fault
  pub fault_is : (w : Want) (f : FaultKind) → may_fault w f ≡ true → (is_some r && is_failing f) ≡ false → FaultIsDue g t w f → the_entry g t k r gives w ≡ Some (act.Fault f)
  fault_is (Reads at by kd s) fault.Pointer e no' due =
      ap (λ o. Some (read_entry (aimed at by) kd o (failing r fault.Pointer gives))) due ∙ ap (λ q. Some (failing q fault.Pointer gives)) (no_site r no')
  fault_is (Reads at by kd s) fault.Kind e no' due = ap Some (unfit_entry (aimed at by) kd (reached g.blocks at by) (failing r fault.Pointer gives) due)
  fault_is (Writes at by x s) fault.Pointer e no' due =
      ap (λ o. Some (write_entry (aimed at by) x o (failing r fault.Pointer gives))) due ∙ ap (λ q. Some (failing q fault.Pointer gives)) (no_site r no')
  fault_is (Frees x s) fault.Pointer e no' due =
      ap (λ b. Some (cond b (act.Free x) (failing r fault.Pointer gives))) (false_from_ne_true (can_free g.blocks x) (λ e. due (can_free_is g.blocks x e)))
      ∙ ap (λ q. Some (failing q fault.Pointer gives)) (no_site r no')
  fault_is (Unlocks m) fault.Mutex e no' due =
      ap (λ b. Some (cond b (act.Unlock m) (act.Fault fault.Mutex))) (false_from_ne_true (is_owner t (map.get g.owners m.0)) (λ e. due (owner_is (map.get g.owners m.0) t e)))
  fault_is (Creates f x) fault.Thread e no' due = ap create_entry due
  fault_is (Joins (pos zero)) fault.Thread e no' due = refl
  fault_is (Joins (pos (suc u))) fault.Thread e no' due =
      ap (λ c. cond c (cond (set.contains g.ended (suc u)) (Some (act.Join (suc u))) None) (Some (act.Fault fault.Thread)))
      (false_from_ne_true (nat_lt (suc u) g.threads) (λ e. due u refl (ltb-true (suc u) g.threads e)))
  fault_is (Joins (negsuc n)) fault.Thread e no' due = refl
  fault_is (Fails s) fault.Assert e no' due = ap (λ q. Some (failing q fault.Assert gives)) (no_site r no')
  fault_is (Faults fault.Arith) fault.Arith e no' due = refl
  fault_is _ _ e no' due = absurd cc

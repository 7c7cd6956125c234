-- What the states of the runner have in common: which blocks were used, and which threads have ended.
use Rattle.std.proofs.Common.{rules, ◌≡◌, ◌≢◌, ℕ, zero, suc, ◌+◌, ◌<◌, ◌≤◌, true, false, List, [], ◌∷◌, length, Option, Some, None, refl, sym, ap, ◌∙◌, arith, inl, inr}
use Rattle.std.specs.Prelude.{◌&&◌, ℤ, pos, negsuc, is_some, nat_lt, nat_le}
use Rattle.std.specs.Ordering.{nat_cmp}
use Rattle.std.specs.FinMap as map
use Rattle.std.specs.FinMap.{gets}
use Rattle.std.specs.FinSet as set
use Rattle.std.specs.FinSet.{members}
use Rattle.std.proofs.lemmas.Bool.{lt-ltb}
use Rattle.std.proofs.lemmas.Bool.Decides.{eqb_tells, nat_tests}
use Rattle.ca_model.specs.declared.values.Value.{Value}
use Rattle.ca_model.specs.declared.values.Value.TheVariants as v
use Rattle.ca_model.specs.declared.values.Given.{Given}
use Rattle.ca_model.specs.declared.values.Given.TheVariants as given
use Rattle.ca_model.specs.declared.values.EventAct.{EventAct}
use Rattle.ca_model.specs.declared.values.EventAct.TheVariants as act
use Rattle.ca_model.specs.declared.tree.GlobalStart.{GlobalStart}
use Rattle.ca_model.specs.Arith.{null}
use Rattle.ca_model.specs.Shared.{Block, Blocks, Shared, Phase, Open, put_cell, insert_if, died, freed, made, give, give_all, effect, ended_phase, IsLegal}
use Rattle.ca_model.specs.Opening.{globals_from, opening_shared}
use Rattle.ca_model.specs.Codes.{Typed}
use Rattle.ca_model.specs.Runner.{IsChosen}
use Rattle.ca_model.specs.ComingEntries.{EndedBelow, block_at}
use Rattle.ca_model.proofs.Cells.{get_here, get_there}
use Rattle.ca_model.proofs.Entries.{Used, least_is}

-- as many entries as n were made since no block was there
pub record Reached (s : Shared) (n : ℕ) : Type 0 where
  pub ended : s.phase ≡ Open → EndedBelow s
  pub count : ℕ
  pub used : Used count s.blocks
  pub few : count ≤ n

-- a block that changes is as used as before
same_used : (m : Blocks) (b c : ℕ) (o : Option Block) → is_some o ≡ is_some (map.get m b) → is_some (map.get (insert_if m b o) c) ≡ is_some (map.get m c)
same_used m b c None e = refl
same_used m b c (Some x) e = elim (eqb_tells c b) [
  | inl same ↦ ap (λ n. is_some (map.get (map.insert m b x) n)) same.1 ∙ (ap is_some (get_here m b x) ∙ (e ∙ ap (λ n. is_some (map.get m n)) (sym same.1)))
  | inr other ↦ ap is_some (get_there m b c x other.1)
]

put_used : (o : Option Block) (n : ℤ) (x : Value) → is_some (put_cell o n x) ≡ is_some o
put_used None n x = refl
put_used (Some b) (pos n) x = refl
put_used (Some b) (negsuc n) x = refl

died_used : (o : Option Block) → is_some (died o) ≡ is_some o
died_used None = refl
died_used (Some b) = refl

freed_used : (m : Blocks) (x : Value) (c : ℕ) → is_some (map.get (freed m x) c) ≡ is_some (map.get m c)
freed_used m (v.Num n) c = refl
freed_used m (v.Addr a) c = same_used m a.block c (died (map.get m a.block)) (died_used (map.get m a.block))

given_used : (gs : List Given) (s : Shared) (c : ℕ) → is_some (map.get (give_all s gs).blocks c) ≡ is_some (map.get s.blocks c)
given_used [] s c = refl
given_used (given.Mutex m ∷ gs) s c = given_used gs (give s (given.Mutex m)) c
given_used (given.Block b ∷ gs) s c = given_used gs (give s (given.Block b)) c ∙ same_used s.blocks b c (died (map.get s.blocks b)) (died_used (map.get s.blocks b))

given_phase : (gs : List Given) (s : Shared) → (give_all s gs).phase ≡ s.phase
given_phase [] s = refl
given_phase (given.Mutex m ∷ gs) s = given_phase gs (give s (given.Mutex m))
given_phase (given.Block b ∷ gs) s = given_phase gs (give s (given.Block b))

given_below : (gs : List Given) (s : Shared) → EndedBelow s → EndedBelow (give_all s gs)
given_below [] s h = h
given_below (given.Mutex m ∷ gs) s h = given_below gs (give s (given.Mutex m)) h
given_below (given.Block b ∷ gs) s h = given_below gs (give s (given.Block b)) h

made_null : (m : Blocks) (n : ℤ) → made m n null ≡ m
made_null m (pos n) = refl
made_null m (negsuc n) = refl

not_last : (k c : ℕ) → c ≢ k → nat_lt c k ≡ nat_lt c (suc k)
not_last k c ne = grind (arith, nat_tests)

one_more : (m : Blocks) (k c : ℕ) (x : Block) → Used k m → is_some (map.get (map.insert m k x) c) ≡ nat_lt c (suc k)
one_more m k c x used = elim (eqb_tells c k) [
  | inl same ↦ ap (λ n. is_some (map.get (map.insert m k x) n)) same.1 ∙ (ap is_some (get_here m k x) ∙ sym (lt-ltb c (suc k) (omega (arith, same.1))))
  | inr other ↦ ap is_some (get_there m k c x other.1) ∙ (used c ∙ not_last k c other.1)
]

-- the count of used blocks after an entry
used_after : (s : Shared) (t : ℕ) (a : EventAct) (k : ℕ) → Used k s.blocks → IsChosen s a → (j : ℕ) × Used j (effect s t a).blocks × (j ≤ k + 1)
used_after s t (act.Write a x) k used is = (k, (λ c. same_used s.blocks a.block c (put_cell (map.get s.blocks a.block) a.offset x) (put_used (map.get s.blocks a.block) a.offset x) ∙ used c), omega arith)
used_after s t (act.Free x) k used is = (k, (λ c. freed_used s.blocks x c ∙ used c), omega arith)
used_after s t (act.Retry site gs) k used is = (k, (λ c. given_used gs s c ∙ used c), omega arith)
used_after s t (act.Malloc n x) k used (inl ((j, size, fits), (b, least, at))) =
    let same : k ≡ b = least_is s.blocks k b used least in (
      suc k,
      λ c. ap (λ m. is_some (map.get m c)) (ap (λ z. made s.blocks n z) (at ∙ ap block_at (sym same)) ∙ ap (λ z. made s.blocks z (block_at k)) size) ∙ one_more s.blocks k c _ used,
      omega arith,
    )
used_after s t (act.Malloc n x) k used (inr (full, at)) =
    (k, (λ c. ap (λ m. is_some (map.get m c)) (ap (λ z. made s.blocks n z) at ∙ made_null s.blocks n) ∙ used c), omega arith)
used_after s t _ k used is = (k, used, omega arith)

-- thread 0 ends the run, and any other thread was made
ends_open : (t : ℕ) (p : Phase) → ended_phase t p ≡ Open → 0 < t
ends_open zero p h = absurd cc
ends_open (suc t) p h = omega arith

ended_now : (m : set.FinSet nat_cmp) (t u : ℕ) → u ≢ t → set.contains (set.insert m t) u ≡ true → set.contains m u ≡ true
ended_now m t u ne h = grind (members, rules)

pub below_after : (s : Shared) (t : ℕ) (a : EventAct) → IsLegal s t a → EndedBelow s → (effect s t a).phase ≡ Open → EndedBelow (effect s t a)
below_after s t act.End legal below open' = λ u h. elim (eqb_tells u t) [
  | inl same ↦ (omega (arith, same.1, ends_open t s.phase open'), omega (arith, same.1, legal.there))
  | inr other ↦ below u (ended_now s.ended t u other.1 h)
]
below_after s t (act.Create n) legal below open' = λ u h. let two = below u h in (two.0, omega (arith, two.1))
below_after s t (act.Retry site gs) legal below open' = given_below gs s below
below_after s t (act.Fault k) legal below open' = absurd cc
below_after s t _ legal below open' = below

pub reached_after : (s : Shared) (t : ℕ) (a : EventAct) (n : ℕ) → Reached s n → IsLegal s t a → IsChosen s a → Reached (effect s t a) (n + 1)
reached_after s t a n r legal is =
    let j = used_after s t a r.count r.used is in
    record { ended = below_after s t a legal (r.ended legal.run); count = j.0; used = j.1; few = omega (arith, j.2, r.few) }

-- and where a run opens, each global has a block
no_block : (c : ℕ) → is_some (map.get (map.empty {K = ℕ} {X = Block} {R = nat_cmp}) c) ≡ false
no_block c = grind (gets, rules)

none_within : (n c : ℕ) → false ≡ (nat_le n c && nat_lt c (n + 0))
none_within n c = grind (arith, nat_tests)

first_within : (n c m : ℕ) → c ≡ n → true ≡ (nat_le n c && nat_lt c (n + suc m))
first_within n c m e = grind (arith, nat_tests)

later_within : (n c m : ℕ) → c ≢ n → (nat_le (n + 1) c && nat_lt c (n + 1 + m)) ≡ (nat_le n c && nat_lt c (n + suc m))
later_within n c m ne = grind (arith, nat_tests)

globals_used : (gs : List GlobalStart) (n c : ℕ) → is_some (map.get (globals_from n gs) c) ≡ (nat_le n c && nat_lt c (n + length gs))
globals_used [] n c = no_block c ∙ none_within n c
globals_used (g ∷ gs) n c = elim (eqb_tells c n) [
  | inl same ↦ ap (λ b. is_some (map.get (globals_from n (g ∷ gs)) b)) same.1 ∙ (ap is_some (get_here (globals_from (n + 1) gs) n _) ∙ first_within n c (length gs) same.1)
  | inr other ↦ ap is_some (get_there (globals_from (n + 1) gs) n c _ other.1) ∙ (globals_used gs (n + 1) c ∙ later_within n c (length gs) other.1)
]

from_zero : (c m : ℕ) → (nat_le 0 c && nat_lt c (0 + m)) ≡ nat_lt c m
from_zero c m = grind (arith, nat_tests)

pub opening_reached : (p : Typed) → Reached (opening_shared p) (length p.globals)
opening_reached p = record { ended = λ o u h. absurd (nobody u h); count = length p.globals; used = λ c. globals_used p.globals 0 c ∙ from_zero c (length p.globals); few = omega arith }
  where
    nobody : (u : ℕ) → set.contains (set.empty {R = nat_cmp}) u ≡ true → ⊥
    nobody u h = let no' : false ≡ true = sym (none u) ∙ h in cc
      where
        none : (u : ℕ) → set.contains (set.empty {R = nat_cmp}) u ≡ false
        none u = grind (members, rules)

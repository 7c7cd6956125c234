-- The blocks of globals, and their counts.
use Rattle.std.proofs.Common.{◌≡◌, ◌≤◌, ◌<◌, ◌+◌, ℕ, zero, suc, true, false, cond, ◌&&◌, List, [], ◌∷◌, length, Some, None, refl, sym, ap, ◌∙◌, arith, length-set}
use Rattle.std.specs.Prelude.{All, map, nat_le, nat_lt, is_some, replicate, sum_by}
use Rattle.std.specs.Ordering.{nat_cmp, eq_by_cmp}
use Rattle.std.specs.Cmp.{nat_cmp_total}
use Rattle.std.specs.FinMap as finite
use Rattle.std.specs.FinMap.{get-empty, len-empty, len-entries, len-insert}
use Rattle.std.proofs.lemmas.List.{length-replicate}
use Rattle.std.proofs.lemmas.Bool.Decides.{nat_tests}
use Rattle.ca_model.specs.declared.tree.GlobalStart.{GlobalStart}
use Rattle.ca_model.specs.Arith.{null}
use Rattle.ca_model.specs.Shared.{Block, heap_size, live_cells}
use Rattle.ca_model.specs.Opening.{globals_from}
use Rattle.ca_memory.specs.Kept.{most_cells, AreShort, AreCounts}
use Rattle.ca_memory.specs.Zeros.{global_block, zeroed}
use Rattle.ca_memory.proofs.Counts.{weigh, live_insert, used_by, none_is, short_insert}

-- the numbers from n on are used, as many as there are globals
between : (n q l : ℕ) → cond (eq_by_cmp nat_cmp q n) true (nat_le (n + 1) q && nat_lt q (n + 1 + l)) ≡ (nat_le n q && nat_lt q (n + suc l))
between n q l = grind (arith, nat_tests)

used : (n : ℕ) (gs : List GlobalStart) (q : ℕ) → is_some (finite.get (globals_from n gs) q) ≡ (nat_le n q && nat_lt q (n + length gs))
used n [] q = ap is_some (get-empty nat_cmp q) ∙ none_there n q
  where
    none_there : (n q : ℕ) → false ≡ (nat_le n q && nat_lt q (n + 0))
    none_there n q = grind (arith, nat_tests)
used n (g ∷ gs) q = used_by (globals_from (n + 1) gs) n q (global_block g) ∙ (ap (cond (eq_by_cmp nat_cmp q n) true) (used (n + 1) gs q) ∙ between n q (length gs))

unused : (n : ℕ) (gs : List GlobalStart) → is_some (finite.get (globals_from (n + 1) gs) n) ≡ false
unused n gs = used (n + 1) gs n ∙ before n (length gs)
  where
    before : (n l : ℕ) → (nat_le (n + 1) n && nat_lt n (n + 1 + l)) ≡ false
    before n l = grind (arith, nat_tests)

count : (n : ℕ) (gs : List GlobalStart) → length gs ≡ finite.len (globals_from n gs)
count n [] = sym (len-empty nat_cmp Block)
count n (g ∷ gs) = ap suc (count (n + 1) gs) ∙ (one_after _ ∙ sym (len-insert nat_cmp_total (globals_from (n + 1) gs) n (global_block g) ∙ ap (λ t. cond t (finite.len (globals_from (n + 1) gs)) (finite.len (globals_from (n + 1) gs) + 1)) (unused n gs)))
  where
    one_after : (l : ℕ) → suc l ≡ l + 1
    one_after l = omega arith

none_live : (n : ℕ) (gs : List GlobalStart) → live_cells (globals_from n gs) ≡ 0
none_live n [] = ap (λ es. sum_by (λ (e : ℕ × Block). heap_size e.1) es) (nothing _ (sym (len-entries finite.empty) ∙ len-empty nat_cmp Block))
  where
    nothing : {A : Type 0} (xs : List A) → length xs ≡ 0 → xs ≡ []
    nothing [] e = refl
    nothing (x ∷ xs) e = absurd (omega (arith, e))
none_live n (g ∷ gs) =
    let e = live_insert (globals_from (n + 1) gs) n (global_block g) in
    let w : weigh (finite.get (globals_from (n + 1) gs) n) ≡ 0 = ap weigh (none_is _ (unused n gs)) in
    let more = none_live (n + 1) gs in omega arith

short : (n : ℕ) (gs : List GlobalStart) → All (λ (g : GlobalStart). g.cells ≤ most_cells) gs → AreShort (globals_from n gs)
short n [] h = λ q x is. absurd (no_some (sym (get-empty nat_cmp q) ∙ is))
  where
    no_some : {A : Type 0} {x : A} → None ≡ Some x → ⊥
    no_some e = absurd cc
short n (g ∷ gs) h = short_insert (globals_from (n + 1) gs) n (global_block g) (let l = length-set (replicate g.cells null) 0 g.first in let r = length-replicate g.cells null in let one = h 0 g (omega arith) in omega arith)
    (short (n + 1) gs (λ k d lt. h (suc k) d (omega (arith, lt))))

pub counted : (gs : List GlobalStart) → length gs ≤ 65536 → All (λ (g : GlobalStart). g.cells ≤ most_cells) gs → AreCounts (globals_from 0 gs) 0 (length gs) (length gs)
counted gs few each = record {
  live = sym (none_live 0 gs);
  few_live = omega arith;
  made = count 0 gs;
  few_made = omega (arith, few);
  next = (none_is _ (used 0 gs (length gs) ∙ past (length gs)), λ c lt. used 0 gs c ∙ below c (length gs) lt);
  short = short 0 gs each;
}
  where
    past : (l : ℕ) → (nat_le 0 l && nat_lt l (0 + l)) ≡ false
    past l = grind (arith, nat_tests)

    below : (c l : ℕ) → c < l → (nat_le 0 c && nat_lt c (0 + l)) ≡ true
    below c l lt = grind (arith, nat_tests)

-- sizes that are within the bound, as globals
pub zeroed_short : (ns : List ℕ) → All (λ n. n ≤ most_cells) ns → All (λ (g : GlobalStart). g.cells ≤ most_cells) (map zeroed ns)
zeroed_short [] h k d lt = absurd (omega (arith, lt))
zeroed_short (n ∷ ns) h zero d lt = h 0 0 (omega arith)
zeroed_short (n ∷ ns) h (suc k) d lt = zeroed_short ns (λ j e below. h (suc j) e (omega (arith, below))) k d (omega (arith, lt))

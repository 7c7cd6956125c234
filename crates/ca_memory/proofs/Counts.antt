-- The counts that stand beside a table.
use Rattle.std.proofs.Common.{◌≡◌, ◌≤◌, ◌<◌, ◌+◌, ◌-◌, ◌^◌, ℕ, pos, negsuc, ℤ, Bool, true, false, cond, List, [], ◌∷◌, length, Option, Some, None, refl, sym, ap, subst, ◌∙◌, arith, ◌&&◌, length-set}
use Rattle.std.specs.Prelude.{slice_set, IsSome, is_some, sum_by, replicate}
use lib.Dec.{T}
use Rattle.std.specs.Ordering.{nat_cmp, eq_by_cmp, is_eq, is_lt}
use Rattle.std.specs.declared.cmp.Ordering.{Ordering}
use Rattle.std.specs.declared.cmp.Ordering.TheVariants.{Less, Equal, Greater}
use Rattle.std.specs.Cmp.{nat_cmp_total}
use Rattle.std.specs.FinMap as finite
use Rattle.std.specs.FinMap.{entries-insert, entries_sorted, get-entries, len-insert, get-insert, nat_cmp-IsAntisymmetric, is_sorted, find}
use Rattle.std.specs.FinMap.Entries.{put, by_order, below_all}
use Rattle.std.proofs.lemmas.List.{length-replicate}
use Rattle.std.proofs.lemmas.List.Sums.{sum_by-cons}
use Rattle.ca_model.specs.declared.values.Value.{Value}
use Rattle.ca_model.specs.declared.values.Addr.{Addr}
use Rattle.ca_model.specs.Arith.{null}
use Rattle.ca_model.specs.Shared.{Blocks, Block, heap_size, live_cells, put_cell, insert_if, with_cell}
use Rattle.ca_model.specs.Runner.{IsLeastUnused}
use Rattle.ca_memory.specs.Kept.{most_cells, AreShort, AreCounts}

abbrev pub weigh : Option Block → ℕ
weigh None = 0
weigh (Some b) = heap_size b

abbrev total : List (ℕ × Block) → ℕ
total es = sum_by (λ e. heap_size e.1) es

left : (a b : Bool) → T (a && b) → T a
left true b h = tt
left false b h = h

right : (a b : Bool) → T (a && b) → T b
right true b h = h
right false b h = absurd h

less_is : (o : Ordering) → T (is_lt o) → o ≡ Less
less_is Less h = refl
less_is Equal h = absurd h
less_is Greater h = absurd h

-- a number below the first of numbers that rise is none of them
none_below : (k x : ℕ) (es : List (ℕ × Block)) → nat_cmp k x ≡ Less → T (below_all nat_cmp x es) → find nat_cmp k es ≡ None
none_below k x [] lt b = refl
none_below k x (e ∷ es) lt b =
    let here : nat_cmp k e.0 ≡ Less = nat_cmp_total.trans k x e.0 lt (less_is _ (left _ _ b)) in
    ap (λ o. cond (is_eq o) (Some e.1) (find nat_cmp k es)) here ∙ none_below k x es lt (right _ _ b)

sum_put : (k : ℕ) (v : Block) (es : List (ℕ × Block)) → T (is_sorted nat_cmp es) → total (put nat_cmp k v es) + weigh (find nat_cmp k es) ≡ total es + heap_size v
sum_put k v [] s = simp sum_by-cons (omega arith)
sum_put k v (e ∷ es) s =
    let more : total (put nat_cmp k v es) + weigh (find nat_cmp k es) ≡ total es + heap_size v = sum_put k v es (right _ _ s) in
    elim (nat_cmp k e.0) as (λ r. nat_cmp k e.0 ≡ r → total (by_order r ((k, v) ∷ e ∷ es) ((e.0, v) ∷ es) (e ∷ put nat_cmp k v es)) + weigh (cond (is_eq r) (Some e.1) (find nat_cmp k es)) ≡ total (e ∷ es) + heap_size v) [
      | Less ↦ λ p. rw (none_below k e.0 es p (left _ _ s)) (simp sum_by-cons (omega arith))
      | Equal ↦ λ p. simp sum_by-cons (omega arith)
      | Greater ↦ λ p. simp sum_by-cons (omega (arith, more))
    ] refl

pub live_insert : (m : Blocks) (k : ℕ) (b : Block) → live_cells (finite.insert m k b) + weigh (finite.get m k) ≡ live_cells m + heap_size b
live_insert m k b = ap (λ es. total es + weigh (finite.get m k)) (entries-insert nat_cmp_total m k b)
    ∙ (ap (λ o. total (put nat_cmp k b (finite.entries m)) + weigh o) (get-entries m k) ∙ sum_put k b (finite.entries m) (entries_sorted m))

-- a number that is used stays used, and a used number that is written makes no other used
pub used_by : (m : Blocks) (k q : ℕ) (b : Block) → is_some (finite.get (finite.insert m k b) q) ≡ cond (eq_by_cmp nat_cmp q k) true (is_some (finite.get m q))
used_by m k q b = ap is_some (get-insert nat_cmp_total m k b q) ∙ elim (eq_by_cmp nat_cmp q k) as (λ t. is_some (cond t (Some b) (finite.get m q)) ≡ cond t true (is_some (finite.get m q))) [ true ↦ refl | false ↦ refl ]

tied : (o : Ordering) → is_eq o ≡ true → o ≡ Equal
tied Less h = absurd cc
tied Equal h = refl
tied Greater h = absurd cc

same_used : (m : Blocks) (k q : ℕ) (b : Block) → is_some (finite.get m k) ≡ true → is_some (finite.get (finite.insert m k b) q) ≡ is_some (finite.get m q)
same_used m k q b is = used_by m k q b ∙ elim (eq_by_cmp nat_cmp q k) as (λ t. eq_by_cmp nat_cmp q k ≡ t → cond t true (is_some (finite.get m q)) ≡ is_some (finite.get m q)) [
  | true ↦ λ h. sym (ap (λ n. is_some (finite.get m n)) (nat_cmp-IsAntisymmetric q k (tied _ h)) ∙ is)
  | false ↦ λ h. refl
] refl

pub none_is : {A : Type 0} (o : Option A) → is_some o ≡ false → o ≡ None
none_is None h = refl
none_is (Some x) h = absurd cc

some_of : (a b : Block) → Some a ≡ Some b → length a.cells ≤ most_cells → length b.cells ≤ most_cells
some_of a b is h = subst (λ (o : Option Block). length (cells_or o) ≤ most_cells) is h
  where
    cells_or : Option Block → List Value
    cells_or None = []
    cells_or (Some x) = x.cells

pub short_insert : (m : Blocks) (k : ℕ) (b : Block) → length b.cells ≤ most_cells → AreShort m → AreShort (finite.insert m k b)
short_insert m k b h short q x is = elim (eq_by_cmp nat_cmp q k) as (λ t. cond t (Some b) (finite.get m q) ≡ Some x → length x.cells ≤ most_cells) [
  | true ↦ λ e. some_of b x e h
  | false ↦ λ e. short q x e
] (sym (get-insert nat_cmp_total m k b q) ∙ is)

-- a block that is written in place of one with as many cells of the heap
pub rewritten : (m : Blocks) (k cells count least : ℕ) (a b : Block) → finite.get m k ≡ Some a → heap_size b ≡ heap_size a → length b.cells ≡ length a.cells → AreCounts m cells count least
    → AreCounts (finite.insert m k b) cells count least
rewritten m k cells count least a b is same long c =
    let there : is_some (finite.get m k) ≡ true = ap is_some is in
    record {
      live = c.live ∙ (let e = live_insert m k b in let w = ap weigh is in omega arith);
      few_live = c.few_live;
      made = c.made ∙ sym (len-insert nat_cmp_total m k b ∙ ap (λ t. cond t (finite.len m) (finite.len m + 1)) there);
      few_made = c.few_made;
      next = (none_is _ (same_used m k least b there ∙ ap is_some c.next.0), λ q lt. same_used m k q b there ∙ c.next.1 q lt);
      short = short_insert m k b (let h = c.short k a is in omega (arith, long)) c.short;
    }

same_size : (h l : Bool) (xs ys : List Value) → length ys ≡ length xs → heap_size (record { heap = h; live = l; cells = ys }) ≡ heap_size (record { heap = h; live = l; cells = xs })
same_size true true xs ys e = e
same_size true false xs ys e = refl
same_size false l xs ys e = refl

put_keeps : (o : Option Block) (m : Blocks) (k : ℕ) (z : ℤ) (x : Value) (cells count least : ℕ) → finite.get m k ≡ o → AreCounts m cells count least → AreCounts (insert_if m k (put_cell o z x)) cells count least
put_keeps None m k z x cells count least is c = c
put_keeps (Some b) m k (pos n) x cells count least is c = rewritten m k cells count least b (record { heap = b.heap; live = b.live; cells = slice_set b.cells n x }) is (same_size b.heap b.live b.cells _ (length-set b.cells n x)) (length-set b.cells n x) c
put_keeps (Some b) m k (negsuc n) x cells count least is c = rewritten m k cells count least b b is refl refl c

pub store_keeps : (m n : Blocks) (a : Addr) (x : Value) (cells count least : ℕ) → n ≡ with_cell m a x → AreCounts m cells count least → AreCounts n cells count least
store_keeps m n a x cells count least is c = subst (λ l. AreCounts l cells count least) (sym is) (put_keeps (finite.get m a.block) m a.block a.offset x cells count least refl c)

-- a new block
pub added : (m : Blocks) (k n cells count least other : ℕ) → finite.get m k ≡ None → cells + n ≤ 2 ^ 20 → count + 1 < 2 ^ 32 → AreCounts m cells count least
    → IsLeastUnused (finite.insert m k (record { heap = true; live = true; cells = replicate n null })) other → AreCounts (finite.insert m k (record { heap = true; live = true; cells = replicate n null })) (cells + n) (count + 1) other
added m k n cells count least other none room few c next = record {
  live = (let e = live_insert m k (record { heap = true; live = true; cells = replicate n null }) in let w = ap weigh none in let l = length-replicate n null in let h = c.live in omega arith);
  few_live = room;
  made = ap (λ i. i + 1) c.made ∙ sym (len-insert nat_cmp_total m k _ ∙ ap (λ o. cond (is_some o) (finite.len m) (finite.len m + 1)) none);
  few_made = few;
  next = next;
  short = short_insert m k _ (let l = length-replicate n null in omega (arith, room)) c.short;
}

pub still_used : (m : Blocks) (k q : ℕ) (b : Block) → IsSome (finite.get m q) → IsSome (finite.get (finite.insert m k b) q)
still_used m k q b is = used_by m k q b ∙ elim (eq_by_cmp nat_cmp q k) as (λ t. cond t true (is_some (finite.get m q)) ≡ true) [ true ↦ refl | false ↦ is ]

-- a live block of the heap that ends
pub ended : (m : Blocks) (k cells count least : ℕ) (xs : List Value) → finite.get m k ≡ Some (record { heap = true; live = true; cells = xs }) → AreCounts m cells count least
    → (length xs ≤ cells) × AreCounts (finite.insert m k (record { heap = true; live = false; cells = xs })) (cells - length xs) count least
ended m k cells count least xs is c =
    let there : is_some (finite.get m k) ≡ true = ap is_some is in
    let dead : Block = record { heap = true; live = false; cells = xs } in
    let sums : live_cells (finite.insert m k dead) + length xs ≡ live_cells m + 0 = sym (ap (λ o. live_cells (finite.insert m k dead) + weigh o) is) ∙ live_insert m k dead in
    let all = c.live in (
      omega arith,
      record {
        live = omega arith;
        few_live = let few = c.few_live in omega arith;
        made = c.made ∙ sym (len-insert nat_cmp_total m k dead ∙ ap (λ t. cond t (finite.len m) (finite.len m + 1)) there);
        few_made = c.few_made;
        next = (none_is _ (same_used m k least dead there ∙ ap is_some c.next.0), λ q lt. same_used m k q dead there ∙ c.next.1 q lt);
        short = short_insert m k dead (c.short k _ is) c.short;
      },
    )

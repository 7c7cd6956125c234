-- A table of blocks and the blocks that it stands for.
use Rattle.std.proofs.Common.{◌≡◌, ◌≤◌, ◌<◌, ℕ, zero, suc, ℤ, pos, negsuc, Bool, true, false, cond, List, [], ◌∷◌, length, Option, Some, None, refl, sym, ap, ◌∙◌, arith, ◌+◌, below_more, le_trans, le_of_eq}
use Rattle.std.proofs.lemmas.List.{length-map}
use Rattle.std.proofs.lemmas.Bool.Decides.{nat_tests}
use Rattle.std.specs.Prelude.{slice_get, slice_set, option_map, IsSome, is_some}
use Rattle.std.specs.Ordering.{nat_cmp, eq_by_cmp}
use Rattle.std.specs.Cmp.{nat_cmp_total, eq_by_cmp_equiv}
use Rattle.std.specs.BTreeMap.{is_at}
use Rattle.std.specs.Map.{lookup, set_value}
use Rattle.std.specs.FinMap as finite
use Rattle.std.specs.FinMap.{same_map, get-insert, get-empty, nat_cmp-IsAntisymmetric}
use Rattle.std.proofs.lemmas.Map.{lookup-set_value}
use Rattle.std.proofs.lemmas.Option.{slice_get_past}
use Rattle.std.specs.List.{list_any}
use Rattle.std.proofs.lemmas.Map.Steps.{le-length_from_below}
use lib.Dec.{eqb}
use Rattle.ca_model.specs.declared.values.Value.{Value}
use Rattle.ca_model.specs.declared.values.Value.TheVariants as v
use Rattle.ca_model.specs.Shared.{Blocks, Block, if_live, cell_at, cell, put_cell, insert_if, with_cell, died, IsHeapStart}
use Rattle.ca_memory.specs.declared.blocks.Slot.{Slot}
use Rattle.ca_memory.specs.declared.blocks.Cells.{Cells}
use Rattle.ca_memory.specs.Kept.{is_live, cells_of, block_of, blocks_of}
use Rattle.ca_memory.specs.Zeros.{start_of}

if_there : (b : Bool) (s : Slot) (o : Option Slot) → cond b (Some (block_of s)) (option_map block_of o) ≡ option_map block_of (cond b (Some s) o)
if_there true s o = refl
if_there false s o = refl

-- what the blocks of a table are at a number
pub get_blocks : (es : List (ℕ × Slot)) (q : ℕ) → finite.get (blocks_of es) q ≡ option_map block_of (lookup (is_at (nat_cmp q)) es)
get_blocks [] q = get-empty nat_cmp q
get_blocks (e ∷ es) q = get-insert nat_cmp_total (blocks_of es) e.0 (block_of e.1) q
    ∙ (ap (cond (eq_by_cmp nat_cmp q e.0) (Some (block_of e.1))) (get_blocks es q) ∙ if_there (eq_by_cmp nat_cmp q e.0) e.1 _)

pub found : (es : List (ℕ × Slot)) (k : ℕ) (s : Slot) → lookup (is_at (nat_cmp k)) es ≡ Some s → finite.get (blocks_of es) k ≡ Some (block_of s)
found es k s e = get_blocks es k ∙ ap (option_map block_of) e

pub absent : (es : List (ℕ × Slot)) (k : ℕ) → lookup (is_at (nat_cmp k)) es ≡ None → finite.get (blocks_of es) k ≡ None
absent es k e = get_blocks es k ∙ ap (option_map block_of) e

some_is : {A : Type 0} (o : Option A) (x : A) → o ≡ Some x → IsSome o
some_is o x e = ap is_some e

-- a slot that is changed is a block that is changed
pub changed : (es fs : List (ℕ × Slot)) (k : ℕ) (s t : Slot) → lookup (is_at (nat_cmp k)) es ≡ Some s → fs ≡ set_value (is_at (nat_cmp k)) es t → blocks_of fs ≡ finite.insert (blocks_of es) k (block_of t)
changed es fs k s t had is = same_map nat_cmp_total nat_cmp-IsAntisymmetric _ _ (λ q.
    get_blocks fs q ∙ ap (λ l. option_map block_of (lookup (is_at (nat_cmp q)) l)) is
    ∙ ap (option_map block_of) (lookup-set_value (eq_by_cmp_equiv nat_cmp_total) (is_at (nat_cmp k)) (λ x y h. (eq_by_cmp_equiv nat_cmp_total).congr k x y h) q t es (some_is _ _ had))
    ∙ sym (if_there (eq_by_cmp nat_cmp k q) t _)
    ∙ ap (λ b. cond b (Some (block_of t)) (option_map block_of (lookup (is_at (nat_cmp q)) es))) ((eq_by_cmp_equiv nat_cmp_total).symm k q)
    ∙ sym (get-insert nat_cmp_total (blocks_of es) k (block_of t) q ∙ ap (cond (eq_by_cmp nat_cmp q k) (Some (block_of t))) (get_blocks es q)))

-- a cell of a live block, and where there is none
pub cell_live : (m : Blocks) (k : ℕ) (h : Bool) (xs : List Value) (z : ℤ) (n : ℕ) → finite.get m k ≡ Some (record { heap = h; live = true; cells = xs }) → z ≡ pos n → cell m k z ≡ slice_get xs n
cell_live m k h xs z n e at = ap (λ o. cell_at (if_live o) z) e ∙ ap (cell_at (Some (record { heap = h; live = true; cells = xs }))) at

pub no_block : (m : Blocks) (k : ℕ) (z : ℤ) → finite.get m k ≡ None → cell m k z ≡ None
no_block m k z e = ap (λ o. cell_at (if_live o) z) e

pub dead_block : (m : Blocks) (k : ℕ) (h : Bool) (xs : List Value) (z : ℤ) → finite.get m k ≡ Some (record { heap = h; live = false; cells = xs }) → cell m k z ≡ None
dead_block m k h xs z e = ap (λ o. cell_at (if_live o) z) e

none_there : (b : Block) (z : ℤ) → ((n : ℕ) → z ≡ pos n → length b.cells ≤ n) → cell_at (Some b) z ≡ None
none_there b (pos n) past = slice_get_past b.cells n (past n refl)
none_there b (negsuc n) past = refl

pub outside : (m : Blocks) (k : ℕ) (h : Bool) (xs : List Value) (z : ℤ) → finite.get m k ≡ Some (record { heap = h; live = true; cells = xs }) → ((n : ℕ) → z ≡ pos n → length xs ≤ n) → cell m k z ≡ None
outside m k h xs z e past = ap (λ o. cell_at (if_live o) z) e ∙ none_there (record { heap = h; live = true; cells = xs }) z past

-- a cell that is set
pub put_there : (m : Blocks) (k : ℕ) (h : Bool) (xs : List Value) (z : ℤ) (n : ℕ) (x : Value) → finite.get m k ≡ Some (record { heap = h; live = true; cells = xs }) → z ≡ pos n
    → with_cell m (record { block = k; offset = z }) x ≡ finite.insert m k (record { heap = h; live = true; cells = slice_set xs n x })
put_there m k h xs z n x e at = ap (λ o. insert_if m k (put_cell o z x)) e ∙ ap (λ y. insert_if m k (put_cell (Some (record { heap = h; live = true; cells = xs })) y x)) at

abbrev pub number_of : Value → ℕ
number_of (v.Num n) = 0
number_of (v.Addr a) = a.block

abbrev heap_or : Option Block → Bool
heap_or None = false
heap_or (Some b) = b.heap

abbrev live_or : Option Block → Bool
live_or None = false
live_or (Some b) = b.live

pub starts_where : (m : Blocks) (k : ℕ) (b : Block) → finite.get m k ≡ Some b → IsHeapStart m (start_of k) → (b.heap ≡ true) × (b.live ≡ true)
starts_where m k b e (n, c, is, got) =
    let same : Some b ≡ Some (record { heap = true; live = true; cells = c }) = sym e ∙ (ap (finite.get m) (ap number_of is) ∙ got) in
    (ap heap_or same, ap live_or same)

pub starts_none : (m : Blocks) (k : ℕ) → finite.get m k ≡ None → IsHeapStart m (start_of k) → ⊥
starts_none m k e (n, c, is, got) =
    let same : false ≡ true = ap is_some (sym e ∙ (ap (finite.get m) (ap number_of is) ∙ got)) in
    absurd cc

pub is_some-map : {A B : Type 0} (f : A → B) (o : Option A) → is_some (option_map f o) ≡ is_some o
is_some-map f None = refl
is_some-map f (Some x) = refl

-- the same slot, as the parts of its block
pub live_slot : (es : List (ℕ × Slot)) (k : ℕ) (s : Slot) (xs : Cells) → lookup (is_at (nat_cmp k)) es ≡ Some s → s.cells ≡ xs → finite.get (blocks_of es) k ≡ Some (record { heap = s.heap; live = is_live xs; cells = cells_of xs })
live_slot es k s xs e is = found es k s e ∙ ap (λ y. Some (record { heap = s.heap; live = is_live y; cells = cells_of y })) is

pub kept_at : (m : Blocks) (k : ℕ) (h : Bool) (xs : List Value) → finite.get m k ≡ Some (record { heap = h; live = true; cells = xs }) → h ≡ true → IsHeapStart m (start_of k)
kept_at m k h xs e is = (k, xs, refl, e ∙ ap (λ b. Some (record { heap = b; live = true; cells = xs })) is)

-- a block that dies
pub died_there : (m : Blocks) (k : ℕ) (h : Bool) (xs : List Value) → finite.get m k ≡ Some (record { heap = h; live = true; cells = xs })
    → insert_if m k (died (finite.get m k)) ≡ finite.insert m k (record { heap = h; live = false; cells = xs })
died_there m k h xs e = ap (λ o. insert_if m k (died o)) e

pub is_some_within : {A : Type 0} (xs : List A) (n : ℕ) → n < length xs → IsSome (slice_get xs n)
is_some_within [] n lt = absurd (omega arith)
is_some_within (x ∷ xs) zero lt = refl
is_some_within (x ∷ xs) (suc n) lt = is_some_within xs n (omega arith)

same_test : (q x : ℕ) → eq_by_cmp nat_cmp q x ≡ eqb q x
same_test q x = grind (arith, nat_tests)

same_any : (xs : List ℕ) (q : ℕ) → list_any (eqb q) xs ≡ list_any (eq_by_cmp nat_cmp q) xs
same_any [] q = refl
same_any (x ∷ xs) q = let e = same_test q x in let more = same_any xs q in cc

in_keys : (m : Blocks) (q : ℕ) → IsSome (finite.get m q) → list_any (eqb q) (finite.keys m) ≡ true
in_keys m q h = same_any (finite.keys m) q ∙ (sym (finite.contains_key-keys m q) ∙ h)

length-map_le : (m : Blocks) → length (finite.keys m) ≤ finite.len m
length-map_le m = le_of_eq (length-map (finite.entries m) (λ e. e.0) ∙ sym (finite.len-entries m))

-- where all numbers below n are used, there are at least n blocks
pub least_bound : (m : Blocks) (n : ℕ) → ((c : ℕ) → c < n → IsSome (finite.get m c)) → n ≤ finite.len m
least_bound m n used = le_trans (le-length_from_below (finite.keys m) n (λ q lt. in_keys m q (used q lt))) (length-map_le m)

pub one_more : (m : Blocks) (n : ℕ) → ((c : ℕ) → c < n → IsSome (finite.get m c)) → IsSome (finite.get m n) → (c : ℕ) → c < n + 1 → IsSome (finite.get m c)
one_more m n used here = below_more (λ c. IsSome (finite.get m c)) n used here

pub inserted : (es fs : List (ℕ × Slot)) (k : ℕ) (s : Slot) → ((q : ℕ) → lookup (is_at (nat_cmp q)) fs ≡ cond (is_at (nat_cmp k) q) (Some s) (lookup (is_at (nat_cmp q)) es)) → blocks_of fs ≡ finite.insert (blocks_of es) k (block_of s)
inserted es fs k s told = same_map nat_cmp_total nat_cmp-IsAntisymmetric _ _ (λ q.
    get_blocks fs q ∙ ap (option_map block_of) (told q)
    ∙ sym (if_there (eq_by_cmp nat_cmp k q) s _)
    ∙ ap (λ b. cond b (Some (block_of s)) (option_map block_of (lookup (is_at (nat_cmp q)) es))) ((eq_by_cmp_equiv nat_cmp_total).symm k q)
    ∙ sym (get-insert nat_cmp_total (blocks_of es) k (block_of s) q ∙ ap (cond (eq_by_cmp nat_cmp q k) (Some (block_of s))) (get_blocks es q)))

-- Blocks that are hidden for a while.
use Rattle.std.proofs.Common.{◌≡◌, ◌≢◌, ◌≤◌, ◌<◌, ℕ, zero, suc, Bool, true, false, List, [], ◌∷◌, ◌++◌, length, Option, Some, None, refl, sym, ap, ◌∙◌, subst, arith, inl, inr, take, rules}
use Rattle.std.specs.Prelude.{◌&&◌, ◌⊎◌, IsSome, slice_get}
use Rattle.std.specs.Ordering.{nat_cmp}
use Rattle.std.specs.BTreeMap.{is_at}
use Rattle.std.specs.Map.{lookup, set_value}
use Rattle.std.specs.FinMap as finite
use Rattle.std.specs.FinMap.{gets, same_map, nat_cmp-IsAntisymmetric}
use Rattle.std.specs.Cmp.{nat_cmp_total}
use Rattle.std.proofs.lemmas.Bool.{and_parts}
use Rattle.std.proofs.lemmas.Bool.Decides.{eqb_tells}
use Rattle.ca_model.specs.declared.values.Given.{Given}
use Rattle.ca_model.specs.declared.values.Given.TheVariants as given
use Rattle.ca_model.specs.Shared.{Blocks, Block, insert_if, died, IsHeapStart}
use Rattle.ca_model.proofs.Cells.{get_here, get_there}
use Rattle.ca_memory.specs.declared.blocks.Slot.{Slot}
use Rattle.ca_memory.specs.Kept.{blocks_of}
use Rattle.ca_memory.specs.Zeros.{start_of}
use Rattle.ca_memory.specs.GivenBack.{IsBlockHeld, AreBlocksHeld, IsFirstNoBlock, blocks_without, blocks_without_all}
use Rattle.ca_memory.specs.Hidden.{marked, mark, mark_thing, hidden, shown, AreHidden}
use Rattle.ca_memory.proofs.Tables.{number_of, changed, found}

-- a slot whose mark changes
pub marked_slot : (es fs : List (ℕ × Slot)) (k : ℕ) (s : Slot) (h : Bool) → lookup (is_at (nat_cmp k)) es ≡ Some s → fs ≡ set_value (is_at (nat_cmp k)) es (record { heap = h; cells = s.cells })
    → blocks_of fs ≡ mark h (blocks_of es) k
marked_slot es fs k s h had is = changed es fs k s (record { heap = h; cells = s.cells }) had is ∙ sym (ap (λ o. insert_if (blocks_of es) k (marked h o)) (found es k s had))

pub unmarked : (m : Blocks) (k : ℕ) (h : Bool) → finite.get m k ≡ None → mark h m k ≡ m
unmarked m k h e = ap (λ o. insert_if m k (marked h o)) e

-- all things of a list, and one thing more
pub take_all : {A : Type 0} (xs : List A) (n : ℕ) → length xs ≤ n → take n xs ≡ xs
take_all [] zero le = refl
take_all [] (suc n) le = refl
take_all (x ∷ xs) zero le = absurd (let never : ⊥ = omega (arith, le) in never)
take_all (x ∷ xs) (suc n) le = ap (λ l. x ∷ l) (take_all xs n (omega (arith, le)))

pub one_more : {A : Type 0} (xs : List A) (k n : ℕ) (x : A) → slice_get xs k ≡ Some x → n ≡ suc k → take n xs ≡ take k xs ++ x ∷ []
one_more xs k n x at is = ap (λ m. take m xs) is ∙ next xs k x at
  where
    next : {A : Type 0} (xs : List A) (k : ℕ) (x : A) → slice_get xs k ≡ Some x → take (suc k) xs ≡ take k xs ++ x ∷ []
    next [] k x at = absurd cc
    next (y ∷ xs) zero x at = ap (λ o. or_value y o ∷ []) at
      where
        or_value : {A : Type 0} → A → Option A → A
        or_value d None = d
        or_value d (Some z) = z
    next (y ∷ xs) (suc k) x at = ap (λ l. y ∷ l) (next xs k x at)

pub hidden_on : (m : Blocks) (gs : List Given) (g : Given) → hidden m (gs ++ g ∷ []) ≡ mark_thing false (hidden m gs) g
hidden_on m [] g = refl
hidden_on m (h ∷ gs) g = hidden_on (mark_thing false m h) gs g

pub were_on : (m : Blocks) (gs : List Given) (g : Given) → AreHidden m gs → IsBlockHeld (hidden m gs) g → AreHidden m (gs ++ g ∷ [])
were_on m [] g were is = (is, tt)
were_on m (h ∷ gs) g were is = (were.0, were_on (mark_thing false m h) gs g were.1 is)

pub shown_on : (m : Blocks) (gs : List Given) (g : Given) → shown m (gs ++ g ∷ []) ≡ shown (mark_thing true m g) gs
shown_on m [] g = refl
shown_on m (h ∷ gs) g = ap (λ x. mark_thing true x h) (shown_on m gs g)

-- a turn of each loop
pub record HiddenTo (old new : Blocks) (things : List Given) (k : ℕ) : Type 0 where
  pub within : k ≤ length things
  pub were : AreHidden old (take k things)
  pub hidden : new ≡ hidden old (take k things)

pub hidden_next : (old mid new : Blocks) (things : List Given) (k n : ℕ) (g : Given) → HiddenTo old mid things k → slice_get things k ≡ Some g → n ≡ suc k → k < length things
    → IsBlockHeld mid g × (new ≡ mark_thing false mid g) → HiddenTo old new things n
hidden_next old mid new things k n g to at is lt turn =
    let longer = one_more things k n g at is in record {
      within = omega (arith, is, lt);
      were = subst (AreHidden old) (sym longer) (were_on old (take k things) g to.were (subst (λ m. IsBlockHeld m g) to.hidden turn.0));
      hidden = turn.1 ∙ (ap (λ m. mark_thing false m g) to.hidden ∙ (sym (hidden_on old (take k things) g) ∙ ap (hidden old) (sym longer)));
    }

pub shown_next : (old mid new : Blocks) (things : List Given) (k n : ℕ) (g : Given) → shown mid (take n things) ≡ shown old things → slice_get things k ≡ Some g → n ≡ suc k
    → new ≡ mark_thing true mid g → shown new (take k things) ≡ shown old things
shown_next old mid new things k n g so at is turn =
    ap (λ m. shown m (take k things)) turn ∙ (sym (shown_on mid (take k things) g) ∙ (ap (shown mid) (sym (one_more things k n g at is)) ∙ so))

-- what is hidden and then shown is as before
abbrev heap_start : Blocks → ℕ → Block → Type 0
heap_start m b x = (finite.get m b ≡ Some x) × (x.heap ≡ true)

pub held_block : (m : Blocks) (b : ℕ) → IsHeapStart m (start_of b) → (x : Block) × heap_start m b x
held_block m b (k, c, is, at) =
    let same : b ≡ k = ap number_of is in
    (record { heap = true; live = true; cells = c }, (ap (finite.get m) same ∙ at, refl))

same_block : (x : Block) → x.heap ≡ true → record { heap = true; live = x.live; cells = x.cells } ≡ x
same_block x e = λ i. record { heap = sym e i; live = x.live; cells = x.cells }

again : (m : Blocks) (b : ℕ) (x y : Block) → finite.get m b ≡ Some x → finite.insert (finite.insert m b y) b x ≡ m
again m b x y at = same_map nat_cmp_total nat_cmp-IsAntisymmetric _ _ (λ q. grind (gets, rules, at))

shown_thing : (m : Blocks) (g : Given) → IsBlockHeld m g → mark_thing true (mark_thing false m g) g ≡ m
shown_thing m (given.Mutex n) held = refl
shown_thing m (given.Block b) held =
    let h = held_block m b held in
    let x = h.0 in
    let hid : mark false m b ≡ finite.insert m b (record { heap = false; live = x.live; cells = x.cells }) = ap (λ o. insert_if m b (marked false o)) h.1.0 in
    ap (λ n. mark true n b) hid
    ∙ (ap (λ o. insert_if (finite.insert m b (record { heap = false; live = x.live; cells = x.cells })) b (marked true o)) (get_here m b _)
    ∙ (ap (λ y. finite.insert (finite.insert m b (record { heap = false; live = x.live; cells = x.cells })) b y) (same_block x h.1.1) ∙ again m b x _ h.1.0))

pub shown_hidden : (m : Blocks) (gs : List Given) → AreHidden m gs → shown (hidden m gs) gs ≡ m
shown_hidden m [] were = refl
shown_hidden m (g ∷ gs) were = ap (λ n. mark_thing true n g) (shown_hidden (mark_thing false m g) gs were.1) ∙ shown_thing m g were.0

-- blocks that are hidden are held no more, as if they were given back
abbrev is_held : Option Block → Bool
is_held None = false
is_held (Some b) = b.heap && b.live

abbrev Alike : Blocks → Blocks → Type 0
Alike m n = (b : ℕ) → is_held (finite.get m b) ≡ is_held (finite.get n b)

pub held_so : (m : Blocks) (b : ℕ) → IsHeapStart m (start_of b) → is_held (finite.get m b) ≡ true
held_so m b (k, c, is, at) = ap (λ n. is_held (finite.get m n)) (ap number_of is) ∙ ap is_held at

held_is : (m : Blocks) (b : ℕ) (o : Option Block) → finite.get m b ≡ o → is_held o ≡ true → IsHeapStart m (start_of b)
held_is m b None at h = absurd cc
held_is m b (Some x) at h = let two = and_parts x.heap x.live h in (b, x.cells, refl, at ∙ ap Some (λ i. record { heap = two.0 i; live = two.1 i; cells = x.cells }))

held_alike : (m n : Blocks) (g : Given) → Alike m n → IsBlockHeld m g → IsBlockHeld n g
held_alike m n (given.Mutex k) alike h = tt
held_alike m n (given.Block b) alike h = held_is n b (finite.get n b) refl (sym (alike b) ∙ held_so m b h)

put_here : (m : Blocks) (b c : ℕ) (o : Option Block) → is_held o ≡ false → is_held (finite.get m b) ≡ false ⊎ IsSome o → c ≡ b → is_held (finite.get (insert_if m b o) c) ≡ false
put_here m b c None dead (inl none) is = ap (λ k. is_held (finite.get m k)) is ∙ none
put_here m b c None dead (inr some) is = absurd cc
put_here m b c (Some x) dead some is = ap (λ k. is_held (finite.get (finite.insert m b x) k)) is ∙ (ap is_held (get_here m b x) ∙ dead)

put_there : (m : Blocks) (b c : ℕ) (o : Option Block) → c ≢ b → finite.get (insert_if m b o) c ≡ finite.get m c
put_there m b c None ne = refl
put_there m b c (Some x) ne = get_there m b c x ne

marked_no : (o : Option Block) → is_held (marked false o) ≡ false
marked_no None = refl
marked_no (Some x) = refl

died_no : (o : Option Block) → is_held (died o) ≡ false
died_no None = refl
died_no (Some x) = and_false x.heap
  where
    and_false : (b : Bool) → (b && false) ≡ false
    and_false true = refl
    and_false false = refl

none_or_marked : (o : Option Block) → (is_held o ≡ false) ⊎ IsSome (marked false o)
none_or_marked None = inl refl
none_or_marked (Some x) = inr refl

none_or_died : (o : Option Block) → (is_held o ≡ false) ⊎ IsSome (died o)
none_or_died None = inl refl
none_or_died (Some x) = inr refl

next_alike : (m n : Blocks) (g : Given) → Alike m n → Alike (mark_thing false m g) (blocks_without n g)
next_alike m n (given.Mutex k) alike = alike
next_alike m n (given.Block b) alike = λ c. elim (eqb_tells c b) [
  | inl same ↦ put_here m b c _ (marked_no (finite.get m b)) (none_or_marked (finite.get m b)) same.1 ∙ sym (put_here n b c _ (died_no (finite.get n b)) (none_or_died (finite.get n b)) same.1)
  | inr other ↦ ap is_held (put_there m b c _ other.1) ∙ (alike c ∙ sym (ap is_held (put_there n b c _ other.1)))
]

hidden_alike : (m n : Blocks) (gs : List Given) → Alike m n → Alike (hidden m gs) (blocks_without_all n gs)
hidden_alike m n [] alike = alike
hidden_alike m n (g ∷ gs) alike = hidden_alike (mark_thing false m g) (blocks_without n g) gs (next_alike m n g alike)

each_held : (m n : Blocks) (gs : List Given) → Alike m n → AreHidden m gs → AreBlocksHeld n gs
each_held m n [] alike were = tt
each_held m n (g ∷ gs) alike were = (held_alike m n g alike were.0, each_held (mark_thing false m g) (blocks_without n g) gs (next_alike m n g alike) were.1)

pub were_held : (m : Blocks) (gs : List Given) → AreHidden m gs → AreBlocksHeld m gs
were_held m gs were = each_held m m gs (λ b. refl) were

pub gone_too : (m : Blocks) (gs : List Given) (g : Given) → (IsBlockHeld (hidden m gs) g → ⊥) → IsBlockHeld (blocks_without_all m gs) g → ⊥
gone_too m gs g gone h = gone (held_alike (blocks_without_all m gs) (hidden m gs) g (λ b. sym (hidden_alike m m gs (λ c. refl) b)) h)

-- what is found so
pub unchanged : (old mid new : Blocks) (gs : List Given) → AreHidden old gs → mid ≡ hidden old gs → new ≡ shown mid gs → new ≡ old
unchanged old mid new gs were hid so = so ∙ (ap (λ m. shown m gs) hid ∙ shown_hidden old gs were)

pub first_found : (old mid : Blocks) (gs : List Given) (k : ℕ) → AreHidden old (take k gs) → mid ≡ hidden old (take k gs) → ((g : Given) → slice_get gs k ≡ Some g → IsBlockHeld mid g → ⊥) → (b : ℕ) → slice_get gs k ≡ Some (given.Block b) → IsFirstNoBlock old gs k b
first_found old mid gs k were hid first b at =
    record { at = at; before = were_held old (take k gs) were; gone = gone_too old (take k gs) (given.Block b) (λ h. first (given.Block b) at (subst (λ m. IsBlockHeld m (given.Block b)) (sym hid) h)) }

pub all_found : (old : Blocks) (gs : List Given) (k : ℕ) → AreHidden old (take k gs) → length gs ≤ k → AreBlocksHeld old gs
all_found old gs k were le = subst (AreBlocksHeld old) (take_all gs k le) (were_held old (take k gs) were)

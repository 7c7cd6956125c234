-- A legal entry takes back no block, output or thread.
use Rattle.std.proofs.Common.{rules, arith, ◌≡◌, ℕ, true, false, List, [], ◌∷◌, ◌++◌, length, Option, Some, None, refl, sym, ap, ◌∙◌, subst, inl, inr, append-nil, append_assoc}
use Rattle.std.specs.Prelude.{ℤ, pos, negsuc, slice_set}
use Rattle.std.proofs.lemmas.Bool.Decides.{eqb_tells}
use Rattle.std.specs.FinMap as map
use Rattle.std.specs.FinSet as set
use Rattle.std.specs.FinSet.{members}
use Rattle.ca_model.specs.declared.values.Value.{Value}
use Rattle.ca_model.specs.declared.values.Value.TheVariants as v
use Rattle.ca_model.specs.declared.values.Given.{Given}
use Rattle.ca_model.specs.declared.values.Given.TheVariants as given
use Rattle.ca_model.specs.declared.values.EventAct.{EventAct}
use Rattle.ca_model.specs.declared.values.EventAct.TheVariants as act
use Rattle.ca_model.specs.Shared.{Block, Blocks, Shared, died, put_cell, insert_if, freed, made, give, give_all, effect, CanMake, IsLegal}
use Rattle.ca_model.specs.Machine.{Rules}
use Rattle.ca_model.specs.Kept.{IsBlockKept, IsKept, RunsKeep}
use Rattle.ca_model.proofs.Cells.{get_here, get_there}
use Rattle.ca_model.proofs.Law.{one_of, length_set}

abbrev KeepsBlocks : Blocks → Blocks → Type 0
KeepsBlocks m n = (k : ℕ) (x : Block) → map.get m k ≡ Some x → (y : Block) × (map.get n k ≡ Some y) × IsBlockKept x y

same_block : (x : Block) → IsBlockKept x x
same_block x = (refl, refl, λ dead. dead)

same_blocks : (m : Blocks) → KeepsBlocks m m
same_blocks m k x h = (x, h, same_block x)

-- one block is put in place of what it was
put_kept : (m : Blocks) (b : ℕ) (y : Block) → ((x : Block) → map.get m b ≡ Some x → IsBlockKept x y) → KeepsBlocks m (map.insert m b y)
put_kept m b y keeps k x h =
    elim (eqb_tells b k) [
      | inl (is, same) ↦ (y, ap (map.get (map.insert m b y)) (sym same) ∙ get_here m b y, keeps x (ap (map.get m) same ∙ h))
      | inr (is, other) ↦ (x, get_there m b k y (λ e. other (sym e)) ∙ h, same_block x)
    ]

if_kept : (m : Blocks) (b : ℕ) (o : Option Block) → ((x y : Block) → map.get m b ≡ Some x → o ≡ Some y → IsBlockKept x y) → KeepsBlocks m (insert_if m b o)
if_kept m b None keeps = same_blocks m
if_kept m b (Some y) keeps = put_kept m b y (λ x h. keeps x y h refl)

died_kept : (o : Option Block) (x y : Block) → o ≡ Some x → died o ≡ Some y → IsBlockKept x y
died_kept None x y h is = cc
died_kept (Some b) x y h is =
    let same : b ≡ x = one_of b x h in
    let now : record { heap = b.heap; live = false; cells = b.cells } ≡ y = one_of _ y is in
    (ap (λ z. z.heap) (sym now) ∙ ap (λ z. z.heap) same, ap (λ z. length z.cells) (sym now) ∙ ap (λ z. length z.cells) same, λ dead. ap (λ z. z.live) (sym now))

cell_kept : (o : Option Block) (n : ℤ) (c : Value) (x y : Block) → o ≡ Some x → put_cell o n c ≡ Some y → IsBlockKept x y
cell_kept None n c x y h is = cc
cell_kept (Some b) (pos n) c x y h is =
    let same : b ≡ x = one_of b x h in
    let now : record { heap = b.heap; live = b.live; cells = slice_set b.cells n c } ≡ y = one_of _ y is in (
      ap (λ z. z.heap) (sym now) ∙ ap (λ z. z.heap) same,
      ap (λ z. length z.cells) (sym now) ∙ (length_set b.cells n c ∙ ap (λ z. length z.cells) same),
      λ dead. ap (λ z. z.live) (sym now) ∙ (ap (λ z. z.live) same ∙ dead),
    )
cell_kept (Some b) (negsuc n) c x y h is = subst (IsBlockKept x) (sym (one_of b x h) ∙ one_of b y is) (same_block x)

made_kept : (m : Blocks) (n : ℤ) (x : Value) → CanMake m n x → KeepsBlocks m (made m n x)
made_kept m n x (inl null) = subst (λ z. KeepsBlocks m (made m n z)) (sym null) (none n)
  where
    none : (n : ℤ) → KeepsBlocks m (made m n (v.Num (pos 0)))
    none (pos n) = same_blocks m
    none (negsuc n) = same_blocks m
made_kept m n x (inr (b, k, at, size, unused, low, room)) =
    subst (λ z. KeepsBlocks m (made m n z)) (sym at) (subst (λ i. KeepsBlocks m (made m i (v.Addr (record { block = b; offset = pos 0 })))) (sym size) (put_kept m b _ (λ y h. absurd (never y h))))
  where
    never : (y : Block) → map.get m b ≡ Some y → ⊥
    never y h = let e : ◌≡◌ {A = Option Block} None (Some y) = sym unused ∙ h in cc

freed_kept : (m : Blocks) (x : Value) → KeepsBlocks m (freed m x)
freed_kept m (v.Num n) = same_blocks m
freed_kept m (v.Addr a) = if_kept m a.block (died (map.get m a.block)) (λ x y h is. died_kept (map.get m a.block) x y h is)

pub kept_same : (s : Shared) → IsKept s s
kept_same s = record { blocks = same_blocks s.blocks; mutexes = refl; output = ([], sym (append-nil s.output)); threads = omega arith; ended = λ t h. h }

with_blocks : (s : Shared) (m : Blocks) → KeepsBlocks s.blocks m → IsKept s (record s { blocks = m })
with_blocks s m keeps = record { blocks = keeps; mutexes = refl; output = ([], sym (append-nil s.output)); threads = omega arith; ended = λ t h. h }

pub kept_on : (a b c : Shared) → IsKept a b → IsKept b c → IsKept a c
kept_on a b c k l = record {
  blocks = λ n x h.
      let y = k.blocks n x h in
      let z = l.blocks n y.0 y.1 in
      (z.0, z.1, (z.2.0 ∙ y.2.0, z.2.1 ∙ y.2.1, λ dead. z.2.2 (y.2.2 dead)));
  mutexes = l.mutexes ∙ k.mutexes;
  output = (k.output.0 ++ l.output.0, l.output.1 ∙ (ap (λ o. o ++ l.output.0) k.output.1 ∙ append_assoc a.output k.output.0 l.output.0));
  threads = omega (arith, k.threads, l.threads);
  ended = λ t h. l.ended t (k.ended t h);
}

give_kept : (s : Shared) (g : Given) → IsKept s (give s g)
give_kept s (given.Mutex m) = record { blocks = same_blocks s.blocks; mutexes = refl; output = ([], sym (append-nil s.output)); threads = omega arith; ended = λ t h. h }
give_kept s (given.Block b) = with_blocks s _ (if_kept s.blocks b (died (map.get s.blocks b)) (λ x y h is. died_kept (map.get s.blocks b) x y h is))

all_kept : (s : Shared) (gs : List Given) → IsKept s (give_all s gs)
all_kept s [] = kept_same s
all_kept s (g ∷ gs) = kept_on s (give s g) (give_all (give s g) gs) (give_kept s g) (all_kept (give s g) gs)

still_ended : (s : Shared) (t u : ℕ) → set.contains s.ended u ≡ true → set.contains (set.insert s.ended t) u ≡ true
still_ended s t u h = grind (members, rules)

pub entry_kept : (s : Shared) (t : ℕ) (a : EventAct) → IsLegal s t a → IsKept s (effect s t a)
entry_kept s t (act.Write a x) l = with_blocks s _ (if_kept s.blocks a.block (put_cell (map.get s.blocks a.block) a.offset x) (λ y z h is. cell_kept (map.get s.blocks a.block) a.offset x y z h is))
entry_kept s t (act.Lock m) l = record { blocks = same_blocks s.blocks; mutexes = refl; output = ([], sym (append-nil s.output)); threads = omega arith; ended = λ t h. h }
entry_kept s t (act.Unlock m) l = record { blocks = same_blocks s.blocks; mutexes = refl; output = ([], sym (append-nil s.output)); threads = omega arith; ended = λ t h. h }
entry_kept s t (act.Malloc n x) l = with_blocks s _ (made_kept s.blocks n x l.allowed)
entry_kept s t (act.Free x) l = with_blocks s _ (freed_kept s.blocks x)
entry_kept s t (act.Print text) l = record { blocks = same_blocks s.blocks; mutexes = refl; output = (text, refl); threads = omega arith; ended = λ t h. h }
entry_kept s t (act.Create u) l = record { blocks = same_blocks s.blocks; mutexes = refl; output = ([], sym (append-nil s.output)); threads = omega arith; ended = λ t h. h }
entry_kept s t act.End l = record { blocks = same_blocks s.blocks; mutexes = refl; output = ([], sym (append-nil s.output)); threads = omega arith; ended = λ u h. still_ended s t u h }
entry_kept s t (act.Fault k) l = record { blocks = same_blocks s.blocks; mutexes = refl; output = ([], sym (append-nil s.output)); threads = omega arith; ended = λ t h. h }
entry_kept s t (act.Retry site gives) l = all_kept s gives
entry_kept s t _ l = kept_same s

pub runs_keep : {T : Type 0} (r : Rules T) → RunsKeep r
runs_keep {T} r s new [] run = subst (λ n. IsKept s.shared n.shared) (sym run) (kept_same s.shared)
runs_keep {T} r s new (e ∷ es) (mid, st, run) =
    kept_on s.shared mid.shared new.shared (subst (IsKept s.shared) (sym st.shared) (entry_kept s.shared e.thread e.act st.legal)) (runs_keep r mid new es run)

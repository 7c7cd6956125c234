-- Lists of running frames, the innermost last.
use Rattle.std.proofs.Common.{◌≡◌, ℕ, suc, ◌-◌, ◌+◌, List, [], ◌∷◌, ◌++◌, length, reverse, refl, sym, ap, ◌∙◌, subst, arith}
use Rattle.std.specs.Prelude.{get_or, slice_set}
use Rattle.std.proofs.lemmas.List.{reverse-append, length-reverse}
use Rattle.ca_model.specs.declared.values.Value.{Value}
use Rattle.ca_model.specs.Asks.{Want}
use Rattle.ca_model.specs.Frames.{Frame, answered}
use Rattle.ca_flow.specs.Lowerings.{Lowering, rules_of}
use Rattle.ca_thread.specs.declared.frames.RunningFrame.{RunningFrame as Running}
use Rattle.ca_thread.specs.Standing.{IsStanding, IsCalling, AreCallers, StandsFirst, AreStanding}

-- a list that isn't empty has a last element
pub record Last (rows : List Running) : Type 0 where
  pub front : List Running
  pub top : Running
  pub is : rows ≡ front ++ top ∷ []

pub last_there : (rows : List Running) → (length rows ≡ 0 → ⊥) → Last rows
last_there [] some = absurd (some refl)
last_there (x ∷ []) some = record { front = []; top = x; is = refl }
last_there (x ∷ y ∷ rows) some =
    let more = last_there (y ∷ rows) (λ e. let no : ⊥ = omega (arith, e) in no) in
    record { front = x ∷ more.front; top = more.top; is = ap (λ l. x ∷ l) more.is }

length_more : (xs : List Running) (x : Running) → length (xs ++ x ∷ []) ≡ length xs + 1
length_more [] x = refl
length_more (y ∷ xs) x = let h : length (xs ++ x ∷ []) ≡ length xs + 1 = length_more xs x in omega (arith, h)

length_last : (xs : List Running) (x : Running) → length (xs ++ x ∷ []) - 1 ≡ length xs
length_last xs x = omega (arith, length_more xs x)

read_end : (xs : List Running) (x d : Running) → get_or (xs ++ x ∷ []) (length xs) d ≡ x
read_end [] x d = refl
read_end (y ∷ xs) x d = read_end xs x d

set_end : (xs : List Running) (x y : Running) → slice_set (xs ++ x ∷ []) (length xs) y ≡ xs ++ y ∷ []
set_end [] x y = refl
set_end (z ∷ xs) x y = ap (λ l. z ∷ l) (set_end xs x y)

pub read_last : (xs : List Running) (x d : Running) → get_or (xs ++ x ∷ []) (length (xs ++ x ∷ []) - 1) d ≡ x
read_last xs x d = ap (λ n. get_or (xs ++ x ∷ []) n d) (length_last xs x) ∙ read_end xs x d

pub set_last : (xs : List Running) (x y : Running) → slice_set (xs ++ x ∷ []) (length (xs ++ x ∷ []) - 1) y ≡ xs ++ y ∷ []
set_last xs x y = ap (λ n. slice_set (xs ++ x ∷ []) n y) (length_last xs x) ∙ set_end xs x y

pub turned_round : (xs : List Running) (x : Running) → reverse (xs ++ x ∷ []) ≡ x ∷ reverse xs
turned_round xs x = reverse-append xs (x ∷ [])

module _ (l : Lowering) where
  -- the innermost one, and those that called
  pub opened : (xs : List Running) (x : Running) (f : Frame) (fs : List Frame) → AreStanding l (xs ++ x ∷ []) (f ∷ fs) → IsStanding l x f × AreCallers l (reverse xs) fs
  opened xs x f fs h = subst (λ rows. StandsFirst l rows (f ∷ fs)) (turned_round xs x) h

  pub closed : (xs : List Running) (x : Running) (f : Frame) (fs : List Frame) → IsStanding l x f → AreCallers l (reverse xs) fs → AreStanding l (xs ++ x ∷ []) (f ∷ fs)
  closed xs x f fs top below = subst (λ rows. StandsFirst l rows (f ∷ fs)) (sym (turned_round xs x)) (top, below)

  -- no row, no frame
  pub none_stand : (rows : List Running) (f : Frame) (fs : List Frame) → length rows ≡ 0 → AreStanding l rows (f ∷ fs) → ⊥
  none_stand [] f fs e h = h
  none_stand (x ∷ rows) f fs e h = let no : ⊥ = omega (arith, e) in no

  pub top_answered : (rows new : List Running) (count : ℕ) (top y : Running) (v : Value) (f : Frame) (fs : List Frame) (w : Want) → count ≡ length rows → (count ≡ 0 → ⊥) → top ≡ get_or rows (count - 1) top
      → new ≡ slice_set rows (count - 1) y → AreStanding l rows (f ∷ fs) → (IsStanding l top f → IsStanding l y (answered (rules_of l) f v)) → AreStanding l new (answered (rules_of l) f v ∷ fs)
  top_answered rows new count top y v f fs w len some read set standing moves =
      let last = last_there rows (λ e. some (len ∙ e)) in
      let at : count ≡ length (last.front ++ last.top ∷ []) = len ∙ ap (λ r. length r) last.is in
      let same : top ≡ last.top = read ∙ (ap (λ r. get_or r (count - 1) top) last.is ∙ (ap (λ n. get_or (last.front ++ last.top ∷ []) (n - 1) top) at ∙ read_last last.front last.top top)) in
      let is : new ≡ last.front ++ y ∷ [] = set ∙ (ap (λ r. slice_set r (count - 1) y) last.is ∙ (ap (λ n. slice_set (last.front ++ last.top ∷ []) (n - 1) y) at ∙ set_last last.front last.top y)) in
      let parts = opened last.front last.top f fs (subst (λ r. AreStanding l r (f ∷ fs)) last.is standing) in
      subst (λ r. AreStanding l r (answered (rules_of l) f v ∷ fs)) (sym is)
      (closed last.front y (answered (rules_of l) f v) fs (moves (subst (λ z. IsStanding l z f) (sym same) parts.0)) parts.1)

  -- a call, and a return
  callers : (rows : List Running) (f : Frame) (fs : List Frame) → StandsFirst l rows (f ∷ fs) → IsCalling l f → AreCallers l rows (f ∷ fs)
  callers [] f fs h calling = absurd h
  callers (x ∷ rows) f fs h calling = (h.0, calling, h.1)

  pub called : (rows new : List Running) (y : Running) (g f : Frame) (fs : List Frame) → new ≡ rows ++ y ∷ [] → AreStanding l rows (f ∷ fs) → IsCalling l f → IsStanding l y g → AreStanding l new (g ∷ f ∷ fs)
  called rows new y g f fs is standing calling top =
      subst (λ r. AreStanding l r (g ∷ f ∷ fs)) (sym is) (closed rows y g (f ∷ fs) top (callers (reverse rows) f fs standing calling))

  standing_callers : (rows : List Running) (h : Frame) (hs : List Frame) → AreCallers l rows (h ∷ hs) → StandsFirst l rows (h ∷ hs) × IsCalling l h
  standing_callers [] h hs c = absurd c
  standing_callers (x ∷ rows) h hs c = ((c.0, c.2), c.1)

  pub returned_to : (rows rest : List Running) (x : Running) (f h : Frame) (hs : List Frame) → rows ≡ rest ++ x ∷ [] → AreStanding l rows (f ∷ h ∷ hs) → AreStanding l rest (h ∷ hs) × IsCalling l h
  returned_to rows rest x f h hs is standing = standing_callers (reverse rest) h hs (opened rest x f (h ∷ hs) (subst (λ r. AreStanding l r (f ∷ h ∷ hs)) is standing)).1

  no_callers : (rows : List Running) → AreCallers l rows [] → StandsFirst l rows []
  no_callers [] c = tt
  no_callers (x ∷ rows) c = absurd c

  pub none_left : (rows rest : List Running) (x : Running) (f : Frame) → rows ≡ rest ++ x ∷ [] → AreStanding l rows (f ∷ []) → AreStanding l rest []
  none_left rows rest x f is standing = no_callers (reverse rest) (opened rest x f [] (subst (λ r. AreStanding l r (f ∷ [])) is standing)).1

-- where no frame stands there is no row
pub none_there : (l : Lowering) (rows : List Running) → AreStanding l rows [] → rows ≡ []
none_there l [] h = refl
none_there l (x ∷ rows) h = absurd (not_first (reverse (x ∷ rows)) refl h)
  where
    not_first : (ys : List Running) → reverse (x ∷ rows) ≡ ys → StandsFirst l ys [] → ⊥
    not_first [] e h = let n : suc (length rows) ≡ 0 = sym (length-reverse (x ∷ rows)) ∙ ap (λ r. length r) e in let no : ⊥ = omega (arith, n) in no
    not_first (y ∷ ys) e h = h

-- Which items have a marked item before them: one search onward for each number of calls gone up, from the most down.
use Rattle.std.proofs.Common.{◌≡◌, ◌<◌, ◌+◌, ℕ, Bool, false, List, length, refl, sym, ap, ◌∙◌, subst, inl, inr, arith}
use Rattle.std.specs.Prelude.{Contains, ◌⊎◌, ◌↔◌}
use Rattle.ca_reach.specs.Reach.{Table, row, IsSet, Reached}
use Rattle.ca_model.specs.declared.tree.Item.{Item}
use Rattle.ca_model.specs.declared.tree.Function.{Function}
use Rattle.ca_model.specs.Codes.{Typed}
use Rattle.ca_model.specs.WellFormed.{IsWellFormed}
use Rattle.ca_model.specs.Sites.{all_items}
use Rattle.ca_model.specs.Links.{Next, first_item}
use Rattle.ca_model.specs.Destroying.{destroys}
use Rattle.ca_model.specs.Paths.{Stop, IsCall, BeginsThreads, Goes, OnPath, begins, goes, Before}
use Rattle.ca_model.proofs.ApartItems.{one_item_a_number, links_are_items, first_is_item}
use Rattle.ca_ahead.specs.Onward.{LeadsOn, FollowsMarked, IsEither, EntersOne}

-- the table of the links onward of a source
pub record IsTableOf (p : Typed) (count : ℕ) (t : Table) : Type 0 where
  pub formed : IsWellFormed p
  pub long : length t ≡ count
  pub within : (i : Item) → Contains (all_items p.functions) i → i.id.0 < count
  pub rows : (n m : ℕ) → Contains (row t n) m ↔ LeadsOn p n m

module _ (p : Typed) (depth : ℕ) (marked : List Bool) where
  abbrev pub IsMarked : Item → Type 0
  IsMarked j = IsSet marked j.id.0

  -- some marked item stands behind a pair on a path from it
  pub data Finds : Stop → Type 0 where
    here : {a b : Stop} → Goes p depth a b → IsMarked b.0 → Finds a
    later : {a b : Stop} → Goes p depth a b → Finds b → Finds a

  back_to_start : (s : Item) (a : Stop) → OnPath p depth s a → Finds a → Finds (s, 0)
  back_to_start s a begins m = m
  back_to_start s a (goes {a = b} on go) m = back_to_start s b on (later go m)

  on_from : (s : Item) (a : Stop) → OnPath p depth s a → Finds a → (j : Item) × Before p depth s j × IsMarked j
  on_from s a on (here {b = b} go kind) = (b.0, (a, b.1, on, go), kind)
  on_from s a on (later {b = b} go m) = on_from s b (goes on go) m

  -- exactly where a marked item is before
  pub finds_before : (s : Item) → Finds (s, 0) ↔ ((j : Item) × Before p depth s j × IsMarked j)
  finds_before s = ((λ m. on_from s (s, 0) begins m), (λ h. back_to_start s h.1.0 h.1.2 (here h.1.3 h.2)))

  abbrev pub FindsAt : ℕ → ℕ → Type 0
  FindsAt k n = (i : Item) × Contains (all_items p.functions) i × Finds (i, k) × (i.id.0 ≡ n)

  -- the flags of a layer: the items that find a marked one when so many calls were gone up
  abbrev pub IsLayer : ℕ → List Bool → Type 0
  IsLayer k flags = (x : Item) → Contains (all_items p.functions) x → IsSet flags x.id.0 ↔ Finds (x, k)

  -- where the search of a layer starts
  pub record AreStarts (k : ℕ) (starts : List ℕ) : Type 0 where
    pub sound : (n : ℕ) → Contains starts n → FindsAt k n
    pub by_link : (i j : Item) → Next p j i → destroys j.act ≡ false → IsMarked j → Contains starts i.id.0
    pub by_call : (f : Function) (c : Item) → k < depth → Contains p.functions f → (BeginsThreads p f → ⊥) → IsCall p c f → IsMarked c ⊎ Finds (c, k + 1) → Contains starts (first_item f).id.0

  module _ (count : ℕ) (t : Table) (is : IsTableOf p count t) where
    within_table : (i : Item) → Contains (all_items p.functions) i → i.id.0 < length t
    within_table i own = subst (λ n. i.id.0 < n) (sym is.long) (is.within i own)

    onward : (k : ℕ) (starts : List ℕ) → AreStarts k starts → (n : ℕ) → Reached t starts n → FindsAt k n
    onward k starts are n (Reached.begins c lt) = are.sound n c
    onward k starts are n (Reached.goes {n = m} r c lt) =
        let (i, oi, found, place) = onward k starts are m r in
        let (j, h, next, d, from, to) = (is.rows m n).0 c in
        let ends = links_are_items p j h next in
        let same : i ≡ j = one_item_a_number p is.formed i j oi ends.0 (place ∙ sym from) in
        (h, ends.1, later {b = (j, k)} (inl (next, d, refl)) (subst (λ x. Finds (x, k)) same found), to)

    back : (k : ℕ) (starts : List ℕ) → AreStarts k starts → (a : Stop) → a.1 ≡ k → Finds a → Reached t starts a.0.id.0
    back k starts are a at (here {b = b} (inl (next, d, e)) kind) = Reached.begins (are.by_link a.0 b.0 next d kind) (within_table a.0 (links_are_items p b.0 a.0 next).1)
    back k starts are a at (here {b = b} (inr (f, of, first, threads, call, lt, e)) kind) =
        subst (λ (i : Item). Reached t starts i.id.0) first (Reached.begins (are.by_call f b.0 (subst (λ x. x < depth) at lt) of threads call (inl kind)) (within_table (first_item f) (first_is_item p f of)))
    back k starts are a at (later {b = b} (inl (next, d, e)) m) =
        let ends = links_are_items p b.0 a.0 next in
        Reached.goes (back k starts are b (e ∙ at) m) ((is.rows b.0.id.0 a.0.id.0).1 (b.0, a.0, next, d, refl, refl)) (within_table a.0 ends.1)
    back k starts are a at (later {b = b} (inr (f, of, first, threads, call, lt, e)) m) =
        let up : b.1 ≡ k + 1 = e ∙ ap (λ x. x + 1) at in
        subst (λ (i : Item). Reached t starts i.id.0) first
        (Reached.begins (are.by_call f b.0 (subst (λ x. x < depth) at lt) of threads call (inr (subst (λ x. Finds (b.0, x)) up m))) (within_table (first_item f) (first_is_item p f of)))

    layer_of : (k : ℕ) (starts : List ℕ) (flags : List Bool) → AreStarts k starts → ((n : ℕ) → IsSet flags n ↔ Reached t starts n) → IsLayer k flags
    layer_of k starts flags are exact x own = (
      (λ set.
          let (i, oi, found, place) = onward k starts are x.id.0 ((exact x.id.0).0 set) in
          subst (λ y. Finds (y, k)) (one_item_a_number p is.formed i x oi own place) found),
      (λ found. (exact x.id.0).1 (back k starts are (x, k) refl found)),
    )

    -- what marked items are linked to
    abbrev AreFollowers : List ℕ → Type 0
    AreFollowers followers = (m : ℕ) → Contains followers m ↔ FollowsMarked t marked count m

    follower_found : (k : ℕ) (followers : List ℕ) → AreFollowers followers → (m : ℕ) → Contains followers m → FindsAt k m
    follower_found k followers exact m c =
        let (n, lt, set, leads) = (exact m).0 c in
        let (j, h, next, d, from, to) = (is.rows n m).0 leads in
        (h, (links_are_items p j h next).1, here {b = (j, k)} (inl (next, d, refl)) (subst (IsSet marked) (sym from) set), to)

    found_follower : (followers : List ℕ) → AreFollowers followers → (i j : Item) → Next p j i → destroys j.act ≡ false → IsMarked j → Contains followers i.id.0
    found_follower followers exact i j next d set = (exact i.id.0).1 (j.id.0, is.within j (links_are_items p j i next).0, set, (is.rows j.id.0 i.id.0).1 (j, i, next, d, refl, refl))

    -- the layer of the most calls
    pub top_layer : (followers : List ℕ) (flags : List Bool) → AreFollowers followers → ((n : ℕ) → IsSet flags n ↔ Reached t followers n) → IsLayer depth flags
    top_layer followers flags exact =
        layer_of depth followers flags (record {
          sound = follower_found depth followers exact;
          by_link = found_follower followers exact;
          by_call = λ f c lt of threads call why. absurd (omega (arith, lt));
        })

    -- and the layer under another one
    pub next_layer : (k : ℕ) (followers starts : List ℕ) (above flags : List Bool) → k < depth → AreFollowers followers → IsLayer (k + 1) above
        → ((n : ℕ) → Contains starts n ↔ (Contains followers n ⊎ EntersOne p marked above p.functions n)) → ((n : ℕ) → IsSet flags n ↔ Reached t starts n) → IsLayer k flags
    next_layer k followers starts above flags lt exact layer all =
        layer_of k starts flags (record {
          sound = λ n c. elim ((all n).0 c) [
            | inl linked ↦ follower_found k followers exact n linked
            | inr (f, of, ((threads, (call, calls, why)), place)) ↦ (first_item f, first_is_item p f of, up f of threads call calls why, place)
          ];
          by_link = λ i j next d set. (all i.id.0).1 (inl (found_follower followers exact i j next d set));
          by_call = λ f c less of threads call why. (all (first_item f).id.0).1 (inr (f, of, ((threads, (c, call, elim why [ inl set ↦ inl set | inr found ↦ inr ((layer c call.0).1 found) ])), refl)));
        })
      where
        up : (f : Function) → Contains p.functions f → (BeginsThreads p f → ⊥) → (c : Item) → IsCall p c f → IsEither marked above c.id.0 → Finds (first_item f, k)
        up f of threads c calls (inl set) = here {b = (c, k + 1)} (inr (f, of, refl, threads, calls, lt, refl)) set
        up f of threads c calls (inr found) = later {b = (c, k + 1)} (inr (f, of, refl, threads, calls, lt, refl)) ((layer c calls.0).0 found)

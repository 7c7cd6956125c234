-- What the layers of a search mark.
use Rattle.std.proofs.Common.{◌≡◌, ◌<◌, ◌≤◌, ◌+◌, ℕ, zero, suc, Bool, true, false, List, [], ◌∷◌, length, replicate, refl, sym, ap, ◌∙◌, subst, inl, inr, arith}
use Rattle.std.specs.Prelude.{Contains, ◌⊎◌, ◌↔◌, ◌==◌}
use Rattle.std.proofs.lemmas.Bool.Decides.{Decides-eqb}
use Rattle.std.proofs.lemmas.List.{length-replicate}
use Rattle.ca_tree.specs.declared.numbers.ItemId.{ItemId}
use Rattle.ca_reach.specs.Reach.{row, rows_of, IsSet}
use Rattle.ca_reach.proofs.Searched.{rows_length}
use Rattle.ca_model.specs.declared.tree.Item.{Item}
use Rattle.ca_model.specs.declared.tree.Function.{Function}
use Rattle.ca_model.specs.Codes.{Typed}
use Rattle.ca_model.specs.Sites.{all_items}
use Rattle.ca_model.specs.Paths.{Stop, GoesUp}
use Rattle.ca_model.proofs.Members.{in_none, at_head}
use Rattle.ca_model.proofs.ApartItems.{links_are_items}
use Rattle.ca_flow.proofs.FunctionItems.{place_of}
use Rattle.ca_callers.specs.declared.tables.Tables.{Tables}
use Rattle.ca_callers.specs.declared.search.Marks.{Marks}
use Rattle.ca_callers.specs.Callers.{AreTables, InOneRow, IsClosed, IsReached, Sets, IsLayer, IsBehind, IsAbove, IsBegun, item_number, function_number, SeenFrom, SeesBefore, SeesAfter, SeesEntry, AreFlagsOf, AreMarks}
use Rattle.ca_callers.proofs.Layers.{AreStarts, NewFrom, IsNew, own_on, next_starts, row_new, row_new_at}

split : (n k : ℕ) → n < k + 1 → (n < k) ⊎ (n ≡ k)
split zero zero lt = inr refl
split zero (suc k) lt = inl (omega arith)
split (suc n) zero lt = absurd (omega (arith, lt))
split (suc n) (suc k) lt = elim (split n k (omega (arith, lt))) [ inl less ↦ inl (omega (arith, less)) | inr e ↦ inr (ap suc e) ]

none_in : (xs : List ℕ) → ((m : ℕ) → Contains xs m → ⊥) → xs ≡ []
none_in [] none = refl
none_in (x ∷ xs) none = absurd (none x (at_head x xs))

none_set : (n m : ℕ) → IsSet (replicate n false) m → ⊥
none_set zero m is = absurd cc
none_set (suc n) zero is = absurd cc
none_set (suc n) (suc m) is = none_set n m is

-- whether a layer is the last one
abbrev pub IsLast : ℕ → ℕ → Bool → Type 0
IsLast depth k last = (last ≡ true → depth ≤ k) × (last ≡ false → k < depth)

pub last_is : (depth k : ℕ) (last : Bool) → k ≤ depth → last ≡ (k == depth) → IsLast depth k last
last_is depth k last le is = (
  (λ t. let e : k ≡ depth = (Decides-eqb k depth).0 (sym is ∙ t) in omega (arith, e)),
  (λ f. elim (split k depth (omega (arith, le))) [
    | inl less ↦ less
    | inr e ↦ (let t : last ≡ true = is ∙ (Decides-eqb k depth).1 e in absurd (true_is_not last t f))
  ]),
)
  where
    true_is_not : (b : Bool) → b ≡ true → b ≡ false → ⊥
    true_is_not true t f = absurd cc
    true_is_not false t f = absurd cc

-- as many flags as there are rows and functions
pub record AreAsLong (t : Tables) (marks : Marks) : Type 0 where
  pub before : length marks.before.items ≡ length t.back.items
  pub after : length marks.after.items ≡ length t.back.items
  pub entries : length marks.entries.items ≡ t.functions

pub long_at_first : (t : Tables) (marks : Marks) → marks.before.items ≡ replicate (length t.back.items) false → marks.after.items ≡ replicate (length t.back.items) false → marks.entries.items ≡ replicate t.functions false → AreAsLong t marks
long_at_first t marks before after entries = record {
  before = ap length before ∙ length-replicate (length t.back.items) false;
  after = ap length after ∙ length-replicate (length t.back.items) false;
  entries = ap length entries ∙ length-replicate t.functions false;
}

pub as_long_yet : (t : Tables) (starts next : List ℕ) (last : Bool) (marks marks' : Marks) → AreAsLong t marks → IsLayer t starts last marks marks' next → AreAsLong t marks'
as_long_yet t starts next last marks marks' long layer = record {
  before = layer.before_length ∙ long.before;
  after = layer.after_length ∙ long.after;
  entries = layer.entries_length ∙ long.entries;
}

module _ (p : Typed) (depth : ℕ) (from : List ItemId) where
  -- no flags are those of what no layer sees
  none_yet : (A : Type 0) (number : A → ℕ) (Q : Stop → A → Type 0) (n : ℕ) (flags : List Bool) → flags ≡ replicate n false → AreFlagsOf A number (SeenFrom A p depth from Q 0) flags
  none_yet A number Q n flags is m = (
    (λ h. absurd (none_set n m (subst (λ fs. IsSet fs m) is h))),
    (λ h.
        let (s, has, item, there) = h.1 in
        let (a, on, lt, q) = there in
        absurd (omega (arith, lt))),
  )

  pub no_marks_yet : (n k : ℕ) (marks : Marks) → marks.before.items ≡ replicate n false → marks.after.items ≡ replicate n false → marks.entries.items ≡ replicate k false → AreMarks p depth from 0 marks
  no_marks_yet n k marks before after entries = record {
    before = none_yet Item item_number (SeesBefore p depth) n marks.before.items before;
    after = none_yet Item item_number (SeesAfter p) n marks.after.items after;
    entries = none_yet Function function_number (SeesEntry p depth) k marks.entries.items entries;
  }

module _ (p : Typed) (depth : ℕ) (from : List ItemId) (t : Tables) (are : AreTables p t) where
  -- flags of what the layers before see, and of what one more sees
  flags_more : (A : Type 0) (number : A → ℕ) (Q : Stop → A → Type 0) (P : ℕ → Type 0) (k : ℕ) (flags flags' : List Bool) → AreFlagsOf A number (SeenFrom A p depth from Q k) flags → Sets flags flags' P
      → ((m : ℕ) → P m ↔ IsNew p depth from t are A number Q k m) → ((x : A) → NewFrom p depth from t are A Q k x → number x < length flags) → AreFlagsOf A number (SeenFrom A p depth from Q (k + 1)) flags'
  flags_more A number Q P k flags flags' old sets same fits m = (
    (λ is. elim ((sets m).0 is) [
      | inl before ↦
          let h = (old m).0 before in
          let (s, has, item, there) = h.1 in
          let (a, on, lt, q) = there in
          (h.0, (s, has, item, (a, on, omega (arith, lt), q)), h.2)
      | inr (new, lt) ↦
          let h = (same m).0 new in
          let (s, has, item, there) = h.1 in
          let (a, on, e, q) = there in
          (h.0, (s, has, item, (a, on, omega (arith, e), q)), h.2)
    ]),
    (λ h.
        let (s, has, item, there) = h.1 in
        let (a, on, lt, q) = there in
        (sets m).1 (elim (split a.1 k lt) [
          | inl less ↦ inl ((old m).1 (h.0, (s, has, item, (a, on, less, q)), h.2))
          | inr e ↦ inr ((same m).1 (h.0, (s, has, item, (a, on, e, q)), h.2), subst (λ n. n < length flags) h.2 (fits h.0 (s, has, item, (a, on, e, q))))
        ])),
  )

  below : (k : ℕ) (last : Bool) → IsLast depth k last → k < depth → last ≡ false
  below k true is lt = absurd (let past : depth ≤ k = is.0 refl in omega (arith, lt, past))
  below k false is lt = refl

  module _ (k : ℕ) (starts : List ℕ) (last : Bool) (here : AreStarts p depth from t are k starts) (is : IsLast depth k last) where
    -- what stands before the pairs of a layer
    same_before : (m : ℕ) → (InOneRow (rows_of t.back.items) (IsReached t starts) m ⊎ ((last ≡ false) × InOneRow (rows_of t.above.items) (IsReached t starts) m)) ↔ IsNew p depth from t are Item item_number (SeesBefore p depth) k m
    same_before m = (
      (λ e. elim e [
        | inl back ↦
            let h = (row_new p depth from t are Item item_number (IsBehind p false) (rows_of t.back.items) k starts are.back here m).0 back in
            let (s, has, item, there) = h.1 in
            let (a, on, at, r) = there in
            (h.0, (s, has, item, (a, on, at, (a.1, inl (r.0, r.1, refl)))), h.2)
        | inr (more, above) ↦
            let h = (row_new p depth from t are Item item_number (IsAbove p) (rows_of t.above.items) k starts are.above here m).0 above in
            let (s, has, item, there) = h.1 in
            let (a, on, at, r) = there in
            let (f, of, first, threads, call) = r in
            let lt : k < depth = is.1 more in
            (h.0, (s, has, item, (a, on, at, (a.1 + 1, inr (f, of, first, threads, call, omega (arith, at, lt), refl)))), h.2)
      ]),
      (λ h.
          let (s, has, item, there) = h.1 in
          let (a, on, at, q) = there in
          elim q.1 [
            | inl (next, d, j) ↦ inl ((row_new p depth from t are Item item_number (IsBehind p false) (rows_of t.back.items) k starts are.back here m).1 (h.0, (s, has, item, (a, on, at, (next, d))), h.2))
            | inr (f, of, first, threads, call, lt, j) ↦ inr (below k last is (omega (arith, at, lt)), (row_new p depth from t are Item item_number (IsAbove p) (rows_of t.above.items) k starts are.above here m).1 (h.0, (s, has, item, (a, on, at, (f, of, first, threads, call))), h.2))
          ]),
    )

    -- from an item of a layer one doesn't go up
    stuck : (a : Stop) → Contains (all_items p.functions) a.0 → a.1 ≡ k → IsClosed (rows_of t.above.items) last a.0.id.0 ↔ ((b : Stop) → GoesUp p depth a b → ⊥)
    stuck a own at = ((λ e b up. closed e b up), λ no'. open' no' last is)
      where
        closed : IsClosed (rows_of t.above.items) last a.0.id.0 → (b : Stop) → GoesUp p depth a b → ⊥
        closed (inl end) b (f, of, first, threads, call, lt, j) = let past : depth ≤ k = is.0 end in omega (arith, lt, past, at)
        closed (inr none) b (f, of, first, threads, call, lt, j) = in_none b.0.id.0 (subst (λ l. Contains l b.0.id.0) none ((are.above a.0 b.0.id.0 own).1 (b.0, (f, of, first, threads, call), refl)))

        open' : ((b : Stop) → GoesUp p depth a b → ⊥) → (b : Bool) → IsLast depth k b → IsClosed (rows_of t.above.items) b a.0.id.0
        open' no' true e = inl refl
        open' no' false e = inr (none_in (row (rows_of t.above.items) a.0.id.0) (λ m c.
            let h = (are.above a.0 m own).0 c in
            let (f, of, first, threads, call) = h.1 in
            let lt : k < depth = e.1 refl in
            no' (h.0, a.1 + 1) (f, of, first, threads, call, omega (arith, at, lt), refl)))

    same_entries : (m : ℕ) → InOneRow (rows_of t.begun.items) (λ n. IsReached t starts n × IsClosed (rows_of t.above.items) last n) m ↔ IsNew p depth from t are Function function_number (SeesEntry p depth) k m
    same_entries m = (
      (λ r.
          let h = (row_new_at p depth from t are Function function_number (IsBegun p) (IsClosed (rows_of t.above.items) last) (rows_of t.begun.items) k starts are.begun here m).0 r in
          let (s, has, item, there) = h.1 in
          let (a, on, at, q) = there in
          let own = own_on p depth from t are s item.0 a on in
          (h.0, (s, has, item, (a, on, at, (q.0.0, q.0.1, (stuck a own at).0 q.1))), h.2)),
      (λ h.
          let (s, has, item, there) = h.1 in
          let (a, on, at, q) = there in
          let own = own_on p depth from t are s item.0 a on in
          (row_new_at p depth from t are Function function_number (IsBegun p) (IsClosed (rows_of t.above.items) last) (rows_of t.begun.items) k starts are.begun here m).1
          (h.0, (s, has, item, (a, on, at, ((q.0, q.1), (stuck a own at).1 q.2))), h.2)),
    )

    -- numbers are within the flags
    item_fits : (flags : List Bool) → length flags ≡ length t.back.items → (j : Item) → Contains (all_items p.functions) j → j.id.0 < length flags
    item_fits flags long j own = let lt = are.within j own in let rows = rows_length t.back.items in omega (arith, long, lt, rows)

    before_fits : (flags : List Bool) → length flags ≡ length t.back.items → (j : Item) → NewFrom p depth from t are Item (SeesBefore p depth) k j → j.id.0 < length flags
    before_fits flags long j (s, has, item, there) =
        let (a, on, at, q) = there in
        item_fits flags long j (elim q.1 [
          | inl (next, d, e) ↦ (links_are_items p j a.0 next).0
          | inr (f, of, first, threads, call, lt, e) ↦ call.0
        ])

    after_fits : (flags : List Bool) → length flags ≡ length t.back.items → (j : Item) → NewFrom p depth from t are Item (SeesAfter p) k j → j.id.0 < length flags
    after_fits flags long j (s, has, item, there) =
        let (a, on, at, q) = there in
        item_fits flags long j (links_are_items p j a.0 q.0).0

    entry_fits : (flags : List Bool) → length flags ≡ t.functions → (f : Function) → NewFrom p depth from t are Function (SeesEntry p depth) k f → f.id.0 < length flags
    entry_fits flags long f (s, has, item, there) =
        let (a, on, at, q) = there in
        let there' = place_of p.functions f q.0 in
        let number : f.id.0 ≡ there'.0 = are.formed.functions there'.0 f there'.1 in
        let lt : there'.0 < length p.functions = there'.2 in
        let many = are.functions in
        omega (arith, long, number, lt, many)

    pub marks_more : (next : List ℕ) (marks marks' : Marks) → AreAsLong t marks → AreMarks p depth from k marks → IsLayer t starts last marks marks' next → AreMarks p depth from (k + 1) marks'
    marks_more next marks marks' long old layer = record {
      before = flags_more Item item_number (SeesBefore p depth) _ k marks.before.items marks'.before.items old.before layer.before same_before (before_fits marks.before.items long.before);
      after = flags_more Item item_number (SeesAfter p) _ k marks.after.items marks'.after.items old.after layer.after (row_new p depth from t are Item item_number (IsBehind p true) (rows_of t.stops.items) k starts are.stops here) (after_fits marks.after.items long.after);
      entries = flags_more Function function_number (SeesEntry p depth) _ k marks.entries.items marks'.entries.items old.entries layer.entries same_entries (entry_fits marks.entries.items long.entries);
    }

  -- the starts of the layer above
  pub next_marked : (k : ℕ) (starts next : List ℕ) (last : Bool) → k + 1 ≤ depth → AreStarts p depth from t are k starts → IsLast depth k last → ((m : ℕ) → Contains next m ↔ ((last ≡ false) × InOneRow (rows_of t.above.items) (IsReached t starts) m))
      → AreStarts p depth from t are (k + 1) next
  next_marked k starts next last le here is up =
      let lt : k < depth = omega (arith, le) in
      next_starts p depth from t are k starts next lt here (λ m. ((λ c. ((up m).0 c).1), λ r. (up m).1 (below k last is lt, r)))

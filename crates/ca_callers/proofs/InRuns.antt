-- The item before another one in a straight run, by the rows of both.
use Rattle.std.proofs.Common.{arith, ◌≡◌, ◌<◌, ◌≤◌, ◌+◌, ℕ, Bool, true, false, List, [], ◌∷◌, length, take, get_or, refl, sym, ap, ◌∙◌, subst, inl, inr, true≢false}
use Rattle.std.specs.Prelude.{Contains, ◌↔◌, ◌⊎◌}
use Rattle.std.proofs.lemmas.List.{take_all, take_more}
use Rattle.std.proofs.lemmas.List.Elements.{Contains-get_or, Contains-append_cases}
use Rattle.ca_tree.specs.declared.numbers.ItemId.{ItemId}
use Rattle.ca_reach.specs.Reach.{row, rows_of}
use Rattle.ca_model.specs.declared.tree.Item.{Item}
use Rattle.ca_model.specs.declared.tree.Function.{Function}
use Rattle.ca_model.specs.Codes.{Typed}
use Rattle.ca_model.specs.Destroying.{destroys}
use Rattle.ca_model.specs.Sites.{all_items}
use Rattle.ca_model.specs.Plans.{IsItem}
use Rattle.ca_model.proofs.Members.{in_none, in_one, at_head}
use Rattle.ca_model.proofs.ApartItems.{links_are_items, one_item_a_number}
use Rattle.ca_callers.specs.Callers.{AreTables, IsBehind, IsBegun}
use Rattle.ca_callers.specs.declared.tables.Tables.{Tables}
use Rattle.ca_callers.specs.Runs.{IsInRun, IsOnly}

-- ---- the only number of a list

pub none_yet : (ns : List ℕ) (first : ℕ) (m : ℕ) → Contains (take 0 ns) m → m ≡ first
none_yet [] first m c = absurd (in_none m c)
none_yet (n ∷ ns) first m c = absurd (in_none m c)

pub one_more : (ns : List ℕ) (k first : ℕ) → k < length ns → get_or ns k 0 ≡ first → ((m : ℕ) → Contains (take k ns) m → m ≡ first) → (m : ℕ) → Contains (take (k + 1) ns) m → m ≡ first
one_more ns k first lt is before m c = elim (Contains-append_cases (take k ns) (get_or ns k 0 ∷ []) m (subst (λ xs. Contains xs m) (take_more ns k 0 lt) c)) [
  | inl old ↦ before m old
  | inr new ↦ sym (in_one (get_or ns k 0) m new) ∙ is
]

pub all_one : (ns : List ℕ) (k first : ℕ) → length ns ≤ k → Contains ns first → ((m : ℕ) → Contains (take k ns) m → m ≡ first) → IsOnly ns first
all_one ns k first past has before = (has, (λ m c. before m (subst (λ xs. Contains xs m) (sym (take_all k ns past)) c)))

-- two numbers that differ
pub two_there : (ns : List ℕ) (k first n : ℕ) → k < length ns → Contains ns first → (get_or ns k 0 ≡ first → ⊥) → IsOnly ns n → ⊥
two_there ns k first n lt has differs only = differs (only.1 (get_or ns k 0) (Contains-get_or ns k 0 lt) ∙ sym (only.1 first has))

-- ---- the rows of an item

module _ (p : Typed) (t : Tables) (are : AreTables p t) (i : Item) (n : ItemId) (is : IsItem p i n) where
  abbrev Stops : List ℕ
  Stops = row (rows_of t.stops.items) n.0

  abbrev Begun : List ℕ
  Begun = row (rows_of t.begun.items) n.0

  abbrev Back : List ℕ
  Back = row (rows_of t.back.items) n.0

  number : i.id.0 ≡ n.0
  number = ap (λ (m : ItemId). m.0) is.1

  behind : (m : ℕ) → Contains Back m ↔ ((x : Item) × IsBehind p false x i × (x.id.0 ≡ m))
  behind m = subst (λ k. Contains (row (rows_of t.back.items) k) m ↔ ((x : Item) × IsBehind p false x i × (x.id.0 ≡ m))) number (are.back i m is.0)

  stopped : (m : ℕ) → Contains Stops m ↔ ((x : Item) × IsBehind p true x i × (x.id.0 ≡ m))
  stopped m = subst (λ k. Contains (row (rows_of t.stops.items) k) m ↔ ((x : Item) × IsBehind p true x i × (x.id.0 ≡ m))) number (are.stops i m is.0)

  starts : (m : ℕ) → Contains Begun m ↔ ((f : Function) × IsBegun p f i × (f.id.0 ≡ m))
  starts m = subst (λ k. Contains (row (rows_of t.begun.items) k) m ↔ ((f : Function) × IsBegun p f i × (f.id.0 ≡ m))) number (are.begun i m is.0)

  -- what the rows have not where an item of a run stands before
  pub no_stop : (j : Item) → IsInRun p i j → (m : ℕ) → Contains Stops m → ⊥
  no_stop j run m c =
      let (x, behind, at) = (stopped m).0 c in
      true≢false (sym behind.1 ∙ (ap (λ (y : Item). destroys y.act) (run.only x behind.0) ∙ run.harmless))

  pub no_start : (j : Item) → IsInRun p i j → (m : ℕ) → Contains Begun m → ⊥
  no_start j run m c = let (f, begins, at) = (starts m).0 c in run.inner f begins.0 begins.1

  pub one_back : (j : Item) → IsInRun p i j → IsOnly Back j.id.0
  one_back j run = (
    (behind j.id.0).1 (j, (run.next, run.harmless), refl),
    (λ m c. let (x, back, at) = (behind m).0 c in sym at ∙ ap (λ (y : Item). y.id.0) (run.only x back.0)),
  )

  -- and what they have where one does
  pub in_run : ((m : ℕ) → Contains Stops m → ⊥) → ((m : ℕ) → Contains Begun m → ⊥) → (m : ItemId) → IsOnly Back m.0 → (j : Item) × IsItem p j m × IsInRun p i j
  in_run no_stops no_starts m only =
      let (j, back, at) = (behind m.0).0 only.0 in
      let own : Contains (all_items p.functions) j = (links_are_items p j i back.0).0 in (
        j,
        (own, same_number j.id m at),
        record {
          next = back.0;
          only = λ k next. elim (true_or_false (destroys k.act)) [
            | inl stops ↦ absurd (no_stops k.id.0 ((stopped k.id.0).1 (k, (next, stops), refl)))
            | inr harmless ↦ one_item_a_number p are.formed k j (links_are_items p k i next).0 own (only.1 k.id.0 ((behind k.id.0).1 (k, (next, harmless), refl)) ∙ sym at)
          ];
          harmless = back.1;
          inner = λ f of first. no_starts f.id.0 ((starts f.id.0).1 (f, (of, first), refl));
        },
      )
    where
      same_number : (a b : ItemId) → a.0 ≡ b.0 → a ≡ b
      same_number a b e = ap (λ (n : ℕ). let x : ItemId = record { 0 = n } in x) e

      true_or_false : (b : Bool) → (b ≡ true) ⊎ (b ≡ false)
      true_or_false true = inl refl
      true_or_false false = inr refl

-- rows that are read through references

module _ (q p : Typed) (same : q ≡ p) (t : Tables) (are : AreTables p t) (n : ItemId) where
  pub stops_there : (ns : List ℕ) → ns ≡ row (rows_of t.stops.items) n.0 → (length ns ≡ 0 → ⊥) → (i : Item) → IsItem q i n → (j : Item) → IsInRun q i j → ⊥
  stops_there [] read some i is j run = absurd (some refl)
  stops_there (m ∷ ns) read some i is j run =
      no_stop p t are i n (subst (λ (s : Typed). IsItem s i n) same is) j (subst (λ (s : Typed). IsInRun s i j) same run) m (subst (λ xs. Contains xs m) read (at_head m ns))

  pub starts_there : (ns : List ℕ) → ns ≡ row (rows_of t.begun.items) n.0 → (length ns ≡ 0 → ⊥) → (i : Item) → IsItem q i n → (j : Item) → IsInRun q i j → ⊥
  starts_there [] read some i is j run = absurd (some refl)
  starts_there (m ∷ ns) read some i is j run =
      no_start p t are i n (subst (λ (s : Typed). IsItem s i n) same is) j (subst (λ (s : Typed). IsInRun s i j) same run) m (subst (λ xs. Contains xs m) read (at_head m ns))

  pub none_back : (ns : List ℕ) → ns ≡ row (rows_of t.back.items) n.0 → ((m : ℕ) → IsOnly ns m → ⊥) → (i : Item) → IsItem q i n → (j : Item) → IsInRun q i j → ⊥
  none_back ns read none i is j run =
      none j.id.0 (subst (λ xs. IsOnly xs j.id.0) (sym read) (one_back p t are i n (subst (λ (s : Typed). IsItem s i n) same is) j (subst (λ (s : Typed). IsInRun s i j) same run)))

  pub run_there : (ss bs ns : List ℕ) → ss ≡ row (rows_of t.stops.items) n.0 → bs ≡ row (rows_of t.begun.items) n.0 → ns ≡ row (rows_of t.back.items) n.0 → length ss ≡ 0 → length bs ≡ 0
      → (m : ItemId) → IsOnly ns m.0 → (i : Item) → IsItem q i n → (j : Item) × IsItem q j m × IsInRun q i j
  run_there ss bs ns first second third no_ss no_bs m only i is =
      subst (λ (s : Typed). (j : Item) × IsItem s j m × IsInRun s i j) (sym same)
      (in_run p t are i n (subst (λ (s : Typed). IsItem s i n) same is)
      (λ k c. empty_has ss no_ss k (subst (λ xs. Contains xs k) (sym first) c))
      (λ k c. empty_has bs no_bs k (subst (λ xs. Contains xs k) (sym second) c))
      m (subst (λ xs. IsOnly xs m.0) third only))
    where
      empty_has : (xs : List ℕ) → length xs ≡ 0 → (k : ℕ) → Contains xs k → ⊥
      empty_has [] e k c = in_none k c
      empty_has (x ∷ xs) e k c = absurd (omega (arith, e))

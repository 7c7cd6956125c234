-- What a search finds of an item, as lists of functions and items, and its words.
use Rattle.std.proofs.Common.{arith, ◌≡◌, ◌+◌, ◌-◌, ℕ, List, [], ◌∷◌, ◌++◌, map, get_or, Some, refl, sym, ap, ◌∙◌, subst, inl, inr}
use Rattle.std.specs.Prelude.{Contains, ◌↔◌, slice_get}
use Rattle.std.specs.List.{flat_map}
use Rattle.std.specs.List.Sorted.{IsStrictlyIncreasing}
use Rattle.std.proofs.lemmas.List.{get_or-map}
use Rattle.std.proofs.lemmas.List.Folds.{flat_map-map}
use Rattle.std.proofs.lemmas.Option.{get_or_from_slice_get}
use Rattle.ca_tree.specs.declared.numbers.FunId.{FunId}
use Rattle.ca_tree.specs.declared.numbers.ItemId.{ItemId}
use Rattle.ca_tree.specs.declared.text.Pos.{Pos}
use Rattle.ca_tree.specs.declared.tree.Program.{Program}
use Rattle.ca_model.specs.declared.tree.Item.{Item}
use Rattle.ca_model.specs.declared.tree.Function.{Function}
use Rattle.ca_model.specs.typing.Programs.{first_place}
use Rattle.ca_model.specs.typing.Sources.{Source}
use Rattle.ca_model.specs.Codes.{Typed}
use Rattle.ca_model.specs.Sites.{all_items}
use Rattle.ca_model.specs.WellFormed.{IsWellFormed}
use Rattle.ca_model.specs.Paths.{PointAfter, PointAtEntry}
use Rattle.ca_model.specs.Plans.{IsItem}
use Rattle.ca_model.proofs.ApartItems.{links_are_items, one_item_a_number}
use Rattle.ca_model.proofs.Members.{in_none, in_one, in_cons, at_head, at_tail}
use Rattle.ca_flow.specs.declared.searches.Points.{Points}
use Rattle.ca_flow.proofs.FunctionItems.{place_of}
use Rattle.ca_callers.specs.Callers.{ForOne}
use Rattle.ca_plan.specs.Planning.{ArePoints}
use Rattle.ca_plan.specs.SiteTables.{ArePointsOf, names, name_of, entry_text, after_text, points_text}
use Rattle.ca_plan.specs.Finding.{AreWordsOf, HaveSamePoints}

-- the things with some numbers, where each thing has a number of its own
module _ (A N : Type 0) (number : A → N) (R : A → Type 0) (unique : (x y : A) → R x → R y → number x ≡ number y → x ≡ y) where
  abbrev chosen : (ns : List N) → ((n : N) → Contains ns n → (x : A) × (number x ≡ n) × R x) → List A
  chosen [] are = []
  chosen (n ∷ ns) are = (are n (at_head n ns)).0 ∷ chosen ns (λ m c. are m (at_tail n ns m c))

  chosen_numbers : (ns : List N) (are : (n : N) → Contains ns n → (x : A) × (number x ≡ n) × R x) → map number (chosen ns are) ≡ ns
  chosen_numbers [] are = refl
  chosen_numbers (n ∷ ns) are =
      let here : number (are n (at_head n ns)).0 ≡ n = (are n (at_head n ns)).1 in
      let later : map number (chosen ns (λ m c. are m (at_tail n ns m c))) ≡ ns = chosen_numbers ns (λ m c. are m (at_tail n ns m c)) in
      λ i. here i ∷ later i

  chosen_so : (ns : List N) (are : (n : N) → Contains ns n → (x : A) × (number x ≡ n) × R x) (x : A) → Contains (chosen ns are) x → R x
  chosen_so [] are x c = absurd (in_none x c)
  chosen_so (n ∷ ns) are x c = elim (in_cons (are n (at_head n ns)).0 (chosen ns (λ m c. are m (at_tail n ns m c))) x c) [
    | inl is ↦ subst R is (are n (at_head n ns)).2
    | inr more ↦ chosen_so ns (λ m c. are m (at_tail n ns m c)) x more
  ]

  with_number : (xs : List A) (n : N) → Contains (map number xs) n → (x : A) × Contains xs x × (number x ≡ n)
  with_number [] n c = absurd (in_none n c)
  with_number (y ∷ xs) n c = elim (in_cons (number y) (map number xs) n c) [
    | inl is ↦ (y, at_head y xs, is)
    | inr more ↦ let h = with_number xs n more in (h.0, at_tail y xs h.0 h.1, h.2)
  ]

  list_of : (ns : List N) → ((n : N) → Contains ns n ↔ ((x : A) × (number x ≡ n) × R x)) → (xs : List A) × (map number xs ≡ ns) × ((x : A) → Contains xs x ↔ R x)
  list_of ns are =
      let has : (n : N) → Contains ns n → (x : A) × (number x ≡ n) × R x = λ n c. (are n).0 c in
      let same : map number (chosen ns has) ≡ ns = chosen_numbers ns has in (
        chosen ns has,
        same,
        λ x. (
          (λ c. chosen_so ns has x c),
          (λ r.
              let listed : Contains ns (number x) = (are (number x)).1 (x, refl, r) in
              let h = with_number (chosen ns has) (number x) (subst (λ l. Contains l (number x)) (sym same) listed) in
              subst (Contains (chosen ns has)) (unique h.0 x (chosen_so ns has h.0 h.1) r h.2) h.1),
        ),
      )

inner_numbers : (A N : Type 0) (number : A → N) (size : N → ℕ) (xs : List A) → map size (map number xs) ≡ map (λ x. size (number x)) xs
inner_numbers A N number size [] = refl
inner_numbers A N number size (x ∷ xs) = ap (λ l. size (number x) ∷ l) (inner_numbers A N number size xs)

module _ (p : Typed) (formed : IsWellFormed p) where
  one_function : (f g : Function) → Contains p.functions f → Contains p.functions g → f.id ≡ g.id → f ≡ g
  one_function f g a b same =
      let at = place_of p.functions f a in
      let other = place_of p.functions g b in
      let number : at.0 ≡ other.0 = sym (formed.functions at.0 f at.1) ∙ (ap (λ (n : FunId). n.0) same ∙ formed.functions other.0 g other.1) in
      let both : Some f ≡ Some g = sym at.1 ∙ (ap (slice_get p.functions) number ∙ other.1) in
      cc

  -- what is found of one item
  for_one : (x : Item) (i : ItemId) → IsItem p x i → (P : Item → Type 0) → ForOne p (i ∷ []) P ↔ P x
  for_one x i is P = (
    (λ h.
        let (y, has, own, there) = h in
        let number : y.id.0 ≡ x.id.0 = ap (λ (j : ItemId). j.0) (sym (in_one i y.id has) ∙ sym is.1) in
        subst P (one_item_a_number p formed y x own.0 is.0 number) there),
    (λ there. (x, subst (Contains (i ∷ [])) (sym is.1) (at_head i []), (is.0, refl), there)),
  )

  of_one : (A N : Type 0) (number : A → N) (R : Item → A → Type 0) (x : Item) (i : ItemId) → IsItem p x i → (ns : List N) → ((n : N) → Contains ns n ↔ ((a : A) × (number a ≡ n) × ForOne p (i ∷ []) (λ y. R y a)))
      → (n : N) → Contains ns n ↔ ((a : A) × (number a ≡ n) × R x a)
  of_one A N number R x i is ns found n = (
    (λ c. let h = (found n).0 c in (h.0, h.1, (for_one x i is (λ y. R y h.0)).0 h.2)),
    (λ h. (found n).1 (h.0, h.1, (for_one x i is (λ y. R y h.0)).1 h.2)),
  )

  -- the place of an item
  place_at : (places : List Pos) → places ≡ map (λ (i : Item). i.pos) (all_items p.functions) → (j : Item) → Contains (all_items p.functions) j → get_or places (j.id.0 - 1) first_place ≡ j.pos
  place_at places are j own =
      let at = place_of (all_items p.functions) j own in
      let number : j.id.0 ≡ at.0 + 1 = formed.items at.0 j at.1 in
      let place : j.id.0 - 1 ≡ at.0 = omega (arith, number) in
      ap (λ l. get_or l (j.id.0 - 1) first_place) are ∙ (ap (λ k. get_or (map (λ (i : Item). i.pos) (all_items p.functions)) k first_place) place
      ∙ (get_or-map (λ (i : Item). i.pos) (all_items p.functions) at.0 j first_place at.2 ∙ ap (λ (i : Item). i.pos) (get_or_from_slice_get (all_items p.functions) at.0 j j at.1)))

  -- the words of items by their places
  words_after : (places : List Pos) → places ≡ map (λ (i : Item). i.pos) (all_items p.functions) → (js : List Item) → ((j : Item) → Contains js j → Contains (all_items p.functions) j)
      → flat_map (λ (i : ItemId). after_text (get_or places (i.0 - 1) first_place)) (map (λ (j : Item). j.id) js) ≡ flat_map (λ (j : Item). after_text j.pos) js
  words_after places are [] own = refl
  words_after places are (j ∷ js) own =
      let here : after_text (get_or places (j.id.0 - 1) first_place) ≡ after_text j.pos = ap after_text (place_at places are j (own j (at_head j js))) in
      let later = words_after places are js (λ k c. own k (at_tail j js k c)) in
      λ i. here i ++ later i

words_of_entries : (x : Program) (ns : List (List ℕ)) → ns ≡ names x → (fs : List Function) → flat_map (λ (f : FunId). entry_text (get_or ns f.0 [])) (map (λ (f : Function). f.id) fs) ≡ flat_map (λ (f : Function). entry_text (name_of x f.id)) fs
words_of_entries x ns are fs = ap (λ l. flat_map (λ (f : FunId). entry_text (get_or l f.0 [])) (map (λ (f : Function). f.id) fs)) are ∙ flat_map-map (λ (f : FunId). entry_text (name_of x f)) (λ (f : Function). f.id) fs

pub found_words : (s : Source) → IsWellFormed s.typed → (depth : ℕ) (x : Item) (i : ItemId) → IsItem s.typed x i → (r : Points) → ArePoints s.typed depth (i ∷ []) r → (ns : List (List ℕ)) (places : List Pos) → ns ≡ names s.program
    → places ≡ map (λ (j : Item). j.pos) (all_items s.typed.functions) → (words : List ℕ) → words ≡ flat_map (λ (f : FunId). entry_text (get_or ns f.0 [])) r.entries ++ flat_map (λ (j : ItemId). after_text (get_or places (j.0 - 1) first_place)) r.after
    → AreWordsOf s depth x words
found_words s formed depth x i is r points ns places names-are places-are words words-are = (entries.0, after.0, are, words-are ∙ both)
  where
    entries : (fs : List Function) × (map (λ (f : Function). f.id) fs ≡ r.entries) × ((f : Function) → Contains fs f ↔ PointAtEntry s.typed depth x f)
    entries = list_of Function FunId (λ f. f.id) (λ f. PointAtEntry s.typed depth x f) (λ f g a b same. one_function s.typed formed f g a.0 b.0 same) r.entries
        (of_one s.typed formed Function FunId (λ f. f.id) (λ y f. PointAtEntry s.typed depth y f) x i is r.entries points.entries)

    after : (js : List Item) × (map (λ (j : Item). j.id) js ≡ r.after) × ((j : Item) → Contains js j ↔ PointAfter s.typed depth x j)
    after = list_of Item ItemId (λ j. j.id) (λ j. PointAfter s.typed depth x j)
        (λ j k a b same. one_item_a_number s.typed formed j k (links_are_items s.typed j a.0.0 a.2).0 (links_are_items s.typed k b.0.0 b.2).0 (ap (λ (n : ItemId). n.0) same)) r.after
        (of_one s.typed formed Item ItemId (λ j. j.id) (λ y j. PointAfter s.typed depth y j) x i is r.after points.after)

    are : ArePointsOf s.typed depth x entries.0 after.0
    are = record {
      at_entries = entries.2;
      behind_items = after.2;
      entries_ascend = subst IsStrictlyIncreasing (sym (sym (inner_numbers Function FunId (λ f. f.id) (λ n. n.0) entries.0) ∙ ap (map (λ (n : FunId). n.0)) entries.1)) points.entries_ascend;
      after_ascend = subst IsStrictlyIncreasing (sym (sym (inner_numbers Item ItemId (λ j. j.id) (λ n. n.0) after.0) ∙ ap (map (λ (n : ItemId). n.0)) after.1)) points.after_ascend;
    }

    first : flat_map (λ (f : FunId). entry_text (get_or ns f.0 [])) r.entries ≡ flat_map (λ (f : Function). entry_text (name_of s.program f.id)) entries.0
    first = ap (flat_map (λ (f : FunId). entry_text (get_or ns f.0 []))) (sym entries.1) ∙ words_of_entries s.program ns names-are entries.0

    second : flat_map (λ (j : ItemId). after_text (get_or places (j.0 - 1) first_place)) r.after ≡ flat_map (λ (j : Item). after_text j.pos) after.0
    second = ap (flat_map (λ (j : ItemId). after_text (get_or places (j.0 - 1) first_place))) (sym after.1)
        ∙ words_after s.typed formed places places-are after.0 (λ j c. let h = (after.2 j).0 c in (links_are_items s.typed j h.0.0 h.2).0)

    both : flat_map (λ (f : FunId). entry_text (get_or ns f.0 [])) r.entries ++ flat_map (λ (j : ItemId). after_text (get_or places (j.0 - 1) first_place)) r.after ≡ points_text s.program entries.0 after.0
    both = λ k. first k ++ second k

-- words of an item are those of another one with the same points
pub same_words : (s : Source) (depth : ℕ) (x y : Item) → HaveSamePoints s.typed x y → (words : List ℕ) → AreWordsOf s depth y words → AreWordsOf s depth x words
same_words s depth x y same words (entries, after, are, is) = (
  entries,
  after,
  record {
    at_entries = λ f. ((λ c. ((same depth).0 f).1 ((are.at_entries f).0 c)), λ h. (are.at_entries f).1 (((same depth).0 f).0 h));
    behind_items = λ j. ((λ c. ((same depth).1 j).1 ((are.behind_items j).0 c)), λ h. (are.behind_items j).1 (((same depth).1 j).0 h));
    entries_ascend = are.entries_ascend;
    after_ascend = are.after_ascend;
  },
  is,
)

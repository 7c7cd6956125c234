-- Items of a run have the same points.
use Rattle.std.proofs.Common.{arith, ◌≡◌, ◌<◌, ◌≤◌, ◌+◌, ℕ, List, [], ◌∷◌, ◌++◌, length, get_or, true, Some, refl, sym, ap, ◌∙◌, subst, inl, inr}
use Rattle.std.specs.Prelude.{slice_get}
use Rattle.std.proofs.lemmas.List.{get_or_append_left}
use Rattle.std.proofs.lemmas.Option.{get_or_from_slice_get, slice_get_read, slice_get_within}
use Rattle.std.proofs.Math.Seq.{get_or-append_seam}
use Rattle.std.proofs.Math.Dec.{ltb}
use Rattle.std.proofs.lemmas.Bool.{cases_lt, ltb-true}
use Rattle.ca_tree.specs.declared.numbers.ItemId.{ItemId}
use Rattle.ca_model.specs.declared.tree.Item.{Item}
use Rattle.ca_model.specs.Codes.{Typed}
use Rattle.ca_model.specs.Sites.{all_items}
use Rattle.ca_model.specs.WellFormed.{IsWellFormed}
use Rattle.ca_model.specs.Plans.{IsItem}
use Rattle.ca_flow.proofs.FunctionItems.{all_numbered, number_within}
use Rattle.ca_callers.specs.Runs.{IsInRun}
use Rattle.ca_callers.proofs.Sharing.{same_after, same_entries}
use Rattle.ca_plan.specs.Finding.{HaveSamePoints, IsHeadOf, AreHeads}

one_longer : (hs : List ItemId) (h : ItemId) → length (hs ++ h ∷ []) ≡ length hs + 1
one_longer [] h = refl
one_longer (x ∷ hs) h = let rest : length (hs ++ h ∷ []) ≡ length hs + 1 = one_longer hs h in omega (arith, rest)

pub longer : (heads more : List ItemId) (n : ℕ) (head : ItemId) → length heads ≡ n → more ≡ heads ++ head ∷ [] → length more ≡ n + 1
longer heads more n head long is = let many : length more ≡ length heads + 1 = ap length is ∙ one_longer heads head in omega (arith, many, long)

module _ (p : Typed) where
  same_itself : (x : Item) → HaveSamePoints p x x
  same_itself x depth = ((λ f. ((λ h. h), λ h. h)), λ j. ((λ h. h), λ h. h))

  same_through : (x y z : Item) → HaveSamePoints p x y → HaveSamePoints p y z → HaveSamePoints p x z
  same_through x y z a b depth = (
    (λ f. ((λ h. ((b depth).0 f).0 (((a depth).0 f).0 h)), λ h. ((a depth).0 f).1 (((b depth).0 f).1 h))),
    (λ j. ((λ h. ((b depth).1 j).0 (((a depth).1 j).0 h)), λ h. ((a depth).1 j).1 (((b depth).1 j).1 h))),
  )

  in_run_same : (x y : Item) → IsInRun p x y → HaveSamePoints p x y
  in_run_same x y run depth = (same_entries p depth x y run, same_after p depth x y run)

  pub own_head : (n : ItemId) (x : Item) → IsItem p x n → IsHeadOf p x n
  own_head n x is = (x, is, same_itself x)

  pub head_before : (heads : List ItemId) → AreHeads p heads → (before head : ItemId) → true ≡ ltb before.0 (length heads) → head ≡ get_or heads before.0 head → (x : Item) → ((j : Item) × IsItem p j before × IsInRun p x j) → IsHeadOf p x head
  head_before heads are before head within at x (j, own, run) =
      let number : j.id.0 ≡ before.0 = ap (λ (i : ItemId). i.0) own.1 in
      let lt : before.0 < length heads = ltb-true before.0 (length heads) (sym within) in
      let there : slice_get heads j.id.0 ≡ Some head = slice_get_read heads (length heads) j.id.0 head refl (omega (arith, lt, number)) (at ∙ ap (λ k. get_or heads k head) (sym number)) in
      let h = are j (own.0, refl) (slice_get_within heads j.id.0 head there) in
      let is : get_or heads j.id.0 j.id ≡ head = get_or_from_slice_get heads j.id.0 head j.id there in
      (h.0, (h.1.0, h.1.1 ∙ is), same_through x j h.0 (in_run_same x j run) h.2)

  pub no_heads : (heads : List ItemId) → heads ≡ [] → AreHeads p heads
  no_heads heads none x own lt = absurd (let none' : length heads ≡ 0 = ap length none in omega (arith, lt, none'))

  pub head_more : (heads more : List ItemId) (n : ℕ) (head : ItemId) → length heads ≡ n → AreHeads p heads → more ≡ heads ++ head ∷ [] → ((x : Item) → IsItem p x (record { 0 = n }) → IsHeadOf p x head) → AreHeads p more
  head_more heads more n head long are is its x own lt = subst (λ hs. IsHeadOf p x (get_or hs x.id.0 x.id)) (sym is) (elim (cases_lt x.id.0 (length heads)) [
    | inl less ↦ subst (IsHeadOf p x) (sym (get_or_append_left heads (head ∷ []) x.id x.id.0 less)) (are x own less)
    | inr past ↦
        let many : length more ≡ length heads + 1 = ap length is ∙ one_longer heads head in
        let number : x.id.0 ≡ length heads = omega (arith, lt, past, many) in
        let at : get_or (heads ++ head ∷ []) x.id.0 x.id ≡ head = ap (λ k. get_or (heads ++ head ∷ []) k x.id) number ∙ get_or-append_seam heads head [] x.id in
        subst (IsHeadOf p x) (sym at) (its x (own.0, same_number x.id n (number ∙ long)))
  ])
    where
      same_number : (i : ItemId) (n : ℕ) → i.0 ≡ n → i ≡ record { 0 = n }
      same_number i n e = ap (λ (k : ℕ). let m : ItemId = record { 0 = k } in m) e

-- what is looked up in a vector that is read through a reference
pub heads_read : (p : Typed) (heads read : List ItemId) → read ≡ heads → AreHeads p heads → AreHeads p read
heads_read p heads read same are = subst (AreHeads p) (sym same) are

-- of another equal source
pub heads_of : (q p : Typed) → q ≡ p → (heads : List ItemId) → AreHeads q heads → AreHeads p heads
heads_of q p same heads are = subst (λ (t : Typed). AreHeads t heads) same are

pub head_there : (p : Typed) → IsWellFormed p → (heads : List ItemId) → AreHeads p heads → length heads ≡ length (all_items p.functions) + 1 → (x : Item) (n head : ItemId) → IsItem p x n → head ≡ get_or heads n.0 head → IsHeadOf p x head
head_there p formed heads are many x n head is read =
    let number : x.id.0 ≡ n.0 = ap (λ (i : ItemId). i.0) is.1 in
    let low : x.id.0 ≤ length (all_items p.functions) = (number_within (all_items p.functions) (all_numbered p formed) x is.0).1 in
    let lt : x.id.0 < length heads = omega (arith, low, many) in
    let at : slice_get heads x.id.0 ≡ Some head = slice_get_read heads (length heads) x.id.0 head refl lt (read ∙ ap (λ k. get_or heads k head) (sym number)) in
    subst (IsHeadOf p x) (get_or_from_slice_get heads x.id.0 head x.id at) (are x (is.0, refl) lt)

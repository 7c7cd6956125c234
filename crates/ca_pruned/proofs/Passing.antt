-- Looking back from a site: the items that a frame runs since the last point stand on a backward path.
use Rattle.std.proofs.Common.{◌≡◌, ℕ, zero, suc, Bool, true, false, List, [], ◌∷◌, ◌++◌, Some, refl, sym, ap, ◌∙◌, subst, inl, inr, append-nil, append_assoc}
use Rattle.std.specs.Prelude.{Contains}
use Rattle.std.proofs.lemmas.Bool.{cases_Bool}
use Rattle.std.proofs.lemmas.List.Elements.{Contains-append_left, Contains-append_right, Contains-append_cases}
use Rattle.ca_tree.specs.declared.numbers.SiteId.{SiteId}
use Rattle.ca_model.specs.declared.values.Value.{Value}
use Rattle.ca_model.specs.declared.tree.Item.{Item}
use Rattle.ca_model.specs.Asks.{Want, Ended, Got, Is, Wants, No_result}
use Rattle.ca_model.specs.Items.{Done}
use Rattle.ca_model.specs.Laws.{Stands, OnWants}
use Rattle.ca_model.specs.Destroying.{destroys, ends_item}
use Rattle.ca_model.specs.Links as links
use Rattle.ca_model.specs.Paths.{Stop, Goes, OnPath, begins, goes}
use Rattle.ca_model.specs.Begun.{IsReturn, InProgress}
use Rattle.ca_model.specs.Follows.{first_head, heads_by, AreLinked, with_answer}
use Rattle.ca_model.specs.Codes.{Typed}
use Rattle.ca_model.specs.WellFormed.{IsWellFormed}
use Rattle.ca_model.specs.Hardened.{site_of}
use Rattle.ca_model.specs.SourceRuns.{no_plan}
use Rattle.ca_model.specs.Frames.{Code, Left, After, Frame, item_run, first_run, begun, gives_way, settle, answered, first_weight}
use Rattle.ca_model.proofs.Members.{at_head, in_none, in_one}
use Rattle.ca_model.proofs.Silent.{none_over, answer_used, UsesAll, stays, answered_stands}
use Rattle.ca_model.proofs.Harmless.{act_harmless}
use Rattle.ca_model.proofs.LastEffects.{act_last}
use Rattle.ca_model.proofs.Followed.{well_formed_follows}
use Rattle.ca_erasure.proofs.Standing.{one_head, not_done, linked_first, links_tail}
use Rattle.ca_pruned.proofs.Asking.{Asked, By_item, By_turn, asked}
use Rattle.ca_pruned.specs.Points.{first_left, passed_by, bare, HasPoint}
use Rattle.ca_erasure.proofs.Moving.{head_of}

module _ (p : Typed) (wf : IsWellFormed p) (depth : ℕ) (start : Item) (site : SiteId) where
  abbrev code : Code
  code = bare p

  abbrev pub StandsIn : Frame → Item → Type 0
  StandsIn f i = first_head f.left ≡ i ∷ []

  abbrev pub InPath : ℕ → Item → Type 0
  InPath k i = OnPath p depth start (i, k)

  -- behind the first pair of a path
  abbrev pub Behind : ℕ → Item → Type 0
  Behind k i = (a : Stop) × OnPath p depth start a × Goes p depth a (i, k)

  abbrev IsPassed : ℕ → Item → Type 0
  IsPassed k i = Behind k i × (destroys i.act ≡ false)

  abbrev NoPoint : List Left → Type 0
  NoPoint ls = HasPoint p depth start ls → ⊥

  abbrev heads_after : ℕ → Frame → Got Done → List Item
  heads_after n f g = elim g [ Is d rest ↦ heads_by code n (gives_way f d rest) | Wants w ↦ [] | No_result ↦ [] ]

  abbrev passed_after : ℕ → Frame → Got Done → List Left
  passed_after n f g = elim g [ Is d rest ↦ passed_by code n (gives_way f d rest) | Wants w ↦ [] | No_result ↦ [] ]

  abbrev step_on : ℕ → Frame → Got Done → Frame
  step_on n f g = elim g [ Is d rest ↦ settle code n (gives_way f d rest) | Wants w ↦ f | No_result ↦ f ]

  -- the first item that a frame comes to is on a path too, and behind it where it is done
  abbrev CameBy : ℕ → ℕ → Frame → Got Done → Type 0
  CameBy k n f g =
      (i : Item) × (is : List Item) × (first_head f.left ++ heads_after n f g ≡ i ∷ is) × InPath k i
      × ((d : Done) (rest : List Value) → g ≡ Is d rest → first_head f.left ≡ i ∷ [] → IsPassed k i)

  -- a frame passes what stands first
  pub passes_first : (n : ℕ) (f : Frame) (x : Left) (ls : List Left) → f.left ≡ x ∷ ls → Contains (passed_by code n f) x
  passes_first zero f x ls at = subst (λ l. Contains (first_left l) x) (sym at) (at_head x [])
  passes_first (suc n) f x ls at = Contains-append_left (first_left f.left) (passed_after n f (begun code f)) x (subst (λ l. Contains (first_left l) x) (sym at) (at_head x []))

  later_points : (n : ℕ) (f : Frame) (g : Got Done) (d : Done) (rest : List Value) → g ≡ Is d rest → NoPoint (first_left f.left ++ passed_after n f g) → NoPoint (passed_by code n (gives_way f d rest))
  later_points n f g d rest is none (x, c, point) =
      none (x, Contains-append_right (first_left f.left) (passed_after n f g) x (subst (λ h. Contains (passed_after n f h) x) (sym is) c), point)

  done_by : (k n : ℕ) (f : Frame) (i h : Item) (ls : List Left) → InPath k h → links.Next p i h → f.left ≡ After i.id ∷ ls → NoPoint (passed_by code n f) → (b : Bool) → destroys i.act ≡ b → IsPassed k i
  done_by k n f i h ls path next at none true destroyed = absurd (none (After i.id, passes_first n f (After i.id) ls at, (i, refl, ((h, k), path, next, destroyed))))
  done_by k n f i h ls path next at none false harmless = (((h, k), path, inl (next, harmless, refl)), harmless)

  on_path : (k : ℕ) (i : Item) → Behind k i → InPath k i
  on_path k i (a, path, go) = goes {a = a} {b = (i, k)} path go

  came_on : (k n : ℕ) (f : Frame) (d : Done) (rest : List Value) (hs : List Item) → first_head f.left ≡ hs → begun code f ≡ Is d rest
      → AreLinked p (hs ++ heads_by code n (gives_way f d rest)) → NoPoint (passed_by code n (gives_way f d rest))
      → ((i : Item) × (is : List Item) × (heads_by code n (gives_way f d rest) ≡ i ∷ is) × InPath k i)
      → (i : Item) × (is : List Item) × (hs ++ heads_by code n (gives_way f d rest) ≡ i ∷ is) × InPath k i × (hs ≡ i ∷ [] → IsPassed k i)
  came_on k n f d rest [] at is links none (i, js, e, c) = (i, js, e, c, λ no. absurd cc)
  came_on k n f d rest (i ∷ []) at is links none (h, js, e, c) =
      let behind = (well_formed_follows p wf no_plan).behind_an_item f d rest i is at in
      let one : IsPassed k i = done_by k n (gives_way f d rest) i h behind.0 c (linked_first p i h (heads_by code n (gives_way f d rest)) js e links.0) behind.1 none (destroys i.act) refl in
      (i, heads_by code n (gives_way f d rest), refl, on_path k i one.0, λ same. subst (IsPassed k) (head_of i i [] [] same) one)
  came_on k n f d rest (i ∷ m ∷ is) at done links none more = absurd (one_head f.left i m is at)

  came_by : (k n : ℕ) (f : Frame) (g : Got Done) (j : Item) → begun code f ≡ g → UsesAll code f → AreLinked p (first_head f.left ++ heads_after n f g)
      → NoPoint (first_left f.left ++ passed_after n f g) → StandsIn (step_on n f g) j → InPath k j
      → ((h : Frame) → h.answers ≡ [] → AreLinked p (heads_by code n h) → NoPoint (passed_by code n h) → StandsIn (settle code n h) j → (i : Item) × (is : List Item) × (heads_by code n h ≡ i ∷ is) × InPath k i)
      → CameBy k n f g
  came_by k n f (Is d rest) j is uses links none stands path more =
      let empty : rest ≡ [] = uses d rest is in
      let on : NoPoint (passed_by code n (gives_way f d rest)) = later_points n f (Is d rest) d rest refl none in
      let r = came_on k n f d rest (first_head f.left) refl is links on (more (gives_way f d rest) empty (links_tail p (first_head f.left) (heads_by code n (gives_way f d rest)) links) on stands) in
      (r.0, r.1, r.2, r.3, λ d' rest' e. r.4)
  came_by k n f (Wants w) j is uses links none stands path more = (j, [], append-nil (first_head f.left) ∙ stands, path, λ d rest e. absurd cc)
  came_by k n f No_result j is uses links none stands path more = (j, [], append-nil (first_head f.left) ∙ stands, path, λ d rest e. absurd cc)

  pub came : (k : ℕ) (j : Item) → InPath k j → (n : ℕ) (f : Frame) → f.answers ≡ [] → AreLinked p (heads_by code n f) → NoPoint (passed_by code n f) → StandsIn (settle code n f) j
      → (i : Item) × (is : List Item) × (heads_by code n f ≡ i ∷ is) × InPath k i
  came k j path zero f empty links none stands = (j, [], stands, path)
  came k j path (suc n) f empty links none stands =
      let r = came_by k n f (begun code f) j refl (λ d rest is. none_over code f.left f.locals d rest (ap (first_run code f.left f.locals) (sym empty) ∙ is)) links none stands path (came k j path n) in
      (r.0, r.1, r.2, r.3)

  -- a frame on the way to the site: at an item behind the first pair of a path, or in the site's own item, where answers lead on to the site
  pub data Ahead (k : ℕ) (f : Frame) : Type 0 where
    Behind_it : (i : Item) → StandsIn f i → Behind k i → Ahead k f
    In_it : StandsIn f start → k ≡ 0 → (more : List Value) (v : Want) → begun code (record f { answers = f.answers ++ more }) ≡ Wants v → site_of v ≡ Some site → Ahead k f

  -- and before some answer that takes it nearer
  pub data Nearer (k : ℕ) (f : Frame) : Type 0 where
    Behind_still : (i : Item) → StandsIn f i → Behind k i → Nearer k f
    In_it_still : StandsIn f start → k ≡ 0 → (x : Value) (more : List Value) (v : Want) → begun code (record f { answers = f.answers ++ x ∷ more }) ≡ Wants v → site_of v ≡ Some site → Nearer k f

  pub ahead : (k : ℕ) (f : Frame) → Nearer k f → Ahead k f
  ahead k f (Behind_still i at b) = Behind_it i at b
  ahead k f (In_it_still at z x more v is s) = In_it at z (x ∷ more) v is s

  pub place : (k : ℕ) (f : Frame) → Ahead k f → (j : Item) × StandsIn f j × InPath k j
  place k f (Behind_it i at b) = (i, at, on_path k i b)
  place k f (In_it at z more v is s) = (start, at, subst (λ m. InPath m start) (sym z) begins)

  harmless : (k : ℕ) (i : Item) (l ys : List Value) (w : Want) → IsPassed k i → item_run code i l ys ≡ Wants w → ends_item w ≡ false
  harmless k i l ys w h is = subst (OnWants (λ w. ends_item w ≡ false)) is (act_harmless i.act h.1 i.id l (code.first_site i.id) ys)

  unfinished : (i : Item) (l ys : List Value) (w : Want) (x : Value) → item_run code i l ys ≡ Wants w → ((d : Done) (rest : List Value) → item_run code i l (ys ++ x ∷ []) ≡ Is d rest → ⊥) → ends_item w ≡ false
  unfinished i l ys w x is never = elim (cases_Bool (ends_item w)) [
    | inl ends ↦ absurd (not_done (act_last i.act i.id l (code.first_site i.id) ys w is ends x) never)
    | inr more ↦ more
  ]

  abbrev Came : ℕ → Frame → Done → List Value → Type 0
  Came k f d rest =
      (i : Item) × (is : List Item) × (tail : List Item) × (first_head f.left ++ tail ≡ i ∷ is) × InPath k i
      × ((e : Done) (more : List Value) → Is d rest ≡ Is e more → first_head f.left ≡ i ∷ [] → IsPassed k i)

  -- with the answer the item is done
  goes_done : (k : ℕ) (f : Frame) (w : Want) (x : Value) (d : Done) (rest : List Value) → Asked p f.left f.locals f.answers w → Came k (with_answer f x) d rest → Nearer k f × (ends_item w ≡ false)
  goes_done k f w x d rest (By_item i ys head run more) (h, hs, next, e, c, passed) =
      let same : i ≡ h = head_of i h next hs (ap (λ l. l ++ next) (sym head) ∙ e) in
      let one : IsPassed k i = subst (IsPassed k) (sym same) (passed d rest refl (head ∙ ap (λ m. m ∷ []) same)) in
      (Behind_still i head one.0, harmless k i f.locals ys w one run)
  goes_done k f w x d rest (By_turn i head turn) (h, hs, next, e, c, passed) =
      let same : i ≡ h = head_of i h next hs (ap (λ l. l ++ next) (sym head) ∙ e) in
      let one : IsPassed k i = subst (IsPassed k) (sym same) (passed d rest refl (head ∙ ap (λ m. m ∷ []) same)) in
      (Behind_still i head one.0, ap ends_item turn)

  -- with the answer the same item goes on
  still : (k : ℕ) (f : Frame) (x : Value) → Ahead k (with_answer f x) → Nearer k f
  still k f x (Behind_it i at b) = Behind_still i at b
  still k f x (In_it at z more v is s) = In_it_still at z x more v (ap (λ xs. begun code (record f { answers = xs })) (sym (append_assoc f.answers (x ∷ []) more)) ∙ is) s

  goes_standing : (k : ℕ) (f : Frame) (w : Want) (x : Value) → Asked p f.left f.locals f.answers w → Stands (begun code (with_answer f x)) → Ahead k (with_answer f x) → Nearer k f × (ends_item w ≡ false)
  goes_standing k f w x (By_item i ys head run more) st h = (still k f x h, unfinished i f.locals ys w x run (λ d rest e. subst Stands (more (x ∷ []) ∙ e) st))
  goes_standing k f w x (By_turn i head turn) st h = (still k f x h, ap ends_item turn)

  answer_by : (k : ℕ) (f : Frame) (w : Want) (x : Value) (g : Got Done) → begun code (with_answer f x) ≡ g → Asked p f.left f.locals f.answers w → Ahead k (answered code f x)
      → ((d : Done) (rest : List Value) → g ≡ Is d rest → Came k (with_answer f x) d rest) → Nearer k f × (ends_item w ≡ false)
  answer_by k f w x (Is d rest) at asks h r = goes_done k f w x d rest asks (r d rest refl)
  answer_by k f w x g at asks h r =
      let st : Stands (begun code (with_answer f x)) = subst Stands (sym at) tt in
      goes_standing k f w x asks st (subst (Ahead k) (stays code (first_weight f.left) (with_answer f x) st) h)

  -- a frame that comes by an answer nearer to the site, over no point, was on the way before; and its want doesn't destroy
  pub answer_goes : (k : ℕ) (f : Frame) (w : Want) (x : Value) → InProgress code f → begun code f ≡ Wants w → (IsReturn w → ⊥) → (w ≡ Ended → ⊥)
      → NoPoint (passed_by code (first_weight f.left) (with_answer f x)) → Ahead k (answered code f x) → Nearer k f × (ends_item w ≡ false)
  answer_goes k f w x progress is other no_end none h =
      let at = place k (answered code f x) h in
      answer_by k f w x (begun code (with_answer f x)) refl (asked p f.left f.locals f.answers w is no_end) h
      (from (first_weight f.left) at.0 at.2 ((well_formed_follows p wf no_plan).after_an_answer f w x (first_weight f.left) progress is other) none (answered_stands code f w x is) at.1)
    where
      from : (n : ℕ) (j : Item) → InPath k j → AreLinked p (heads_by code n (with_answer f x)) → NoPoint (passed_by code n (with_answer f x)) → Stands (begun code (settle code n (with_answer f x)))
          → StandsIn (settle code n (with_answer f x)) j → (d : Done) (rest : List Value) → begun code (with_answer f x) ≡ Is d rest → Came k (with_answer f x) d rest
      from zero j path links none st at d rest is' = absurd (subst Stands is' st)
      from (suc n) j path links none st at d rest is' =
          let r = came_by k n (with_answer f x) (begun code (with_answer f x)) j refl (answer_used code f w x is) links none at path (came k j path n) in
          (r.0, r.1, heads_after n (with_answer f x) (begun code (with_answer f x)), r.2, r.3, λ e more same. r.4 e more (is' ∙ same))

  -- all items that it comes to
  abbrev pub AllInPath : ℕ → List Item → Type 0
  AllInPath k is = (i : Item) → Contains is i → InPath k i

  first_in : (ls : List Left) (hs tail is : List Item) (i j : Item) → first_head ls ≡ hs → hs ++ tail ≡ j ∷ is → Contains hs i → j ≡ i
  first_in ls [] tail is i j at e c = absurd (in_none i c)
  first_in ls (x ∷ []) tail is i j at e c = head_of j x is tail (sym e) ∙ in_one x i c
  first_in ls (x ∷ y ∷ hs) tail is i j at e c = absurd (one_head ls x y hs at)

  all_one : (k : ℕ) (hs : List Item) (j : Item) → hs ≡ j ∷ [] → InPath k j → AllInPath k hs
  all_one k hs j at path i c = subst (InPath k) (in_one j i (subst (λ l. Contains l i) at c)) path

  all_step : (k n : ℕ) (f : Frame) (g : Got Done) (j : Item) → begun code f ≡ g → UsesAll code f → AreLinked p (first_head f.left ++ heads_after n f g)
      → NoPoint (first_left f.left ++ passed_after n f g) → StandsIn (step_on n f g) j → InPath k j
      → ((h : Frame) → h.answers ≡ [] → AreLinked p (heads_by code n h) → NoPoint (passed_by code n h) → StandsIn (settle code n h) j → AllInPath k (heads_by code n h))
      → AllInPath k (first_head f.left ++ heads_after n f g)
  all_step k n f (Is d rest) j is uses links none stands path more =
      let tail : List Item = heads_by code n (gives_way f d rest) in
      λ i c. elim (Contains-append_cases (first_head f.left) tail i c) [
        | inl here ↦
            let r = came_by k n f (Is d rest) j is uses links none stands path (came k j path n) in
            subst (InPath k) (first_in f.left (first_head f.left) tail r.1 i r.0 refl r.2 here) r.3
        | inr later ↦ more (gives_way f d rest) (uses d rest is) (links_tail p (first_head f.left) tail links) (later_points n f (Is d rest) d rest refl none) stands i later
      ]
  all_step k n f (Wants w) j is uses links none stands path more = all_one k (first_head f.left ++ []) j (append-nil (first_head f.left) ∙ stands) path
  all_step k n f No_result j is uses links none stands path more = all_one k (first_head f.left ++ []) j (append-nil (first_head f.left) ∙ stands) path

  pub all_came : (k : ℕ) (j : Item) → InPath k j → (n : ℕ) (f : Frame) → f.answers ≡ [] → AreLinked p (heads_by code n f) → NoPoint (passed_by code n f) → StandsIn (settle code n f) j → AllInPath k (heads_by code n f)
  all_came k j path zero f empty links none stands = all_one k (first_head f.left) j stands path
  all_came k j path (suc n) f empty links none stands =
      all_step k n f (begun code f) j refl (λ d rest is. none_over code f.left f.locals d rest (ap (first_run code f.left f.locals) (sym empty) ∙ is)) links none stands path (all_came k j path n)

  pub all_answered : (k : ℕ) (f : Frame) (w : Want) (x : Value) → InProgress code f → begun code f ≡ Wants w → (IsReturn w → ⊥) → NoPoint (passed_by code (first_weight f.left) (with_answer f x)) → Ahead k (answered code f x)
      → AllInPath k (heads_by code (first_weight f.left) (with_answer f x))
  all_answered k f w x progress is other none h =
      let at = place k (answered code f x) h in
      from (first_weight f.left) at.0 at.2 ((well_formed_follows p wf no_plan).after_an_answer f w x (first_weight f.left) progress is other) none at.1
    where
      from : (n : ℕ) (j : Item) → InPath k j → AreLinked p (heads_by code n (with_answer f x)) → NoPoint (passed_by code n (with_answer f x)) → StandsIn (settle code n (with_answer f x)) j → AllInPath k (heads_by code n (with_answer f x))
      from zero j path links none at = all_one k (first_head f.left) j at path
      from (suc n) j path links none at = all_step k n (with_answer f x) (begun code (with_answer f x)) j refl (answer_used code f w x is) links none at path (all_came k j path n)

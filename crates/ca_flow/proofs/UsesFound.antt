-- What the uses in a source say of its items.
use Rattle.std.proofs.Common.{arith, ◌≡◌, ℕ, zero, suc, ◌+◌, ◌-◌, ◌<◌, Bool, true, false, List, [], ◌∷◌, ◌++◌, map, length, replicate, Some, refl, sym, ap, ◌∙◌, subst, inl, inr, append_assoc}
use Rattle.std.specs.Prelude.{◌==◌, ◌||◌, ◌↔◌, Contains, get_or, slice_get, slice_set, if◌then◌else◌, AllPairs}
use Rattle.std.specs.List.Sorted.{IsStrictlyIncreasing}
use Rattle.std.proofs.lemmas.Bool.{eq-eqb, eqb-true, eqb-false, cases_lt, or_cases, or_left, or_right}
use Rattle.std.proofs.lemmas.List.{append-nil, get_or-replicate, length-replicate, get_or_append_left, get_or-append_right, length-append}
use Rattle.std.proofs.lemmas.List.Elements.{All-weaker, All-contains_itself}
use Rattle.std.proofs.lemmas.List.Kept.{AllPairs-cons}
use Rattle.ca_tree.specs.declared.numbers.FunId.{FunId}
use Rattle.ca_tree.specs.declared.numbers.ItemId.{ItemId}
use Rattle.ca_model.specs.declared.tree.Act.{Act}
use Rattle.ca_model.specs.declared.tree.Act.TheVariants as act
use Rattle.ca_model.specs.declared.tree.Item.{Item}
use Rattle.ca_model.specs.declared.tree.Function.{Function}
use Rattle.ca_model.specs.Sites.{items_of, all_items}
use Rattle.ca_model.specs.Paths.{Calls, Creates}
use Rattle.ca_model.proofs.Members.{in_none, in_cons, at_head, at_tail}
use Rattle.ca_model.proofs.Law.{length_set}
use Rattle.ca_flow.specs.Tables.{row, longer, Uses, uses, with_calls, with_created, with_item, with_items, with_functions, uses_of}
use Rattle.ca_flow.proofs.FunctionItems.{Numbered, found_in}
use Rattle.ca_flow.proofs.SiteItems.{get_first, get_second}
use Rattle.ca_flow.proofs.RowTables.{longer_same}

-- ---- functions

abbrev owners : List Function → List FunId
owners [] = []
owners (f ∷ fs) = map (λ (i : Item). f.id) (items_of f) ++ owners fs

items_owned : (f : FunId) (u : Uses) (is : List Item) → (with_items f u is).functions ≡ u.functions ++ map (λ (i : Item). f) is
items_owned f u [] = sym (append-nil u.functions)
items_owned f u (i ∷ is) = items_owned f (with_item f u i) is ∙ append_assoc u.functions (f ∷ []) (map (λ (j : Item). f) is)

functions_owned : (u : Uses) (fs : List Function) → (with_functions u fs).functions ≡ u.functions ++ owners fs
functions_owned u [] = sym (append-nil u.functions)
functions_owned u (f ∷ fs) =
    functions_owned (with_items f.id u (items_of f)) fs ∙ (ap (λ xs. xs ++ owners fs) (items_owned f.id u (items_of f)) ∙ append_assoc u.functions (map (λ (i : Item). f.id) (items_of f)) (owners fs))

map_length : {A B : Type 0} (h : A → B) (xs : List A) → length (map h xs) ≡ length xs
map_length h [] = refl
map_length h (x ∷ xs) = ap suc (map_length h xs)

-- the function of the item at a place
record Owner (fs : List Function) (k : ℕ) (i : Item) (o : FunId) : Type 0 where
  function : Function
  own : Contains fs function
  has : Contains (items_of function) i
  is : o ≡ function.id

const_at : {A B : Type 0} (b d : B) (xs : List A) (k : ℕ) → k < length xs → get_or (map (λ (x : A). b) xs) k d ≡ b
const_at b d [] k lt = absurd (omega (arith, lt))
const_at b d (x ∷ xs) zero lt = refl
const_at b d (x ∷ xs) (suc k) lt = const_at b d xs k (omega (arith, lt))

owner_at : (fs : List Function) (k : ℕ) (i : Item) (d : FunId) → slice_get (all_items fs) k ≡ Some i → Owner fs k i (get_or (owners fs) k d)
owner_at [] k i d at = absurd (cc)
owner_at (f ∷ fs) k i d at =
    let mine : List FunId = map (λ (i : Item). f.id) (items_of f) in
    let count : length mine ≡ length (items_of f) = map_length (λ (i : Item). f.id) (items_of f) in
    elim (cases_lt k (length (items_of f))) [
      | inl less ↦
          record {
            function = f;
            own = at_head f fs;
            has = found_in (items_of f) k i (get_first (items_of f) (all_items fs) k i less at);
            is = get_or_append_left mine (owners fs) d k (omega (arith, less, count)) ∙ const_at f.id d (items_of f) k less;
          }
      | inr more ↦
          let later = owner_at fs (k - length (items_of f)) i d (get_second (items_of f) (all_items fs) k i more at) in
          record { function = later.function; own = at_tail f fs later.function later.own; has = later.has; is = get_or-append_right mine (owners fs) (length (items_of f)) k d count more ∙ later.is }
    ]

owners_length : (fs : List Function) → length (owners fs) ≡ length (all_items fs)
owners_length [] = refl
owners_length (f ∷ fs) =
    let here : length (map (λ (i : Item). f.id) (items_of f)) ≡ length (items_of f) = map_length (λ (i : Item). f.id) (items_of f) in
    length-append (map (λ (i : Item). f.id) (items_of f)) (owners fs) ∙ (omega (arith, here, owners_length fs, length-append (items_of f) (all_items fs)))

functions_are : (fs : List Function) → (uses_of fs).functions ≡ owners fs
functions_are fs = functions_owned (uses [] [] [] (replicate (length fs) []) (replicate (length fs) false)) fs

pub functions_count : (fs : List Function) → length (uses_of fs).functions ≡ length (all_items fs)
functions_count fs = ap (λ xs. length xs) (functions_are fs) ∙ owners_length fs

pub owned : (fs : List Function) (k : ℕ) (i : Item) (d : FunId) → slice_get (all_items fs) k ≡ Some i → (f : Function) × Contains fs f × Contains (items_of f) i × (get_or (uses_of fs).functions k d ≡ f.id)
owned fs k i d at = let h = owner_at fs k i d at in (h.function, h.own, h.has, ap (λ xs. get_or xs k d) (functions_are fs) ∙ h.is)

-- ---- calls

abbrev is_call : ℕ → Act → Bool
is_call f (act.Call x g es) = g.0 == f
is_call f _ = false

abbrev calls_to : ℕ → List Item → List ItemId
calls_to f [] = []
calls_to f (i ∷ is) = if is_call f i.act then i.id ∷ calls_to f is else calls_to f is

set_other : {A : Type 0} (rows : List (List A)) (n k : ℕ) (r : List A) → (n ≡ k → ⊥) → row (slice_set rows n r) k ≡ row rows k
set_other [] n k r other = refl
set_other (q ∷ rows) zero zero r other = absurd (other refl)
set_other (q ∷ rows) zero (suc k) r other = refl
set_other (q ∷ rows) (suc n) zero r other = refl
set_other (q ∷ rows) (suc n) (suc k) r other = set_other rows n k r (λ same. other (ap suc same))

longer_at : (b : Bool) (rows : List (List ItemId)) (n k : ℕ) (i : ItemId) → (n == k) ≡ b → k < length rows → row (longer rows n i) k ≡ row rows k ++ (if b then i ∷ [] else [])
longer_at true rows n k i is lt =
    let same : n ≡ k = eqb-true n k is in
    subst (λ m. row (longer rows m i) k ≡ row rows k ++ i ∷ []) (sym same) (longer_same rows k i lt)
longer_at false rows n k i is lt = set_other rows n k (row rows n ++ i ∷ []) (eqb-false n k is) ∙ sym (append-nil (row rows k))

row_of_call : (a : Act) (i : ItemId) (calls : List (List ItemId)) (f : ℕ) → f < length calls → row (with_calls a i calls) f ≡ row calls f ++ (if is_call f a then i ∷ [] else [])
row_of_call (act.Call x g es) i calls f lt = longer_at (g.0 == f) calls g.0 f i refl lt
row_of_call _ i calls f lt = sym (append-nil (row calls f))

calls_length : (a : Act) (i : ItemId) (calls : List (List ItemId)) → length (with_calls a i calls) ≡ length calls
calls_length (act.Call x g es) i calls = length_set calls g.0 (row calls g.0 ++ i ∷ [])
calls_length _ i calls = refl

one_call : (b : Bool) (r : List ItemId) (i : ItemId) (more : List ItemId) → (r ++ (if b then i ∷ [] else [])) ++ more ≡ r ++ (if b then i ∷ more else more)
one_call true r i more = append_assoc r (i ∷ []) more
one_call false r i more = ap (λ xs. xs ++ more) (append-nil r)

items_called : (g : FunId) (f : ℕ) (u : Uses) (is : List Item) → f < length u.calls → (length (with_items g u is).calls ≡ length u.calls) × (row (with_items g u is).calls f ≡ row u.calls f ++ calls_to f is)
items_called g f u [] lt = (refl, sym (append-nil (row u.calls f)))
items_called g f u (i ∷ is) lt =
    let count : length (with_calls i.act i.id u.calls) ≡ length u.calls = calls_length i.act i.id u.calls in
    let more = items_called g f (with_item g u i) is (omega (arith, lt, count)) in
    (more.0 ∙ count, more.1 ∙ (ap (λ r. r ++ calls_to f is) (row_of_call i.act i.id u.calls f lt) ∙ one_call (is_call f i.act) (row u.calls f) i.id (calls_to f is)))

calls_join : (f : ℕ) (is js : List Item) → calls_to f (is ++ js) ≡ calls_to f is ++ calls_to f js
calls_join f [] js = refl
calls_join f (i ∷ is) js = elim (is_call f i.act) as (λ b. (if b then i.id ∷ calls_to f (is ++ js) else calls_to f (is ++ js)) ≡ (if b then i.id ∷ calls_to f is else calls_to f is) ++ calls_to f js) [
  | true ↦ ap (λ xs. i.id ∷ xs) (calls_join f is js)
  | false ↦ calls_join f is js
]

functions_called : (f : ℕ) (u : Uses) (fs : List Function) → f < length u.calls → (length (with_functions u fs).calls ≡ length u.calls) × (row (with_functions u fs).calls f ≡ row u.calls f ++ calls_to f (all_items fs))
functions_called f u [] lt = (refl, sym (append-nil (row u.calls f)))
functions_called f u (g ∷ fs) lt =
    let here = items_called g.id f u (items_of g) lt in
    let more = functions_called f (with_items g.id u (items_of g)) fs (omega (arith, lt, here.0)) in
    (more.0 ∙ here.0, more.1 ∙ (ap (λ r. r ++ calls_to f (all_items fs)) here.1 ∙ (append_assoc (row u.calls f) (calls_to f (items_of g)) (calls_to f (all_items fs)) ∙ ap (λ r. row u.calls f ++ r) (sym (calls_join f (items_of g) (all_items fs))))))

calls_are : (fs : List Function) (f : ℕ) → f < length fs → (length (uses_of fs).calls ≡ length fs) × (row (uses_of fs).calls f ≡ calls_to f (all_items fs))
calls_are fs f lt =
    let count : length (replicate (length fs) []) ≡ length fs = length-replicate {A = List ItemId} (length fs) [] in
    let h = functions_called f (uses [] [] [] (replicate (length fs) []) (replicate (length fs) false)) fs (omega (arith, lt, count)) in
    (h.0 ∙ count, h.1 ∙ ap (λ (r : List ItemId). r ++ calls_to f (all_items fs)) (get_or-replicate {A = List ItemId} (length fs) f [] [] lt))

pub calls_count : (fs : List Function) (f : ℕ) → f < length fs → length (uses_of fs).calls ≡ length fs
calls_count fs f lt = (calls_are fs f lt).0

same_number : (g f : FunId) → g.0 ≡ f.0 → g ≡ f
same_number g f same = ap (λ (n : ℕ). let h : FunId = record { 0 = n } in h) same

calls_it : (a : Act) (f : FunId) → is_call f.0 a ≡ true → Calls a f
calls_it (act.Call x g es) f is = same_number g f (eqb-true g.0 f.0 is)
calls_it _ f is = absurd (cc)

called_by : (a : Act) (f : FunId) → Calls a f → is_call f.0 a ≡ true
called_by (act.Call x g es) f is = eq-eqb g.0 f.0 (ap (λ (h : FunId). h.0) is)
called_by _ f is = absurd is

abbrev IsCaller : List Item → FunId → ItemId → Type 0
IsCaller is f n = (x : Item) × Contains is x × (x.id ≡ n) × Calls x.act f

later_caller : (i : Item) (is : List Item) (f : FunId) (n : ItemId) → IsCaller is f n → IsCaller (i ∷ is) f n
later_caller i is f n h = (h.0, at_tail i is h.0 h.1, h.2, h.3)

first_listed : (b : Bool) (i : Item) (is : List Item) (f : FunId) (n : ItemId) → is_call f.0 i.act ≡ b → (Contains (calls_to f.0 is) n → IsCaller is f n) → Contains (if b then i.id ∷ calls_to f.0 is else calls_to f.0 is) n → IsCaller (i ∷ is) f n
first_listed true i is f n called more c = elim (in_cons i.id (calls_to f.0 is) n c) [
  | inl same ↦ (i, at_head i is, same, calls_it i.act f called)
  | inr later ↦ later_caller i is f n (more later)
]
first_listed false i is f n called more c = later_caller i is f n (more c)

behind : (b : Bool) (i : Item) (is : List Item) (f : FunId) (n : ItemId) → Contains (calls_to f.0 is) n → Contains (if b then i.id ∷ calls_to f.0 is else calls_to f.0 is) n
behind true i is f n c = at_tail i.id (calls_to f.0 is) n c
behind false i is f n c = c

tail_numbered : (n : ℕ) (i : Item) (is : List Item) → Numbered n (i ∷ is) → Numbered (n + 1) is
tail_numbered n i is numbered k j at = let h : j.id.0 ≡ n + suc k + 1 = numbered (suc k) j at in omega (arith, h)

first_above : (b : Bool) (n : ℕ) (i : Item) (is : List Item) (f k : ℕ) → n < i.id.0 → (Contains (map (λ (i : ItemId). i.0) (calls_to f is)) k → n < k) → Contains (map (λ (i : ItemId). i.0) (if b then i.id ∷ calls_to f is else calls_to f is)) k → n < k
first_above true n i is f k first more c = elim (in_cons i.id.0 (map (λ (i : ItemId). i.0) (calls_to f is)) k c) [ inl same ↦ subst (λ m. n < m) same first | inr later ↦ more later ]
first_above false n i is f k first more c = more c

abbrev Below : ℕ → ℕ → Type 0
Below a b = a < b

first_ascends : (b : Bool) (i : Item) (is : List Item) (f : ℕ) → ((k : ℕ) → Contains (map (λ (i : ItemId). i.0) (calls_to f is)) k → i.id.0 < k) → AllPairs Below (map (λ (i : ItemId). i.0) (calls_to f is))
    → AllPairs Below (map (λ (i : ItemId). i.0) (if b then i.id ∷ calls_to f is else calls_to f is))
first_ascends true i is f over more =
    let xs : List ℕ = map (λ (i : ItemId). i.0) (calls_to f is) in AllPairs-cons Below i.id.0 xs (All-weaker (Contains xs) (Below i.id.0) over xs (All-contains_itself xs)) more
first_ascends false i is f over more = more

listed_calls : (is : List Item) (f : FunId) (n : ItemId) → Contains (calls_to f.0 is) n → IsCaller is f n
listed_calls [] f n c = absurd (in_none n c)
listed_calls (i ∷ is) f n c = first_listed (is_call f.0 i.act) i is f n refl (listed_calls is f n) c

kept_calls : (is : List Item) (f : FunId) (n : ItemId) (x : Item) → Contains is x → x.id ≡ n → Calls x.act f → Contains (calls_to f.0 is) n
kept_calls [] f n x c number calls = absurd (in_none x c)
kept_calls (i ∷ is) f n x c number calls = elim (in_cons i is x c) [
  | inl same ↦
      let called : is_call f.0 i.act ≡ true = called_by i.act f (subst (λ (y : Item). Calls y.act f) (sym same) calls) in
      subst (λ b. Contains (if b then i.id ∷ calls_to f.0 is else calls_to f.0 is) n) (sym called) (subst (Contains (i.id ∷ calls_to f.0 is)) (ap (λ (y : Item). y.id) same ∙ number) (at_head i.id (calls_to f.0 is)))
  | inr more ↦ behind (is_call f.0 i.act) i is f n (kept_calls is f n x more number calls)
]

-- they ascend
above : (n : ℕ) (is : List Item) (f : ℕ) (k : ℕ) → Numbered n is → Contains (map (λ (i : ItemId). i.0) (calls_to f is)) k → n < k
above n [] f k numbered c = absurd (in_none k c)
above n (i ∷ is) f k numbered c =
    let first : i.id.0 ≡ n + 0 + 1 = numbered 0 i refl in
    let more : Contains (map (λ (i : ItemId). i.0) (calls_to f is)) k → n < k = λ c. let h : n + 1 < k = above (n + 1) is f k (tail_numbered n i is numbered) c in omega (arith, h) in
    first_above (is_call f i.act) n i is f k (omega (arith, first)) more c

ascend : (n : ℕ) (is : List Item) (f : ℕ) → Numbered n is → AllPairs Below (map (λ (i : ItemId). i.0) (calls_to f is))
ascend n [] f numbered = λ i j d lt within. absurd (let never : ⊥ = omega (arith, within) in never)
ascend n (i ∷ is) f numbered =
    let first : i.id.0 ≡ n + 0 + 1 = numbered 0 i refl in
    let tail = tail_numbered n i is numbered in
    first_ascends (is_call f i.act) i is f (λ k c. let h : n + 1 < k = above (n + 1) is f k tail c in omega (arith, first, h)) (ascend (n + 1) is f tail)

pub calls_exact : (fs : List Function) (f : FunId) (r : List ItemId) → f.0 < length fs → r ≡ row (uses_of fs).calls f.0 → (n : ItemId) → Contains r n ↔ ((x : Item) × (Contains (all_items fs) x × (x.id ≡ n)) × Calls x.act f)
calls_exact fs f r lt is n =
    let list : r ≡ calls_to f.0 (all_items fs) = is ∙ (calls_are fs f.0 lt).1 in (
      (λ c. let h = listed_calls (all_items fs) f n (subst (λ xs. Contains xs n) list c) in (h.0, (h.1, h.2), h.3)),
      (λ h. subst (λ xs. Contains xs n) (sym list) (kept_calls (all_items fs) f n h.0 h.1.0 h.1.1 h.2)),
    )

pub calls_ascend : (fs : List Function) (f : FunId) (r : List ItemId) → Numbered 0 (all_items fs) → f.0 < length fs → r ≡ row (uses_of fs).calls f.0 → IsStrictlyIncreasing (map (λ (i : ItemId). i.0) r)
calls_ascend fs f r numbered lt is =
    let list : r ≡ calls_to f.0 (all_items fs) = is ∙ (calls_are fs f.0 lt).1 in
    subst (λ xs. IsStrictlyIncreasing (map (λ (i : ItemId). i.0) xs)) (sym list) (λ k lt. ascend 0 (all_items fs) f.0 numbered k (k + 1) 0 (omega arith) lt)

-- ---- threads

abbrev is_create : ℕ → Act → Bool
is_create f (act.Create x g e) = g.0 == f
is_create f _ = false

abbrev is_created : ℕ → List Item → Bool
is_created f [] = false
is_created f (i ∷ is) = is_create f i.act || is_created f is

or_false : (b : Bool) → (b || false) ≡ b
or_false true = refl
or_false false = refl

or_true : (b : Bool) → (b || true) ≡ true
or_true true = refl
or_true false = refl

or_assoc : (a b c : Bool) → ((a || b) || c) ≡ (a || (b || c))
or_assoc true b c = refl
or_assoc false b c = refl

set_true : (bs : List Bool) (k : ℕ) → k < length bs → get_or (slice_set bs k true) k false ≡ true
set_true [] k lt = absurd (omega (arith, lt))
set_true (b ∷ bs) zero lt = refl
set_true (b ∷ bs) (suc k) lt = set_true bs k (omega (arith, lt))

set_elsewhere : (bs : List Bool) (n k : ℕ) → (n ≡ k → ⊥) → get_or (slice_set bs n true) k false ≡ get_or bs k false
set_elsewhere [] n k other = refl
set_elsewhere (b ∷ bs) zero zero other = absurd (other refl)
set_elsewhere (b ∷ bs) zero (suc k) other = refl
set_elsewhere (b ∷ bs) (suc n) zero other = refl
set_elsewhere (b ∷ bs) (suc n) (suc k) other = set_elsewhere bs n k (λ same. other (ap suc same))

set_at : (b : Bool) (bs : List Bool) (n k : ℕ) → (n == k) ≡ b → k < length bs → get_or (slice_set bs n true) k false ≡ (get_or bs k false || b)
set_at true bs n k is lt = let same : n ≡ k = eqb-true n k is in subst (λ m. get_or (slice_set bs m true) k false ≡ (get_or bs k false || true)) (sym same) (set_true bs k lt ∙ sym (or_true (get_or bs k false)))
set_at false bs n k is lt = set_elsewhere bs n k (eqb-false n k is) ∙ sym (or_false (get_or bs k false))

flag_of_create : (a : Act) (bs : List Bool) (f : ℕ) → f < length bs → get_or (with_created a bs) f false ≡ (get_or bs f false || is_create f a)
flag_of_create (act.Create x g e) bs f lt = set_at (g.0 == f) bs g.0 f refl lt
flag_of_create _ bs f lt = sym (or_false (get_or bs f false))

flags_length : (a : Act) (bs : List Bool) → length (with_created a bs) ≡ length bs
flags_length (act.Create x g e) bs = length_set bs g.0 true
flags_length _ bs = refl

items_created : (g : FunId) (f : ℕ) (u : Uses) (is : List Item) → f < length u.created → (length (with_items g u is).created ≡ length u.created) × (get_or (with_items g u is).created f false ≡ (get_or u.created f false || is_created f is))
items_created g f u [] lt = (refl, sym (or_false (get_or u.created f false)))
items_created g f u (i ∷ is) lt =
    let count : length (with_created i.act u.created) ≡ length u.created = flags_length i.act u.created in
    let more = items_created g f (with_item g u i) is (omega (arith, lt, count)) in
    (more.0 ∙ count, more.1 ∙ (ap (λ b. b || is_created f is) (flag_of_create i.act u.created f lt) ∙ or_assoc (get_or u.created f false) (is_create f i.act) (is_created f is)))

created_join : (f : ℕ) (is js : List Item) → is_created f (is ++ js) ≡ (is_created f is || is_created f js)
created_join f [] js = refl
created_join f (i ∷ is) js = ap (λ b. is_create f i.act || b) (created_join f is js) ∙ sym (or_assoc (is_create f i.act) (is_created f is) (is_created f js))

functions_created : (f : ℕ) (u : Uses) (fs : List Function) → f < length u.created → (length (with_functions u fs).created ≡ length u.created) × (get_or (with_functions u fs).created f false ≡ (get_or u.created f false || is_created f (all_items fs)))
functions_created f u [] lt = (refl, sym (or_false (get_or u.created f false)))
functions_created f u (g ∷ fs) lt =
    let here = items_created g.id f u (items_of g) lt in
    let more = functions_created f (with_items g.id u (items_of g)) fs (omega (arith, lt, here.0)) in
    (more.0 ∙ here.0, more.1 ∙ (ap (λ b. b || is_created f (all_items fs)) here.1 ∙ (or_assoc (get_or u.created f false) (is_created f (items_of g)) (is_created f (all_items fs)) ∙ ap (λ b. get_or u.created f false || b) (sym (created_join f (items_of g) (all_items fs))))))

created_are : (fs : List Function) (f : ℕ) → f < length fs → (length (uses_of fs).created ≡ length fs) × (get_or (uses_of fs).created f false ≡ is_created f (all_items fs))
created_are fs f lt =
    let count : length (replicate (length fs) false) ≡ length fs = length-replicate (length fs) false in
    let h = functions_created f (uses [] [] [] (replicate (length fs) []) (replicate (length fs) false)) fs (omega (arith, lt, count)) in
    (h.0 ∙ count, h.1 ∙ ap (λ b. b || is_created f (all_items fs)) (get_or-replicate (length fs) f false false lt))

pub created_count : (fs : List Function) (f : ℕ) → f < length fs → length (uses_of fs).created ≡ length fs
created_count fs f lt = (created_are fs f lt).0

makes_it : (a : Act) (f : FunId) → is_create f.0 a ≡ true → Creates a f
makes_it (act.Create x g e) f is = same_number g f (eqb-true g.0 f.0 is)
makes_it _ f is = absurd (cc)

made_by : (a : Act) (f : FunId) → Creates a f → is_create f.0 a ≡ true
made_by (act.Create x g e) f is = eq-eqb g.0 f.0 (ap (λ (h : FunId). h.0) is)
made_by _ f is = absurd is

abbrev IsCreator : List Item → FunId → Type 0
IsCreator is f = (x : Item) × Contains is x × Creates x.act f

creator_found : (is : List Item) (f : FunId) → is_created f.0 is ≡ true → IsCreator is f
creator_found [] f h = absurd (cc)
creator_found (i ∷ is) f h = elim (or_cases (is_create f.0 i.act) (is_created f.0 is) h) [
  | inl here ↦ (i, at_head i is, makes_it i.act f here)
  | inr more ↦ let x = creator_found is f more in (x.0, at_tail i is x.0 x.1, x.2)
]

created_by : (is : List Item) (f : FunId) (x : Item) → Contains is x → Creates x.act f → is_created f.0 is ≡ true
created_by [] f x c h = absurd (in_none x c)
created_by (i ∷ is) f x c h = elim (in_cons i is x c) [
  | inl same ↦ or_left (is_create f.0 i.act) (is_created f.0 is) (made_by i.act f (subst (λ (y : Item). Creates y.act f) (sym same) h))
  | inr more ↦ or_right (is_create f.0 i.act) (is_created f.0 is) (created_by is f x more h)
]

pub created_exact : (fs : List Function) (f : FunId) (b : Bool) → f.0 < length fs → b ≡ get_or (uses_of fs).created f.0 false → (b ≡ true) ↔ ((x : Item) × Contains (all_items fs) x × Creates x.act f)
created_exact fs f b lt is =
    let flag : b ≡ is_created f.0 (all_items fs) = is ∙ (created_are fs f.0 lt).1 in
    ((λ h. creator_found (all_items fs) f (sym flag ∙ h)), (λ x. flag ∙ created_by (all_items fs) f x.0 x.1 x.2))

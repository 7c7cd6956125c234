-- What is known behind some declarations in which nothing is wrong: each name is one of something that is there, and nothing is taken back.
use Rattle.std.proofs.Common.{◌≡◌, ◌≤◌, ◌<◌, ℕ, Bool, true, false, List, [], ◌∷◌, ◌++◌, length, Option, Some, None, arith, refl, sym, ◌∙◌, subst, inl, inr}
use Rattle.std.specs.Prelude.{ℤ, slice_get, Contains, ◌⊎◌, if◌then◌else◌}
use Rattle.std.specs.Option.{is_some}
use Rattle.std.specs.List.{AllByRecursion, list_any}
use Rattle.std.specs.Str.{bytes_eq}
use Rattle.std.proofs.lemmas.Slice.Eq.{bytes_eq-Decides}
use Rattle.ca_model.specs.declared.values.Value.TheVariants as value
use Rattle.ca_model.specs.declared.tree.GlobalStart.{GlobalStart}
use Rattle.ca_model.specs.declared.types.Meaning.{Meaning}
use Rattle.ca_model.specs.declared.types.Meaning.TheVariants as means
use Rattle.ca_model.specs.typing.Scopes.{FunctionOf, find}
use Rattle.ca_model.specs.typing.Signatures.{is_defined}
use Rattle.ca_model.specs.typing.Known.{Known, with_each}
use Rattle.ca_model.proofs.TypedFields.{EachTyped}

-- ---- what stands beside a name

either_test : {A : Type 0} (b : Bool) (o p q r : Option A) → (p ≡ r → q ≡ r) → (if b then o else p) ≡ r → (if b then o else q) ≡ r
either_test true o p q r k h = h
either_test false o p q r k h = k h

pub found_left : {A : Type 0} (x : List ℕ) (xs ys : List (List ℕ × A)) (w : A) → find x xs ≡ Some w → find x (xs ++ ys) ≡ Some w
found_left x [] ys w h = absurd cc
found_left x (y ∷ xs) ys w h = either_test (bytes_eq x y.0) (Some y.1) (find x xs) (find x (xs ++ ys)) (Some w) (found_left x xs ys w) h

new_by : {A : Type 0} (b : Bool) (x n : List ℕ) (m w : A) → (b ≡ true → x ≡ n) → (if b then Some m else None) ≡ Some w → (x ≡ n) × (Some m ≡ Some w)
new_by true x n m w k h = (k refl, h)
new_by false x n m w k h = absurd cc

old_by : {A : Type 0} (b : Bool) (o p q r : Option A) (N : Type 0) → (p ≡ r → (q ≡ r) ⊎ N) → (if b then o else p) ≡ r → ((if b then o else q) ≡ r) ⊎ N
old_by true o p q r N k h = inl h
old_by false o p q r N k h = k h

-- with one name more
pub new_or_old : {A : Type 0} (x n : List ℕ) (m w : A) (xs : List (List ℕ × A)) → find x (xs ++ (n, m) ∷ []) ≡ Some w → (find x xs ≡ Some w) ⊎ ((x ≡ n) × (Some m ≡ Some w))
new_or_old x n m w [] h = inr (new_by (bytes_eq x n) x n m w (bytes_eq-Decides x n).0 h)
new_or_old x n m w (y ∷ xs) h = old_by (bytes_eq x y.0) (Some y.1) (find x (xs ++ (n, m) ∷ [])) (find x xs) (Some w) _ (new_or_old x n m w xs) h

absent_by : {A : Type 0} (b : Bool) (o p q r : Option A) → ((if b then o else p) ≡ None) → is_some o ≡ true → (p ≡ None → q ≡ r) → (if b then o else q) ≡ r
absent_by true o p q r h there k = absurd cc
absent_by false o p q r h there k = k h

true_by : {A : Type 0} (b : Bool) (o p : Option A) → b ≡ true → (if b then o else p) ≡ o
true_by true o p h = refl
true_by false o p h = absurd cc

pub found_new : {A : Type 0} (n : List ℕ) (m : A) (xs : List (List ℕ × A)) → find n xs ≡ None → find n (xs ++ (n, m) ∷ []) ≡ Some m
found_new n m [] h = true_by (bytes_eq n n) (Some m) None ((bytes_eq-Decides n n).1 refl)
found_new n m (y ∷ xs) h = absent_by (bytes_eq n y.0) (Some y.1) (find n xs) (find n (xs ++ (n, m) ∷ [])) (Some m) h refl (found_new n m xs)

-- ---- nothing is taken back

pub record Grows (k l : Known) : Type 0 where
  pub names : (x : List ℕ) (w : Meaning) → find x k.context.scope.globals ≡ Some w → find x l.context.scope.globals ≡ Some w
  -- the first declaration of a function stays
  pub functions : (i : ℕ) (f : FunctionOf) → slice_get k.context.functions i ≡ Some f → (g : FunctionOf) × (slice_get l.context.functions i ≡ Some g) × (g.first ≡ f.first)
  pub defined : l.context.defined ≡ k.context.defined
  pub mutexes : k.mutexes ≤ l.mutexes
  pub starts : length k.starts ≤ length l.starts

-- ---- each name is one of something that is there

abbrev pub Declared : Known → List ℕ → Meaning → Type 0
Declared k x (means.Mutex m) = m.0 < k.mutexes
Declared k x (means.Global g u) = (g.0 < length k.starts) × (is_some u ≡ true)
Declared k x (means.Array g u) = (g.0 < length k.starts) × (is_some u ≡ true)
Declared k x (means.Function i) = (is_defined k.context x ≡ true) × ((f : FunctionOf) × (slice_get k.context.functions i ≡ Some f))
Declared k x (means.Local y u) = ⊥

-- a function without a definition so far has its first declaration among its prototypes
abbrev pub FirstThere : FunctionOf → Type 0
FirstThere f = (is_some f.definition ≡ true) ⊎ Contains f.prototypes f.first

abbrev pub OpensWithNumber : GlobalStart → Type 0
OpensWithNumber g = (n : ℤ) × (g.first ≡ value.Num n)

pub record Sound (defined : List (List ℕ)) (k : Known) : Type 0 where
  pub names : (x : List ℕ) (w : Meaning) → find x k.context.scope.globals ≡ Some w → Declared k x w
  pub functions : (i : ℕ) (f : FunctionOf) → slice_get k.context.functions i ≡ Some f → FirstThere f
  pub fields : EachTyped k.context.scope.structs
  pub starts : (g : GlobalStart) → Contains k.starts g → OpensWithNumber g
  pub all : k.context.defined ≡ defined

pub declared_on : (k l : Known) (x : List ℕ) (w : Meaning) → Grows k l → Declared k x w → Declared l x w
declared_on k l x (means.Mutex m) g h = let le = g.mutexes in omega arith
declared_on k l x (means.Global i u) g h = (let le = g.starts in let lt = h.0 in omega arith, h.1)
declared_on k l x (means.Array i u) g h = (let le = g.starts in let lt = h.0 in omega arith, h.1)
declared_on k l x (means.Function i) g h =
    let f = h.1 in
    let on = g.functions i f.0 f.1 in
    (subst (λ d. list_any (λ m. bytes_eq x m) d ≡ true) (sym g.defined) h.0, (on.0, on.1))
declared_on k l x (means.Local y u) g h = h

pub record Goes (defined : List (List ℕ)) (k l : Known) : Type 0 where
  pub grows : Grows k l
  pub sound : Sound defined k → Sound defined l

pub grows_self : (k : Known) → Grows k k
grows_self k = record { names = λ x w h. h; functions = λ i f h. (f, h, refl); defined = refl; mutexes = omega arith; starts = omega arith }

pub grows_on : (k l m : Known) → Grows k l → Grows l m → Grows k m
grows_on k l m g h = record {
  names = λ x w at. h.names x w (g.names x w at);
  functions = λ i f at. let a = g.functions i f at in let b = h.functions i a.0 a.1 in (b.0, b.1, b.2 ∙ a.2);
  defined = h.defined ∙ g.defined;
  mutexes = let a = g.mutexes in let b = h.mutexes in omega arith;
  starts = let a = g.starts in let b = h.starts in omega arith;
}

pub goes_self : (defined : List (List ℕ)) (k : Known) → Goes defined k k
goes_self defined k = record { grows = grows_self k; sound = λ s. s }

pub goes_on : (defined : List (List ℕ)) (k l m : Known) → Goes defined k l → Goes defined l m → Goes defined k m
goes_on defined k l m g h = record { grows = grows_on k l m g.grows h.grows; sound = λ s. h.sound (g.sound s) }

-- ---- one declaration after another

-- a declaration takes no fault back
abbrev pub KeepsFaults : {A : Type 0} → (Known → A → Known) → Type 0
KeepsFaults {A} f = (k : Known) (x : A) → (f k x).faults ≡ [] → k.faults ≡ []

pub each_keeps_faults : {A : Type 0} (f : Known → A → Known) → KeepsFaults f → (xs : List A) (k : Known) → (with_each f k xs).faults ≡ [] → k.faults ≡ []
each_keeps_faults f keeps [] k none = none
each_keeps_faults f keeps (x ∷ xs) k none = keeps k x (each_keeps_faults f keeps xs (f k x) none)

pub each_keeps : {A : Type 0} (f : Known → A → Known) → KeepsFaults f → (P : Known → Type 0) (Ok : A → Type 0) → ((k : Known) (x : A) → Ok x → P k → (f k x).faults ≡ [] → P (f k x))
    → (xs : List A) → AllByRecursion Ok xs → (k : Known) → P k → (with_each f k xs).faults ≡ [] → P (with_each f k xs)
each_keeps f keeps P Ok step [] ok k h none = h
each_keeps f keeps P Ok step (x ∷ xs) ok k h none = each_keeps f keeps P Ok step xs ok.1 (f k x) (step k x ok.0 h (each_keeps_faults f keeps xs (f k x) none)) none

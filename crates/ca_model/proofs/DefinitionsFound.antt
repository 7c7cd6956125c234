-- The typed function of a name: definitions are typed in their order, each with as many parameters as it has.
use Rattle.std.proofs.Common.{◌≡◌, ℕ, suc, ◌+◌, Bool, true, false, List, [], ◌∷◌, ◌++◌, map, length, Option, Some, None, arith, refl, sym, ◌∙◌, ap, append_assoc, append-nil}
use Rattle.std.specs.Prelude.{◌||◌, slice_get, if◌then◌else◌}
use Rattle.std.specs.Option.{is_some, option_map}
use Rattle.std.specs.List.{AllByRecursion, list_any}
use Rattle.std.specs.Str.{bytes_eq}
use Rattle.std.proofs.lemmas.Bool.{eq-eqb, or_left, or_right}
use Rattle.std.proofs.lemmas.List.{map-append}
use Rattle.std.proofs.lemmas.Option.{slice_get-map}
use Rattle.std.proofs.lemmas.Slice.Eq.{bytes_eq-Decides}
use Rattle.ca_tree.specs.declared.tree.Body.{Body}
use Rattle.ca_tree.specs.declared.tree.Function.{Function}
use Rattle.ca_tree.specs.declared.tree.Globals.{Globals as GlobalsOf}
use Rattle.ca_tree.specs.declared.tree.Globals.TheVariants as globals
use Rattle.ca_tree.specs.declared.tree.Top.{Top}
use Rattle.ca_tree.specs.declared.tree.Top.TheVariants as top
use Rattle.ca_model.specs.declared.tree.Function.{Function as TypedFunction}
use Rattle.ca_model.specs.Bounds.{takes}
use Rattle.ca_model.specs.typing.Scopes.{defined_as}
use Rattle.ca_model.specs.typing.Bodies.{Told}
use Rattle.ca_model.specs.typing.Known.{Known, with_each}
use Rattle.ca_model.specs.typing.Globals.{with_mutex, with_thread, with_variable, with_globals}
use Rattle.ca_model.specs.typing.Signatures.{with_signature}
use Rattle.ca_model.specs.typing.Functions.{functions_of, told_in, with_function}
use Rattle.ca_model.specs.typing.Programs.{with_top, definitions}
use Rattle.ca_model.proofs.DeclarationsKnown.{Belongs}

abbrev pub names : List Function → List (List ℕ)
names fs = map (λ (f : Function). f.name.text) fs

-- ---- each definition belongs to the program

body_listed : (b : Bool) (x : List ℕ) (f : Function) (fs : List Function) → list_any (λ m. bytes_eq x m) (names fs) ≡ true → list_any (λ m. bytes_eq x m) (names (if b then f ∷ fs else fs)) ≡ true
body_listed true x f fs h = or_right (bytes_eq x f.name.text) (list_any (λ m. bytes_eq x m) (names fs)) h
body_listed false x f fs h = h

-- what is named in a later part is named in the whole
abbrev pub Within : List Top → List (List ℕ) → Type 0
Within xs all = (x : List ℕ) → list_any (λ m. bytes_eq x m) (names (definitions xs)) ≡ true → list_any (λ m. bytes_eq x m) all ≡ true

first_listed : (f : Function) (fs : List Function) (b : Bool) → b ≡ true → list_any (λ m. bytes_eq f.name.text m) (names (if b then f ∷ fs else fs)) ≡ true
first_listed f fs true is = or_left (bytes_eq f.name.text f.name.text) (list_any (λ m. bytes_eq f.name.text m) (names fs)) ((bytes_eq-Decides f.name.text f.name.text).1 refl)
first_listed f fs false is = absurd cc

pub belong : (xs : List Top) (all : List (List ℕ)) → Within xs all → AllByRecursion (Belongs all) xs
belong [] all h = tt
belong (top.Struct a ∷ xs) all h = (tt, belong xs all h)
belong (top.Globals a ∷ xs) all h = (tt, belong xs all h)
belong (top.Function f ∷ xs) all h = ((λ body. h f.name.text (first_listed f (definitions xs) (is_some f.body) body)), belong xs all (λ x at. h x (body_listed (is_some f.body) x f (definitions xs) at)))

-- ---- how many parameters each has

abbrev pub typed_counts : List TypedFunction → List ℕ
typed_counts fs = map (λ (f : TypedFunction). f.parameters) fs

abbrev pub counts : List Function → List ℕ
counts fs = map (λ (f : Function). length f.parameters) fs

each_adds_none : {A : Type 0} (f : Known → A → Known) → ((k : Known) (x : A) → (f k x).functions ≡ k.functions) → (xs : List A) (k : Known) → (with_each f k xs).functions ≡ k.functions
each_adds_none f same [] k = refl
each_adds_none f same (x ∷ xs) k = each_adds_none f same xs (f k x) ∙ same k x

pub globals_add_none : (k : Known) (a : GlobalsOf) → (with_globals k a).functions ≡ k.functions
globals_add_none k (globals.Mutexes ds) = each_adds_none with_mutex (λ l d. refl) ds k
globals_add_none k (globals.Threads ds) = each_adds_none with_thread (λ l d. refl) ds k
globals_add_none k (globals.Variables b ds) = each_adds_none (with_variable b) (λ l d. refl) ds k

counts_by : (b : Option Body) (f : Function) (fs : List Function) (i : ℕ) (x : Told) → typed_counts (functions_of i (length f.parameters) x b) ++ counts fs ≡ counts (if is_some b then f ∷ fs else fs)
counts_by None f fs i x = refl
counts_by (Some b) f fs i x = refl

pub counts_follow : (xs : List Top) (k : Known) → typed_counts (with_each with_top k xs).functions ≡ typed_counts k.functions ++ counts (definitions xs)
counts_follow [] k = sym (append-nil (typed_counts k.functions))
counts_follow (top.Struct a ∷ xs) k = counts_follow xs (with_top k (top.Struct a))
counts_follow (top.Globals a ∷ xs) k = counts_follow xs (with_globals k a) ∙ ap (λ fs. typed_counts fs ++ counts (definitions xs)) (globals_add_none k a)
counts_follow (top.Function f ∷ xs) k =
    let x : Told = told_in (with_signature k.context f) f in
    let new : List TypedFunction = functions_of (length k.functions) (length f.parameters) x f.body in
    counts_follow xs (with_function k f) ∙ ap (λ ns. ns ++ counts (definitions xs)) (map-append (λ (g : TypedFunction). g.parameters) k.functions new)
    ∙ append_assoc (typed_counts k.functions) (typed_counts new) (counts (definitions xs)) ∙ ap (λ ns. typed_counts k.functions ++ ns) (counts_by f.body f (definitions xs) (length k.functions) x)

-- ---- the number of a name

-- the definition of a name, and its place
pub record FoundAt (P : Function → Type 0) (x : List ℕ) (fs : List Function) (k place : ℕ) : Type 0 where
  pub definition : Function
  pub holds : P definition
  pub named : x ≡ definition.name.text
  pub at : ℕ
  pub is : place ≡ k + at
  pub count : slice_get (counts fs) at ≡ Some (length definition.parameters)

found_by : (P : Function → Type 0) (x : List ℕ) (f : Function) (fs : List Function) (k : ℕ) (b : Bool) → (b ≡ true → x ≡ f.name.text) → P f → (b || list_any (λ m. bytes_eq x m) (names fs)) ≡ true
    → (list_any (λ m. bytes_eq x m) (names fs) ≡ true → FoundAt P x fs (k + 1) (defined_as (k + 1) x (names fs))) → FoundAt P x (f ∷ fs) k (if b then k else defined_as (k + 1) x (names fs))
found_by P x f fs k true same h any more = record { definition = f; holds = h; named = same refl; at = 0; is = omega arith; count = refl }
found_by P x f fs k false same h any more =
    let m = more any in
    let far = m.is in
    record { definition = m.definition; holds = m.holds; named = m.named; at = suc m.at; is = omega arith; count = m.count }

pub found : (P : Function → Type 0) (x : List ℕ) (fs : List Function) (k : ℕ) → AllByRecursion P fs → list_any (λ m. bytes_eq x m) (names fs) ≡ true → FoundAt P x fs k (defined_as k x (names fs))
found P x [] k h any = absurd cc
found P x (f ∷ fs) k h any = found_by P x f fs k (bytes_eq x f.name.text) (bytes_eq-Decides x f.name.text).0 h.0 any (λ more. found P x fs (k + 1) h.1 more)

-- a typed function takes as many arguments as it has parameters
takes_count : (o : Option TypedFunction) (n : ℕ) → option_map (λ (f : TypedFunction). f.parameters) o ≡ Some n → takes o n ≡ true
takes_count None n h = absurd cc
takes_count (Some f) n h = eq-eqb f.parameters n (ap (λ (o : Option ℕ). elim o [ None ↦ f.parameters | Some m ↦ m ]) h)

pub takes_at : (fs : List TypedFunction) (i n : ℕ) → slice_get (typed_counts fs) i ≡ Some n → takes (slice_get fs i) n ≡ true
takes_at fs i n h = takes_count (slice_get fs i) n (sym (slice_get-map (λ (f : TypedFunction). f.parameters) fs i) ∙ h)

-- Structs and globals in which nothing is wrong: what they declare is known behind them, and what was known stays.
use Rattle.std.proofs.Common.{◌≡◌, ◌≤◌, ◌<◌, ℕ, ◌+◌, ◌*◌, Bool, true, false, List, [], ◌∷◌, ◌++◌, length, Option, Some, None, arith, refl, sym, ◌∙◌, ap, subst, inl, inr, length-append}
use Rattle.std.specs.Prelude.{ℤ, pos, Contains, ◌⊎◌, if◌then◌else◌}
use Rattle.std.specs.Option.{is_some, unwrap_or}
use Rattle.std.specs.List.{AllByRecursion}
use Rattle.std.proofs.lemmas.List.Elements.{Contains-push_cases}
use Rattle.ca_tree.specs.declared.numbers.GlobalId.{GlobalId}
use Rattle.ca_tree.specs.declared.tree.Name.{Name}
use Rattle.ca_tree.specs.declared.tree.Base.{Base}
use Rattle.ca_tree.specs.declared.tree.Struct.{Struct}
use Rattle.ca_tree.specs.declared.tree.Constant.TheVariants as constant
use Rattle.ca_tree.specs.declared.tree.GlobalForm.{GlobalForm}
use Rattle.ca_tree.specs.declared.tree.GlobalForm.TheVariants as form
use Rattle.ca_tree.specs.declared.tree.MutexDeclarator.{MutexDeclarator}
use Rattle.ca_tree.specs.declared.tree.ThreadDeclarator.{ThreadDeclarator}
use Rattle.ca_tree.specs.declared.tree.GlobalDeclarator.{GlobalDeclarator}
use Rattle.ca_tree.specs.declared.tree.Globals.{Globals as GlobalsOf}
use Rattle.ca_tree.specs.declared.tree.Globals.TheVariants as globals
use Rattle.ca_model.specs.declared.values.Value.{Value}
use Rattle.ca_model.specs.declared.values.Value.TheVariants as value
use Rattle.ca_model.specs.declared.tree.GlobalStart.{GlobalStart}
use Rattle.ca_model.specs.declared.types.TypeFault.{TypeFault}
use Rattle.ca_model.specs.declared.types.ObjectType.{ObjectType}
use Rattle.ca_model.specs.declared.types.Meaning.{Meaning}
use Rattle.ca_model.specs.declared.types.Meaning.TheVariants as means
use Rattle.ca_model.specs.typing.Faults.{unless}
use Rattle.ca_model.specs.typing.Types.{thread}
use Rattle.ca_model.specs.typing.Scopes.{StructOf, Scope, find}
use Rattle.ca_model.specs.typing.TypeNames.{written_type, type_faults, cells_of}
use Rattle.ca_model.specs.typing.Known.{Known, with_faults, with_each}
use Rattle.ca_model.specs.typing.Structs.{fields, base_faults, twice_among, names_of, is_tag, with_structs, with_tag, struct_faults, with_struct}
use Rattle.ca_model.specs.typing.Globals.{with_name, name_faults, with_mutex, element_count, global_means, start_of, zero_value, length_of, first_value, with_global, with_thread, with_variable, with_globals}
use Rattle.ca_model.proofs.EmptyFaults.{none_in}
use Rattle.ca_model.proofs.TypedFields.{EachTyped, fields_typed, tag_typed}
use Rattle.ca_model.proofs.TypesThere.{type_there_over}
use Rattle.ca_model.proofs.KnownSoFar.{found_left, new_or_old, Grows, Declared, OpensWithNumber, declared_on, Goes, goes_self, goes_on, KeepsFaults, each_keeps_faults, each_keeps}

-- ---- structs

pub tag_globals : (b : Bool) (s : Scope) (xs : List StructOf) → (if b then s else with_structs s xs).globals ≡ s.globals
tag_globals true s xs = refl
tag_globals false s xs = refl

pub struct_keeps : KeepsFaults with_struct
struct_keeps k a none = (none_in k.faults (struct_faults k.context.scope a) none).0

pub struct_goes : (defined : List (List ℕ)) (k : Known) (a : Struct) → (with_struct k a).faults ≡ [] → Goes defined k (with_struct k a)
struct_goes defined k a none =
    let s : Scope = k.context.scope in
    let open_ : Scope = with_tag s a.name.text [] in
    let same : (with_tag s a.name.text (fields open_ a.fields)).globals ≡ s.globals = tag_globals (is_tag s a.name.text) s _ in
    let wrong = (none_in k.faults (struct_faults s a) none).1 in
    let parts = none_in (unless _ _ ++ base_faults open_ a.fields) (twice_among [] (names_of a.fields)) wrong in
    let grows : Grows k (with_struct k a) = record { names = λ x w at. ap (find x) same ∙ at; functions = λ i f at. (f, at, refl); defined = refl; mutexes = omega arith; starts = omega arith } in
    record {
      grows = grows;
      sound = λ h. record {
        names = λ x w at. declared_on k (with_struct k a) x w grows (h.names x w (sym (ap (find x) same) ∙ at));
        functions = h.functions;
        fields = tag_typed s a.name.text (fields open_ a.fields) h.fields (fields_typed open_ a.fields (none_in (unless _ _) (base_faults open_ a.fields) parts.0).1);
        starts = h.starts;
        all = h.all;
      };
    }

-- ---- one name more

abbrev pub named_by : Bool → Scope → List ℕ → Meaning → Scope
named_by b s n m = if b then s else record s { globals = s.globals ++ (n, m) ∷ [] }

kept_by : (b : Bool) (s : Scope) (n : List ℕ) (m : Meaning) (x : List ℕ) (w : Meaning) → find x s.globals ≡ Some w → find x (named_by b s n m).globals ≡ Some w
kept_by true s n m x w h = h
kept_by false s n m x w h = found_left x s.globals ((n, m) ∷ []) w h

either_by : (b : Bool) (s : Scope) (n : List ℕ) (m : Meaning) (x : List ℕ) (w : Meaning) → find x (named_by b s n m).globals ≡ Some w → (find x s.globals ≡ Some w) ⊎ ((x ≡ n) × (Some m ≡ Some w))
either_by true s n m x w h = inl h
either_by false s n m x w h = new_or_old x n m w s.globals h

structs_by : (b : Bool) (s : Scope) (n : List ℕ) (m : Meaning) → (named_by b s n m).structs ≡ s.structs
structs_by true s n m = refl
structs_by false s n m = refl

pub kept_name : (s : Scope) (n : List ℕ) (m : Meaning) (x : List ℕ) (w : Meaning) → find x s.globals ≡ Some w → find x (with_name s n m).globals ≡ Some w
kept_name s n m x w h = kept_by (is_some (find n s.globals)) s n m x w h

pub either_name : (s : Scope) (n : List ℕ) (m : Meaning) (x : List ℕ) (w : Meaning) → find x (with_name s n m).globals ≡ Some w → (find x s.globals ≡ Some w) ⊎ ((x ≡ n) × (Some m ≡ Some w))
either_name s n m x w h = either_by (is_some (find n s.globals)) s n m x w h

pub same_structs : (s : Scope) (n : List ℕ) (m : Meaning) → (with_name s n m).structs ≡ s.structs
same_structs s n m = structs_by (is_some (find n s.globals)) s n m

pub inside_some : {A : Type 0} (x y : A) → Some x ≡ Some y → x ≡ y
inside_some x y h = ap (λ o. unwrap_or o x) h

abbrev named_to : Known → List ℕ → Meaning → ℕ → List GlobalStart → ℕ → List TypeFault → Known
named_to k n m mutexes starts cells fs =
    record { context = record k.context { scope = with_name k.context.scope n m }; starts = starts; cells = cells; mutexes = mutexes; functions = k.functions; faults = fs }

module _ (defined : List (List ℕ)) where
  named_goes : (k : Known) (n : List ℕ) (m : Meaning) (mutexes : ℕ) (starts : List GlobalStart) (cells : ℕ) (fs : List TypeFault) → k.mutexes ≤ mutexes → length k.starts ≤ length starts
      → Declared (named_to k n m mutexes starts cells fs) n m → (((g : GlobalStart) → Contains k.starts g → OpensWithNumber g) → (g : GlobalStart) → Contains starts g → OpensWithNumber g)
      → Goes defined k (named_to k n m mutexes starts cells fs)
  named_goes k n m mutexes starts cells fs more longer known opens =
      let l : Known = named_to k n m mutexes starts cells fs in
      let grows : Grows k l = record { names = kept_name k.context.scope n m; functions = λ i f at. (f, at, refl); defined = refl; mutexes = more; starts = longer } in
      record {
        grows = grows;
        sound = λ h. record {
          names = λ x w at. elim (either_name k.context.scope n m x w at) [
            | inl old ↦ declared_on k l x w grows (h.names x w old)
            | inr new ↦ subst (λ v. Declared l x v) (inside_some m w new.1) (subst (λ y. Declared l y m) (sym new.0) known)
          ];
          functions = h.functions;
          fields = subst EachTyped (sym (same_structs k.context.scope n m)) h.fields;
          starts = opens h.starts;
          all = h.all;
        };
      }

  -- ---- mutexes and globals

  mutex_goes : (k : Known) (d : MutexDeclarator) → Goes defined k (with_mutex k d)
  mutex_goes k d = named_goes k d.name.text (means.Mutex (record { 0 = k.mutexes })) (k.mutexes + 1) k.starts k.cells _ (omega arith) (omega arith) (omega arith) (λ h. h)

  means_declared : (l : Known) (x : List ℕ) (g : GlobalId) (len : Option ℤ) (u : Option ObjectType) → g.0 < length l.starts → is_some u ≡ true → Declared l x (global_means g len u)
  means_declared l x g None u lt typed = (lt, typed)
  means_declared l x g (Some n) u lt typed = (lt, typed)

  one_opens : (gs : List GlobalStart) (new : GlobalStart) → OpensWithNumber new → ((g : GlobalStart) → Contains gs g → OpensWithNumber g) → (g : GlobalStart) → Contains (gs ++ new ∷ []) g → OpensWithNumber g
  one_opens gs new h old g at = elim (Contains-push_cases gs new g at) [ inl c ↦ old g c | inr is ↦ subst OpensWithNumber is h ]

  global_goes : (k : Known) (n : Name) (u : Option ObjectType) (len : Option ℤ) (v : Value) (fs : List TypeFault) → is_some u ≡ true → (i : ℤ) × (v ≡ value.Num i) → Goes defined k (with_global k n u len v fs)
  global_goes k n u len v fs typed number =
      let new : GlobalStart = start_of (element_count len * cells_of k.context.scope u) v in
      let long : length (k.starts ++ new ∷ []) ≡ length k.starts + 1 = length-append k.starts (new ∷ []) in
      named_goes k n.text (global_means (record { 0 = length k.starts }) len u) k.mutexes (k.starts ++ new ∷ []) _ _ (omega arith) (omega arith)
      (means_declared (with_global k n u len v fs) n.text (record { 0 = length k.starts }) len u (omega arith) typed) (one_opens k.starts new number)

  first_number : (f : GlobalForm) → (i : ℤ) × (first_value f ≡ value.Num i)
  first_number (form.Constant (constant.Number n)) = (n, refl)
  first_number (form.Constant constant.Null) = (pos 0, refl)
  first_number (form.Array n) = (pos 0, refl)
  first_number form.Plain = (pos 0, refl)

  thread_goes : (k : Known) (d : ThreadDeclarator) → Goes defined k (with_thread k d)
  thread_goes k d = global_goes k d.name (Some thread) d.length zero_value [] refl (pos 0, refl)

  -- behind k, whose structs are still those that there are
  record GoesOver (k l : Known) : Type 0 where
    goes : Goes defined k l
    structs : l.context.scope.structs ≡ k.context.scope.structs

  variable_goes : (k l : Known) (b : Base) (d : GlobalDeclarator) → type_faults k.context.scope b ≡ [] → GoesOver k l → GoesOver k (with_variable b l d)
  variable_goes k l b d none h = record {
    goes = goes_on defined k l (with_variable b l d) h.goes
        (global_goes l d.name (written_type l.context.scope b d.stars) (length_of d.form) (first_value d.form) _ (type_there_over l.context.scope k.context.scope b d.stars h.structs none) (first_number d.form));
    structs = same_structs l.context.scope d.name.text _ ∙ h.structs;
  }

  faults_goes : (k : Known) (fs : List TypeFault) → Goes defined k (with_faults k fs)
  faults_goes k fs =
      let grows : Grows k (with_faults k fs) = record { names = λ x w at. at; functions = λ i f at. (f, at, refl); defined = refl; mutexes = omega arith; starts = omega arith } in
      record {
        grows = grows;
        sound = λ h. record { names = λ x w at. declared_on k (with_faults k fs) x w grows (h.names x w at); functions = h.functions; fields = h.fields; starts = h.starts; all = h.all };
      }

pub mutex_keeps : KeepsFaults with_mutex
mutex_keeps k d none = (none_in k.faults (name_faults k.context.scope d.name) none).0

global_keeps : (k : Known) (n : Name) (u : Option ObjectType) (len : Option ℤ) (v : Value) (fs : List TypeFault) → (with_global k n u len v fs).faults ≡ [] → k.faults ≡ []
global_keeps k n u len v fs none = (none_in k.faults _ none).0

pub thread_keeps : KeepsFaults with_thread
thread_keeps k d none = global_keeps k d.name (Some thread) d.length zero_value [] none

pub variable_keeps : (b : Base) → KeepsFaults (with_variable b)
variable_keeps b k d none = global_keeps k d.name (written_type k.context.scope b d.stars) (length_of d.form) (first_value d.form) _ none

pub globals_keep : KeepsFaults with_globals
globals_keep k (globals.Mutexes ds) none = each_keeps_faults with_mutex mutex_keeps ds k none
globals_keep k (globals.Threads ds) none = each_keeps_faults with_thread thread_keeps ds k none
globals_keep k (globals.Variables b ds) none =
    each_keeps_faults (with_variable b) (variable_keeps b) ds k (none_in (with_each (with_variable b) k ds).faults (type_faults k.context.scope b) none).0

pub any : {A : Type 0} (xs : List A) → AllByRecursion (λ x. Unit {0}) xs
any [] = tt
any (x ∷ xs) = (tt, any xs)

pub globals_go : (defined : List (List ℕ)) (k : Known) (a : GlobalsOf) → (with_globals k a).faults ≡ [] → Goes defined k (with_globals k a)
globals_go defined k (globals.Mutexes ds) none =
    each_keeps with_mutex mutex_keeps (Goes defined k) (λ x. Unit {0}) (λ l d ok h i. goes_on defined k l (with_mutex l d) h (mutex_goes defined l d)) ds (any ds) k (goes_self defined k) none
globals_go defined k (globals.Threads ds) none =
    each_keeps with_thread thread_keeps (Goes defined k) (λ x. Unit {0}) (λ l d ok h i. goes_on defined k l (with_thread l d) h (thread_goes defined l d)) ds (any ds) k (goes_self defined k) none
globals_go defined k (globals.Variables b ds) none =
    let all : Known = with_each (with_variable b) k ds in
    let parts = none_in all.faults (type_faults k.context.scope b) none in
    let over : GoesOver defined k all =
    each_keeps (with_variable b) (variable_keeps b) (GoesOver defined k) (λ x. Unit {0}) (λ l d ok h i. variable_goes defined k l b d parts.1 h) ds (any ds) k (record { goes = goes_self defined k; structs = refl }) parts.0 in
    goes_on defined k all (with_faults all (type_faults k.context.scope b)) over.goes (faults_goes defined all (type_faults k.context.scope b))

-- Declarations of globals, one after another.
use Rattle.std.proofs.Common.{◌≡◌, ◌≤◌, arith, zero, Bool, ℕ, suc, ◌+◌, ◌*◌, ◌<◌, List, [], ◌∷◌, ◌++◌, drop, length, get_or, Option, None, ℤ, refl, ap, sym, ◌∙◌, subst, drop-cons, add-one}
use Rattle.ca_tree.specs.declared.tree.Name.{Name}
use Rattle.std.specs.Prelude.{true, false, is_some, if◌then◌else◌}
use Rattle.ca_tree.specs.declared.tree.Base.{Base}
use Rattle.ca_tree.specs.declared.tree.Base.TheVariants as base
use Rattle.ca_tree.specs.declared.tree.Globals.{Globals as GlobalsOf}
use Rattle.ca_tree.specs.declared.tree.Globals.TheVariants as globals
use Rattle.ca_tree.specs.declared.tree.GlobalDeclarator.{GlobalDeclarator}
use Rattle.ca_tree.specs.declared.tree.MutexDeclarator.{MutexDeclarator}
use Rattle.ca_model.specs.declared.tree.GlobalStart.{GlobalStart}
use Rattle.ca_model.specs.declared.types.Meaning.{Meaning}
use Rattle.ca_model.specs.declared.types.Meaning.TheVariants as means
use Rattle.ca_model.specs.declared.types.ObjectType.{ObjectType}
use Rattle.ca_model.specs.declared.types.TypeFault.{TypeFault}
use Rattle.ca_model.specs.declared.types.TypeKind.TheVariants as wrong
use Rattle.ca_model.specs.declared.values.Value.{Value}
use Rattle.ca_model.specs.typing.Faults.{fault, if_none, unless}
use Rattle.ca_model.specs.typing.Globals.{with_name, name_faults, with_mutex, cells_allowed, element_count, global_means, start_of, with_global, with_thread, with_variable, with_globals, length_of, first_value, constant_is_right}
use Rattle.ca_model.specs.typing.Known.{Known, with_each}
use Rattle.ca_model.specs.typing.Scopes.{StructOf, Scope, find, struct_numbered}
use Rattle.ca_model.specs.typing.TypeNames.{cells_of, written_type, type_faults}
use Rattle.ca_operands.specs.Noted.{noted}
use Rattle.ca_operands.proofs.Noting.{noted_append}
use Rattle.ca_types.specs.Holds.{Holds}

-- more faults behind those that are known
pub more_faults : (k : Known) (f g : Option TypeFault) (xs : List TypeFault) → f ≡ noted None k.faults → g ≡ noted f xs → g ≡ noted None (k.faults ++ xs)
more_faults k f g xs before more = more ∙ ap (λ (f : Option TypeFault). noted f xs) before ∙ sym (noted_append None k.faults xs)

pub mutex_holds : (k : Known) (d : MutexDeclarator) (s t : Scope) (st : List GlobalStart) (c m n : ℕ) (f g : Option TypeFault) → Holds k s st c m f → t ≡ with_name s d.name.text (means.Mutex (record { 0 = m })) → n ≡ m + 1
    → g ≡ noted f (name_faults s d.name) → Holds (with_mutex k d) t st c n g
mutex_holds k d s t st c m n f g h scope one told = record {
  scope_is = scope ∙ ap (λ (s : Scope). with_name s d.name.text (means.Mutex (record { 0 = m }))) h.scope_is ∙ ap (λ (m : ℕ). with_name k.context.scope d.name.text (means.Mutex (record { 0 = m }))) h.mutexes_are;
  starts_are = h.starts_are;
  cells_are = h.cells_are;
  mutexes_are = one ∙ ap (λ (m : ℕ). m + 1) h.mutexes_are;
  first_is = more_faults k f g (name_faults k.context.scope d.name) h.first_is (told ∙ ap (λ (s : Scope). noted f (name_faults s d.name)) h.scope_is);
}

abbrev told_at : Scope → ℕ → Name → Option ObjectType → Option ℤ → List TypeFault
told_at s c n of len = name_faults s n ++ unless (cells_allowed c (element_count len * cells_of s of)) (fault n.pos wrong.TooManyCells)

pub global_holds : (k : Known) (n : Name) (of : Option ObjectType) (len : Option ℤ) (v : Value) (fs : List TypeFault) (s t : Scope) (st su : List GlobalStart) (c d m : ℕ) (f g h : Option TypeFault) → Holds k s st c m f
    → t ≡ with_name s n.text (global_means (record { 0 = length st }) len of) → su ≡ st ++ start_of (element_count len * cells_of s of) v ∷ [] → d ≡ c + element_count len * cells_of s of
    → g ≡ noted f (told_at s c n of len) → h ≡ noted g fs → Holds (with_global k n of len v fs) t su d m h
global_holds k n of len v fs s t st su c d m f g h before scope starts cells one two = record {
  scope_is = scope ∙ ap (λ (s : Scope). with_name s n.text (global_means (record { 0 = length st }) len of)) before.scope_is
      ∙ ap (λ (st : List GlobalStart). with_name k.context.scope n.text (global_means (record { 0 = length st }) len of)) before.starts_are;
  starts_are = starts ∙ ap (λ (s : Scope). st ++ start_of (element_count len * cells_of s of) v ∷ []) before.scope_is
      ∙ ap (λ (st : List GlobalStart). st ++ start_of (element_count len * cells_of k.context.scope of) v ∷ []) before.starts_are;
  cells_are = cells ∙ ap (λ (s : Scope). c + element_count len * cells_of s of) before.scope_is ∙ ap (λ (c : ℕ). c + element_count len * cells_of k.context.scope of) before.cells_are;
  mutexes_are = before.mutexes_are;
  first_is = more_faults k f h (told_at k.context.scope k.cells n of len ++ fs) before.first_is
      (two ∙ ap (λ (g : Option TypeFault). noted g fs) (one ∙ ap (λ (s : Scope). noted f (told_at s c n of len)) before.scope_is ∙ ap (λ (c : ℕ). noted f (told_at k.context.scope c n of len)) before.cells_are)
      ∙ sym (noted_append f (told_at k.context.scope k.cells n of len) fs));
}

pub variable_holds : (k : Known) (b : Base) (x : GlobalDeclarator) (of : Option ObjectType) (len : Option ℤ) (v : Value) (right : Bool) (s t : Scope) (st su : List GlobalStart) (c d m : ℕ) (f g h : Option TypeFault) → Holds k s st c m f
    → of ≡ written_type s b x.stars → len ≡ length_of x.form → v ≡ first_value x.form → right ≡ constant_is_right of x.form
    → t ≡ with_name s x.name.text (global_means (record { 0 = length st }) len of) → su ≡ st ++ start_of (element_count len * cells_of s of) v ∷ [] → d ≡ c + element_count len * cells_of s of
    → g ≡ noted f (told_at s c x.name of len) → h ≡ noted g (unless right (fault x.name.pos wrong.Mismatch)) → Holds (with_variable b k x) t su d m h
variable_holds k b x of len v right s t st su c d m f g h before is_type is_length is_first is_right scope starts cells one two =
    let told = λ (right : Bool). unless right (fault x.name.pos wrong.Mismatch) in
    let type_there : of ≡ written_type k.context.scope b x.stars = is_type ∙ ap (λ (s : Scope). written_type s b x.stars) before.scope_is in
    let whole : with_global k x.name of len v (told right) ≡ with_variable b k x =
    ap (λ (right : Bool). with_global k x.name of len v (told right)) is_right
    ∙ ap (λ (of : Option ObjectType). with_global k x.name of len v (told (constant_is_right of x.form))) type_there
    ∙ ap (λ (len : Option ℤ). with_global k x.name (written_type k.context.scope b x.stars) len v (told (constant_is_right (written_type k.context.scope b x.stars) x.form))) is_length
    ∙ ap (λ (v : Value). with_global k x.name (written_type k.context.scope b x.stars) (length_of x.form) v (told (constant_is_right (written_type k.context.scope b x.stars) x.form))) is_first in
    subst (λ (j : Known). Holds j t su d m h) whole (global_holds k x.name of len v (told right) s t st su c d m f g h before scope starts cells one two)

-- what is known before number i, and what is held of it
pub record SoFar {A : Type 0} (step : Known → A → Known) (k : Known) (xs : List A) (i : ℕ) (s : Scope) (st : List GlobalStart) (c m : ℕ) (f : Option TypeFault) : Type 0 where
  pub so : Known
  pub rest : with_each step so (drop i xs) ≡ with_each step k xs
  pub holds : Holds so s st c m f

pub so_first : {A : Type 0} (step : Known → A → Known) (k : Known) (xs : List A) (s : Scope) (st : List GlobalStart) (c m : ℕ) (f : Option TypeFault) → Holds k s st c m f → SoFar step k xs 0 s st c m f
so_first step k xs s st c m f h = record { so = k; rest = refl; holds = h }

pub so_next : {A : Type 0} (step : Known → A → Known) (k : Known) (xs : List A) (i : ℕ) (x : A) (s t : Scope) (st su : List GlobalStart) (c d m n : ℕ) (f g : Option TypeFault) → i < length xs → x ≡ get_or xs i x
    → ((j : Known) → Holds j s st c m f → Holds (step j x) t su d n g) → SoFar step k xs i s st c m f → SoFar step k xs (i + 1) t su d n g
so_next step k xs i x s t st su c d m n f g lt is one before = record {
  so = step before.so x;
  rest = sym (ap (with_each step before.so) (drop-cons xs i x lt ∙ ap (λ y. y ∷ drop (suc i) xs) (sym is) ∙ ap (λ (k : ℕ). x ∷ drop k xs) (sym (add-one i)))) ∙ before.rest;
  holds = one before.so before.holds;
}

past_end : {A : Type 0} (i : ℕ) (xs : List A) → length xs ≤ i → drop i xs ≡ []
past_end zero [] end = refl
past_end (suc i) [] end = refl
past_end zero (x ∷ xs) end = absurd (omega arith)
past_end (suc i) (x ∷ xs) end = past_end i xs (omega arith)

pub so_last : {A : Type 0} (step : Known → A → Known) (k : Known) (xs : List A) (i : ℕ) (s : Scope) (st : List GlobalStart) (c m : ℕ) (f : Option TypeFault) → SoFar step k xs i s st c m f → length xs ≤ i
    → Holds (with_each step k xs) s st c m f
so_last step k xs i s st c m f before end =
    subst (λ (j : Known). Holds j s st c m f) (sym (ap (with_each step before.so) (past_end i xs end)) ∙ before.rest) before.holds

-- ---- what a declaration of globals leaves as it is

pub record Keeps (k j : Known) : Type 0 where
  pub structs : j.context.scope.structs ≡ k.context.scope.structs
  pub locals : j.context.scope.locals ≡ k.context.scope.locals
  pub declared : j.context.functions ≡ k.context.functions
  pub defined : j.context.defined ≡ k.context.defined
  pub functions : j.functions ≡ k.functions

pub name_kept : (s : Scope) (n : List ℕ) (m : Meaning) → ((with_name s n m).structs ≡ s.structs) × ((with_name s n m).locals ≡ s.locals)
name_kept s n m = by (is_some (find n s.globals))
  where
    by : (b : Bool) → ((if b then s else record s { globals = s.globals ++ (n, m) ∷ [] }).structs ≡ s.structs) × ((if b then s else record s { globals = s.globals ++ (n, m) ∷ [] }).locals ≡ s.locals)
    by true = (refl, refl)
    by false = (refl, refl)

pub mutex_keeps : (k : Known) (d : MutexDeclarator) → Keeps k (with_mutex k d)
mutex_keeps k d = let e = name_kept k.context.scope d.name.text (means.Mutex (record { 0 = k.mutexes })) in record { structs = e.0; locals = e.1; declared = refl; defined = refl; functions = refl }

pub global_keeps : (k : Known) (n : Name) (t : Option ObjectType) (len : Option ℤ) (v : Value) (fs : List TypeFault) → Keeps k (with_global k n t len v fs)
global_keeps k n t len v fs = let e = name_kept k.context.scope n.text (global_means (record { 0 = length k.starts }) len t) in record { structs = e.0; locals = e.1; declared = refl; defined = refl; functions = refl }

keeps_through : (i j k : Known) → Keeps i j → Keeps j k → Keeps i k
keeps_through i j k a b = record {
  structs = b.structs ∙ a.structs;
  locals = b.locals ∙ a.locals;
  declared = b.declared ∙ a.declared;
  defined = b.defined ∙ a.defined;
  functions = b.functions ∙ a.functions;
}

each_keeps : {A : Type 0} (step : Known → A → Known) → ((k : Known) (x : A) → Keeps k (step k x)) → (k : Known) (xs : List A) → Keeps k (with_each step k xs)
each_keeps step one k [] = record { structs = refl; locals = refl; declared = refl; defined = refl; functions = refl }
each_keeps step one k (x ∷ xs) = keeps_through k (step k x) (with_each step (step k x) xs) (one k x) (each_keeps step one (step k x) xs)

variables_keep : (b : Base) (k : Known) (ds : List GlobalDeclarator) → Keeps k (with_each (with_variable b) k ds)
variables_keep b = each_keeps (with_variable b) (λ k d. global_keeps k d.name _ _ _ _)

pub globals_keep : (k : Known) (gs : GlobalsOf) → Keeps k (with_globals k gs)
globals_keep k (globals.Mutexes ds) = each_keeps with_mutex mutex_keeps k ds
globals_keep k (globals.Threads ds) = each_keeps with_thread (λ k d. global_keeps k d.name _ _ _ _) k ds
globals_keep k (globals.Variables b ds) = let e = variables_keep b k ds in record { structs = e.structs; locals = e.locals; declared = e.declared; defined = e.defined; functions = e.functions }

same_types : (b : Base) (s t : Scope) → s.structs ≡ t.structs → type_faults s b ≡ type_faults t b
same_types base.Int s t same = refl
same_types (base.Struct n) s t same = ap (λ (xs : List StructOf). if_none (fault n.pos wrong.Unknown) (struct_numbered 0 n.text xs)) same

-- the type of a declaration is told behind its declarators, which leave the structs as they are
pub variables_hold : (b : Base) (k : Known) (ds : List GlobalDeclarator) (t : Scope) (st : List GlobalStart) (c m : ℕ) (g h : Option TypeFault) → Holds (with_each (with_variable b) k ds) t st c m g → h ≡ noted g (type_faults t b)
    → Holds (with_globals k (globals.Variables b ds)) t st c m h
variables_hold b k ds t st c m g h before told = record {
  scope_is = before.scope_is;
  starts_are = before.starts_are;
  cells_are = before.cells_are;
  mutexes_are = before.mutexes_are;
  first_is = more_faults (with_each (with_variable b) k ds) g h (type_faults k.context.scope b) before.first_is
      (told ∙ ap (noted g) (same_types b t k.context.scope (ap (λ (s : Scope). s.structs) before.scope_is ∙ (variables_keep b k ds).structs)));
}

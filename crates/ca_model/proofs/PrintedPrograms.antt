-- A program in which nothing is wrong can be printed.
use Rattle.std.proofs.Common.{◌≡◌, ℕ, Bool, true, false, not, ◌&&◌, ◌||◌, List, [], ◌∷◌, Option, Some, None, inl, inr, refl, sym, ap, subst, ◌∙◌}
use Rattle.std.specs.Prelude.{ℤ}
use Rattle.std.specs.Option.{is_some}
use Rattle.std.specs.List.{list_all}
use Rattle.ca_tree.specs.declared.tree.Name.{Name}
use Rattle.ca_tree.specs.declared.tree.Struct.{Struct}
use Rattle.ca_tree.specs.declared.tree.Globals.{Globals as GlobalsOf}
use Rattle.ca_tree.specs.declared.tree.Globals.TheVariants as globals
use Rattle.ca_tree.specs.declared.tree.MutexDeclarator.{MutexDeclarator}
use Rattle.ca_tree.specs.declared.tree.Parameter.{Parameter}
use Rattle.ca_tree.specs.declared.tree.Body.{Body}
use Rattle.ca_tree.specs.declared.tree.Function.{Function}
use Rattle.ca_tree.specs.declared.tree.Top.{Top}
use Rattle.ca_tree.specs.declared.tree.Top.TheVariants as top
use Rattle.ca_tree.specs.declared.tree.Program.{Program}
use Rattle.ca_tree.specs.Names.{is_library_word}
use Rattle.ca_model.specs.Codes.{Typed}
use Rattle.ca_model.specs.declared.types.ObjectType.{ObjectType}
use Rattle.ca_model.specs.declared.types.Meaning.{Meaning}
use Rattle.ca_model.specs.declared.types.TypeFault.{TypeFault}
use Rattle.ca_model.specs.declared.values.Value.{Value}
use Rattle.ca_model.specs.typing.Types.{thread}
use Rattle.ca_model.specs.typing.TypeNames.{written_type, type_faults}
use Rattle.ca_model.specs.typing.Scopes.{Scope, Context, find}
use Rattle.ca_model.specs.typing.Bodies.{Inside}
use Rattle.ca_model.specs.typing.Known.{Known, with_each}
use Rattle.ca_model.specs.typing.Structs.{is_tag, with_struct}
use Rattle.ca_model.specs.typing.Globals.{with_name, name_faults, with_mutex, with_global, zero_value, length_of, first_value, with_thread, with_variable, with_globals}
use Rattle.ca_model.specs.typing.Signatures.{result_type, parameter_type, with_signature}
use Rattle.ca_model.specs.typing.Functions.{begun, with_parameter, parameter_name_faults, a_parameter, parameters_told, body_told, with_function}
use Rattle.ca_model.specs.typing.Programs.{with_top, at_start}
use Rattle.ca_model.specs.typing.Typing.{IsTyping}
use Rattle.ca_model.specs.Printable.{if_any, body_prints, top_prints, is_printable}
use Rattle.ca_model.proofs.NoFaults.{none_left, none_right, held_by_none}
use Rattle.ca_model.proofs.KnownSoFar.{each_keeps, each_keeps_faults}
use Rattle.ca_model.proofs.GlobalsKnown.{tag_globals, either_name, mutex_keeps, thread_keeps, variable_keeps, any}
use Rattle.ca_model.proofs.SignaturesKnown.{Declares, declares}
use Rattle.ca_model.proofs.DeclarationsKnown.{Clean, clean, top_keeps}
use Rattle.ca_model.proofs.PrintedExpressions.{IsClean, both_true}
use Rattle.ca_model.proofs.PrintedStatements.{Shows, neither, then_shows, in_order_shows, declared_clean, all_show}

-- no call of the library is declared outside of functions
abbrev NoneIn : Scope → Type 0
NoneIn s = (x : List ℕ) (w : Meaning) → find x s.globals ≡ Some w → is_library_word x ≡ true → ⊥

abbrev NoneKnown : Known → Type 0
NoneKnown k = NoneIn k.context.scope

not_there : {A : Type 0} (o : Option A) → ((x : A) → o ≡ Some x → ⊥) → o ≡ None
not_there None h = refl
not_there (Some x) h = absurd (h x refl)

as_word : (n x : List ℕ) → (is_library_word n ≡ true → ⊥) → x ≡ n → is_library_word x ≡ true → ⊥
as_word n x never same is = never (subst (λ y. is_library_word y ≡ true) same is)

named_clean : (s : Scope) (n : Name) (m : Meaning) → NoneIn s → name_faults s n ≡ [] → NoneIn (with_name s n.text m)
named_clean s n m h none =
    let never = neither (is_library_word n.text) _ (held_by_none (not (is_library_word n.text || is_some (find n.text s.globals))) _ none) in
    λ x w at. elim (either_name s n.text m x w at) [ inl old ↦ h x w old | inr new ↦ as_word n.text x never new.0 ]

mutex_clean : (k : Known) (d : MutexDeclarator) → NoneKnown k → (with_mutex k d).faults ≡ [] → NoneKnown (with_mutex k d)
mutex_clean k d h none = named_clean k.context.scope d.name _ h (none_right k.faults _ none)

global_clean : (k : Known) (n : Name) (t : Option ObjectType) (len : Option ℤ) (v : Value) (fs : List TypeFault) → NoneKnown k → (with_global k n t len v fs).faults ≡ [] → NoneKnown (with_global k n t len v fs)
global_clean k n t len v fs h none = named_clean k.context.scope n _ h (none_left _ _ (none_left _ _ (none_right k.faults _ none)))

globals_clean : (k : Known) (a : GlobalsOf) → NoneKnown k → (with_globals k a).faults ≡ [] → NoneKnown (with_globals k a)
globals_clean k (globals.Mutexes ds) h none = each_keeps with_mutex mutex_keeps NoneKnown (λ d. Unit {0}) (λ l d ok here i. mutex_clean l d here i) ds (any ds) k h none
globals_clean k (globals.Threads ds) h none =
    each_keeps with_thread thread_keeps NoneKnown (λ d. Unit {0}) (λ l d ok here i. global_clean l d.name (Some thread) d.length zero_value [] here i) ds (any ds) k h none
globals_clean k (globals.Variables b ds) h none =
    each_keeps (with_variable b) (variable_keeps b) NoneKnown (λ d. Unit {0})
    (λ l d ok here i. global_clean l d.name (written_type l.context.scope b d.stars) (length_of d.form) (first_value d.form) _ here i) ds (any ds) k h (none_left (with_each (with_variable b) k ds).faults (type_faults k.context.scope b) none)

struct_clean : (k : Known) (a : Struct) → NoneKnown k → NoneKnown (with_struct k a)
struct_clean k a h = λ x w at. h x w (sym (ap (find x) (tag_globals (is_tag k.context.scope a.name.text) k.context.scope _)) ∙ at)

left_true : (a b : Bool) → (not a && b) ≡ true → a ≡ true → ⊥
left_true true b h is = absurd cc
left_true false b h is = absurd cc

function_clean : (k : Known) (f : Function) → NoneKnown k → Clean k f → NoneKnown (with_function k f)
function_clean k f h c =
    let d : Declares k.context (with_signature k.context f) f.name.text = declares k.context f c.new in
    λ x w at. elim (d.either x w at) [ inl old ↦ h x w old | inr new ↦ as_word f.name.text x (left_true (is_library_word f.name.text) _ c.new) new.0 ]

-- ---- functions

named_clean_inside : (c : Inside) (n : Option Name) (t : Option ObjectType) → IsClean c.context.scope → parameter_name_faults c n ≡ [] → IsClean (with_parameter c n t).context.scope
named_clean_inside c None t clean none = clean
named_clean_inside c (Some n) t clean none = declared_clean c n t clean none

parameter_shows : (c : Inside) (a : Parameter) → Shows c (a_parameter c a) true
parameter_shows c a clean none = (refl, named_clean_inside c a.name (parameter_type c.context.scope a) clean none)

body_shows : (b : Option Body) (c : Inside) → Shows c (body_told c b) (if_any body_prints b)
body_shows None c is none = (refl, is)
body_shows (Some b) c is none = all_show b.statements c is none

function_prints : (k : Known) (f : Function) → NoneKnown k → Clean k f → if_any body_prints f.body ≡ true
function_prints k f h c =
    let l : Context = with_signature k.context f in
    let start : Inside = begun l (result_type l.scope f.result) in
    let names = function_clean k f h c in
    (then_shows start (parameters_told start f.parameters) (λ d. body_told d f.body) true (if_any body_prints f.body) (λ clean none. (refl, (in_order_shows a_parameter (λ a. true) parameter_shows f.parameters start clean none).1)) (body_shows f.body)
    (λ x is. not_there (find x l.scope.globals) (λ w at. names x w at is)) c.told).0

-- ---- programs

all_print : (xs : List Top) (k : Known) → NoneKnown k → (with_each with_top k xs).faults ≡ [] → list_all top_prints xs ≡ true
all_print [] k h none = refl
all_print (top.Struct a ∷ xs) k h none = all_print xs (with_struct k a) (struct_clean k a h) none
all_print (top.Globals a ∷ xs) k h none = all_print xs (with_globals k a) (globals_clean k a h (each_keeps_faults with_top top_keeps xs (with_globals k a) none)) none
all_print (top.Function f ∷ xs) k h none =
    let c = clean k f (each_keeps_faults with_top top_keeps xs (with_function k f) none) in
    both_true (if_any body_prints f.body) (list_all top_prints xs) (function_prints k f h c) (all_print xs (with_function k f) (function_clean k f h c) none)

no_name : (x : List ℕ) (w : Meaning) → find x [] ≡ Some w → ⊥
no_name x w at = absurd cc

pub typed_programs_print : (p : Program) (t : Typed) → IsTyping p t → is_printable p ≡ true
typed_programs_print p t typing = all_print p.tops (at_start p) (λ x w at is. no_name x w at) typing.sound

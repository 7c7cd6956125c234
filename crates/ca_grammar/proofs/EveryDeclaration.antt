-- The declarations of each program are spelled, whatever follows, and so is the program.
use Rattle.std.proofs.Common.{◌≡◌, ℕ, ℤ, pos, negsuc, suc, ◌+◌, ◌≤◌, Bool, true, false, List, [], ◌∷◌, All, length, Option, Some, None, IfSome, if◌then◌else◌, codes, arith, refl, ap}
use Rattle.std.proofs.lemmas.Bool.{le-leb}
use Rattle.std.proofs.lemmas.List.Elements.{All-head, All-tail}
use Rattle.ca_tree.specs.declared.token.Mark.TheVariants as mark
use Rattle.ca_tree.specs.declared.token.Word.TheVariants as word
use Rattle.ca_tree.specs.declared.token.Token.{Token}
use Rattle.ca_tree.specs.declared.tree.Name.{Name}
use Rattle.ca_tree.specs.declared.tree.Base.{Base}
use Rattle.ca_tree.specs.declared.tree.Declarator.{Declarator}
use Rattle.ca_tree.specs.declared.tree.Fields.{Fields as FieldsOf}
use Rattle.ca_tree.specs.declared.tree.MutexDeclarator.{MutexDeclarator}
use Rattle.ca_tree.specs.declared.tree.ThreadDeclarator.{ThreadDeclarator}
use Rattle.ca_tree.specs.declared.tree.Constant.TheVariants as constant
use Rattle.ca_tree.specs.declared.tree.GlobalForm.{GlobalForm}
use Rattle.ca_tree.specs.declared.tree.GlobalForm.TheVariants as form
use Rattle.ca_tree.specs.declared.tree.GlobalDeclarator.{GlobalDeclarator}
use Rattle.ca_tree.specs.declared.tree.Globals.{Globals as GlobalsOf}
use Rattle.ca_tree.specs.declared.tree.Globals.TheVariants as globals
use Rattle.ca_tree.specs.declared.tree.ResultType.{ResultType}
use Rattle.ca_tree.specs.declared.tree.ResultType.TheVariants as result
use Rattle.ca_tree.specs.declared.tree.ParameterType.{ParameterType}
use Rattle.ca_tree.specs.declared.tree.ParameterType.TheVariants as parameter
use Rattle.ca_tree.specs.declared.tree.Parameter.{Parameter}
use Rattle.ca_tree.specs.declared.tree.Body.{Body}
use Rattle.ca_tree.specs.declared.tree.Function.{Function}
use Rattle.ca_tree.specs.declared.tree.Top.{Top}
use Rattle.ca_tree.specs.declared.tree.Top.TheVariants as top
use Rattle.ca_tree.specs.Lexed.{token}
use Rattle.ca_tree.specs.Places.{start}
use Rattle.ca_tree.specs.declared.counted.Counted.TheVariants as counted
use Rattle.ca_tree.specs.Counts.{most, Totals, one_more_mutex, one_more_global, one_more_struct}
use Rattle.ca_tree.specs.TreeWords.{any_words}
use Rattle.ca_tree.specs.ExpressionTrees.{IsName}
use Rattle.ca_tree.specs.ProgramTrees.{IsField, AreFields, field_count, RoomForGlobal, RoomForMutex, IsLength, IsForm, AreMutexes, AreThreads, AreVariables, AreGlobals, IsResult, IsParameterType, IsParameter, IsBody, IsFunction, IsTop, AreTops}
use Rattle.ca_tree.specs.PhraseTrees.{IsBase}
use Rattle.ca_grammar.specs.Declarations.{Part, Tree, Field_declarators, More_fields, A_length, A_constant, A_form, A_mutex, More_mutexes, A_thread, More_threads, A_global, More_globals, A_declaration_of_globals, A_result, A_parameter_type, A_parameter, More_parameters, Parameters_behind, A_body, A_function, A_top, Tops, stars_missing, Spells}
use Rattle.ca_grammar.specs.Declarations as declaration
use Rattle.ca_grammar.specs.Laws.{EachProgramIsSpelled}
use Rattle.ca_tree.specs.ProgramTrees as tree
use Rattle.ca_grammar.specs.Laws.{all_kept}
use Rattle.ca_grammar.proofs.EveryExpression.{at_first, of_mark}
use Rattle.ca_grammar.proofs.EveryPhrase.{Spelled, spell, allowed_up_to, marked, worded, the_mark, the_word, named, the_name, base_spelled, starred, stars_spelled}
use Rattle.ca_grammar.proofs.EveryStatement.{statements_spelled}

-- a part with the counts n before and m behind
abbrev Spells_as : (p : Part) → Totals → Tree p → Totals → List Token → List Token → Type 0
Spells_as p n a m ts us = Spells all_kept p n a ts m us

-- a part that counts nothing
abbrev Spells_at : (p : Part) → Totals → Tree p → List Token → List Token → Type 0
Spells_at p n a ts us = Spells all_kept p n a ts n us

abbrev starred_name : ℕ → Name → List Token → List Token
starred_name k x us = starred start k (named x us)

-- ---- structs

declarators_spelled : (b : Base) (j : ℕ) (n : Totals) (ds : List Declarator) → 1 ≤ length ds → All (IsField any_words b) ds → j + length ds ≤ most counted.Fields
    → Spelled (Spells_at (Field_declarators b j) n ds)
declarators_spelled b j n [] some each few = absurd (omega (arith, some))
declarators_spelled b j n (d ∷ []) some each few =
    let h = All-head (IsField any_words b) d [] each in
    spell _ (λ us. declaration.last_field (stars_spelled start d.stars (named d.name (marked mark.Semicolon us))) h.has_a_star
    (allowed_up_to counted.Fields (suc j) (named d.name (marked mark.Semicolon us)) (omega (arith, few))) (the_name d.name (marked mark.Semicolon us) h.is_name) (the_mark mark.Semicolon us))
declarators_spelled b j n (d ∷ e ∷ ds) some each few =
    let h = All-head (IsField any_words b) d (e ∷ ds) each in
    let more = declarators_spelled b (suc j) n (e ∷ ds) (omega arith) (All-tail (IsField any_words b) d (e ∷ ds) each) (omega (arith, few)) in
    let behind : List Token → List Token = λ us. marked mark.Comma (more.tokens us) in
    spell _ (λ us. declaration.another_field (stars_spelled start d.stars (named d.name (behind us))) h.has_a_star
    (allowed_up_to counted.Fields (suc j) (named d.name (behind us)) (omega (arith, few))) (the_name d.name (behind us) h.is_name) (the_mark mark.Comma (more.tokens us)) (more.spells us))

fields_spelled : (j : ℕ) (n : Totals) (fs : List FieldsOf) → All (AreFields any_words) fs → j + field_count fs ≤ most counted.Fields → Spelled (Spells_at (More_fields j) n fs)
fields_spelled j n [] each few = spell _ (λ us. declaration.no_more_fields)
fields_spelled j n (f ∷ fs) each few =
    let h = All-head (AreFields any_words) f fs each in
    let w = base_spelled start f.base h.of in
    let x = declarators_spelled f.base j n f.declarators h.each.0 h.each.1 (omega (arith, few)) in
    let more = fields_spelled (j + length f.declarators) n fs (All-tail (AreFields any_words) f fs each) (omega (arith, few)) in
    spell _ (λ us. declaration.more_fields (w.spells _) (x.spells (more.tokens us)) (more.spells us))

struct_spelled : (n : Totals) (name : Name) (fs : List FieldsOf) → suc n.structs ≤ most counted.Structs → IsName any_words name → 1 ≤ length fs → All (AreFields any_words) fs → field_count fs ≤ most counted.Fields
    → Spelled (Spells_as A_top n (top.Struct (record { name = name; fields = fs })) (one_more_struct n))
struct_spelled n name [] room is_name some each few = absurd (omega (arith, some))
struct_spelled n name (f ∷ fs) room is_name some each few =
    let x = fields_spelled 0 n (f ∷ fs) each (omega (arith, few)) in
    let end : List Token → List Token = λ us. marked mark.CloseBrace (marked mark.Semicolon us) in
    let inside : List Token → List Token = λ us. marked mark.OpenBrace (x.tokens (end us)) in
    spell _ (λ us. declaration.a_struct (the_word start (codes "struct") (named name (inside us))) (the_name name (inside us) is_name)
    (allowed_up_to counted.Structs (suc n.structs) (inside us) room) (the_mark mark.OpenBrace (x.tokens (end us))) (x.spells (end us))
    (the_mark mark.CloseBrace (marked mark.Semicolon us)) (the_mark mark.Semicolon us))

-- ---- globals

mutex_spelled : (n : Totals) (x : Name) (with : Bool) → RoomForMutex n → IsName any_words x → Spelled (Spells_as A_mutex n (record { name = x; has_initializer = with }) (one_more_mutex n))
mutex_spelled n x false room h = spell _ (λ us. declaration.a_mutex (allowed_up_to counted.Mutexes (suc n.mutexes) (named x us) room) (the_name x us h))
mutex_spelled n x true room h =
    let behind : List Token → List Token = λ us. marked mark.Assign (worded start (codes "PTHREAD_MUTEX_INITIALIZER") us) in
    spell _ (λ us. declaration.a_mutex_with_initializer (allowed_up_to counted.Mutexes (suc n.mutexes) (named x (behind us)) room) (the_name x (behind us) h)
    (the_mark mark.Assign (worded start (codes "PTHREAD_MUTEX_INITIALIZER") us)) (the_word start (codes "PTHREAD_MUTEX_INITIALIZER") us))

more_mutexes : {n m : Totals} {ds : List MutexDeclarator} → AreMutexes any_words n ds m → Spelled (Spells_as More_mutexes n ds m)
more_mutexes tree.none = spell _ (λ us. declaration.no_more_mutexes)
more_mutexes (tree.one {n} {x = d} room h r) =
    let x = mutex_spelled n d.name d.has_initializer room h in
    let more = more_mutexes r in
    spell _ (λ us. declaration.more_mutexes (the_mark mark.Comma (x.tokens (more.tokens us))) (x.spells (more.tokens us)) (more.spells us))

length_spelled : (n : Totals) (i : ℤ) → IsLength any_words i → Spelled (Spells_at A_length n i)
length_spelled n i h =
    spell _ (λ us. declaration.a_length (the_mark mark.OpenBracket _) (at_first start (word.Number i) i (marked mark.CloseBracket us) (refl, h)) (the_mark mark.CloseBracket us))

thread_spelled : (n : Totals) (x : Name) (i : Option ℤ) → RoomForGlobal n → IsName any_words x → IfSome i (IsLength any_words) → Spelled (Spells_as A_thread n (record { name = x; length = i }) (one_more_global n))
thread_spelled n x None room h l = spell _ (λ us. declaration.a_thread (the_name x us h) (allowed_up_to counted.Globals (suc n.globals) us room))
thread_spelled n x (Some i) room h l =
    let y = length_spelled n i l in
    spell _ (λ us. declaration.threads (the_name x (y.tokens us) h) (allowed_up_to counted.Globals (suc n.globals) (y.tokens us) room) (y.spells us))

more_threads : {n m : Totals} {ds : List ThreadDeclarator} → AreThreads any_words n ds m → Spelled (Spells_as More_threads n ds m)
more_threads tree.none = spell _ (λ us. declaration.no_more_threads)
more_threads (tree.one {n} {x = d} room h r) =
    let x = thread_spelled n d.name d.length room h.0 h.1 in
    let more = more_threads r in
    spell _ (λ us. declaration.more_threads (the_mark mark.Comma (x.tokens (more.tokens us))) (x.spells (more.tokens us)) (more.spells us))

constant_spelled : (n : Totals) (i : ℤ) → Spelled (Spells_at A_constant n (constant.Number i))
constant_spelled n (pos i) = spell _ (λ us. declaration.a_number (at_first start (word.Number (pos i)) (pos i) us (refl, refl)))
constant_spelled n (negsuc i) =
    spell _ (λ us. declaration.a_negative (the_mark mark.Minus (token start (word.Number (pos (suc i))) ∷ us)) (at_first start (word.Number (pos (suc i))) (pos (suc i)) us (refl, refl)))

form_spelled : (n : Totals) (f : GlobalForm) → IsForm any_words f → Spelled (Spells_at A_form n f)
form_spelled n form.Plain h = spell _ (λ us. declaration.plain)
form_spelled n (form.Array i) h =
    let y = length_spelled n i h in
    spell _ (λ us. declaration.an_array (y.spells us))
form_spelled n (form.Constant (constant.Number i)) h =
    let y = constant_spelled n i in
    spell _ (λ us. declaration.a_constant (the_mark mark.Assign (y.tokens us)) (y.spells us))
form_spelled n (form.Constant constant.Null) h =
    spell _ (λ us. declaration.a_constant (the_mark mark.Assign _) (declaration.a_null (the_word start (codes "NULL") us)))

global_spelled : (b : Base) (n : Totals) (d : GlobalDeclarator) → RoomForGlobal n → IsName any_words d.name → IsForm any_words d.form → Spelled (Spells_as (A_global b) n d (one_more_global n))
global_spelled b n d room h f =
    let y = form_spelled n d.form f in
    spell _ (λ us. declaration.a_global (stars_spelled start d.stars (named d.name (y.tokens us))) (the_name d.name (y.tokens us) h)
    (allowed_up_to counted.Globals (suc n.globals) (y.tokens us) room) (y.spells us))

more_globals : (b : Base) {n m : Totals} {ds : List GlobalDeclarator} → AreVariables any_words n ds m → Spelled (Spells_as (More_globals b) n ds m)
more_globals b tree.none = spell _ (λ us. declaration.no_more_globals)
more_globals b (tree.one {n} {x = d} room h r) =
    let x = global_spelled b n d room h.0 h.1 in
    let more = more_globals b r in
    spell _ (λ us. declaration.more_globals (the_mark mark.Comma (x.tokens (more.tokens us))) (x.spells (more.tokens us)) (more.spells us))

mutexes_spelled : {n m : Totals} {ds : List MutexDeclarator} → 1 ≤ length ds → AreMutexes any_words n ds m → Spelled (Spells_as A_declaration_of_globals n (globals.Mutexes ds) m)
mutexes_spelled some tree.none = absurd (omega (arith, some))
mutexes_spelled some (tree.one {n} {x = d} room h r) =
    let x = mutex_spelled n d.name d.has_initializer room h in
    let more = more_mutexes r in
    spell _ (λ us. declaration.mutexes (the_word start (codes "pthread_mutex_t") (x.tokens (more.tokens us))) (x.spells (more.tokens us)) (more.spells us))

threads_spelled : {n m : Totals} {ds : List ThreadDeclarator} → 1 ≤ length ds → AreThreads any_words n ds m → Spelled (Spells_as A_declaration_of_globals n (globals.Threads ds) m)
threads_spelled some tree.none = absurd (omega (arith, some))
threads_spelled some (tree.one {n} {x = d} room h r) =
    let x = thread_spelled n d.name d.length room h.0 h.1 in
    let more = more_threads r in
    spell _ (λ us. declaration.threads_of (the_word start (codes "pthread_t") (x.tokens (more.tokens us))) (x.spells (more.tokens us)) (more.spells us))

variables_spelled : {b : Base} {n m : Totals} {ds : List GlobalDeclarator} → IsBase any_words b → 1 ≤ length ds → AreVariables any_words n ds m
    → Spelled (Spells_as A_declaration_of_globals n (globals.Variables b ds) m)
variables_spelled is_base some tree.none = absurd (omega (arith, some))
variables_spelled {b} is_base some (tree.one {n} {x = d} room h r) =
    let w = base_spelled start b is_base in
    let x = global_spelled b n d room h.0 h.1 in
    let more = more_globals b r in
    spell _ (λ us. declaration.variables (w.spells _) (x.spells (more.tokens us)) (more.spells us))

globals_spelled : {n m : Totals} (a : GlobalsOf) → AreGlobals any_words n a m → Spelled (Spells_as A_declaration_of_globals n a m)
globals_spelled (globals.Mutexes ds) h = mutexes_spelled h.0 h.1
globals_spelled (globals.Threads ds) h = threads_spelled h.0 h.1
globals_spelled (globals.Variables b ds) h = variables_spelled h.0 h.1 h.2

-- ---- functions

result_spelled : (n : Totals) (r : ResultType) → IsResult any_words r → Spelled (Spells_at A_result n r)
result_spelled n result.Void h = spell _ (λ us. declaration.nothing (the_word start (codes "void") us))
result_spelled n result.Pointer h = spell _ (λ us. declaration.a_pointer (the_word start (codes "void") (marked mark.Star us)) (the_mark mark.Star us))
result_spelled n (result.Value t) h =
    let w = base_spelled start t.base h.is_type in
    spell _ (λ us. declaration.a_value (w.spells _) (stars_spelled start t.stars us))

-- no star is missing
no_star_missing : (r : ResultType) → IsResult any_words r → stars_missing r ≡ 0
no_star_missing result.Void h = refl
no_star_missing result.Pointer h = refl
no_star_missing (result.Value t) h = ap (λ b. if b then 0 else 1) h.has_a_star

parameter_type_spelled : (n : Totals) (t : ParameterType) → IsParameterType any_words t → Spelled (Spells_at A_parameter_type n t)
parameter_type_spelled n parameter.Pointer h = spell _ (λ us. declaration.a_pointer_parameter (the_word start (codes "void") (marked mark.Star us)) (the_mark mark.Star us))
parameter_type_spelled n (parameter.Value t) h =
    let w = base_spelled start t.base h.is_type in
    spell _ (λ us. declaration.a_value_parameter (w.spells _) (stars_spelled start t.stars us) h.has_a_star)

parameter_spelled : (j : ℕ) (n : Totals) (of : ParameterType) (name : Option Name) → suc j ≤ most counted.Parameters → IsParameterType any_words of → IfSome name (IsName any_words)
    → Spelled (Spells_at (A_parameter j) n (record { of = of; name = name }))
parameter_spelled j n of None room is_type h =
    let x = parameter_type_spelled n of is_type in
    spell _ (λ us. declaration.a_parameter (x.spells us) (allowed_up_to counted.Parameters (suc j) us room))
parameter_spelled j n of (Some name) room is_type h =
    let x = parameter_type_spelled n of is_type in
    spell _ (λ us. declaration.a_named_parameter (x.spells (named name us)) (allowed_up_to counted.Parameters (suc j) (named name us) room) (the_name name us h))

more_parameters : (j : ℕ) (n : Totals) (ds : List Parameter) → j + length ds ≤ most counted.Parameters → All (IsParameter any_words) ds → Spelled (Spells_at (More_parameters j) n ds)
more_parameters j n [] few each = spell _ (λ us. declaration.last_parameter (the_mark mark.CloseParen us))
more_parameters j n (d ∷ ds) few each =
    let h = All-head (IsParameter any_words) d ds each in
    let x = parameter_spelled j n d.of d.name (omega (arith, few)) h.is_type h.named in
    let more = more_parameters (suc j) n ds (omega (arith, few)) (All-tail (IsParameter any_words) d ds each) in
    spell _ (λ us. declaration.next_parameter (the_mark mark.Comma (x.tokens (more.tokens us))) (x.spells (more.tokens us)) (more.spells us))

parameters_spelled : (n : Totals) (ds : List Parameter) → length ds ≤ most counted.Parameters → All (IsParameter any_words) ds → Spelled (Spells_at Parameters_behind n ds)
parameters_spelled n [] few each = spell _ (λ us. declaration.no_parameters (the_mark mark.CloseParen us))
parameters_spelled n (d ∷ ds) few each =
    let h = All-head (IsParameter any_words) d ds each in
    let x = parameter_spelled 0 n d.of d.name (omega (arith, few)) h.is_type h.named in
    let more = more_parameters 1 n ds (omega (arith, few)) (All-tail (IsParameter any_words) d ds each) in
    spell _ (λ us. declaration.some_parameters (x.spells (more.tokens us)) (more.spells us))

body_spelled : {n m : Totals} {b : Option Body} → IsBody any_words n b m → Spelled (Spells_as A_body n b m)
body_spelled tree.no_body = spell _ (λ us. declaration.no_body (the_mark mark.Semicolon us))
body_spelled {n} (tree.a_body {m = k} {p} room s last) =
    let x = statements_spelled s in
    let end : List Token → List Token = λ us. token p (word.Mark mark.CloseBrace) ∷ us in
    spell _ (λ us. declaration.a_body (allowed_up_to counted.Functions (suc n.functions) (marked mark.OpenBrace (x.tokens (end us))) room) (the_mark mark.OpenBrace (x.tokens (end us))) (x.spells (end us))
    (allowed_up_to counted.Items (suc k) (end us) last) (of_mark mark.CloseBrace p us))

function_spelled : {n m : Totals} (f : Function) → IsFunction any_words n f m → Spelled (Spells_as A_function n f m)
function_spelled {n} f h =
    let w = result_spelled n f.result h.is_result in
    let x = parameters_spelled n f.parameters h.few h.each in
    let y = body_spelled h.is_body in
    let behind : List Token → List Token = λ us. marked mark.OpenParen (x.tokens (y.tokens us)) in
    spell _ (λ us. declaration.a_function (w.spells (named f.name (behind us))) (the_name f.name (behind us) h.is_name)
    (le-leb (stars_missing f.result) 0 (omega (arith, no_star_missing f.result h.is_result))) (the_mark mark.OpenParen (x.tokens (y.tokens us))) (x.spells (y.tokens us)) (y.spells us))

-- ---- programs

top_spelled : {n m : Totals} {a : Top} → IsTop any_words n a m → Spelled (Spells_as A_top n a m)
top_spelled {n} (tree.a_struct {a} room h) = struct_spelled n a.name a.fields room h.is_name h.each.0 h.each.1 h.few
top_spelled (tree.some_globals {a} h) =
    let x = globals_spelled a h in
    spell _ (λ us. declaration.qualified (declaration.globals_of (x.spells (marked mark.Semicolon us)) (the_mark mark.Semicolon us)))
top_spelled (tree.a_function {f} h) =
    let x = function_spelled f h in
    spell _ (λ us. declaration.qualified (declaration.function_of (x.spells us)))

tops_spelled : {n m : Totals} {all : List Top} → AreTops any_words n all m → Spelled (Spells_as Tops n all m)
tops_spelled tree.no_top = spell _ (λ us. declaration.no_top)
tops_spelled (tree.one_top a r) =
    let x = top_spelled a in
    let more = tops_spelled r in
    spell _ (λ us. declaration.some_top (x.spells (more.tokens us)) (more.spells us))

pub every_program : EachProgramIsSpelled
every_program a h =
    let x = tops_spelled h.1 in
    let end : List Token = token start word.End ∷ [] in
    (x.tokens end, (h.0, declaration.a_program (x.spells end) (start, tt, at_first start word.End tt [] refl)))

-- How declarations and programs are read.
use Rattle.std.specs.Prelude.{ℕ, ℤ, suc, ◌+◌, neg_ℤ, Bool, true, false, List, [], ◌∷◌, length, Option, Some, None, codes}
use Rattle.ca_tree.specs.declared.token.Mark.TheVariants as mark
use Rattle.ca_tree.specs.declared.tree.Name.{Name}
use Rattle.ca_tree.specs.declared.tree.Base.{Base}
use Rattle.ca_tree.specs.declared.tree.Base.TheVariants as base
use Rattle.ca_tree.specs.declared.tree.Constant.TheVariants as constant
use Rattle.ca_tree.specs.declared.tree.GlobalForm.{GlobalForm}
use Rattle.ca_tree.specs.declared.tree.GlobalForm.TheVariants as form
use Rattle.ca_tree.specs.declared.tree.GlobalDeclarator.{GlobalDeclarator}
use Rattle.ca_tree.specs.declared.tree.Globals.TheVariants as globals
use Rattle.ca_tree.specs.declared.tree.ResultType.{ResultType}
use Rattle.ca_tree.specs.declared.tree.ResultType.TheVariants as result
use Rattle.ca_tree.specs.declared.tree.ParameterType.{ParameterType}
use Rattle.ca_tree.specs.declared.tree.ParameterType.TheVariants as parameter
use Rattle.ca_tree.specs.declared.tree.Parameter.{Parameter}
use Rattle.ca_tree.specs.declared.tree.Top.{Top}
use Rattle.ca_tree.specs.declared.tree.Top.TheVariants as top
use Rattle.ca_grammar.specs.declared.faults.Count.{Count}
use Rattle.ca_tree.specs.declared.counted.Counted.TheVariants.{Functions, Globals, Mutexes as Mutex_count, Structs, Fields, Parameters as Parameter_count}
use Rattle.ca_tree.specs.Counts.{Totals, one_more_global, one_more_mutex, one_more_struct, one_more_function, nothing_yet}
use Rattle.ca_tree.specs.StatementTrees.{item}
use Rattle.ca_grammar.specs.Words.{The_mark, The_word, A_number, A_name, The_end, null_word, open_paren, close_paren, open_brace, close_brace, comma, semicolon, star, assign}
use Rattle.ca_grammar.specs.Limits.{Star, Firm}
use Rattle.ca_grammar.specs.Expressions.{name}
use Rattle.ca_grammar.specs.Declarations.{stars_missing}
use Rattle.ca_grammar.specs.Goals.{Goal, Totalled, Starred_name, Base_at, Stars, Statements, Field_declarators, A_field, More_fields, Mutexes, Threads, A_constant, Behind_global, More_globals, Next_global, Behind_type, More_parameters, Next_parameter, Parameters, Body_of, Function_of, Behind_paren, Behind_base, Behind_void, Qualified, Behind_tag, A_top, Tops, A_program}
use Rattle.ca_grammar.specs.Plan.{Plan, give, take, want, call, last, no_counts, these, and_name, counted}
use Rattle.ca_grammar.specs.PhrasePlans.{must, maybe}

abbrev pub totalled : {X : Type 0} → X → Totals → Totalled X
totalled x t = record { what = x; totals = t }

abbrev pub on_field_declarators : (b : Base) (j : ℕ) → Plan (Field_declarators b j)
on_field_declarators b j =
    call (Starred_name [] (counted Fields (suc j) ∷ []) b) (λ x.
    maybe comma (last (Field_declarators b (suc j)) (Field_declarators b j) (λ more. record { stars = x.stars; name = x.name } ∷ more))
    (must semicolon (give (record { stars = x.stars; name = x.name } ∷ []))))

abbrev pub on_field : (j : ℕ) → Plan (A_field j)
on_field j = call (Base_at []) (λ b. call (Field_declarators b.what j) (λ ds. last (More_fields (j + length ds)) (A_field j) (λ more. record { base = b.what; declarators = ds } ∷ more)))

abbrev pub on_more_fields : (j : ℕ) → Plan (More_fields j)
on_more_fields j = maybe close_brace (give []) (last (A_field j) (More_fields j) (λ fs. fs))

abbrev pub behind_mutex : (t : Totals) (x : Name) (has_initializer : Bool) → Plan (Mutexes t)
behind_mutex t x b =
    maybe comma (last (Mutexes (one_more_mutex t)) (Mutexes t) (λ m. totalled (record { name = x; has_initializer = b } ∷ m.what) m.totals))
    (must semicolon (give (totalled (record { name = x; has_initializer = b } ∷ []) (one_more_mutex t))))

abbrev pub on_mutexes : (t : Totals) → Plan (Mutexes t)
on_mutexes t =
    want A_name (and_name (counted Mutex_count (suc t.mutexes) ∷ [])) (λ p x.
    maybe assign (must (The_word (codes "PTHREAD_MUTEX_INITIALIZER")) (behind_mutex t (name p x) true)) (behind_mutex t (name p x) false))

-- a global is counted behind its name
abbrev pub a_global : Totals → List Count
a_global t = counted Globals (suc t.globals) ∷ []

abbrev pub behind_thread : (t : Totals) (cs : List Count) (x : Name) (length : Option ℤ) → Plan (Threads t)
behind_thread t cs x l =
    take comma None (these cs) (λ p y. last (Threads (one_more_global t)) (Threads t) (λ m. totalled (record { name = x; length = l } ∷ m.what) m.totals))
    (want semicolon (these cs) (λ p y. give (totalled (record { name = x; length = l } ∷ []) (one_more_global t))))

abbrev pub on_threads_of : (t : Totals) → Plan (Threads t)
on_threads_of t =
    want A_name (and_name []) (λ p x.
    take (The_mark mark.OpenBracket) None (these (a_global t)) (λ q y. want A_number no_counts (λ r i. must (The_mark mark.CloseBracket) (behind_thread t [] (name p x) (Some i))))
    (behind_thread t (a_global t) (name p x) None))

abbrev pub on_constant : Plan A_constant
on_constant =
    maybe (The_mark mark.Minus) (want A_number no_counts (λ p i. give (constant.Number (neg_ℤ i))))
    (maybe null_word (give constant.Null) (want A_number no_counts (λ p i. give (constant.Number i))))

abbrev pub global : (k : ℕ) (x : Name) → GlobalForm → GlobalDeclarator
global k x f = record { stars = k; name = x; form = f }

abbrev pub on_global : (b : Base) (k : ℕ) (x : Name) (t : Totals) → Plan (Behind_global b k x t)
on_global b k x t =
    take (The_mark mark.OpenBracket) None (these (a_global t)) (λ q y. want A_number no_counts (λ r i. must (The_mark mark.CloseBracket)
    (last (More_globals b (one_more_global t)) (Behind_global b k x t) (λ m. totalled (global k x (form.Array i) ∷ m.what) m.totals))))
    (take assign None (these (a_global t)) (λ q y. call A_constant (λ c.
    last (More_globals b (one_more_global t)) (Behind_global b k x t) (λ m. totalled (global k x (form.Constant c) ∷ m.what) m.totals)))
    (take comma None (these (a_global t)) (λ q y. last (Next_global b (one_more_global t)) (Behind_global b k x t) (λ m. totalled (global k x form.Plain ∷ m.what) m.totals))
    (want semicolon (these (a_global t)) (λ q y. give (totalled (global k x form.Plain ∷ []) (one_more_global t))))))

abbrev pub on_more_globals : (b : Base) (t : Totals) → Plan (More_globals b t)
on_more_globals b t = maybe comma (last (Next_global b t) (More_globals b t) (λ m. m)) (must semicolon (give (totalled [] t)))

abbrev pub on_next_global : (b : Base) (t : Totals) → Plan (Next_global b t)
on_next_global b t = call (Stars 0) (λ k. want A_name (and_name []) (λ p x. last (Behind_global b k (name p x) t) (Next_global b t) (λ m. m)))

abbrev pub a_parameter : ℕ → List Count
a_parameter j = counted Parameter_count (suc j) ∷ []

abbrev pub unnamed : ParameterType → Parameter
unnamed of = record { of = of; name = None }

abbrev pub on_type : (of : ParameterType) (j : ℕ) → Plan (Behind_type of j)
on_type of j =
    take A_name None (and_name (a_parameter j)) (λ p x. last (More_parameters (suc j)) (Behind_type of j) (λ ds. record { of = of; name = Some (name p x) } ∷ ds))
    (take comma None (these (a_parameter j)) (λ p x. last (Next_parameter (suc j)) (Behind_type of j) (λ ds. unnamed of ∷ ds))
    (want close_paren (these (a_parameter j)) (λ p x. give (unnamed of ∷ []))))

abbrev pub on_more_parameters : (j : ℕ) → Plan (More_parameters j)
on_more_parameters j = maybe comma (last (Next_parameter j) (More_parameters j) (λ ds. ds)) (must close_paren (give []))

-- behind the first words of a parameter
module _ (g : Goal) (j : ℕ) (f : (of : ParameterType) → Plan g) where
  abbrev pub behind_int : Plan g
  behind_int = call (Stars 0) (λ k. f (parameter.Value (record { base = base.Int; stars = k })))

  abbrev pub behind_struct : Plan g
  behind_struct = want A_name (and_name []) (λ p x. must star (call (Stars 1) (λ k. f (parameter.Value (record { base = base.Struct (name p x); stars = k })))))

abbrev pub on_next_parameter : (j : ℕ) → Plan (Next_parameter j)
on_next_parameter j =
    let f = λ (of : ParameterType). last (Behind_type of j) (Next_parameter j) (λ ds. ds) in
    maybe (The_word (codes "void")) (must star (f parameter.Pointer))
    (maybe (The_word (codes "int")) (behind_int (Next_parameter j) j f) (must (The_word (codes "struct")) (behind_struct (Next_parameter j) j f)))

abbrev pub on_parameters : Plan Parameters
on_parameters =
    let f = λ (of : ParameterType). last (Behind_type of 0) Parameters (λ ds. ds) in
    maybe close_paren (give [])
    (maybe (The_word (codes "void")) (maybe star (f parameter.Pointer) (must close_paren (give [])))
    (maybe (The_word (codes "int")) (behind_int Parameters 0 f) (must (The_word (codes "struct")) (behind_struct Parameters 0 f))))

abbrev pub on_function_body : (t : Totals) → Plan (Body_of t)
on_function_body t =
    maybe semicolon (give (totalled None t))
    (want open_brace (these (counted Functions (suc t.functions) ∷ [])) (λ p x. call (Statements false 1 true t.items) (λ m.
    give (totalled (Some (record { statements = m.what.what; close = item (suc m.what.items) m.pos })) (one_more_function t (suc m.what.items))))))

abbrev pub on_function : (r : ResultType) (t : Totals) → Plan (Function_of r t)
on_function r t = want A_name (and_name []) (λ p x. must open_paren (last (Behind_paren r (name p x) t) (Function_of r t) (λ m. m)))

abbrev pub behind_paren : (r : ResultType) (x : Name) (t : Totals) → Plan (Behind_paren r x t)
behind_paren r x t = call Parameters (λ ds. last (Body_of t) (Behind_paren r x t) (λ b. totalled (record { result = r; name = x; parameters = ds; body = b.what }) b.totals))

abbrev pub missing : ResultType → Option Firm
missing r = Some (Star, stars_missing r)

abbrev pub behind_base : (b : Base) (t : Totals) → Plan (Behind_base b t)
behind_base b t =
    call (Stars 0) (λ k. want A_name (and_name []) (λ p x.
    let r = result.Value (record { base = b; stars = k }) in
    take open_paren (missing r) no_counts (λ q y. last (Behind_paren r (name p x) t) (Behind_base b t) (λ m. totalled (top.Function m.what) m.totals))
    (last (Behind_global b k (name p x) t) (Behind_base b t) (λ m. totalled (top.Globals (globals.Variables b m.what)) m.totals))))

abbrev pub behind_void : (t : Totals) → Plan (Behind_void t)
behind_void t =
    maybe star (last (Function_of result.Pointer t) (Behind_void t) (λ m. totalled (top.Function m.what) m.totals))
    (last (Function_of result.Void t) (Behind_void t) (λ m. totalled (top.Function m.what) m.totals))

-- a declaration of globals or a function, or what else stands there
module _ (g : Goal) (t : Totals) (f : Totalled Top → Plan g) where
  abbrev pub on_declaration : Plan g → Plan g
  on_declaration otherwise =
      maybe (The_word (codes "static")) (call (Qualified t) f)
      (maybe (The_word (codes "volatile")) (call (Qualified t) f)
      (maybe (The_word (codes "pthread_mutex_t")) (call (Mutexes t) (λ m. f (totalled (top.Globals (globals.Mutexes m.what)) m.totals)))
      (maybe (The_word (codes "pthread_t")) (call (Threads t) (λ m. f (totalled (top.Globals (globals.Threads m.what)) m.totals)))
      (maybe (The_word (codes "void")) (call (Behind_void t) f)
      (maybe (The_word (codes "int")) (call (Behind_base base.Int t) f) otherwise)))))

abbrev pub on_qualified : (t : Totals) → Plan (Qualified t)
on_qualified t = on_declaration (Qualified t) t give (must (The_word (codes "struct")) (want A_name (and_name []) (λ p x. last (Behind_base (base.Struct (name p x)) t) (Qualified t) (λ m. m))))

abbrev pub behind_tag : (x : Name) (t : Totals) → Plan (Behind_tag x t)
behind_tag x t =
    take open_brace None (these (counted Structs (suc t.structs) ∷ [])) (λ p y. call (A_field 0) (λ fs. must semicolon (give (totalled (top.Struct (record { name = x; fields = fs })) (one_more_struct t)))))
    (last (Behind_base (base.Struct x) t) (Behind_tag x t) (λ m. m))

abbrev pub some_top : (t : Totals) → Totalled Top → Plan (A_top t)
some_top t m = give (totalled (Some m.what) m.totals)

abbrev pub on_top : (t : Totals) → Plan (A_top t)
on_top t =
    on_declaration (A_top t) t (some_top t) (maybe (The_word (codes "struct")) (want A_name (and_name []) (λ p x. call (Behind_tag (name p x) t) (some_top t))) (give (totalled None t)))

abbrev pub behind_top : (t : Totals) → Option Top → Totals → Plan (Tops t)
behind_top t None u = give (totalled [] u)
behind_top t (Some a) u = last (Tops u) (Tops t) (λ m. totalled (a ∷ m.what) m.totals)

abbrev pub on_tops : (t : Totals) → Plan (Tops t)
on_tops t = call (A_top t) (λ a. behind_top t a.what a.totals)

abbrev pub on_program : Plan A_program
on_program = call (Tops nothing_yet) (λ m. must The_end (give (record { tops = m.what })))

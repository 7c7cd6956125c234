-- What the tokens of declarations and of a program are. `Spells allowed p n a ts m us`: with the counts n before, the tokens ts begin with a spelling of a as a p, in which only what is allowed
-- is counted; behind it the counts are m, and us follow.
use Rattle.std.specs.Prelude.{◌≡◌, ℕ, ℤ, suc, ◌+◌, neg_ℤ, true, false, List, [], ◌∷◌, length, Option, Some, None, codes, if◌then◌else◌}
use Rattle.ca_tree.specs.declared.text.Pos.{Pos}
use Rattle.ca_tree.specs.declared.token.Mark.TheVariants as mark
use Rattle.ca_tree.specs.declared.token.Token.{Token}
use Rattle.ca_tree.specs.declared.tree.Base.{Base}
use Rattle.ca_tree.specs.declared.tree.Declarator.{Declarator}
use Rattle.ca_tree.specs.declared.tree.Fields.{Fields as FieldsOf}
use Rattle.ca_tree.specs.declared.tree.MutexDeclarator.{MutexDeclarator}
use Rattle.ca_tree.specs.declared.tree.ThreadDeclarator.{ThreadDeclarator}
use Rattle.ca_tree.specs.declared.tree.Constant.{Constant}
use Rattle.ca_tree.specs.declared.tree.Constant.TheVariants as constant
use Rattle.ca_tree.specs.declared.tree.GlobalForm.{GlobalForm}
use Rattle.ca_tree.specs.declared.tree.GlobalForm.TheVariants as form
use Rattle.ca_tree.specs.declared.tree.GlobalDeclarator.{GlobalDeclarator}
use Rattle.ca_tree.specs.declared.tree.Globals.{Globals as GlobalsOf}
use Rattle.ca_tree.specs.declared.tree.Globals.TheVariants as globals
use Rattle.ca_tree.specs.declared.tree.ResultType.{ResultType}
use Rattle.ca_tree.specs.declared.tree.ResultType.TheVariants as result
use Rattle.ca_tree.specs.declared.tree.ParameterType.{ParameterType}
use Rattle.ca_tree.specs.declared.tree.ParameterType.TheVariants as parameter
use Rattle.ca_tree.specs.declared.tree.Parameter.{Parameter}
use Rattle.ca_tree.specs.declared.tree.Stmt.{Stmt}
use Rattle.ca_tree.specs.declared.tree.Body.{Body}
use Rattle.ca_tree.specs.declared.tree.Function.{Function}
use Rattle.ca_tree.specs.declared.tree.Top.{Top}
use Rattle.ca_tree.specs.declared.tree.Top.TheVariants as top
use Rattle.ca_tree.specs.declared.tree.Program.{Program}
use Rattle.ca_tree.specs.declared.counted.Counted.TheVariants.{Items, Functions, Globals, Mutexes, Structs, Fields, Parameters}
use Rattle.ca_tree.specs.PhraseTrees.{has_star}
use Rattle.ca_tree.specs.StatementTrees.{item}
use Rattle.ca_tree.specs.Counts.{Totals, nothing_yet, one_more_global, one_more_mutex, one_more_struct, one_more_function}
use Rattle.ca_grammar.specs.Words.{The_mark, The_word, A_number, The_end, Takes, Skips, null_word, open_paren, close_paren, open_brace, close_brace, comma, semicolon, star, assign}
use Rattle.ca_grammar.specs.Limits.{Allowed, Limit, Star}
use Rattle.ca_grammar.specs.Expressions.{name}
use Rattle.ca_grammar.specs.Phrases.{Names, Stars, A_base}
use Rattle.ca_grammar.specs.Phrases as phrase
use Rattle.ca_grammar.specs.Statements.{Statements}
use Rattle.ca_grammar.specs.Statements as statement

-- what can be spelled
pub data Part : Type 0 where
  -- behind j fields
  Field_declarators : (b : Base) (j : ℕ) → Part
  More_fields : (j : ℕ) → Part
  A_constant : Part
  A_length : Part
  A_form : Part
  A_mutex : Part
  More_mutexes : Part
  A_thread : Part
  More_threads : Part
  A_global : (b : Base) → Part
  More_globals : (b : Base) → Part
  A_declaration_of_globals : Part
  A_result : Part
  A_parameter_type : Part
  -- behind j parameters
  A_parameter : (j : ℕ) → Part
  More_parameters : (j : ℕ) → Part
  -- behind the `(` of a function
  Parameters_behind : Part
  A_body : Part
  A_function : Part
  -- behind the words `static` and `volatile`
  A_qualified : Part
  A_top : Part
  Tops : Part
  A_program : Part

abbrev pub Tree : Part → Type 0
Tree (Field_declarators b j) = List Declarator
Tree (More_fields j) = List FieldsOf
Tree A_constant = Constant
Tree A_length = ℤ
Tree A_form = GlobalForm
Tree A_mutex = MutexDeclarator
Tree More_mutexes = List MutexDeclarator
Tree A_thread = ThreadDeclarator
Tree More_threads = List ThreadDeclarator
Tree (A_global b) = GlobalDeclarator
Tree (More_globals b) = List GlobalDeclarator
Tree A_declaration_of_globals = GlobalsOf
Tree A_result = ResultType
Tree A_parameter_type = ParameterType
Tree (A_parameter j) = Parameter
Tree (More_parameters j) = List Parameter
Tree Parameters_behind = List Parameter
Tree A_body = Option Body
Tree A_function = Function
Tree A_qualified = Top
Tree A_top = Top
Tree Tops = List Top
Tree A_program = Program

-- the result of a function is no struct without a star, which is found at the `(`
abbrev pub stars_missing : ResultType → ℕ
stars_missing (result.Value t) = if has_star t.base t.stars then 0 else 1
stars_missing r = 0

pub data Spells (allowed : Allowed) : (p : Part) → Totals → Tree p → List Token → Totals → List Token → Type 0 where
  -- struct = "struct" name "{" field { field } "}" ";"    field = base declr { "," declr } ";"    declr = { "*" } name
  last_field : {b : Base} {j k : ℕ} {n : Totals} {p : Pos} {t : List ℕ} {ts us vs ws : List Token} → phrase.Spells allowed (Stars 0) k ts us → has_star b k ≡ true → allowed (Limit Fields) (suc j) us ≡ true
      → Names allowed us p t vs → Skips semicolon vs ws → Spells allowed (Field_declarators b j) n (record { stars = k; name = name p t } ∷ []) ts n ws
  another_field : {b : Base} {j k : ℕ} {n : Totals} {p : Pos} {t : List ℕ} {more : List Declarator} {ts us vs ws xs : List Token} → phrase.Spells allowed (Stars 0) k ts us → has_star b k ≡ true
      → allowed (Limit Fields) (suc j) us ≡ true → Names allowed us p t vs → Skips comma vs ws → Spells allowed (Field_declarators b (suc j)) n more ws n xs
      → Spells allowed (Field_declarators b j) n (record { stars = k; name = name p t } ∷ more) ts n xs
  no_more_fields : {j : ℕ} {n : Totals} {us : List Token} → Spells allowed (More_fields j) n [] us n us
  more_fields : {b : Base} {j : ℕ} {n : Totals} {ds : List Declarator} {more : List FieldsOf} {ts us vs ws : List Token} → phrase.Spells allowed A_base b ts us → Spells allowed (Field_declarators b j) n ds us n vs
      → Spells allowed (More_fields (j + length ds)) n more vs n ws → Spells allowed (More_fields j) n (record { base = b; declarators = ds } ∷ more) ts n ws
  a_struct : {n : Totals} {p : Pos} {t : List ℕ} {f : FieldsOf} {more : List FieldsOf} {ts us vs ws xs ys zs : List Token} → Skips (The_word (codes "struct")) ts us → Names allowed us p t vs
      → allowed (Limit Structs) (suc n.structs) vs ≡ true → Skips open_brace vs ws → Spells allowed (More_fields 0) n (f ∷ more) ws n xs → Skips close_brace xs ys → Skips semicolon ys zs
      → Spells allowed A_top n (top.Struct (record { name = name p t; fields = f ∷ more })) ts (one_more_struct n) zs
  -- mdecl = name [ "=" "PTHREAD_MUTEX_INITIALIZER" ]
  a_mutex : {n : Totals} {p : Pos} {t : List ℕ} {ts us : List Token} → allowed (Limit Mutexes) (suc n.mutexes) ts ≡ true → Names allowed ts p t us
      → Spells allowed A_mutex n (record { name = name p t; has_initializer = false }) ts (one_more_mutex n) us
  a_mutex_with_initializer : {n : Totals} {p : Pos} {t : List ℕ} {ts us vs ws : List Token} → allowed (Limit Mutexes) (suc n.mutexes) ts ≡ true → Names allowed ts p t us → Skips assign us vs
      → Skips (The_word (codes "PTHREAD_MUTEX_INITIALIZER")) vs ws → Spells allowed A_mutex n (record { name = name p t; has_initializer = true }) ts (one_more_mutex n) ws
  no_more_mutexes : {n : Totals} {us : List Token} → Spells allowed More_mutexes n [] us n us
  more_mutexes : {n k m : Totals} {d : MutexDeclarator} {more : List MutexDeclarator} {ts us vs ws : List Token} → Skips comma ts us → Spells allowed A_mutex n d us k vs
      → Spells allowed More_mutexes k more vs m ws → Spells allowed More_mutexes n (d ∷ more) ts m ws
  -- tdecl = name [ "[" number "]" ]; a global is counted at the token behind its name
  a_length : {n : Totals} {p : Pos} {i : ℤ} {ts us vs ws : List Token} → Skips (The_mark mark.OpenBracket) ts us → Takes A_number us p i vs → Skips (The_mark mark.CloseBracket) vs ws
      → Spells allowed A_length n i ts n ws
  a_thread : {n : Totals} {p : Pos} {t : List ℕ} {ts us : List Token} → Names allowed ts p t us → allowed (Limit Globals) (suc n.globals) us ≡ true
      → Spells allowed A_thread n (record { name = name p t; length = None }) ts (one_more_global n) us
  threads : {n : Totals} {p : Pos} {t : List ℕ} {i : ℤ} {ts us vs : List Token} → Names allowed ts p t us → allowed (Limit Globals) (suc n.globals) us ≡ true → Spells allowed A_length n i us n vs
      → Spells allowed A_thread n (record { name = name p t; length = Some i }) ts (one_more_global n) vs
  no_more_threads : {n : Totals} {us : List Token} → Spells allowed More_threads n [] us n us
  more_threads : {n k m : Totals} {d : ThreadDeclarator} {more : List ThreadDeclarator} {ts us vs ws : List Token} → Skips comma ts us → Spells allowed A_thread n d us k vs
      → Spells allowed More_threads k more vs m ws → Spells allowed More_threads n (d ∷ more) ts m ws
  -- gdecl = { "*" } name [ "[" number "]" | "=" const ]    const = [ "-" ] number | "NULL"
  a_number : {n : Totals} {p : Pos} {i : ℤ} {ts us : List Token} → Takes A_number ts p i us → Spells allowed A_constant n (constant.Number i) ts n us
  a_negative : {n : Totals} {p : Pos} {i : ℤ} {ts us vs : List Token} → Skips (The_mark mark.Minus) ts us → Takes A_number us p i vs → Spells allowed A_constant n (constant.Number (neg_ℤ i)) ts n vs
  a_null : {n : Totals} {ts us : List Token} → Skips null_word ts us → Spells allowed A_constant n constant.Null ts n us
  plain : {n : Totals} {us : List Token} → Spells allowed A_form n form.Plain us n us
  an_array : {n : Totals} {i : ℤ} {ts us : List Token} → Spells allowed A_length n i ts n us → Spells allowed A_form n (form.Array i) ts n us
  a_constant : {n : Totals} {c : Constant} {ts us vs : List Token} → Skips assign ts us → Spells allowed A_constant n c us n vs → Spells allowed A_form n (form.Constant c) ts n vs
  a_global : {b : Base} {k : ℕ} {n : Totals} {p : Pos} {t : List ℕ} {f : GlobalForm} {ts us vs ws : List Token} → phrase.Spells allowed (Stars 0) k ts us → Names allowed us p t vs
      → allowed (Limit Globals) (suc n.globals) vs ≡ true → Spells allowed A_form n f vs n ws → Spells allowed (A_global b) n (record { stars = k; name = name p t; form = f }) ts (one_more_global n) ws
  no_more_globals : {b : Base} {n : Totals} {us : List Token} → Spells allowed (More_globals b) n [] us n us
  more_globals : {b : Base} {n k m : Totals} {d : GlobalDeclarator} {more : List GlobalDeclarator} {ts us vs ws : List Token} → Skips comma ts us → Spells allowed (A_global b) n d us k vs
      → Spells allowed (More_globals b) k more vs m ws → Spells allowed (More_globals b) n (d ∷ more) ts m ws
  -- global = "pthread_mutex_t" mdecl { "," mdecl } | "pthread_t" tdecl { "," tdecl } | base gdecl { "," gdecl }
  mutexes : {n k m : Totals} {d : MutexDeclarator} {more : List MutexDeclarator} {ts us vs ws : List Token} → Skips (The_word (codes "pthread_mutex_t")) ts us → Spells allowed A_mutex n d us k vs
      → Spells allowed More_mutexes k more vs m ws → Spells allowed A_declaration_of_globals n (globals.Mutexes (d ∷ more)) ts m ws
  threads_of : {n k m : Totals} {d : ThreadDeclarator} {more : List ThreadDeclarator} {ts us vs ws : List Token} → Skips (The_word (codes "pthread_t")) ts us → Spells allowed A_thread n d us k vs
      → Spells allowed More_threads k more vs m ws → Spells allowed A_declaration_of_globals n (globals.Threads (d ∷ more)) ts m ws
  variables : {b : Base} {n k m : Totals} {d : GlobalDeclarator} {more : List GlobalDeclarator} {ts us vs ws : List Token} → phrase.Spells allowed A_base b ts us → Spells allowed (A_global b) n d us k vs
      → Spells allowed (More_globals b) k more vs m ws → Spells allowed A_declaration_of_globals n (globals.Variables b (d ∷ more)) ts m ws
  -- function = ( "void" [ "*" ] | base { "*" } ) name "(" [ params ] ")" ( ";" | block )
  nothing : {n : Totals} {ts us : List Token} → Skips (The_word (codes "void")) ts us → Spells allowed A_result n result.Void ts n us
  a_pointer : {n : Totals} {ts us vs : List Token} → Skips (The_word (codes "void")) ts us → Skips star us vs → Spells allowed A_result n result.Pointer ts n vs
  a_value : {n : Totals} {b : Base} {k : ℕ} {ts us vs : List Token} → phrase.Spells allowed A_base b ts us → phrase.Spells allowed (Stars 0) k us vs
      → Spells allowed A_result n (result.Value (record { base = b; stars = k })) ts n vs
  -- params = "void" | param { "," param }    param = ( "void" "*" | base { "*" } ) [ name ]
  a_pointer_parameter : {n : Totals} {ts us vs : List Token} → Skips (The_word (codes "void")) ts us → Skips star us vs → Spells allowed A_parameter_type n parameter.Pointer ts n vs
  a_value_parameter : {n : Totals} {b : Base} {k : ℕ} {ts us vs : List Token} → phrase.Spells allowed A_base b ts us → phrase.Spells allowed (Stars 0) k us vs → has_star b k ≡ true
      → Spells allowed A_parameter_type n (parameter.Value (record { base = b; stars = k })) ts n vs
  -- a parameter is counted at its name, or at the token behind it
  a_named_parameter : {j : ℕ} {n : Totals} {of : ParameterType} {p : Pos} {t : List ℕ} {ts us vs : List Token} → Spells allowed A_parameter_type n of ts n us → allowed (Limit Parameters) (suc j) us ≡ true
      → Names allowed us p t vs → Spells allowed (A_parameter j) n (record { of = of; name = Some (name p t) }) ts n vs
  a_parameter : {j : ℕ} {n : Totals} {of : ParameterType} {ts us : List Token} → Spells allowed A_parameter_type n of ts n us → allowed (Limit Parameters) (suc j) us ≡ true
      → Spells allowed (A_parameter j) n (record { of = of; name = None }) ts n us
  last_parameter : {j : ℕ} {n : Totals} {ts us : List Token} → Skips close_paren ts us → Spells allowed (More_parameters j) n [] ts n us
  next_parameter : {j : ℕ} {n : Totals} {d : Parameter} {more : List Parameter} {ts us vs ws : List Token} → Skips comma ts us → Spells allowed (A_parameter j) n d us n vs
      → Spells allowed (More_parameters (suc j)) n more vs n ws → Spells allowed (More_parameters j) n (d ∷ more) ts n ws
  no_parameters : {n : Totals} {ts us : List Token} → Skips close_paren ts us → Spells allowed Parameters_behind n [] ts n us
  void_parameters : {n : Totals} {ts us vs : List Token} → Skips (The_word (codes "void")) ts us → Skips close_paren us vs → Spells allowed Parameters_behind n [] ts n vs
  some_parameters : {n : Totals} {d : Parameter} {more : List Parameter} {ts us vs : List Token} → Spells allowed (A_parameter 0) n d ts n us → Spells allowed (More_parameters 1) n more us n vs
      → Spells allowed Parameters_behind n (d ∷ more) ts n vs
  -- a function is counted at the `{` of its body; a prototype isn't
  no_body : {n : Totals} {ts us : List Token} → Skips semicolon ts us → Spells allowed A_body n None ts n us
  a_body : {n : Totals} {m : ℕ} {p : Pos} {all : List Stmt} {ts us vs ws : List Token} → allowed (Limit Functions) (suc n.functions) ts ≡ true → Skips open_brace ts us
      → statement.Spells allowed (Statements false 1) n.items all us m vs → allowed (Limit Items) (suc m) vs ≡ true → Takes close_brace vs p tt ws
      → Spells allowed A_body n (Some (record { statements = all; close = item (suc m) p })) ts (one_more_function n (suc m)) ws
  a_function : {n m : Totals} {r : ResultType} {p : Pos} {t : List ℕ} {ds : List Parameter} {body : Option Body} {ts us vs ws xs ys : List Token} → Spells allowed A_result n r ts n us → Names allowed us p t vs
      → allowed Star (stars_missing r) vs ≡ true → Skips open_paren vs ws → Spells allowed Parameters_behind n ds ws n xs → Spells allowed A_body n body xs m ys
      → Spells allowed A_function n (record { result = r; name = name p t; parameters = ds; body = body }) ts m ys
  -- top = struct | { "static" | "volatile" } ( global ";" | function )
  static_top : {n m : Totals} {a : Top} {ts us vs : List Token} → Skips (The_word (codes "static")) ts us → Spells allowed A_qualified n a us m vs → Spells allowed A_qualified n a ts m vs
  volatile_top : {n m : Totals} {a : Top} {ts us vs : List Token} → Skips (The_word (codes "volatile")) ts us → Spells allowed A_qualified n a us m vs → Spells allowed A_qualified n a ts m vs
  globals_of : {n m : Totals} {a : GlobalsOf} {ts us vs : List Token} → Spells allowed A_declaration_of_globals n a ts m us → Skips semicolon us vs → Spells allowed A_qualified n (top.Globals a) ts m vs
  function_of : {n m : Totals} {a : Function} {ts us : List Token} → Spells allowed A_function n a ts m us → Spells allowed A_qualified n (top.Function a) ts m us
  qualified : {n m : Totals} {a : Top} {ts us : List Token} → Spells allowed A_qualified n a ts m us → Spells allowed A_top n a ts m us
  -- program = { top }
  no_top : {n : Totals} {us : List Token} → Spells allowed Tops n [] us n us
  some_top : {n k m : Totals} {a : Top} {more : List Top} {ts us vs : List Token} → Spells allowed A_top n a ts k us → Spells allowed Tops k more us m vs → Spells allowed Tops n (a ∷ more) ts m vs
  a_program : {n m : Totals} {all : List Top} {ts us vs : List Token} → Spells allowed Tops n all ts m us → Skips The_end us vs → Spells allowed A_program n (record { tops = all }) ts m vs

-- these tokens, the end last, are a program in which only what is allowed is counted
abbrev pub IsProgram : Allowed → Program → List Token → Type 0
IsProgram allowed a ts = (m : Totals) × Spells allowed A_program nothing_yet a ts m []

-- What the tokens of types, calls, right sides and simple statements are. `Spells allowed p a ts us`: the tokens ts begin with a spelling of a as a p, in
-- which only what is allowed is counted, and us follow.
use Rattle.std.specs.Prelude.{◌≡◌, ℕ, suc, pos, true, false, List, [], ◌∷◌, length, Option, Some, None, codes}
use Rattle.ca_tree.specs.declared.text.Pos.{Pos}
use Rattle.ca_tree.specs.declared.token.Mark.TheVariants as mark
use Rattle.ca_tree.specs.declared.token.Token.{Token}
use Rattle.ca_tree.specs.declared.tree.Exp.{Exp}
use Rattle.ca_tree.specs.declared.tree.Exp.TheVariants as e
use Rattle.ca_tree.specs.declared.tree.Base.{Base}
use Rattle.ca_tree.specs.declared.tree.Base.TheVariants as base
use Rattle.ca_tree.specs.declared.tree.«Type».{«Type» as CType}
use Rattle.ca_tree.specs.declared.tree.Call.{Call}
use Rattle.ca_tree.specs.declared.tree.Malloc.{Malloc}
use Rattle.ca_tree.specs.declared.tree.Right.{Right}
use Rattle.ca_tree.specs.declared.tree.Right.TheVariants as right
use Rattle.ca_tree.specs.declared.tree.Library.{Library}
use Rattle.ca_tree.specs.declared.tree.Library.TheVariants as library
use Rattle.ca_tree.specs.declared.tree.UpdateOp.{UpdateOp}
use Rattle.ca_tree.specs.declared.tree.Simple.{Simple}
use Rattle.ca_tree.specs.declared.tree.Simple.TheVariants as simple
use Rattle.ca_tree.specs.declared.counted.Counted.TheVariants.{Arguments, StringBytes, NameBytes}
use Rattle.ca_grammar.specs.declared.operand.Operand.{Operand}
use Rattle.ca_grammar.specs.Words.{The_mark, The_word, A_string, A_name, A_name_of_the_source, An_update_operator, A_step_operator, Takes, Skips, begins_library_call, null_word, open_paren, close_paren, comma, star, assign}
use Rattle.ca_grammar.specs.Limits.{Allowed, Limit}
use Rattle.ca_grammar.specs.Expressions.{name}
use Rattle.ca_grammar.specs.Expressions as exp

-- what can be spelled
pub data Part : Type 0 where
  -- from k stars on, stars
  Stars : (k : ℕ) → Part
  A_base : Part
  A_type : Part
  -- behind the `(` of a call, or behind an argument: its `)` is the last
  Arguments_behind : Part
  More_arguments : Part
  A_call : Part
  -- behind the format of a `printf` and k arguments
  Print_arguments : (k : ℕ) → Part
  -- the count of elements, with its `*`
  A_count : Part
  -- behind the word `malloc`
  Behind_malloc : (p : Pos) (cast : Option CType) → Part
  A_right : Part
  An_initializer : Part
  A_library_call : Part
  A_simple : Part
  An_optional_expression : Part

abbrev pub Tree : Part → Type 0
Tree (Stars k) = ℕ
Tree A_base = Base
Tree A_type = CType
Tree Arguments_behind = List Exp
Tree More_arguments = List Exp
Tree A_call = Call
Tree (Print_arguments k) = List Exp
Tree A_count = Option Exp
Tree (Behind_malloc p cast) = Malloc
Tree A_right = Right
Tree An_initializer = Option Right
Tree A_library_call = Library
Tree A_simple = Simple
Tree An_optional_expression = Option Exp

-- the 1 that `++` and `--` add and take away
abbrev pub one : Pos → Exp
one p = e.Number p (pos 1)

-- a name that is short enough
pub record Names (allowed : Allowed) (ts : List Token) (p : Pos) (t : List ℕ) (us : List Token) : Type 0 where
  pub takes : Takes A_name ts p t us
  pub short : allowed (Limit NameBytes) (length t) ts ≡ true

abbrev pub Expression : Allowed → Operand → List Token → List Token → Type 0
Expression allowed a ts us = exp.Spells allowed exp.Expression a ts us

abbrev pub Unary : Allowed → Operand → List Token → List Token → Type 0
Unary allowed a ts us = exp.Spells allowed exp.Unary a ts us

-- `&` and a name
pub record Addresses (allowed : Allowed) (ts : List Token) (p : Pos) (t : List ℕ) (vs : List Token) : Type 0 where
  pub us : List Token
  pub ampersand : Skips (The_mark mark.Ampersand) ts us
  pub names : Names allowed us p t vs

-- a word of the library and its `(`
pub record Calls (w : List ℕ) (ts vs : List Token) : Type 0 where
  pub us : List Token
  pub word : Skips (The_word w) ts us
  pub paren : Skips open_paren us vs

-- a target, at the start of a statement
pub record Targets (allowed : Allowed) (a : Operand) (ts us : List Token) : Type 0 where
  pub unary : Unary allowed a ts us
  pub no_call : begins_library_call ts ≡ false

pub data Spells (allowed : Allowed) : (p : Part) → Tree p → List Token → List Token → Type 0 where
  no_star : {k : ℕ} {us : List Token} → Spells allowed (Stars k) k us us
  a_star : {k n : ℕ} {ts us vs : List Token} → Skips star ts us → Spells allowed (Stars (suc k)) n us vs → Spells allowed (Stars k) n ts vs
  -- base = "int" | "struct" name
  int_base : {ts us : List Token} → Skips (The_word (codes "int")) ts us → Spells allowed A_base base.Int ts us
  struct_base : {p : Pos} {t : List ℕ} {ts us vs : List Token} → Skips (The_word (codes "struct")) ts us → Names allowed us p t vs → Spells allowed A_base (base.Struct (name p t)) ts vs
  a_type : {b : Base} {k : ℕ} {ts us vs : List Token} → Spells allowed A_base b ts us → Spells allowed (Stars 0) k us vs → Spells allowed A_type (record { base = b; stars = k }) ts vs
  -- call = name "(" [ exp { "," exp } ] ")"
  no_arguments : {ts us : List Token} → Skips close_paren ts us → Spells allowed Arguments_behind [] ts us
  some_arguments : {a : Operand} {more : List Exp} {ts us vs : List Token} → Expression allowed a ts us → Spells allowed More_arguments more us vs → Spells allowed Arguments_behind (a.exp ∷ more) ts vs
  last_argument : {ts us : List Token} → Skips close_paren ts us → Spells allowed More_arguments [] ts us
  next_argument : {a : Operand} {more : List Exp} {ts us vs ws : List Token} → Skips comma ts us → Expression allowed a us vs → Spells allowed More_arguments more vs ws
      → Spells allowed More_arguments (a.exp ∷ more) ts ws
  a_call : {p : Pos} {t : List ℕ} {more : List Exp} {ts us vs ws : List Token} → Takes A_name_of_the_source ts p t us → allowed (Limit NameBytes) (length t) ts ≡ true → Skips open_paren us vs
      → Spells allowed Arguments_behind more vs ws → Spells allowed A_call (record { name = name p t; arguments = more }) ts ws
  -- right = exp | call | [ "(" base { "*" } ")" ] "malloc" "(" [ unary "*" ] "sizeof" "(" base { "*" } ")" ")"
  a_value : {a : Operand} {ts us : List Token} → begins_library_call ts ≡ false → Expression allowed a ts us → Spells allowed A_right (right.Value a.exp) ts us
  a_called_value : {c : Call} {ts us : List Token} → Spells allowed A_call c ts us → Spells allowed A_right (right.Call c) ts us
  no_count : {us : List Token} → Spells allowed A_count None us us
  a_count : {a : Operand} {ts us vs : List Token} → Unary allowed a ts us → Skips star us vs → Spells allowed A_count (Some a.exp) ts vs
  a_malloc : {p : Pos} {cast : Option CType} {c : Option Exp} {t : CType} {ts us vs ws xs ys zs os : List Token} → Skips open_paren ts us → Spells allowed A_count c us vs
      → Skips (The_word (codes "sizeof")) vs ws → Skips open_paren ws xs → Spells allowed A_type t xs ys → Skips close_paren ys zs → Skips close_paren zs os
      → Spells allowed (Behind_malloc p cast) (record { pos = p; cast = cast; count = c; of = t }) ts os
  plain_malloc : {p : Pos} {m : Malloc} {ts us vs : List Token} → Takes (The_word (codes "malloc")) ts p tt us → Spells allowed (Behind_malloc p None) m us vs
      → Spells allowed A_right (right.Malloc m) ts vs
  cast_malloc : {p : Pos} {t : CType} {m : Malloc} {ts us vs ws xs ys : List Token} → Takes open_paren ts p tt us → Spells allowed A_type t us vs → Skips close_paren vs ws
      → Skips (The_word (codes "malloc")) ws xs → Spells allowed (Behind_malloc p (Some t)) m xs ys → Spells allowed A_right (right.Malloc m) ts ys
  no_initializer : {us : List Token} → Spells allowed An_initializer None us us
  an_initializer : {r : Right} {ts us vs : List Token} → Skips assign ts us → Spells allowed A_right r us vs → Spells allowed An_initializer (Some r) ts vs
  -- library = ( "pthread_mutex_lock" | "pthread_mutex_unlock" ) "(" "&" name ")"
  a_lock : {p : Pos} {t : List ℕ} {ts us vs ws : List Token} → Calls (codes "pthread_mutex_lock") ts us → Addresses allowed us p t vs → Skips close_paren vs ws
      → Spells allowed A_library_call (library.Lock (name p t)) ts ws
  an_unlock : {p : Pos} {t : List ℕ} {ts us vs ws : List Token} → Calls (codes "pthread_mutex_unlock") ts us → Addresses allowed us p t vs → Skips close_paren vs ws
      → Spells allowed A_library_call (library.Unlock (name p t)) ts ws
  -- | "pthread_create" "(" "&" name "," "NULL" "," name "," exp ")"
  a_create : {p q : Pos} {t f : List ℕ} {a : Operand} {ts us vs ws xs ys zs os ps qs : List Token} → Calls (codes "pthread_create") ts us → Addresses allowed us p t vs → Skips comma vs ws
      → Skips null_word ws xs → Skips comma xs ys → Names allowed ys q f zs → Skips comma zs os → Expression allowed a os ps → Skips close_paren ps qs
      → Spells allowed A_library_call (library.Create (name p t) (name q f) a.exp) ts qs
  -- | "pthread_join" "(" exp "," "NULL" ")" | ( "free" | "assert" ) "(" exp ")"
  a_join : {a : Operand} {ts us vs ws xs ys : List Token} → Calls (codes "pthread_join") ts us → Expression allowed a us vs → Skips comma vs ws → Skips null_word ws xs → Skips close_paren xs ys
      → Spells allowed A_library_call (library.Join a.exp) ts ys
  a_free : {a : Operand} {ts us vs ws : List Token} → Calls (codes "free") ts us → Expression allowed a us vs → Skips close_paren vs ws → Spells allowed A_library_call (library.Free a.exp) ts ws
  an_assert : {a : Operand} {ts us vs ws : List Token} → Calls (codes "assert") ts us → Expression allowed a us vs → Skips close_paren vs ws → Spells allowed A_library_call (library.Assert a.exp) ts ws
  -- | "printf" "(" string { "," exp } ")"
  last_print_argument : {k : ℕ} {ts us : List Token} → Skips close_paren ts us → Spells allowed (Print_arguments k) [] ts us
  next_print_argument : {k : ℕ} {a : Operand} {more : List Exp} {ts us vs ws : List Token} → Skips comma ts us → allowed (Limit Arguments) (suc k) us ≡ true → Expression allowed a us vs
      → Spells allowed (Print_arguments (suc k)) more vs ws → Spells allowed (Print_arguments k) (a.exp ∷ more) ts ws
  a_print : {p : Pos} {t : List ℕ} {more : List Exp} {ts us vs ws : List Token} → Calls (codes "printf") ts us → Takes A_string us p t vs → allowed (Limit StringBytes) (length t) us ≡ true
      → Spells allowed (Print_arguments 0) more vs ws → Spells allowed A_library_call (library.Print p t more) ts ws
  -- simple = unary "=" right | unary ( "+=" | "-=" | "*=" | "/=" | "%=" ) exp | unary ( "++" | "--" ) | ( "++" | "--" ) unary | call | library
  a_set : {a : Operand} {r : Right} {ts us vs ws : List Token} → Targets allowed a ts us → Skips assign us vs → Spells allowed A_right r vs ws → Spells allowed A_simple (simple.Set a.exp r) ts ws
  an_update : {p : Pos} {o : UpdateOp} {a b : Operand} {ts us vs ws : List Token} → Targets allowed a ts us → Takes An_update_operator us p o vs → Expression allowed b vs ws
      → Spells allowed A_simple (simple.Update a.exp o b.exp) ts ws
  a_step_behind : {p : Pos} {o : UpdateOp} {a : Operand} {ts us vs : List Token} → Targets allowed a ts us → Takes A_step_operator us p o vs → Spells allowed A_simple (simple.Update a.exp o (one p)) ts vs
  a_step_before : {p : Pos} {o : UpdateOp} {a : Operand} {ts us vs : List Token} → Takes A_step_operator ts p o us → Unary allowed a us vs → Spells allowed A_simple (simple.Update a.exp o (one p)) ts vs
  a_called : {c : Call} {ts us : List Token} → Spells allowed A_call c ts us → Spells allowed A_simple (simple.Call c) ts us
  a_library_called : {c : Library} {ts us : List Token} → Spells allowed A_library_call c ts us → Spells allowed A_simple (simple.Library c) ts us
  no_expression : {us : List Token} → Spells allowed An_optional_expression None us us
  some_expression : {a : Operand} {ts us : List Token} → Expression allowed a ts us → Spells allowed An_optional_expression (Some a.exp) ts us

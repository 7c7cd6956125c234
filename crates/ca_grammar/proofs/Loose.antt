-- What a plan may read, whatever it looks at, and what is spelled so.
use Rattle.std.proofs.Common.{◌≡◌, ◌⊎◌, ℕ, suc, ◌<◌, ◌≤◌, ◌+◌, Bool, true, false, ◌&&◌, List, ◌∷◌, ◌++◌, All, length, Option, Some, None, codes}
use Rattle.ca_tree.specs.declared.text.Pos.{Pos}
use Rattle.ca_tree.specs.declared.token.Token.{Token}
use Rattle.ca_tree.specs.declared.tree.Name.{Name}
use Rattle.ca_tree.specs.declared.tree.Base.{Base}
use Rattle.ca_tree.specs.declared.tree.Simple.{Simple}
use Rattle.ca_tree.specs.declared.tree.MutexDeclarator.{MutexDeclarator}
use Rattle.ca_tree.specs.declared.tree.ThreadDeclarator.{ThreadDeclarator}
use Rattle.ca_tree.specs.declared.tree.GlobalDeclarator.{GlobalDeclarator}
use Rattle.ca_tree.specs.declared.tree.ResultType.{ResultType}
use Rattle.ca_tree.specs.declared.tree.Parameter.{Parameter}
use Rattle.ca_tree.specs.declared.tree.Top.{Top}
use Rattle.ca_grammar.specs.declared.faults.Count.{Count}
use Rattle.ca_tree.specs.declared.counted.Counted.TheVariants.{Items}
use Rattle.ca_tree.specs.Counts.{Totals, nothing_yet}
use Rattle.ca_tree.specs.PhraseTrees as tree
use Rattle.ca_grammar.specs.declared.operand.Operand.{Operand}
use Rattle.ca_grammar.specs.Words.{Class, The_word, A_name, Of, Takes, Skips, Lacks, place, open_paren, open_brace, close_brace, semicolon}
use Rattle.ca_grammar.specs.Limits.{Rule, Limit, Depth, Star, Limits, Firm, within, Allowed, kept}
use Rattle.ca_grammar.specs.Expressions.{Spells, name}
use Rattle.ca_grammar.specs.Expressions as part
use Rattle.ca_grammar.specs.Phrases as phrase
use Rattle.ca_grammar.specs.Statements as statement
use Rattle.ca_grammar.specs.Declarations as declaration
use Rattle.ca_grammar.specs.Declarations.{stars_missing}
use Rattle.ca_grammar.specs.Texts.{SpellsWhole}
use Rattle.ca_grammar.specs.Goals.{Goal, Primary, Postfixes, Postfix, Level, Operators, Behind, From, Unary, Nameless_unary, Expression, Whole, Stars, Starred_name, Base_at, Type_name, Arguments_behind, More_arguments, Print_arguments, Behind_malloc, A_right, Initializer, Behind_target, Simple_at, First_declarator, More_declarators, More_threads, Threads_at, Variables_at, Local_at, Statements, A_statement, Braceless, A_body, Condition, Else_part, For_first, For_condition, For_step, Field_declarators, A_field, More_fields, Mutexes, Threads, A_constant, Behind_global, More_globals, Next_global, Behind_type, More_parameters, Next_parameter, Parameters, Body_of, Function_of, Behind_paren, Behind_base, Behind_void, Qualified, Behind_tag, A_top, Tops, A_program, Tree, Starred}
use Rattle.ca_grammar.specs.Plan.{Plan, give, take, want, call}
use Rattle.ca_grammar.specs.ExpressionPlans.{one_more}
use Rattle.ca_grammar.specs.Reads.{Yes, No, Reads}

-- the numbers that are counted at a token are allowed there
abbrev pub Counts : Limits → ℕ → List Count → List Token → Type 0
Counts limits k cs ts = All (λ c. kept limits k (Limit c.of) c.number ts ≡ true) cs

-- a rule that is kept everywhere is kept
abbrev pub Shallow : Limits → Option Firm → Type 0
Shallow limits None = Unit {0}
Shallow limits (Some f) = within (limits f.0) f.1 ≡ true

-- one that stands v deep
abbrev pub Fits : Limits → (v : ℕ) (inside : Bool) → Operand → Type 0
Fits limits v inside a = within (limits Depth) (v + (a.depth + one_more (inside && a.in_parentheses))) ≡ true

abbrev pub Holds : Limits → Operand → Type 0
Holds limits a = (within (limits Depth) (0 + a.depth) ≡ true) × (1 ≤ a.depth)

-- the place of a goal lets a leaf stand there, and what was read of it stays where it is
abbrev pub Roomy : Limits → Goal → Type 0
Roomy limits (Primary cs v inside) = within (limits Depth) (v + 1) ≡ true
Roomy limits (Postfixes v a) = (within (limits Depth) (v + a.depth) ≡ true) × (1 ≤ a.depth)
Roomy limits (Postfix cs v inside) = within (limits Depth) (v + 1) ≡ true
Roomy limits (Level l cs v inside) = within (limits Depth) (v + 1) ≡ true
Roomy limits (Operators l v a) = (within (limits Depth) (v + a.depth) ≡ true) × (1 ≤ a.depth)
Roomy limits (Behind l a) = Holds limits a
Roomy limits (From l a) = Holds limits a
Roomy limits (Behind_target a) = Holds limits a
Roomy limits g = within (limits Depth) 1 ≡ true

-- from a unary a on, operators up to level l make b
pub data Follows (allowed : Allowed) : (l : ℕ) (a b : Operand) → List Token → List Token → Type 0 where
  f_unary : {a : Operand} {us : List Token} → Follows allowed 0 a a us us
  f_level : {l : ℕ} {a b c : Operand} {ts us vs : List Token} → Follows allowed l a b ts us → Spells allowed (part.Operators (suc l) b) c us vs → Follows allowed (suc l) a c ts vs

-- what makes a simple statement of a target
pub data Finishes (allowed : Allowed) (a : Operand) : Simple → List Token → List Token → Type 0 where
  f_target : {s : Simple} {ts us : List Token} → ((pre : List Token) → phrase.Targets allowed a pre ts → phrase.Spells allowed phrase.A_simple s pre us) → Finishes allowed a s ts us

-- stars and a name
pub record SpellsStarred (limits : Limits) (k : ℕ) (cs at_name : List Count) (b : Base) (x : Starred) (ts vs : List Token) : Type 0 where
  pub us : List Token
  pub p : Pos
  pub t : List ℕ
  pub stars : phrase.Spells (kept limits k) (phrase.Stars 0) x.stars ts us
  pub has_star : tree.has_star b x.stars ≡ true
  pub names : phrase.Names (kept limits k) us p t vs
  pub is_name : x.name ≡ name p t
  pub at : place ts ≡ Some x.pos
  pub first : Counts limits k cs ts
  pub counted : Counts limits k at_name us

-- a list with a first
abbrev pub Nonempty : {X : Type 0} → List X → (X → List X → Type 0) → Type 0
Nonempty {X} xs P = (x : X) × (more : List X) × (xs ≡ x ∷ more) × P x more

-- a declarator with more of them behind it, and the `;`
pub record DeclaresMutexes (allowed : Allowed) (t m : Totals) (d : MutexDeclarator) (more : List MutexDeclarator) (ts us : List Token) : Type 0 where
  pub first_totals : Totals
  pub behind_first : List Token
  pub behind_all : List Token
  pub first : declaration.Spells allowed declaration.A_mutex t d ts first_totals behind_first
  pub others : declaration.Spells allowed declaration.More_mutexes first_totals more behind_first m behind_all
  pub end : Skips semicolon behind_all us

pub record DeclaresThreads (allowed : Allowed) (t m : Totals) (d : ThreadDeclarator) (more : List ThreadDeclarator) (ts us : List Token) : Type 0 where
  pub first_totals : Totals
  pub behind_first : List Token
  pub behind_all : List Token
  pub first : declaration.Spells allowed declaration.A_thread t d ts first_totals behind_first
  pub others : declaration.Spells allowed declaration.More_threads first_totals more behind_first m behind_all
  pub end : Skips semicolon behind_all us

pub record DeclaresGlobals (allowed : Allowed) (b : Base) (t m : Totals) (d : GlobalDeclarator) (more : List GlobalDeclarator) (ts us : List Token) : Type 0 where
  pub first_totals : Totals
  pub behind_first : List Token
  pub behind_all : List Token
  pub first : declaration.Spells allowed (declaration.A_global b) t d ts first_totals behind_first
  pub others : declaration.Spells allowed (declaration.More_globals b) first_totals more behind_first m behind_all
  pub end : Skips semicolon behind_all us

-- a parameter with more of them behind it, and the `)`, behind j others
pub record DeclaresParameters (allowed : Allowed) (j : ℕ) (n : Totals) (d : Parameter) (more : List Parameter) (ts us : List Token) : Type 0 where
  pub behind_first : List Token
  pub first : declaration.Spells allowed (declaration.A_parameter j) n d ts n behind_first
  pub others : declaration.Spells allowed (declaration.More_parameters (suc j)) n more behind_first n us

-- stars and the name of a global or of a function before these tokens
pub record NamedBefore (allowed : Allowed) (k : ℕ) (x : Name) (pre ts : List Token) : Type 0 where
  pub us : List Token
  pub p : Pos
  pub t : List ℕ
  pub stars : phrase.Spells allowed (phrase.Stars 0) k pre us
  pub names : phrase.Names allowed us p t ts
  pub is_name : x ≡ name p t

-- the result of a function, its name and its `(` before these tokens
pub record CalledBefore (allowed : Allowed) (r : ResultType) (x : Name) (t : Totals) (pre ts : List Token) : Type 0 where
  pub us : List Token
  pub vs : List Token
  pub p : Pos
  pub text : List ℕ
  pub result : declaration.Spells allowed declaration.A_result t r pre t us
  pub names : phrase.Names allowed us p text vs
  pub is_name : x ≡ name p text
  pub star : allowed Star (stars_missing r) vs ≡ true
  pub paren : Skips open_paren vs ts

-- a declaration, or none
abbrev pub MaybeTop : Allowed → Totals → Option Top → List Token → Totals → List Token → Type 0
MaybeTop allowed t None ts m us = (t ≡ m) × (ts ≡ us)
MaybeTop allowed t (Some a) ts m us = declaration.Spells allowed declaration.A_top t a ts m us

-- the statements of a block and its `}`
pub record SpellsBlock (limits : Limits) (k : ℕ) (in_loop : Bool) (d : ℕ) (of_function : Bool) (n : ℕ) (m : Tree (Statements in_loop d of_function n)) (ts us : List Token) : Type 0 where
  pub vs : List Token
  pub statements : statement.Spells (kept limits k) (statement.Statements in_loop d) n m.what.what ts m.what.items vs
  pub close : Takes close_brace vs m.pos tt us
  pub counted : of_function ≡ true → kept limits k (Limit Items) (suc m.what.items) vs ≡ true

-- tokens begin with a goal, with its place and with what is counted at its first token; the limits are kept down to where fewer than k tokens are left.
-- Where a goal stands behind tokens that are no part of it, it is what makes a whole of any such tokens before it.
abbrev pub Spelled : Limits → ℕ → (g : Goal) → Tree g → List Token → List Token → Type 0
Spelled limits k (Primary cs v inside) a ts us = Spells (kept limits k) part.Primary a ts us × Fits limits v inside a × Counts limits k cs ts
Spelled limits k (Postfixes v a) b ts us = Spells (kept limits k) (part.Postfixes a) b ts us × Fits limits v false b
Spelled limits k (Postfix cs v inside) a ts us = Spells (kept limits k) part.Postfix a ts us × Fits limits v inside a × Counts limits k cs ts
Spelled limits k (Level l cs v inside) a ts us = Spells (kept limits k) (part.Level l) a ts us × Fits limits v inside a × Counts limits k cs ts
Spelled limits k (Operators l v a) b ts us = Spells (kept limits k) (part.Operators l a) b ts us × Fits limits v false b
Spelled limits k (Behind l a) b ts us = Follows (kept limits k) l a b ts us × Fits limits 0 false b
Spelled limits k (From l a) b ts us = (c : Operand) × (vs : List Token) × Spells (kept limits k) (part.Postfixes a) c ts vs × Follows (kept limits k) l c b vs us × Fits limits 0 false b
Spelled limits k (Unary cs) a ts us = Spells (kept limits k) part.Unary a ts us × Counts limits k cs ts
Spelled limits k (Nameless_unary cs) a ts us = Spells (kept limits k) part.Unary a ts us × Lacks A_name ts × (place ts ≡ Some a.start) × Counts limits k cs ts
Spelled limits k (Expression cs) a ts us = Spells (kept limits k) part.Expression a ts us × Counts limits k cs ts
Spelled limits k Whole a ts us = SpellsWhole (kept limits k) a ts us
Spelled limits k (Stars j) m ts us = phrase.Spells (kept limits k) (phrase.Stars j) m ts us
Spelled limits k (Starred_name cs at_name b) x ts us = SpellsStarred limits k cs at_name b x ts us
Spelled limits k (Base_at cs) b ts us = phrase.Spells (kept limits k) phrase.A_base b.what ts us × (place ts ≡ Some b.pos) × Counts limits k cs ts
Spelled limits k Type_name t ts us = phrase.Spells (kept limits k) phrase.A_type t ts us
Spelled limits k Arguments_behind more ts us = phrase.Spells (kept limits k) phrase.Arguments_behind more ts us
Spelled limits k More_arguments more ts us = phrase.Spells (kept limits k) phrase.More_arguments more ts us
Spelled limits k (Print_arguments j) more ts us = phrase.Spells (kept limits k) (phrase.Print_arguments j) more ts us
Spelled limits k (Behind_malloc p cast) m ts us = phrase.Spells (kept limits k) (phrase.Behind_malloc p cast) m ts us
Spelled limits k A_right r ts us = phrase.Spells (kept limits k) phrase.A_right r ts us
Spelled limits k Initializer r ts us = phrase.Spells (kept limits k) phrase.An_initializer r ts us
Spelled limits k (Behind_target a) s ts us = Finishes (kept limits k) a s ts us
Spelled limits k (Simple_at cs) s ts us = phrase.Spells (kept limits k) phrase.A_simple s.what ts us × (place ts ≡ Some s.pos) × Counts limits k cs ts
Spelled limits k (First_declarator b p n) l ts us = statement.Spells (kept limits k) (statement.A_declarator b p) n l ts (suc n) us
Spelled limits k (More_declarators b n) m ts us = statement.Spells (kept limits k) (statement.More_declarators b) n m.what ts m.items us
Spelled limits k (More_threads n) m ts us = statement.Spells (kept limits k) statement.More_threads n m.what ts m.items us
Spelled limits k (Threads_at p n) m ts us = (pre : List Token) → Skips (The_word (codes "pthread_t")) pre ts → statement.Spells (kept limits k) (statement.Declared p) n m.what pre m.items us
Spelled limits k (Variables_at b p n) m ts us = (pre : List Token) → phrase.Spells (kept limits k) phrase.A_base b pre ts → statement.Spells (kept limits k) (statement.Declared p) n m.what pre m.items us
Spelled limits k (Local_at p n) m ts us = statement.Spells (kept limits k) (statement.Declared p) n m.what ts m.items us
Spelled limits k (Statements in_loop d of_function n) m ts us = SpellsBlock limits k in_loop d of_function n m ts us
Spelled limits k (A_statement in_loop d n) m ts us = statement.Spells (kept limits k) (statement.A_statement in_loop d) n m.what ts m.items us
Spelled limits k (Braceless in_loop d n) m ts us = statement.Spells (kept limits k) (statement.A_statement in_loop d) n m.what ts m.items us × Lacks open_brace ts
Spelled limits k (A_body in_loop d n) m ts us = statement.Spells (kept limits k) (statement.A_body in_loop d) n m.what ts m.items us
Spelled limits k (Condition n) c ts us = (w : List ℕ) (pre : List Token) → Skips (The_word w) pre ts → statement.Conditions (kept limits k) w n c pre us
Spelled limits k (Else_part in_loop d i c a n) m ts us = statement.Spells (kept limits k) (statement.Else_part in_loop d i c a) n m.what ts m.items us
Spelled limits k (For_first n) m ts us = statement.Spells (kept limits k) statement.For_first n m.what ts m.items us
Spelled limits k (For_condition n) c ts us = statement.Spells (kept limits k) statement.For_condition n c ts (suc n) us
Spelled limits k (For_step n) m ts us = statement.Spells (kept limits k) statement.For_step n m.what ts m.items us
Spelled limits k (Field_declarators b j) ds ts us = (n : Totals) → declaration.Spells (kept limits k) (declaration.Field_declarators b j) n ds ts n us
Spelled limits k (A_field j) fs ts us =
    (n : Totals) → Nonempty fs (λ f more. (vs : List Token) × declaration.Spells (kept limits k) (declaration.More_fields j) n (f ∷ more) ts n vs × Skips close_brace vs us)
Spelled limits k (More_fields j) fs ts us = (n : Totals) → (vs : List Token) × declaration.Spells (kept limits k) (declaration.More_fields j) n fs ts n vs × Skips close_brace vs us
Spelled limits k (Mutexes t) m ts us = Nonempty m.what (λ d more. DeclaresMutexes (kept limits k) t m.totals d more ts us)
Spelled limits k (Threads t) m ts us = Nonempty m.what (λ d more. DeclaresThreads (kept limits k) t m.totals d more ts us)
Spelled limits k A_constant c ts us = (n : Totals) → declaration.Spells (kept limits k) declaration.A_constant n c ts n us
Spelled limits k (Behind_global b j x t) m ts us =
    (pre : List Token) → NamedBefore (kept limits k) j x pre ts → Nonempty m.what (λ d more. DeclaresGlobals (kept limits k) b t m.totals d more pre us)
Spelled limits k (More_globals b t) m ts us = (vs : List Token) × declaration.Spells (kept limits k) (declaration.More_globals b) t m.what ts m.totals vs × Skips semicolon vs us
Spelled limits k (Next_global b t) m ts us = Nonempty m.what (λ d more. DeclaresGlobals (kept limits k) b t m.totals d more ts us)
Spelled limits k (Behind_type of j) ds ts us =
    (n : Totals) (pre : List Token) → declaration.Spells (kept limits k) declaration.A_parameter_type n of pre n ts → Nonempty ds (λ d more. DeclaresParameters (kept limits k) j n d more pre us)
Spelled limits k (More_parameters j) ds ts us = (n : Totals) → declaration.Spells (kept limits k) (declaration.More_parameters j) n ds ts n us
Spelled limits k (Next_parameter j) ds ts us = (n : Totals) → Nonempty ds (λ d more. DeclaresParameters (kept limits k) j n d more ts us)
Spelled limits k Parameters ds ts us = (n : Totals) → declaration.Spells (kept limits k) declaration.Parameters_behind n ds ts n us
Spelled limits k (Body_of t) b ts us = declaration.Spells (kept limits k) declaration.A_body t b.what ts b.totals us
Spelled limits k (Function_of r t) f ts us =
    (pre : List Token) → declaration.Spells (kept limits k) declaration.A_result t r pre t ts → stars_missing r ≡ 0 → declaration.Spells (kept limits k) declaration.A_function t f.what pre f.totals us
Spelled limits k (Behind_paren r x t) f ts us = (pre : List Token) → CalledBefore (kept limits k) r x t pre ts → declaration.Spells (kept limits k) declaration.A_function t f.what pre f.totals us
Spelled limits k (Behind_base b t) m ts us = (pre : List Token) → phrase.Spells (kept limits k) phrase.A_base b pre ts → declaration.Spells (kept limits k) declaration.A_qualified t m.what pre m.totals us
Spelled limits k (Behind_void t) m ts us = (pre : List Token) → Skips (The_word (codes "void")) pre ts → declaration.Spells (kept limits k) declaration.A_qualified t m.what pre m.totals us
Spelled limits k (Qualified t) m ts us = declaration.Spells (kept limits k) declaration.A_qualified t m.what ts m.totals us
Spelled limits k (Behind_tag x t) m ts us =
    (pre mid : List Token) (p : Pos) (text : List ℕ) → Skips (The_word (codes "struct")) pre mid → phrase.Names (kept limits k) mid p text ts → x ≡ name p text
    → declaration.Spells (kept limits k) declaration.A_top t m.what pre m.totals us
Spelled limits k (A_top t) m ts us = MaybeTop (kept limits k) t m.what ts m.totals us
Spelled limits k (Tops t) m ts us = declaration.Spells (kept limits k) declaration.Tops t m.what ts m.totals us
Spelled limits k A_program a ts us = (m : Totals) × declaration.Spells (kept limits k) declaration.A_program nothing_yet a ts m us

-- tokens begin with what a plan may read, whatever it looks at
pub data Loose (limits : Limits) (k : ℕ) : (g : Goal) → Plan g → Tree g → List Token → List Token → Type 0 where
  l_give : {g : Goal} {w a : Tree g} {us : List Token} → w ≡ a → Loose limits k g (give w) a us us
  l_take : {g : Goal} {c : Class} {firm : Option Firm} {counts : Of c → List Count} {on : Pos → Of c → Plan g} {otherwise : Plan g} {p : Pos} {x : Of c} {a : Tree g} {ts us vs : List Token}
      → Takes c ts p x us → Counts limits k (counts x) ts → Shallow limits firm → Loose limits k g (on p x) a us vs → Loose limits k g (take c firm counts on otherwise) a ts vs
  l_pass : {g : Goal} {c : Class} {firm : Option Firm} {counts : Of c → List Count} {on : Pos → Of c → Plan g} {otherwise : Plan g} {a : Tree g} {ts us : List Token}
      → Loose limits k g otherwise a ts us → Loose limits k g (take c firm counts on otherwise) a ts us
  l_want : {g : Goal} {c : Class} {counts : Of c → List Count} {on : Pos → Of c → Plan g} {p : Pos} {x : Of c} {a : Tree g} {ts us vs : List Token}
      → Takes c ts p x us → Counts limits k (counts x) ts → Loose limits k g (on p x) a us vs → Loose limits k g (want c counts on) a ts vs
  l_call : {g q : Goal} {on : Tree q → Plan g} (b : Tree q) {a : Tree g} {ts us vs : List Token}
      → (Roomy limits q → Spelled limits k q b ts us) → Loose limits k g (on b) a us vs → Loose limits k g (call q on) a ts vs

-- a plan reads so far, or breaks a rule where fewer than k tokens are left
abbrev pub Beyond : (limits : Limits) (k : ℕ) (g : Goal) → Plan g → List Token → Type 0
Beyond limits k g f ts = (r : Rule) × (vs : List Token) × Reads limits g f ts (No (Some r) vs) × (length vs < k)

abbrev pub Through : (limits : Limits) (k : ℕ) (g : Goal) → Plan g → Tree g → List Token → List Token → Type 0
Through limits k g f a ts us = Reads limits g f ts (Yes a us) ⊎ Beyond limits k g f ts

-- tokens that a goal can be completed with, to whatever is counted there
pub record Sample (limits : Limits) (g : Goal) : Type 0 where
  pub tree : Tree g
  pub more : List Token
  pub spells : (k : ℕ) (vs : List Token) → length (more ++ vs) < k → Roomy limits g → Spelled limits k g tree (more ++ vs) vs

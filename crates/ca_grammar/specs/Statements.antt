-- What the tokens of statements and locals are. `Spells allowed p n s ts m us`: with n items before, the tokens ts begin with a spelling of s as a p, in which only what is allowed is
-- counted; behind it there are m items, and us follow. An item is counted at its first token, and so is a statement for its depth.
use Rattle.std.specs.Prelude.{◌≡◌, ℕ, suc, Bool, true, false, List, [], ◌∷◌, Option, Some, None, codes}
use Rattle.ca_tree.specs.declared.text.Pos.{Pos}
use Rattle.ca_tree.specs.declared.token.Token.{Token}
use Rattle.ca_tree.specs.declared.tree.Base.{Base}
use Rattle.ca_tree.specs.declared.tree.Exp.{Exp}
use Rattle.ca_tree.specs.declared.tree.Right.{Right}
use Rattle.ca_tree.specs.declared.tree.Simple.{Simple}
use Rattle.ca_tree.specs.declared.tree.ItemAt.{ItemAt}
use Rattle.ca_tree.specs.declared.tree.LocalDeclarator.{LocalDeclarator}
use Rattle.ca_tree.specs.declared.tree.ThreadLocal.{ThreadLocal}
use Rattle.ca_tree.specs.declared.tree.Locals.{Locals}
use Rattle.ca_tree.specs.declared.tree.Locals.TheVariants as locals
use Rattle.ca_tree.specs.declared.tree.ForFirst.{ForFirst}
use Rattle.ca_tree.specs.declared.tree.ForFirst.TheVariants as first
use Rattle.ca_tree.specs.declared.tree.Stmt.{Stmt}
use Rattle.ca_tree.specs.declared.tree.Stmt.TheVariants as s
use Rattle.ca_tree.specs.declared.counted.Counted.TheVariants.{Items, Nesting}
use Rattle.ca_tree.specs.PhraseTrees.{has_star}
use Rattle.ca_tree.specs.StatementTrees.{Branch, Head, item, closed}
use Rattle.ca_grammar.specs.declared.operand.Operand.{Operand}
use Rattle.ca_grammar.specs.Words.{The_word, Takes, Skips, Lacks, place, open_paren, close_paren, open_brace, close_brace, comma, semicolon}
use Rattle.ca_grammar.specs.Limits.{Allowed, Limit}
use Rattle.ca_grammar.specs.Expressions.{name}
use Rattle.ca_grammar.specs.Phrases.{Names, Expression, Stars, A_base, An_initializer, A_simple, An_optional_expression}
use Rattle.ca_grammar.specs.Phrases as phrase

-- what can be spelled; in a loop or not, and d deep
pub data Part : Type 0 where
  -- with the item of the declaration's first declarator at p
  Declared : (p : Pos) → Part
  A_declarator : (b : Base) (p : Pos) → Part
  More_declarators : (b : Base) → Part
  More_threads : Part
  A_statement : (in_loop : Bool) (d : ℕ) → Part
  -- of an `if`, an `else` or a loop: braces of its own aren't counted
  A_body : (in_loop : Bool) (d : ℕ) → Part
  -- behind an `if` with its condition and first branch
  Else_part : (in_loop : Bool) (d : ℕ) (i : ItemAt) (c : Exp) (x : Branch) → Part
  For_first : Part
  For_condition : Part
  For_step : Part
  Statements : (in_loop : Bool) (d : ℕ) → Part

abbrev pub Tree : Part → Type 0
Tree (Declared p) = Locals
Tree (A_declarator b p) = LocalDeclarator
Tree (More_declarators b) = List LocalDeclarator
Tree More_threads = List ThreadLocal
Tree (A_statement in_loop d) = Branch
Tree (A_body in_loop d) = Branch
Tree (Else_part in_loop d i c x) = Branch
Tree For_first = Option ForFirst
Tree For_condition = Head (Option Exp)
Tree For_step = Option (ItemAt × Simple)
Tree (Statements in_loop d) = List Stmt

-- the next item begins here
pub record Begins (allowed : Allowed) (n : ℕ) (p : Pos) (ts : List Token) : Type 0 where
  pub at : place ts ≡ Some p
  pub counted : allowed (Limit Items) (suc n) ts ≡ true

-- a word, and a condition in parentheses behind it
pub record Conditions (allowed : Allowed) (w : List ℕ) (n : ℕ) (c : Operand) (ts us : List Token) : Type 0 where
  pub behind_word : List Token
  pub inside : List Token
  pub behind : List Token
  pub word : Skips (The_word w) ts behind_word
  pub paren : Skips open_paren behind_word inside
  pub counted : allowed (Limit Items) (suc n) inside ≡ true
  pub condition : Expression allowed c inside behind
  pub close : Skips close_paren behind us

abbrev pub is_deep : Allowed → ℕ → List Token → Type 0
is_deep allowed d ts = allowed (Limit Nesting) d ts ≡ true

pub data Spells (allowed : Allowed) : (p : Part) → ℕ → Tree p → List Token → ℕ → List Token → Type 0 where
  -- ldecl = { "*" } name [ "=" right ]
  a_declarator : {b : Base} {p q : Pos} {k n : ℕ} {t : List ℕ} {r : Option Right} {ts us vs ws : List Token} → phrase.Spells allowed (Stars 0) k ts us → has_star b k ≡ true → Names allowed us q t vs
      → phrase.Spells allowed An_initializer r vs ws → Spells allowed (A_declarator b p) n (record { item = item (suc n) p; stars = k; name = name q t; value = r }) ts (suc n) ws
  last_declarator : {b : Base} {n : ℕ} {us : List Token} → Spells allowed (More_declarators b) n [] us n us
  next_declarator : {b : Base} {p : Pos} {n k m : ℕ} {l : LocalDeclarator} {ls : List LocalDeclarator} {ts us vs ws : List Token} → Skips comma ts us → Begins allowed n p us
      → Spells allowed (A_declarator b p) n l us k vs → Spells allowed (More_declarators b) k ls vs m ws → Spells allowed (More_declarators b) n (l ∷ ls) ts m ws
  last_thread : {n : ℕ} {us : List Token} → Spells allowed More_threads n [] us n us
  next_thread : {p q : Pos} {n m : ℕ} {t : List ℕ} {ls : List ThreadLocal} {ts us vs ws : List Token} → Skips comma ts us → Begins allowed n p us → Names allowed us q t vs
      → Spells allowed More_threads (suc n) ls vs m ws → Spells allowed More_threads n (record { item = item (suc n) p; name = name q t } ∷ ls) ts m ws
  -- local = { "volatile" } ( "pthread_t" name { "," name } | base ldecl { "," ldecl } )
  volatile_locals : {p : Pos} {n m : ℕ} {l : Locals} {ts us vs : List Token} → Skips (The_word (codes "volatile")) ts us → Spells allowed (Declared p) n l us m vs → Spells allowed (Declared p) n l ts m vs
  thread_locals : {p q : Pos} {n m : ℕ} {t : List ℕ} {ls : List ThreadLocal} {ts us vs ws : List Token} → Skips (The_word (codes "pthread_t")) ts us → Names allowed us q t vs
      → Spells allowed More_threads (suc n) ls vs m ws → Spells allowed (Declared p) n (locals.Threads (record { item = item (suc n) p; name = name q t } ∷ ls)) ts m ws
  variable_locals : {p : Pos} {n k m : ℕ} {b : Base} {l : LocalDeclarator} {ls : List LocalDeclarator} {ts us vs ws : List Token} → phrase.Spells allowed A_base b ts us
      → Spells allowed (A_declarator b p) n l us k vs → Spells allowed (More_declarators b) k ls vs m ws → Spells allowed (Declared p) n (locals.Variables b (l ∷ ls)) ts m ws
  -- block = "{" { stmt | local ";" } "}"
  no_statement : {in_loop : Bool} {d n : ℕ} {us : List Token} → Spells allowed (Statements in_loop d) n [] us n us
  a_statement : {in_loop : Bool} {d n k m : ℕ} {a : Branch} {more : List Stmt} {ts us vs : List Token} → Spells allowed (A_statement in_loop d) n a ts k us
      → Spells allowed (Statements in_loop d) k more us m vs → Spells allowed (Statements in_loop d) n (a.stmt ∷ more) ts m vs
  declared_locals : {in_loop : Bool} {d n k m : ℕ} {p : Pos} {l : Locals} {more : List Stmt} {ts us vs ws : List Token} → is_deep allowed d ts → Begins allowed n p ts → Spells allowed (Declared p) n l ts k us
      → Skips semicolon us vs → Spells allowed (Statements in_loop d) k more vs m ws → Spells allowed (Statements in_loop d) n (s.Locals l ∷ more) ts m ws
  -- stmt = block | ";" | simple ";" | "return" [ exp ] ";" | "break" ";" | "continue" ";"
  a_block : {in_loop : Bool} {d n m : ℕ} {more : List Stmt} {ts us vs ws : List Token} → is_deep allowed d ts → Skips open_brace ts us → Spells allowed (Statements in_loop (suc d)) n more us m vs
      → Skips close_brace vs ws → Spells allowed (A_statement in_loop d) n (closed (s.Block more)) ts m ws
  an_empty : {in_loop : Bool} {d n : ℕ} {ts us : List Token} → is_deep allowed d ts → Skips semicolon ts us → Spells allowed (A_statement in_loop d) n (closed s.Empty) ts n us
  a_simple : {in_loop : Bool} {d n : ℕ} {p : Pos} {a : Simple} {ts us vs : List Token} → is_deep allowed d ts → Begins allowed n p ts → phrase.Spells allowed A_simple a ts us → Skips semicolon us vs
      → Spells allowed (A_statement in_loop d) n (closed (s.Simple (item (suc n) p) a)) ts (suc n) vs
  a_return : {in_loop : Bool} {d n : ℕ} {p : Pos} {a : Option Exp} {ts us vs ws : List Token} → is_deep allowed d ts → Begins allowed n p ts → Skips (The_word (codes "return")) ts us
      → phrase.Spells allowed An_optional_expression a us vs → Skips semicolon vs ws → Spells allowed (A_statement in_loop d) n (closed (s.Return (item (suc n) p) a)) ts (suc n) ws
  a_break : {d n : ℕ} {p : Pos} {ts us vs : List Token} → is_deep allowed d ts → Takes (The_word (codes "break")) ts p tt us → Skips semicolon us vs
      → Spells allowed (A_statement true d) n (closed (s.Break p)) ts n vs
  a_continue : {d n : ℕ} {p : Pos} {ts us vs : List Token} → is_deep allowed d ts → Takes (The_word (codes "continue")) ts p tt us → Skips semicolon us vs
      → Spells allowed (A_statement true d) n (closed (s.Continue p)) ts n vs
  -- | "if" "(" exp ")" stmt [ "else" stmt ] | "while" "(" exp ")" stmt | "do" stmt "while" "(" exp ")" ";"
  an_if : {in_loop : Bool} {d n k m : ℕ} {c : Operand} {x a : Branch} {ts us vs ws : List Token} → is_deep allowed d ts → Conditions allowed (codes "if") n c ts us
      → Spells allowed (A_body in_loop (suc d)) (suc n) x us k vs → Spells allowed (Else_part in_loop d (item (suc n) c.pos) c.exp x) k a vs m ws → Spells allowed (A_statement in_loop d) n a ts m ws
  no_else : {in_loop : Bool} {d n : ℕ} {i : ItemAt} {c : Exp} {x : Branch} {us : List Token}
      → Spells allowed (Else_part in_loop d i c x) n (record { stmt = s.If i c x.stmt None; is_open = true }) us n us
  -- an `else` belongs to the nearest `if` that allows it (C11 6.8.4.1)
  an_else : {in_loop : Bool} {d n m : ℕ} {i : ItemAt} {c : Exp} {x y : Branch} {ts us vs : List Token} → x.is_open ≡ false → Skips (The_word (codes "else")) ts us
      → Spells allowed (A_body in_loop (suc d)) n y us m vs → Spells allowed (Else_part in_loop d i c x) n (record { stmt = s.If i c x.stmt (Some y.stmt); is_open = y.is_open }) ts m vs
  a_while : {in_loop : Bool} {d n m : ℕ} {c : Operand} {a : Branch} {ts us vs : List Token} → is_deep allowed d ts → Conditions allowed (codes "while") n c ts us
      → Spells allowed (A_body true (suc d)) (suc n) a us m vs
      → Spells allowed (A_statement in_loop d) n (record { stmt = s.While (item (suc n) c.pos) c.exp a.stmt; is_open = a.is_open }) ts m vs
  a_do : {in_loop : Bool} {d n m : ℕ} {c : Operand} {a : Branch} {ts us vs ws xs : List Token} → is_deep allowed d ts → Skips (The_word (codes "do")) ts us
      → Spells allowed (A_body true (suc d)) n a us m vs → Conditions allowed (codes "while") m c vs ws → Skips semicolon ws xs
      → Spells allowed (A_statement in_loop d) n (closed (s.Do a.stmt (item (suc m) c.pos) c.exp)) ts (suc m) xs
  -- | "for" "(" [ simple | base ldecl ] ";" [ exp ] ";" [ simple ] ")" stmt
  nothing_first : {n : ℕ} {ts us : List Token} → Skips semicolon ts us → Spells allowed For_first n None ts n us
  simple_first : {n : ℕ} {p : Pos} {a : Simple} {ts us vs : List Token} → Begins allowed n p ts → phrase.Spells allowed A_simple a ts us → Skips semicolon us vs
      → Spells allowed For_first n (Some (first.Simple (item (suc n) p) a)) ts (suc n) vs
  local_first : {n m : ℕ} {p : Pos} {b : Base} {l : LocalDeclarator} {ts us vs ws : List Token} → Begins allowed n p ts → phrase.Spells allowed A_base b ts us
      → Spells allowed (A_declarator b p) n l us m vs → Skips semicolon vs ws → Spells allowed For_first n (Some (first.Local b l)) ts m ws
  no_condition : {n : ℕ} {p : Pos} {ts us : List Token} → Begins allowed n p ts → Skips semicolon ts us → Spells allowed For_condition n (record { item = item (suc n) p; what = None }) ts (suc n) us
  a_condition : {n : ℕ} {c : Operand} {ts us vs : List Token} → allowed (Limit Items) (suc n) ts ≡ true → Expression allowed c ts us → Skips semicolon us vs
      → Spells allowed For_condition n (record { item = item (suc n) c.pos; what = Some c.exp }) ts (suc n) vs
  no_step : {n : ℕ} {ts us : List Token} → Skips close_paren ts us → Spells allowed For_step n None ts n us
  a_step : {n : ℕ} {p : Pos} {a : Simple} {ts us vs : List Token} → Begins allowed n p ts → phrase.Spells allowed A_simple a ts us → Skips close_paren us vs
      → Spells allowed For_step n (Some (item (suc n) p, a)) ts (suc n) vs
  a_for : {in_loop : Bool} {d n k l i m : ℕ} {f : Option ForFirst} {c : Head (Option Exp)} {g : Option (ItemAt × Simple)} {a : Branch} {ts us vs ws xs ys zs : List Token} → is_deep allowed d ts
      → Skips (The_word (codes "for")) ts us → Skips open_paren us vs → Spells allowed For_first n f vs k ws → Spells allowed For_condition k c ws l xs → Spells allowed For_step l g xs i ys
      → Spells allowed (A_body true (suc d)) i a ys m zs
      → Spells allowed (A_statement in_loop d) n (record { stmt = s.For (record { first = f; item = c.item; condition = c.what; step = g }) a.stmt; is_open = a.is_open }) ts m zs
  -- a body in braces, or another statement
  a_braced_body : {in_loop : Bool} {d n m : ℕ} {more : List Stmt} {ts us vs ws : List Token} → Skips open_brace ts us → Spells allowed (Statements in_loop d) n more us m vs → Skips close_brace vs ws
      → Spells allowed (A_body in_loop d) n (closed (s.Block more)) ts m ws
  a_plain_body : {in_loop : Bool} {d n m : ℕ} {a : Branch} {ts us : List Token} → Lacks open_brace ts → Spells allowed (A_statement in_loop d) n a ts m us → Spells allowed (A_body in_loop d) n a ts m us

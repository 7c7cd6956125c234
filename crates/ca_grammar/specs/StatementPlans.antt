-- How statements and locals are read.
use Rattle.std.specs.Prelude.{ℕ, suc, Bool, true, false, List, [], ◌∷◌, Option, Some, None, codes, if◌then◌else◌}
use Rattle.ca_tree.specs.declared.text.Pos.{Pos}
use Rattle.ca_tree.specs.declared.tree.Exp.{Exp}
use Rattle.ca_tree.specs.declared.tree.Base.{Base}
use Rattle.ca_tree.specs.declared.tree.Base.TheVariants as base
use Rattle.ca_tree.specs.declared.tree.ItemAt.{ItemAt}
use Rattle.ca_tree.specs.declared.tree.Locals.{Locals}
use Rattle.ca_tree.specs.declared.tree.Locals.TheVariants as locals
use Rattle.ca_tree.specs.declared.tree.LocalDeclarator.{LocalDeclarator}
use Rattle.ca_tree.specs.declared.tree.ForFirst.TheVariants as first
use Rattle.ca_tree.specs.declared.tree.Right.{Right}
use Rattle.ca_tree.specs.declared.tree.Stmt.{Stmt}
use Rattle.ca_tree.specs.declared.tree.Stmt.TheVariants as s
use Rattle.ca_grammar.specs.declared.faults.Count.{Count}
use Rattle.ca_tree.specs.declared.counted.Counted.TheVariants.{Items, Nesting}
use Rattle.ca_tree.specs.StatementTrees.{Branch, closed, item}
use Rattle.ca_grammar.specs.Words.{The_word, A_name, open_paren, close_paren, open_brace, close_brace, comma, semicolon}
use Rattle.ca_grammar.specs.Expressions.{name}
use Rattle.ca_grammar.specs.Goals.{Goal, Numbered, Starred, Expression, Starred_name, Initializer, Simple_at, First_declarator, More_declarators, More_threads, Threads_at, Variables_at, Local_at, Statements, A_statement, Braceless, A_body, Condition, Else_part, For_first, For_condition, For_step}
use Rattle.ca_grammar.specs.Plan.{Plan, give, take, want, call, last, these, and_name, counted}
use Rattle.ca_grammar.specs.PhrasePlans.{must, maybe}

-- the next item, behind n
abbrev pub an_item : ℕ → List Count
an_item n = counted Items (suc n) ∷ []

abbrev pub nested : ℕ → List Count
nested d = counted Nesting d ∷ []

-- a statement that is an item, and d deep
abbrev pub nested_item : ℕ → ℕ → List Count
nested_item n d = counted Items (suc n) ∷ nested d

abbrev pub numbered : {X : Type 0} → X → ℕ → Numbered X
numbered x n = record { what = x; items = n }

abbrev pub declarator : Starred → Pos → ℕ → Option Right → LocalDeclarator
declarator x p n r = record { item = item (suc n) p; stars = x.stars; name = x.name; value = r }

abbrev pub on_first_declarator : (b : Base) (p : Pos) (n : ℕ) → Plan (First_declarator b p n)
on_first_declarator b p n = call (Starred_name [] [] b) (λ x. last Initializer (First_declarator b p n) (λ r. declarator x p n r))

abbrev pub on_more_declarators : (b : Base) (n : ℕ) → Plan (More_declarators b n)
on_more_declarators b n =
    maybe comma
    (call (Starred_name (an_item n) [] b) (λ x. call Initializer (λ r. last (More_declarators b (suc n)) (More_declarators b n) (λ m. numbered (declarator x x.pos n r ∷ m.what) m.items))))
    (give (numbered [] n))

abbrev pub on_more_threads : (n : ℕ) → Plan (More_threads n)
on_more_threads n =
    maybe comma
    (want A_name (and_name (an_item n)) (λ p t. last (More_threads (suc n)) (More_threads n) (λ m. numbered (record { item = item (suc n) p; name = name p t } ∷ m.what) m.items)))
    (give (numbered [] n))

abbrev pub on_threads : (p : Pos) (n : ℕ) → Plan (Threads_at p n)
on_threads p n =
    want A_name (and_name []) (λ q t. last (More_threads (suc n)) (Threads_at p n) (λ m. numbered (locals.Threads (record { item = item (suc n) p; name = name q t } ∷ m.what)) m.items))

abbrev pub on_variables : (b : Base) (p : Pos) (n : ℕ) → Plan (Variables_at b p n)
on_variables b p n = call (First_declarator b p n) (λ l. last (More_declarators b (suc n)) (Variables_at b p n) (λ m. numbered (locals.Variables b (l ∷ m.what)) m.items))

abbrev pub on_local : (p : Pos) (n : ℕ) → Plan (Local_at p n)
on_local p n =
    maybe (The_word (codes "volatile")) (last (Local_at p n) (Local_at p n) (λ l. l))
    (maybe (The_word (codes "pthread_t")) (last (Threads_at p n) (Local_at p n) (λ l. l))
    (maybe (The_word (codes "int")) (last (Variables_at base.Int p n) (Local_at p n) (λ l. l))
    (must (The_word (codes "struct")) (want A_name (and_name []) (λ q t. last (Variables_at (base.Struct (name q t)) p n) (Local_at p n) (λ l. l))))))

-- the `}` of a function is an item
abbrev pub at_close : Bool → ℕ → List Count
at_close of_function n = if of_function then an_item n else []

module _ (in_loop : Bool) (d : ℕ) (of_function : Bool) (n : ℕ) where
  abbrev pub behind_statement : Stmt → ℕ → Plan (Statements in_loop d of_function n)
  behind_statement a m = call (Statements in_loop d of_function m) (λ more. give (record { pos = more.pos; what = numbered (a ∷ more.what.what) more.what.items }))

  abbrev pub behind_locals : Numbered Locals → Plan (Statements in_loop d of_function n)
  behind_locals l = must semicolon (behind_statement (s.Locals l.what) l.items)

  abbrev pub on_statements : Plan (Statements in_loop d of_function n)
  on_statements =
      take close_brace None (these (at_close of_function n)) (λ p x. give (record { pos = p; what = numbered [] n }))
      (take (The_word (codes "volatile")) None (these (nested_item n d)) (λ p x. call (Local_at p n) behind_locals)
      (take (The_word (codes "pthread_t")) None (these (nested_item n d)) (λ p x. call (Threads_at p n) behind_locals)
      (take (The_word (codes "int")) None (these (nested_item n d)) (λ p x. call (Variables_at base.Int p n) behind_locals)
      (take (The_word (codes "struct")) None (these (nested_item n d)) (λ p x. want A_name (and_name []) (λ q t. call (Variables_at (base.Struct (name q t)) p n) behind_locals))
      (call (A_statement in_loop d n) (λ a. behind_statement a.what.stmt a.items))))))

-- behind the `{` of a block
abbrev pub to_block : (g : Goal) → (Numbered Branch → Plan g) → (in_loop : Bool) (d n : ℕ) → Plan g
to_block g f in_loop d n = call (Statements in_loop d false n) (λ m. f (numbered (closed (s.Block m.what.what)) m.what.items))

abbrev pub on_statement : (in_loop : Bool) (d n : ℕ) → Plan (A_statement in_loop d n)
on_statement in_loop d n =
    take open_brace None (these (nested d)) (λ p x. to_block (A_statement in_loop d n) give in_loop (suc d) n)
    (last (Braceless in_loop d n) (A_statement in_loop d n) (λ a. a))

abbrev pub on_body : (in_loop : Bool) (d n : ℕ) → Plan (A_body in_loop d n)
on_body in_loop d n =
    maybe open_brace (to_block (A_body in_loop d n) give in_loop d n)
    (last (Braceless in_loop d n) (A_body in_loop d n) (λ a. a))

abbrev pub on_condition : (n : ℕ) → Plan (Condition n)
on_condition n = must open_paren (call (Expression (an_item n)) (λ c. must close_paren (give c)))

abbrev pub without_else : ItemAt → Exp → Branch → Branch
without_else i c a = record { stmt = s.If i c a.stmt None; is_open = true }

abbrev pub with_else : ItemAt → Exp → Branch → Branch → Branch
with_else i c a b = record { stmt = s.If i c a.stmt (Some b.stmt); is_open = b.is_open }

abbrev pub if_closed : (in_loop : Bool) (d : ℕ) (i : ItemAt) (c : Exp) (a : Branch) (n : ℕ) → Bool → Plan (Else_part in_loop d i c a n)
if_closed in_loop d i c a n false =
    maybe (The_word (codes "else")) (last (A_body in_loop (suc d) n) (Else_part in_loop d i c a n) (λ b. numbered (with_else i c a b.what) b.items)) (give (numbered (without_else i c a) n))
if_closed in_loop d i c a n true = give (numbered (without_else i c a) n)

module _ (in_loop : Bool) (d n : ℕ) where
  abbrev pub behind_return : Pos → Plan (Braceless in_loop d n)
  behind_return p =
      maybe semicolon (give (numbered (closed (s.Return (item (suc n) p) None)) (suc n)))
      (call (Expression []) (λ a. must semicolon (give (numbered (closed (s.Return (item (suc n) p) (Some a.exp))) (suc n)))))

  abbrev pub behind_if : Plan (Braceless in_loop d n)
  behind_if =
      call (Condition n) (λ c. call (A_body in_loop (suc d) (suc n)) (λ a. last (Else_part in_loop d (item (suc n) c.pos) c.exp a.what a.items) (Braceless in_loop d n) (λ b. b)))

  abbrev pub behind_while : Plan (Braceless in_loop d n)
  behind_while =
      call (Condition n) (λ c. last (A_body true (suc d) (suc n)) (Braceless in_loop d n)
      (λ a. numbered (record { stmt = s.While (item (suc n) c.pos) c.exp a.what.stmt; is_open = a.what.is_open }) a.items))

  abbrev pub behind_do : Plan (Braceless in_loop d n)
  behind_do =
      call (A_body true (suc d) n) (λ a. must (The_word (codes "while")) (call (Condition a.items) (λ c. must semicolon
      (give (numbered (closed (s.Do a.what.stmt (item (suc a.items) c.pos) c.exp)) (suc a.items))))))

  abbrev pub behind_for : Plan (Braceless in_loop d n)
  behind_for =
      must open_paren (call (For_first n) (λ f. call (For_condition f.items) (λ c. call (For_step (suc f.items)) (λ g. last (A_body true (suc d) g.items) (Braceless in_loop d n)
      (λ a. numbered (record { stmt = s.For (record { first = f.what; item = c.item; condition = c.what; step = g.what }) a.what.stmt; is_open = a.what.is_open }) a.items)))))

  abbrev pub simply_said : Plan (Braceless in_loop d n)
  simply_said = call (Simple_at (nested_item n d)) (λ a. must semicolon (give (numbered (closed (s.Simple (item (suc n) a.pos) a.what)) (suc n))))

abbrev pub in_loops : (in_loop : Bool) (d n : ℕ) → Plan (Braceless in_loop d n)
in_loops true d n =
    take (The_word (codes "break")) None (these (nested d)) (λ p x. must semicolon (give (numbered (closed (s.Break p)) n)))
    (take (The_word (codes "continue")) None (these (nested d)) (λ p x. must semicolon (give (numbered (closed (s.Continue p)) n)))
    (simply_said true d n))
in_loops false d n = simply_said false d n

abbrev pub on_braceless : (in_loop : Bool) (d n : ℕ) → Plan (Braceless in_loop d n)
on_braceless in_loop d n =
    take semicolon None (these (nested d)) (λ p x. give (numbered (closed s.Empty) n))
    (take (The_word (codes "return")) None (these (nested_item n d)) (λ p x. behind_return in_loop d n p)
    (take (The_word (codes "if")) None (these (nested d)) (λ p x. behind_if in_loop d n)
    (take (The_word (codes "while")) None (these (nested d)) (λ p x. behind_while in_loop d n)
    (take (The_word (codes "do")) None (these (nested d)) (λ p x. behind_do in_loop d n)
    (take (The_word (codes "for")) None (these (nested d)) (λ p x. behind_for in_loop d n)
    (in_loops in_loop d n))))))

abbrev pub first_local : (b : Base) (p : Pos) (n : ℕ) → Plan (For_first n)
first_local b p n = call (First_declarator b p n) (λ l. must semicolon (give (numbered (Some (first.Local b l)) (suc n))))

abbrev pub on_for_first : (n : ℕ) → Plan (For_first n)
on_for_first n =
    maybe semicolon (give (numbered None n))
    (take (The_word (codes "int")) None (these (an_item n)) (λ p x. first_local base.Int p n)
    (take (The_word (codes "struct")) None (these (an_item n)) (λ p x. want A_name (and_name []) (λ q t. first_local (base.Struct (name q t)) p n))
    (call (Simple_at (an_item n)) (λ a. must semicolon (give (numbered (Some (first.Simple (item (suc n) a.pos) a.what)) (suc n)))))))

abbrev pub on_for_condition : (n : ℕ) → Plan (For_condition n)
on_for_condition n =
    take semicolon None (these (an_item n)) (λ p x. give (record { item = item (suc n) p; what = None }))
    (call (Expression (an_item n)) (λ c. must semicolon (give (record { item = item (suc n) c.pos; what = Some c.exp }))))

abbrev pub on_for_step : (n : ℕ) → Plan (For_step n)
on_for_step n =
    maybe close_paren (give (numbered None n))
    (call (Simple_at (an_item n)) (λ a. must close_paren (give (numbered (Some (item (suc n) a.pos, a.what)) (suc n)))))

-- What is spelled as a part of a statement is read so, or a counted rule is broken where fewer than k tokens are left.
use Rattle.std.proofs.Common.{◌≡◌, ℕ, suc, ◌<◌, Bool, true, false, List, [], ◌∷◌, Option, Some, codes, lit<, refl, sym, ap, subst, ◌∙◌}
use Rattle.std.proofs.lemmas.List.Elements.{All-nil, All-cons, All-append}
use Rattle.ca_tree.specs.declared.text.Pos.{Pos}
use Rattle.ca_tree.specs.declared.token.Token.{Token}
use Rattle.ca_tree.specs.declared.token.Mark.TheVariants as mark
use Rattle.ca_tree.specs.declared.tree.Base.{Base}
use Rattle.ca_tree.specs.declared.tree.Exp.{Exp}
use Rattle.ca_tree.specs.declared.tree.ForFirst.{ForFirst}
use Rattle.ca_tree.specs.declared.tree.ForFirst.TheVariants as first
use Rattle.ca_tree.specs.declared.tree.ItemAt.{ItemAt}
use Rattle.ca_tree.specs.declared.tree.LocalDeclarator.{LocalDeclarator}
use Rattle.ca_tree.specs.declared.tree.Locals.{Locals}
use Rattle.ca_tree.specs.declared.tree.Locals.TheVariants as locals
use Rattle.ca_tree.specs.declared.tree.Right.{Right}
use Rattle.ca_tree.specs.declared.tree.Simple.{Simple}
use Rattle.ca_tree.specs.declared.tree.Stmt.TheVariants as s
use Rattle.ca_tree.specs.declared.tree.ThreadLocal.{ThreadLocal}
use Rattle.ca_tree.specs.Lexed.{token}
use Rattle.ca_grammar.specs.declared.faults.Count.{Count}
use Rattle.ca_tree.specs.declared.counted.Counted.TheVariants.{Items, Nesting}
use Rattle.ca_tree.specs.Names.{is_reserved, is_left_out}
use Rattle.ca_tree.specs.StatementTrees.{Branch, Head, closed, item}
use Rattle.ca_grammar.specs.declared.operand.Operand.{Operand}
use Rattle.ca_grammar.specs.Words.{Class, The_word, A_name, Of, Takes, Skips, Lacks, place, open_brace, close_brace, comma, semicolon, assign}
use Rattle.ca_grammar.specs.Limits.{Limit, Limits, Allowed, kept}
use Rattle.ca_grammar.specs.Expressions as exp
use Rattle.ca_grammar.specs.Expressions.{name}
use Rattle.ca_grammar.specs.Phrases as phrase
use Rattle.ca_grammar.specs.Phrases.{Names}
use Rattle.ca_grammar.specs.Statements as statement
use Rattle.ca_grammar.specs.Statements.{Conditions, is_deep}
use Rattle.ca_grammar.specs.Goals.{Goal, Tree, Starred, Numbered, Expression, Starred_name, Initializer, Simple_at, First_declarator, More_declarators, More_threads, Threads_at, Variables_at, Local_at, Statements, A_statement, Braceless, A_body, Condition, Else_part, For_first, For_condition, For_step}
use Rattle.ca_grammar.specs.Plan.{Plan, give, call, and_name, bytes_of_name}
use Rattle.ca_grammar.specs.PhrasePlans.{must, maybe}
use Rattle.ca_grammar.specs.StatementPlans.{an_item, nested, nested_item, numbered, at_close, behind_statement, behind_locals, with_else, without_else, if_closed, behind_return, simply_said}
use Rattle.ca_grammar.specs.Reads.{plan}
use Rattle.ca_grammar.proofs.Loose.{Counts, SpellsStarred, SpellsBlock, Through}
use Rattle.ca_grammar.proofs.Combinators.{t_gives, t_takes, t_wants, t_passes, t_calls, lacks_at, binds_at, ends_at}
use Rattle.ca_grammar.proofs.StatementBack.{Starts, simple_word, statement_word, no_mark_first, no_word_first, begins_expression, begins_simple, begins_statement, not_else_after}

-- ---- what is counted at a token

none : (limits : Limits) (k : ℕ) (ts : List Token) → Counts limits k [] ts
none limits k ts = All-nil (λ c. kept limits k (Limit c.of) c.number ts ≡ true)

with_count : (limits : Limits) (k : ℕ) (c : Count) (cs : List Count) (ts : List Token) → kept limits k (Limit c.of) c.number ts ≡ true → Counts limits k cs ts → Counts limits k (c ∷ cs) ts
with_count limits k c cs ts h more = All-cons (λ x. kept limits k (Limit x.of) x.number ts ≡ true) c cs h more

count_item : (limits : Limits) (k n : ℕ) (ts : List Token) → kept limits k (Limit Items) (suc n) ts ≡ true → Counts limits k (an_item n) ts
count_item limits k n ts h = with_count limits k (record { of = Items; number = suc n }) [] ts h (none limits k ts)

count_nesting : (limits : Limits) (k d : ℕ) (ts : List Token) → is_deep (kept limits k) d ts → Counts limits k (nested d) ts
count_nesting limits k d ts h = with_count limits k (record { of = Nesting; number = d }) [] ts h (none limits k ts)

count_both : (limits : Limits) (k n d : ℕ) (ts : List Token) → kept limits k (Limit Items) (suc n) ts ≡ true → is_deep (kept limits k) d ts → Counts limits k (nested_item n d) ts
count_both limits k n d ts h i = with_count limits k (record { of = Items; number = suc n }) (nested d) ts h (count_nesting limits k d ts i)

count_name : (limits : Limits) (k : ℕ) (cs : List Count) (p : Pos) (t : List ℕ) (ts us : List Token) → Names (kept limits k) ts p t us → Counts limits k cs ts → Counts limits k (and_name cs t) ts
count_name limits k cs p t ts us x h = All-append (λ c. kept limits k (Limit c.of) c.number ts ≡ true) cs (bytes_of_name t ∷ []) h (with_count limits k (bytes_of_name t) [] ts x.short (none limits k ts))

-- ---- where a token stands, and a mark or a word that has to be there, or may be

same_place : {c : Class} {p q : Pos} {x : Of c} {ts us : List Token} → Takes c ts q x us → place ts ≡ Some p → q ≡ p
same_place {p = p} {q = q} t h =
    let places : Some q ≡ Some p = sym (ap place t.parts) ∙ h in
    cc

taken_at : {c : Class} {p q : Pos} {x : Of c} {ts us : List Token} → Takes c ts q x us → place ts ≡ Some p → Takes c ts p x us
taken_at {us = us} t h = record { first = t.first; parts = t.parts ∙ ap (λ z. token z t.first ∷ us) (same_place t h); fits = t.fits }

t_must : {limits : Limits} {k : ℕ} {g : Goal} {c : Class} {f : Plan g} {a : Tree g} {ts us vs : List Token} → Skips c ts us → Through limits k g f a us vs → Through limits k g (must c f) a ts vs
t_must {limits} {k} {ts = ts} t r = t_wants t.2 (none limits k ts) r

t_maybe : {limits : Limits} {k : ℕ} {g : Goal} {c : Class} {f otherwise : Plan g} {a : Tree g} {ts us vs : List Token} → Skips c ts us → Through limits k g f a us vs
    → Through limits k g (maybe c f otherwise) a ts vs
t_maybe {limits} {k} {ts = ts} t r = t_takes t.2 (none limits k ts) tt r

-- ---- declarators

-- the next token goes on with no list of declarators
abbrev pub EndsList : List Token → Type 0
EndsList us = (6 < binds_at us) × Lacks assign us × Lacks comma us

pub semicolon_ends : {us vs : List Token} → Skips semicolon us vs → EndsList us
semicolon_ends t = (ends_at 6 t.2 (lit< tt), lacks_at assign _ t.2 t.2.fits refl, lacks_at comma _ t.2 t.2.fits refl)

-- nor with a declarator that has others behind it
next_ends : {allowed : Allowed} {b : Base} {n m : ℕ} {ls : List LocalDeclarator} {us vs : List Token} → statement.Spells allowed (statement.More_declarators b) n ls us m vs → EndsList vs
    → (6 < binds_at us) × Lacks assign us
next_ends statement.last_declarator e = (e.0, e.1)
next_ends (statement.next_declarator t g l r) e = (ends_at 6 t.2 (lit< tt), lacks_at assign _ t.2 t.2.fits refl)

-- stars and a name begin at some place
starred_place : {allowed : Allowed} {j : ℕ} {ts us : List Token} {P : phrase.Part} {a : phrase.Tree P} {p : Pos} {t : List ℕ} {vs : List Token} → phrase.Spells allowed P a ts us → P ≡ phrase.Stars j → Takes A_name us p t vs
    → (q : Pos) × (place ts ≡ Some q)
starred_place {p = p} phrase.no_star e n = (p, ap place n.parts)
starred_place (phrase.a_star t s) e n = (t.0, ap place t.2.parts)
starred_place s e n = absurd cc

-- ---- what a statement is no part of

passes_words : {limits : Limits} {k : ℕ} {in_loop : Bool} {d n : ℕ} {a : Numbered Branch} {ts us : List Token} → Starts simple_word ts → Through limits k (Braceless in_loop d n) (simply_said in_loop d n) a ts us
    → Through limits k (Braceless in_loop d n) (plan (Braceless in_loop d n)) a ts us
unfolding is_reserved is_left_out
passes_words {in_loop = true} b r =
    t_passes (no_mark_first mark.Semicolon b refl) (t_passes (no_word_first (codes "return") b refl) (t_passes (no_word_first (codes "if") b refl)
    (t_passes (no_word_first (codes "while") b refl) (t_passes (no_word_first (codes "do") b refl) (t_passes (no_word_first (codes "for") b refl)
    (t_passes (no_word_first (codes "break") b refl) (t_passes (no_word_first (codes "continue") b refl) r)))))))
passes_words {in_loop = false} b r =
    t_passes (no_mark_first mark.Semicolon b refl) (t_passes (no_word_first (codes "return") b refl) (t_passes (no_word_first (codes "if") b refl)
    (t_passes (no_word_first (codes "while") b refl) (t_passes (no_word_first (codes "do") b refl) (t_passes (no_word_first (codes "for") b refl) r)))))

passes_locals : {limits : Limits} {k : ℕ} {in_loop : Bool} {d : ℕ} {of_function : Bool} {n : ℕ} {a : Tree (Statements in_loop d of_function n)} {ts us : List Token} → Starts statement_word ts
    → Through limits k (Statements in_loop d of_function n) (call (A_statement in_loop d n) (λ x. behind_statement in_loop d of_function n x.what.stmt x.items)) a ts us
    → Through limits k (Statements in_loop d of_function n) (plan (Statements in_loop d of_function n)) a ts us
unfolding is_reserved is_left_out
passes_locals b r =
    t_passes (no_mark_first mark.CloseBrace b refl) (t_passes (no_word_first (codes "volatile") b refl) (t_passes (no_word_first (codes "pthread_t") b refl)
    (t_passes (no_word_first (codes "int") b refl) (t_passes (no_word_first (codes "struct") b refl) r))))

passes_bases : {limits : Limits} {k n : ℕ} {a : Tree (For_first n)} {ts us : List Token} → Starts simple_word ts
    → Through limits k (For_first n) (call (Simple_at (an_item n)) (λ x. must semicolon (give (numbered (Some (first.Simple (item (suc n) x.pos) x.what)) (suc n))))) a ts us
    → Through limits k (For_first n) (plan (For_first n)) a ts us
unfolding is_reserved is_left_out
passes_bases b r = t_passes (no_mark_first mark.Semicolon b refl) (t_passes (no_word_first (codes "int") b refl) (t_passes (no_word_first (codes "struct") b refl) r))

-- a statement without braces is a statement
plainly_read : {limits : Limits} {k : ℕ} {in_loop : Bool} {d n : ℕ} {a : Numbered Branch} {ts us : List Token} → Lacks open_brace ts
    → Through limits k (Braceless in_loop d n) (plan (Braceless in_loop d n)) a ts us
    → Through limits k (A_statement in_loop d n) (plan (A_statement in_loop d n)) a ts us × (Lacks open_brace ts → Through limits k (Braceless in_loop d n) (plan (Braceless in_loop d n)) a ts us)
plainly_read l r = (t_passes l (t_calls r t_gives), λ x. r)

-- ---- branches

-- no `else` follows that would belong to an `if` in a branch
abbrev pub NoElse : Branch → List Token → Type 0
NoElse a us = a.is_open ≡ true → Lacks (The_word (codes "else")) us

else_read : {limits : Limits} {k : ℕ} {in_loop : Bool} {d : ℕ} {i : ItemAt} {c : Exp} {x : Branch} {y : Numbered Branch} {n : ℕ} {ts us vs : List Token} (b : Bool) → b ≡ false → Skips (The_word (codes "else")) ts us
    → Through limits k (A_body in_loop (suc d) n) (plan (A_body in_loop (suc d) n)) y us vs
    → Through limits k (Else_part in_loop d i c x n) (if_closed in_loop d i c x n b) (numbered (with_else i c x y.what) y.items) ts vs
else_read false h t r = t_maybe t (t_calls r t_gives)
else_read true h t r = absurd cc

no_else_read : {limits : Limits} {k : ℕ} {in_loop : Bool} {d : ℕ} {i : ItemAt} {c : Exp} {x : Branch} {n : ℕ} {us : List Token} (b : Bool) → Lacks (The_word (codes "else")) us
    → Through limits k (Else_part in_loop d i c x n) (if_closed in_loop d i c x n b) (numbered (without_else i c x) n) us us
no_else_read false l = t_passes l t_gives
no_else_read true l = t_gives

-- where an `if` goes on with no `else`, so does its branch
ends_branch : {allowed : Allowed} {in_loop : Bool} {d n m : ℕ} {i : ItemAt} {c : Exp} {x a : Branch} {us vs : List Token} → statement.Spells allowed (statement.Else_part in_loop d i c x) n a us m vs → NoElse a vs → NoElse x us
ends_branch statement.no_else h o = h refl
ends_branch (statement.an_else i t s) h o = absurd cc

count_close : (limits : Limits) (k n : ℕ) (of_function : Bool) (us : List Token) → (of_function ≡ true → kept limits k (Limit Items) (suc n) us ≡ true) → Counts limits k (at_close of_function n) us
count_close limits k n true us h = count_item limits k n us (h refl)
count_close limits k n false us h = none limits k us

-- what is read of a part of a block
abbrev pub Reading : Limits → ℕ → (P : statement.Part) → ℕ → statement.Tree P → List Token → ℕ → List Token → Type 0
Reading limits k (statement.A_statement in_loop d) n a ts m us =
    NoElse a us → Through limits k (A_statement in_loop d n) (plan (A_statement in_loop d n)) (numbered a m) ts us
    × (Lacks open_brace ts → Through limits k (Braceless in_loop d n) (plan (Braceless in_loop d n)) (numbered a m) ts us)
Reading limits k (statement.A_body in_loop d) n a ts m us = NoElse a us → Through limits k (A_body in_loop d n) (plan (A_body in_loop d n)) (numbered a m) ts us
Reading limits k (statement.Else_part in_loop d i c x) n a ts m us =
    NoElse a us → Through limits k (Else_part in_loop d i c x n) (plan (Else_part in_loop d i c x n)) (numbered a m) ts us
Reading limits k (statement.Statements in_loop d) n a ts m us =
    (of_function : Bool) (p : Pos) (ws : List Token) → Takes close_brace us p tt ws → (of_function ≡ true → kept limits k (Limit Items) (suc m) us ≡ true)
    → Through limits k (Statements in_loop d of_function n) (plan (Statements in_loop d of_function n)) (record { pos = p; what = numbered a m }) ts ws
Reading limits k P n a ts m us = Unit {0}

-- what is proved of expressions, declarators and simple statements
pub record Others : Type 0 where
  pub reads_expression : (limits : Limits) (k : ℕ) (cs : List Count) {a : Operand} {ts us : List Token} → exp.Spells (kept limits k) exp.Expression a ts us → Counts limits k cs ts → 6 < binds_at us
      → Through limits k (Expression cs) (plan (Expression cs)) a ts us
  pub reads_starred_name : (limits : Limits) (k : ℕ) (cs at_name : List Count) (b : Base) {x : Starred} {ts us : List Token} → SpellsStarred limits k cs at_name b x ts us
      → Through limits k (Starred_name cs at_name b) (plan (Starred_name cs at_name b)) x ts us
  pub reads_initializer : (limits : Limits) (k : ℕ) {r : Option Right} {ts us : List Token} → phrase.Spells (kept limits k) phrase.An_initializer r ts us → 6 < binds_at us → Lacks assign us
      → Through limits k Initializer (plan Initializer) r ts us
  pub reads_simple : (limits : Limits) (k : ℕ) (cs : List Count) {s : Simple} {p : Pos} {ts us : List Token} → phrase.Spells (kept limits k) phrase.A_simple s ts us → place ts ≡ Some p → Counts limits k cs ts
      → 6 < binds_at us → Through limits k (Simple_at cs) (plan (Simple_at cs)) (record { pos = p; what = s }) ts us

module _ (others : Others) where
  pub reads_first_declarator : (limits : Limits) (k : ℕ) {b : Base} {p : Pos} {n m : ℕ} {l : LocalDeclarator} {ts us : List Token} → statement.Spells (kept limits k) (statement.A_declarator b p) n l ts m us
      → 6 < binds_at us → Lacks assign us → Through limits k (First_declarator b p n) (plan (First_declarator b p n)) l ts us
  reads_first_declarator limits k {b = b} {n = n} {ts = ts} (statement.a_declarator {q = q} {k = j} {t = t} {us = us} {vs = vs} s h x i) e f =
      let at = starred_place s refl x.takes in
      t_calls
      (others.reads_starred_name limits k [] [] b {x = record { pos = at.0; stars = j; name = name q t }}
      (record { us = us; p = q; t = t; stars = s; has_star = h; names = x; is_name = refl; at = at.1; first = none limits k ts; counted = none limits k us }))
      (t_calls (others.reads_initializer limits k i e f) t_gives)

  pub reads_more_declarators : (limits : Limits) (k : ℕ) {b : Base} {n m : ℕ} {ls : List LocalDeclarator} {ts us : List Token} → statement.Spells (kept limits k) (statement.More_declarators b) n ls ts m us
      → EndsList us → Through limits k (More_declarators b n) (plan (More_declarators b n)) (numbered ls m) ts us
  reads_more_declarators limits k statement.last_declarator e = t_passes e.2 t_gives
  reads_more_declarators limits k (statement.next_declarator {b = b} {p = p} {n = n} {us = ts} t g (statement.a_declarator {q = q} {k = j} {t = text} {us = us} s h x i) r) e =
      let ends = next_ends r e in
      t_maybe t (t_calls
      (others.reads_starred_name limits k (an_item n) [] b {x = record { pos = p; stars = j; name = name q text }}
      (record { us = us; p = q; t = text; stars = s; has_star = h; names = x; is_name = refl; at = g.at; first = count_item limits k n ts g.counted; counted = none limits k us }))
      (t_calls (others.reads_initializer limits k i ends.0 ends.1) (t_calls (reads_more_declarators limits k r e) t_gives)))

  pub reads_more_threads : (limits : Limits) (k : ℕ) {n m : ℕ} {ls : List ThreadLocal} {ts us : List Token} → statement.Spells (kept limits k) statement.More_threads n ls ts m us → Lacks comma us
      → Through limits k (More_threads n) (plan (More_threads n)) (numbered ls m) ts us
  reads_more_threads limits k statement.last_thread e = t_passes e t_gives
  reads_more_threads limits k {us = ws} (statement.next_thread {p = p} {q = q} {n = n} {m = m} {t = text} {ls = ls} {ts = ts} {us = us} {vs = vs} t g x r) e =
      subst (λ z. Through limits k (More_threads n) (plan (More_threads n)) (numbered (record { item = item (suc n) p; name = name z text } ∷ ls) m) ts ws) (sym (same_place x.takes g.at))
      (t_maybe t (t_wants (taken_at x.takes g.at) (count_name limits k (an_item n) q text us vs x (count_item limits k n us g.counted)) (t_calls (reads_more_threads limits k r e) t_gives)))

  pub reads_threads : (limits : Limits) (k : ℕ) (p : Pos) {q : Pos} {n m : ℕ} {t : List ℕ} {ls : List ThreadLocal} {us vs ws : List Token} → Names (kept limits k) us q t vs
      → statement.Spells (kept limits k) statement.More_threads (suc n) ls vs m ws → Lacks comma ws
      → Through limits k (Threads_at p n) (plan (Threads_at p n)) (numbered (locals.Threads (record { item = item (suc n) p; name = name q t } ∷ ls)) m) us ws
  reads_threads limits k p {q} {t = t} {us = us} {vs = vs} x r e = t_wants x.takes (count_name limits k [] q t us vs x (none limits k us)) (t_calls (reads_more_threads limits k r e) t_gives)

  pub reads_variables : (limits : Limits) (k : ℕ) {b : Base} {p : Pos} {n j m : ℕ} {l : LocalDeclarator} {ls : List LocalDeclarator} {us vs ws : List Token} → statement.Spells (kept limits k) (statement.A_declarator b p) n l us j vs
      → statement.Spells (kept limits k) (statement.More_declarators b) j ls vs m ws → EndsList ws
      → Through limits k (Variables_at b p n) (plan (Variables_at b p n)) (numbered (locals.Variables b (l ∷ ls)) m) us ws
  reads_variables limits k (statement.a_declarator s h x i) r e =
      let ends = next_ends r e in
      t_calls (reads_first_declarator limits k (statement.a_declarator s h x i) ends.0 ends.1) (t_calls (reads_more_declarators limits k r e) t_gives)

  pub reads_local : (limits : Limits) (k : ℕ) {p : Pos} {n m : ℕ} {l : Locals} {ts us : List Token} → statement.Spells (kept limits k) (statement.Declared p) n l ts m us → EndsList us
      → Through limits k (Local_at p n) (plan (Local_at p n)) (numbered l m) ts us
  reads_local limits k (statement.volatile_locals t s) e = t_maybe t (t_calls (reads_local limits k s e) t_gives)
  reads_local limits k {p = p} (statement.thread_locals t x r) e =
      t_passes (lacks_at (The_word (codes "volatile")) _ t.2 t.2.fits refl) (t_maybe t (t_calls (reads_threads limits k p x r e.2) t_gives))
  reads_local limits k (statement.variable_locals (phrase.int_base t) s r) e =
      t_passes (lacks_at (The_word (codes "volatile")) _ t.2 t.2.fits refl) (t_passes (lacks_at (The_word (codes "pthread_t")) _ t.2 t.2.fits refl) (t_maybe t (t_calls (reads_variables limits k s r e) t_gives)))
  reads_local limits k (statement.variable_locals (phrase.struct_base {p = q} {t = text} {us = us} {vs = vs} t x) s r) e =
      t_passes (lacks_at (The_word (codes "volatile")) _ t.2 t.2.fits refl) (t_passes (lacks_at (The_word (codes "pthread_t")) _ t.2 t.2.fits refl) (t_passes (lacks_at (The_word (codes "int")) _ t.2 t.2.fits refl)
      (t_must t (t_wants x.takes (count_name limits k [] q text us vs x (none limits k us)) (t_calls (reads_variables limits k s r e) t_gives)))))

  -- locals as the next of a block
  reads_declared : (limits : Limits) (k : ℕ) {in_loop : Bool} {d : ℕ} {of_function : Bool} {p : Pos} {n m : ℕ} {l : Locals} {a : Tree (Statements in_loop d of_function n)} {ts us vs : List Token}
      → Counts limits k (nested_item n d) ts → place ts ≡ Some p → statement.Spells (kept limits k) (statement.Declared p) n l ts m us → EndsList us
      → Through limits k (Statements in_loop d of_function n) (behind_locals in_loop d of_function n (numbered l m)) a us vs
      → Through limits k (Statements in_loop d of_function n) (plan (Statements in_loop d of_function n)) a ts vs
  reads_declared limits k c g (statement.volatile_locals t s) e m = t_passes (lacks_at close_brace _ t.2 t.2.fits refl) (t_takes (taken_at t.2 g) c tt (t_calls (reads_local limits k s e) m))
  reads_declared limits k {p = p} c g (statement.thread_locals t x r) e m =
      t_passes (lacks_at close_brace _ t.2 t.2.fits refl) (t_passes (lacks_at (The_word (codes "volatile")) _ t.2 t.2.fits refl)
      (t_takes (taken_at t.2 g) c tt (t_calls (reads_threads limits k p x r e.2) m)))
  reads_declared limits k c g (statement.variable_locals (phrase.int_base t) s r) e m =
      t_passes (lacks_at close_brace _ t.2 t.2.fits refl) (t_passes (lacks_at (The_word (codes "volatile")) _ t.2 t.2.fits refl) (t_passes (lacks_at (The_word (codes "pthread_t")) _ t.2 t.2.fits refl)
      (t_takes (taken_at t.2 g) c tt (t_calls (reads_variables limits k s r e) m))))
  reads_declared limits k c g (statement.variable_locals (phrase.struct_base {p = q} {t = text} {us = us} {vs = vs} t x) s r) e m =
      t_passes (lacks_at close_brace _ t.2 t.2.fits refl) (t_passes (lacks_at (The_word (codes "volatile")) _ t.2 t.2.fits refl) (t_passes (lacks_at (The_word (codes "pthread_t")) _ t.2 t.2.fits refl)
      (t_passes (lacks_at (The_word (codes "int")) _ t.2 t.2.fits refl)
      (t_takes (taken_at t.2 g) c tt (t_wants x.takes (count_name limits k [] q text us vs x (none limits k us)) (t_calls (reads_variables limits k s r e) m))))))

  pub reads_condition : (limits : Limits) (k : ℕ) {w : List ℕ} {n : ℕ} {c : Operand} {ts us : List Token} (x : Conditions (kept limits k) w n c ts us)
      → Through limits k (Condition n) (plan (Condition n)) c x.behind_word us
  reads_condition limits k {n = n} x =
      t_must x.paren (t_calls (others.reads_expression limits k (an_item n) x.condition (count_item limits k n x.inside x.counted) (ends_at 6 x.close.2 (lit< tt))) (t_must x.close t_gives))

  pub reads_for_first : (limits : Limits) (k : ℕ) {n m : ℕ} {f : Option ForFirst} {ts us : List Token} → statement.Spells (kept limits k) statement.For_first n f ts m us
      → Through limits k (For_first n) (plan (For_first n)) (numbered f m) ts us
  reads_for_first limits k (statement.nothing_first t) = t_maybe t t_gives
  reads_for_first limits k (statement.simple_first {n = n} {ts = ts} g s e) =
      passes_bases (begins_simple s) (t_calls (others.reads_simple limits k (an_item n) s g.at (count_item limits k n ts g.counted) (ends_at 6 e.2 (lit< tt))) (t_must e t_gives))
  reads_for_first limits k (statement.local_first {n = n} {ts = ts} g (phrase.int_base t) (statement.a_declarator s h x i) e) =
      let ends = semicolon_ends e in
      t_passes (lacks_at semicolon _ t.2 t.2.fits refl)
      (t_takes (taken_at t.2 g.at) (count_item limits k n ts g.counted) tt (t_calls (reads_first_declarator limits k (statement.a_declarator s h x i) ends.0 ends.1) (t_must e t_gives)))
  reads_for_first limits k (statement.local_first {n = n} {ts = ts} g (phrase.struct_base {p = q} {t = text} {us = us} {vs = vs} t y) (statement.a_declarator s h x i) e) =
      let ends = semicolon_ends e in
      t_passes (lacks_at semicolon _ t.2 t.2.fits refl) (t_passes (lacks_at (The_word (codes "int")) _ t.2 t.2.fits refl)
      (t_takes (taken_at t.2 g.at) (count_item limits k n ts g.counted) tt (t_wants y.takes (count_name limits k [] q text us vs y (none limits k us))
      (t_calls (reads_first_declarator limits k (statement.a_declarator s h x i) ends.0 ends.1) (t_must e t_gives)))))

  pub reads_for_condition : (limits : Limits) (k : ℕ) {n m : ℕ} {c : Head (Option Exp)} {ts us : List Token} → statement.Spells (kept limits k) statement.For_condition n c ts m us
      → Through limits k (For_condition n) (plan (For_condition n)) c ts us
  reads_for_condition limits k (statement.no_condition {n = n} {ts = ts} g t) = t_takes (taken_at t.2 g.at) (count_item limits k n ts g.counted) tt t_gives
  reads_for_condition limits k (statement.a_condition {n = n} {ts = ts} g s e) =
      t_passes (no_mark_first mark.Semicolon (begins_expression s) refl)
      (t_calls (others.reads_expression limits k (an_item n) s (count_item limits k n ts g) (ends_at 6 e.2 (lit< tt))) (t_must e t_gives))

  pub reads_for_step : (limits : Limits) (k : ℕ) {n m : ℕ} {g : Option (ItemAt × Simple)} {ts us : List Token} → statement.Spells (kept limits k) statement.For_step n g ts m us
      → Through limits k (For_step n) (plan (For_step n)) (numbered g m) ts us
  reads_for_step limits k (statement.no_step t) = t_maybe t t_gives
  reads_for_step limits k (statement.a_step {n = n} {ts = ts} g s e) =
      t_passes (no_mark_first mark.CloseParen (begins_simple s) refl)
      (t_calls (others.reads_simple limits k (an_item n) s g.at (count_item limits k n ts g.counted) (ends_at 6 e.2 (lit< tt))) (t_must e t_gives))

  -- behind the word `return`
  reads_return : (limits : Limits) (k : ℕ) {in_loop : Bool} {d n : ℕ} {p : Pos} {a : Option Exp} {us vs ws : List Token} → phrase.Spells (kept limits k) phrase.An_optional_expression a us vs → Skips semicolon vs ws
      → Through limits k (Braceless in_loop d n) (behind_return in_loop d n p) (numbered (closed (s.Return (item (suc n) p) a)) (suc n)) us ws
  reads_return limits k phrase.no_expression e = t_maybe e t_gives
  reads_return limits k {us = us} (phrase.some_expression s) e =
      t_passes (no_mark_first mark.Semicolon (begins_expression s) refl) (t_calls (others.reads_expression limits k [] s (none limits k us) (ends_at 6 e.2 (lit< tt))) (t_must e t_gives))

  -- a condition of a `for` is an item
  for_condition_items : {allowed : Allowed} {n m : ℕ} {c : Head (Option Exp)} {ts us : List Token} → statement.Spells allowed statement.For_condition n c ts m us → m ≡ suc n
  for_condition_items (statement.no_condition g t) = refl
  for_condition_items (statement.a_condition g s e) = refl

  -- statements, branches and what a block holds
  pub reads_part : (limits : Limits) (k : ℕ) {P : statement.Part} {n m : ℕ} {a : statement.Tree P} {ts us : List Token} → statement.Spells (kept limits k) P n a ts m us → Reading limits k P n a ts m us
  reads_part limits k statement.no_statement = λ f p ws c g. t_takes c (count_close limits k _ f _ g) tt t_gives
  reads_part limits k (statement.a_statement s r) = λ f p ws c g.
      passes_locals (begins_statement s) (t_calls (reads_part limits k s (λ o. not_else_after r c)).0 (t_calls (reads_part limits k r f p ws c g) t_gives))
  reads_part limits k (statement.declared_locals {d = d} {n = n} {ts = ts} h b l e r) = λ f p ws c g.
      reads_declared limits k (count_both limits k n d ts b.counted h) b.at l (semicolon_ends e) (t_must e (t_calls (reads_part limits k r f p ws c g) t_gives))
  reads_part limits k (statement.a_block {d = d} {ts = ts} {us = us} {ws = ws} h t r c) = λ o.
      (t_takes t.2 (count_nesting limits k d ts h) tt (t_calls (reads_part limits k r false c.0 ws c.2 (λ x. absurd cc)) t_gives), λ l. absurd (l t.0 t.1 us t.2))
  reads_part limits k (statement.an_empty {d = d} {ts = ts} h t) = λ o. plainly_read (lacks_at open_brace _ t.2 t.2.fits refl) (t_takes t.2 (count_nesting limits k d ts h) tt t_gives)
  reads_part limits k (statement.a_simple {d = d} {n = n} {ts = ts} h b s e) = λ o.
      plainly_read (no_mark_first mark.OpenBrace (begins_simple s) refl)
      (passes_words (begins_simple s) (t_calls (others.reads_simple limits k (nested_item n d) s b.at (count_both limits k n d ts b.counted h) (ends_at 6 e.2 (lit< tt))) (t_must e t_gives)))
  reads_part limits k (statement.a_return {d = d} {n = n} {ts = ts} h b t s e) = λ o.
      plainly_read (lacks_at open_brace _ t.2 t.2.fits refl)
      (t_passes (lacks_at semicolon _ t.2 t.2.fits refl) (t_takes (taken_at t.2 b.at) (count_both limits k n d ts b.counted h) tt (reads_return limits k s e)))
  reads_part limits k (statement.a_break {d = d} {ts = ts} h t e) = λ o.
      plainly_read (lacks_at open_brace _ t t.fits refl)
      (t_passes (lacks_at semicolon _ t t.fits refl) (t_passes (lacks_at (The_word (codes "return")) _ t t.fits refl) (t_passes (lacks_at (The_word (codes "if")) _ t t.fits refl)
      (t_passes (lacks_at (The_word (codes "while")) _ t t.fits refl) (t_passes (lacks_at (The_word (codes "do")) _ t t.fits refl) (t_passes (lacks_at (The_word (codes "for")) _ t t.fits refl)
      (t_takes t (count_nesting limits k d ts h) tt (t_must e t_gives))))))))
  reads_part limits k (statement.a_continue {d = d} {ts = ts} h t e) = λ o.
      plainly_read (lacks_at open_brace _ t t.fits refl)
      (t_passes (lacks_at semicolon _ t t.fits refl) (t_passes (lacks_at (The_word (codes "return")) _ t t.fits refl) (t_passes (lacks_at (The_word (codes "if")) _ t t.fits refl)
      (t_passes (lacks_at (The_word (codes "while")) _ t t.fits refl) (t_passes (lacks_at (The_word (codes "do")) _ t t.fits refl) (t_passes (lacks_at (The_word (codes "for")) _ t t.fits refl)
      (t_passes (lacks_at (The_word (codes "break")) _ t t.fits refl) (t_takes t (count_nesting limits k d ts h) tt (t_must e t_gives)))))))))
  reads_part limits k (statement.an_if {d = d} {ts = ts} h c s e) = λ o.
      let t = c.word.2 in
      plainly_read (lacks_at open_brace _ t t.fits refl)
      (t_passes (lacks_at semicolon _ t t.fits refl) (t_passes (lacks_at (The_word (codes "return")) _ t t.fits refl)
      (t_takes t (count_nesting limits k d ts h) tt (t_calls (reads_condition limits k c) (t_calls (reads_part limits k s (ends_branch e o)) (t_calls (reads_part limits k e o) t_gives))))))
  reads_part limits k (statement.no_else {x = x}) = λ o. no_else_read x.is_open (o refl)
  reads_part limits k (statement.an_else {x = x} i t s) = λ o. else_read x.is_open i t (reads_part limits k s o)
  reads_part limits k (statement.a_while {d = d} {ts = ts} h c s) = λ o.
      let t = c.word.2 in
      plainly_read (lacks_at open_brace _ t t.fits refl)
      (t_passes (lacks_at semicolon _ t t.fits refl) (t_passes (lacks_at (The_word (codes "return")) _ t t.fits refl) (t_passes (lacks_at (The_word (codes "if")) _ t t.fits refl)
      (t_takes t (count_nesting limits k d ts h) tt (t_calls (reads_condition limits k c) (t_calls (reads_part limits k s o) t_gives))))))
  reads_part limits k (statement.a_do {d = d} {ts = ts} h w s c e) = λ o.
      let t = w.2 in
      plainly_read (lacks_at open_brace _ t t.fits refl)
      (t_passes (lacks_at semicolon _ t t.fits refl) (t_passes (lacks_at (The_word (codes "return")) _ t t.fits refl) (t_passes (lacks_at (The_word (codes "if")) _ t t.fits refl)
      (t_passes (lacks_at (The_word (codes "while")) _ t t.fits refl)
      (t_takes t (count_nesting limits k d ts h) tt
      (t_calls (reads_part limits k s (λ i. lacks_at (The_word (codes "else")) _ c.word.2 c.word.2.fits refl)) (t_must c.word (t_calls (reads_condition limits k c) (t_must e t_gives)))))))))
  reads_part limits k (statement.a_for {d = d} {i = i} {g = g} {ts = ts} {xs = xs} {ys = ys} h w b f c step s) = λ o.
      let t = w.2 in
      let after = subst (λ l. statement.Spells (kept limits k) statement.For_step l g xs i ys) (for_condition_items c) step in
      plainly_read (lacks_at open_brace _ t t.fits refl)
      (t_passes (lacks_at semicolon _ t t.fits refl) (t_passes (lacks_at (The_word (codes "return")) _ t t.fits refl) (t_passes (lacks_at (The_word (codes "if")) _ t t.fits refl)
      (t_passes (lacks_at (The_word (codes "while")) _ t t.fits refl) (t_passes (lacks_at (The_word (codes "do")) _ t t.fits refl)
      (t_takes t (count_nesting limits k d ts h) tt
      (t_must b (t_calls (reads_for_first limits k f) (t_calls (reads_for_condition limits k c) (t_calls (reads_for_step limits k after) (t_calls (reads_part limits k s o) t_gives)))))))))))
  reads_part limits k (statement.a_braced_body {ws = ws} t r c) = λ o. t_maybe t (t_calls (reads_part limits k r false c.0 ws c.2 (λ x. absurd cc)) t_gives)
  reads_part limits k (statement.a_plain_body l s) = λ o. t_passes l (t_calls ((reads_part limits k s o).1 l) t_gives)
  reads_part limits k s = tt

  pub reads_block : (limits : Limits) (k : ℕ) (in_loop : Bool) (d : ℕ) (of_function : Bool) (n : ℕ) {m : Tree (Statements in_loop d of_function n)} {ts us : List Token} → SpellsBlock limits k in_loop d of_function n m ts us
      → Through limits k (Statements in_loop d of_function n) (plan (Statements in_loop d of_function n)) m ts us
  reads_block limits k in_loop d of_function n {m} {us = us} s = reads_part limits k s.statements of_function m.pos us s.close s.counted

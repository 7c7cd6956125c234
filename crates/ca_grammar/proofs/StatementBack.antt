-- What may be read as a part of a statement is spelled so; and which tokens a statement begins with.
use Rattle.std.proofs.Common.{◌≡◌, ℕ, suc, Bool, true, false, ◌||◌, List, [], ◌∷◌, Option, if◌then◌else◌, codes, refl, sym, ap, subst, ◌∙◌}
use Rattle.std.specs.Str.{bytes_eq}
use Rattle.std.specs.Option.{is_some}
use Rattle.std.proofs.lemmas.List.Elements.{All-head, All-tail}
use Rattle.ca_tree.specs.declared.text.Pos.{Pos}
use Rattle.ca_tree.specs.declared.token.Token.{Token}
use Rattle.ca_tree.specs.declared.token.Word.{Word}
use Rattle.ca_tree.specs.declared.token.Word.TheVariants as word
use Rattle.ca_tree.specs.declared.token.Mark.{Mark}
use Rattle.ca_tree.specs.declared.token.Mark.TheVariants as mark
use Rattle.ca_tree.specs.declared.tree.Base.{Base}
use Rattle.ca_tree.specs.declared.tree.Exp.{Exp}
use Rattle.ca_tree.specs.declared.tree.ItemAt.{ItemAt}
use Rattle.ca_tree.specs.declared.tree.Locals.{Locals}
use Rattle.ca_tree.specs.declared.tree.Right.{Right}
use Rattle.ca_tree.specs.declared.tree.Stmt.{Stmt}
use Rattle.ca_tree.specs.Lexed.{token}
use Rattle.ca_grammar.specs.declared.faults.Count.{Count}
use Rattle.ca_tree.specs.declared.counted.Counted.TheVariants.{Items, Nesting}
use Rattle.ca_tree.specs.Names.{is_reserved, is_left_out, is_one_of}
use Rattle.ca_tree.specs.StatementTrees.{Branch, item}
use Rattle.ca_grammar.specs.declared.operand.Operand.{Operand}
use Rattle.ca_grammar.specs.Words.{Class, The_mark, The_word, A_name, Of, Takes, Skips, Lacks, place, unary_operator, step_operator, open_brace, close_brace}
use Rattle.ca_grammar.specs.Limits.{Limit, Limits, Allowed, kept}
use Rattle.ca_grammar.specs.Expressions as exp
use Rattle.ca_grammar.specs.Phrases as phrase
use Rattle.ca_grammar.specs.Phrases.{Names}
use Rattle.ca_grammar.specs.Statements as statement
use Rattle.ca_grammar.specs.Statements.{Begins, is_deep}
use Rattle.ca_grammar.specs.Goals.{Goal, Tree, Starred, First_declarator, More_declarators, More_threads, Threads_at, Variables_at, Local_at, Statements, A_statement, Braceless, A_body, Condition, Else_part, For_first, For_condition, For_step}
use Rattle.ca_grammar.specs.Plan.{and_name}
use Rattle.ca_grammar.specs.StatementPlans.{an_item, nested, nested_item, declarator, at_close, if_closed, simply_said, in_loops}
use Rattle.ca_grammar.specs.Reads.{plan}
use Rattle.ca_grammar.proofs.Loose.{Counts, Roomy, Spelled, SpellsStarred, Loose, l_give, l_take, l_pass, l_want, l_call}
use Rattle.ca_grammar.proofs.Combinators.{counts_before, count_of_name, lacks_at}

-- ---- what a simple statement and a statement begin with

-- the first word of some tokens passes a test
pub record Starts (test : Word → Bool) (ts : List Token) : Type 0 where
  pub first : Word
  pub at : Pos
  pub us : List Token
  pub parts : ts ≡ token at first ∷ us
  pub holds : test first ≡ true

-- a name that isn't reserved, `NULL`, a number or `(`
abbrev pub plain_word : Word → Bool
plain_word (word.Mark mark.OpenParen) = true
plain_word (word.Number n) = true
plain_word (word.Name t) = if is_reserved t then bytes_eq t (codes "NULL") else true
plain_word w = false

-- what an expression begins with
abbrev pub expression_word : Word → Bool
expression_word w = is_some (unary_operator w) || plain_word w

-- what a simple statement begins with
abbrev pub simple_word : Word → Bool
simple_word w = is_some (step_operator w) || expression_word w

-- the words of statements
abbrev pub statement_words : List (List ℕ)
statement_words = codes "return" ∷ codes "break" ∷ codes "continue" ∷ codes "if" ∷ codes "while" ∷ codes "do" ∷ codes "for" ∷ []

abbrev pub more_words : Word → Bool
more_words (word.Mark mark.OpenBrace) = true
more_words (word.Mark mark.Semicolon) = true
more_words (word.Name t) = is_one_of statement_words t
more_words w = false

-- what a statement begins with
abbrev pub statement_word : Word → Bool
statement_word w = more_words w || simple_word w

starts : {c : Class} {p : Pos} {x : Of c} {ts us : List Token} {test : Word → Bool} (t : Takes c ts p x us) → test t.first ≡ true → Starts test ts
starts {p = p} {us = us} t h = record { first = t.first; at = p; us = us; parts = t.parts; holds = h }

-- tokens that begin with what passes a test begin with no mark and no word that doesn't
pub no_mark_first : {test : Word → Bool} {ts : List Token} (m : Mark) → Starts test ts → test (word.Mark m) ≡ false → Lacks (The_mark m) ts
no_mark_first {test} {ts} m s n q y vs t =
    let same : token s.at s.first ∷ s.us ≡ token q t.first ∷ vs = sym s.parts ∙ t.parts in
    let heads : token s.at s.first ≡ token q t.first = cc in
    let first : s.first ≡ word.Mark m = ap (λ (x : Token). x.word) heads ∙ t.fits in
    let holds : test (word.Mark m) ≡ true = subst (λ v. test v ≡ true) first s.holds in
    absurd cc

pub no_word_first : {test : Word → Bool} {ts : List Token} (w : List ℕ) → Starts test ts → test (word.Name w) ≡ false → Lacks (The_word w) ts
no_word_first {test} {ts} w s n q y vs t =
    let same : token s.at s.first ∷ s.us ≡ token q t.first ∷ vs = sym s.parts ∙ t.parts in
    let heads : token s.at s.first ≡ token q t.first = cc in
    let first : s.first ≡ word.Name w = ap (λ (x : Token). x.word) heads ∙ t.fits in
    let holds : test (word.Name w) ≡ true = subst (λ v. test v ≡ true) first s.holds in
    absurd cc

or_right : (b c : Bool) → c ≡ true → (b || c) ≡ true
or_right true c h = refl
or_right false c h = h

name_word : (w : Word) (t : List ℕ) → w ≡ word.Name t → is_reserved t ≡ false → plain_word w ≡ true
name_word w t i h = ap plain_word i ∙ ap (λ b. if b then bytes_eq t (codes "NULL") else true) h

null_plain : plain_word (word.Name (codes "NULL")) ≡ true
unfolding is_reserved is_left_out
null_plain = refl

-- what begins an expression part
abbrev pub Starting : exp.Part → List Token → Type 0
Starting exp.Primary ts = Starts expression_word ts
Starting (exp.Postfixes a) ts = Unit {0}
Starting exp.Postfix ts = Starts expression_word ts
Starting (exp.Level l) ts = Starts expression_word ts
Starting (exp.Operators l a) ts = Unit {0}
Starting exp.Unary ts = Starts expression_word ts
Starting exp.Expression ts = Starts expression_word ts

plainly : {c : Class} {p : Pos} {x : Of c} {ts us : List Token} (t : Takes c ts p x us) → plain_word t.first ≡ true → Starts expression_word ts
plainly t h = starts t (or_right (is_some (unary_operator t.first)) (plain_word t.first) h)

pub begins_expression : {allowed : Allowed} {P : exp.Part} {a : Operand} {ts us : List Token} → exp.Spells allowed P a ts us → Starting P ts
begins_expression (exp.a_number t) = plainly t (ap plain_word t.fits.0)
begins_expression (exp.a_null t) = plainly t (ap plain_word t.fits ∙ null_plain)
begins_expression (exp.a_name {t = x} t w) = plainly t (name_word t.first x t.fits.0 t.fits.1)
begins_expression (exp.parentheses t s e) = plainly t (ap plain_word t.fits)
begins_expression (exp.postfix s r) = begins_expression s
begins_expression exp.no_postfix = tt
begins_expression (exp.an_index t s e r) = tt
begins_expression (exp.a_field t m w r) = tt
begins_expression (exp.an_arrow t m w r) = tt
begins_expression (exp.a_unary t s) = starts t (ap (λ o. is_some o || plain_word t.first) t.fits)
begins_expression (exp.a_postfix s) = begins_expression s
begins_expression (exp.operands s r) = begins_expression s
begins_expression exp.no_operator = tt
begins_expression (exp.an_operator t s r) = tt
begins_expression (exp.a_whole_unary s w) = begins_expression s
begins_expression (exp.an_expression s w) = begins_expression s

widened : {test wider : Word → Bool} {ts : List Token} → ((w : Word) → test w ≡ true → wider w ≡ true) → Starts test ts → Starts wider ts
widened f s = record { first = s.first; at = s.at; us = s.us; parts = s.parts; holds = f s.first s.holds }

as_simple : {ts : List Token} → Starts expression_word ts → Starts simple_word ts
as_simple s = widened (λ w h. or_right (is_some (step_operator w)) (expression_word w) h) s

as_statement : {ts : List Token} → Starts simple_word ts → Starts statement_word ts
as_statement s = widened (λ w h. or_right (more_words w) (simple_word w) h) s

-- a call of the library begins with its word
called : {w : List ℕ} {ts us : List Token} → is_reserved w ≡ false → phrase.Calls w ts us → Starts simple_word ts
called {w} h c = as_simple (plainly c.word.2 (name_word c.word.2.first w c.word.2.fits h))

begins_library : {allowed : Allowed} {P : phrase.Part} {a : phrase.Tree P} {ts us : List Token} → phrase.Spells allowed P a ts us → P ≡ phrase.A_library_call → Starts simple_word ts
unfolding is_reserved is_left_out
begins_library (phrase.a_lock c a e) h = called refl c
begins_library (phrase.an_unlock c a e) h = called refl c
begins_library (phrase.a_create c a d n e f g s i) h = called refl c
begins_library (phrase.a_join c s d n e) h = called refl c
begins_library (phrase.a_free c s e) h = called refl c
begins_library (phrase.an_assert c s e) h = called refl c
begins_library (phrase.a_print c t w r) h = called refl c
begins_library s h = absurd cc

pub begins_simple : {allowed : Allowed} {a : phrase.Tree phrase.A_simple} {ts us : List Token} → phrase.Spells allowed phrase.A_simple a ts us → Starts simple_word ts
begins_simple (phrase.a_set t d r) = as_simple (begins_expression t.unary)
begins_simple (phrase.an_update t d r) = as_simple (begins_expression t.unary)
begins_simple (phrase.a_step_behind t d) = as_simple (begins_expression t.unary)
begins_simple (phrase.a_step_before t s) = starts t (ap (λ o. is_some o || expression_word t.first) t.fits)
begins_simple (phrase.a_called (phrase.a_call {t = x} t w d r)) = as_simple (plainly t (name_word t.first x t.fits.0 t.fits.1))
begins_simple (phrase.a_library_called s) = begins_library s refl

-- a word of a statement passes the test
a_keyword : {w : List ℕ} {ts us : List Token} → is_one_of statement_words w ≡ true → Skips (The_word w) ts us → Starts statement_word ts
a_keyword {w} h t = starts t.2 (ap statement_word t.2.fits ∙ ap (λ b. b || simple_word (word.Name w)) h)

pub begins_statement : {allowed : Allowed} {in_loop : Bool} {d n m : ℕ} {a : Branch} {ts us : List Token} → statement.Spells allowed (statement.A_statement in_loop d) n a ts m us → Starts statement_word ts
begins_statement (statement.a_block h t r c) = starts t.2 (ap statement_word t.2.fits)
begins_statement (statement.an_empty h t) = starts t.2 (ap statement_word t.2.fits)
begins_statement (statement.a_simple h g s e) = as_statement (begins_simple s)
begins_statement (statement.a_return h g t s e) = a_keyword refl t
begins_statement (statement.a_break {p = p} h t e) = a_keyword refl (p, tt, t)
begins_statement (statement.a_continue {p = p} h t e) = a_keyword refl (p, tt, t)
begins_statement (statement.an_if h c s e) = a_keyword refl c.word
begins_statement (statement.a_while h c s) = a_keyword refl c.word
begins_statement (statement.a_do h t s c e) = a_keyword refl t
begins_statement (statement.a_for h t o f c g s) = a_keyword refl t

-- a statement and a local begin with no `else`, and so what stands in a block goes on with no `if`
no_else_first : {ts : List Token} → Starts statement_word ts → Lacks (The_word (codes "else")) ts
unfolding is_reserved is_left_out
no_else_first s = no_word_first (codes "else") s refl

no_else_declared : {allowed : Allowed} {p : Pos} {n m : ℕ} {l : Locals} {ts us : List Token} → statement.Spells allowed (statement.Declared p) n l ts m us → Lacks (The_word (codes "else")) ts
no_else_declared (statement.volatile_locals t s) = lacks_at (The_word (codes "else")) _ t.2 t.2.fits refl
no_else_declared (statement.thread_locals t x r) = lacks_at (The_word (codes "else")) _ t.2 t.2.fits refl
no_else_declared (statement.variable_locals (phrase.int_base t) s r) = lacks_at (The_word (codes "else")) _ t.2 t.2.fits refl
no_else_declared (statement.variable_locals (phrase.struct_base t x) s r) = lacks_at (The_word (codes "else")) _ t.2 t.2.fits refl

pub not_else_after : {allowed : Allowed} {in_loop : Bool} {d n m : ℕ} {more : List Stmt} {p : Pos} {us vs ws : List Token} → statement.Spells allowed (statement.Statements in_loop d) n more us m vs
    → Takes close_brace vs p tt ws → Lacks (The_word (codes "else")) us
not_else_after statement.no_statement c = lacks_at (The_word (codes "else")) _ c c.fits refl
not_else_after (statement.a_statement s r) c = no_else_first (begins_statement s)
not_else_after (statement.declared_locals h g l e r) c = no_else_declared l

-- ---- what may be read is spelled so

is : (limits : Limits) (k : ℕ) (g : Goal) (ts us : List Token) {w a : Tree g} → w ≡ a → Spelled limits k g w ts us → Spelled limits k g a ts us
is limits k g ts us w s = subst (λ x. Spelled limits k g x ts us) w s

-- the one thing that is counted, or the first of them
the_count : (limits : Limits) (k : ℕ) (c : Count) (cs : List Count) (ts : List Token) → Counts limits k (c ∷ cs) ts → kept limits k (Limit c.of) c.number ts ≡ true
the_count limits k c cs ts h = All-head (λ x. kept limits k (Limit x.of) x.number ts ≡ true) c cs h

the_next_count : (limits : Limits) (k : ℕ) (b c : Count) (cs : List Count) (ts : List Token) → Counts limits k (b ∷ c ∷ cs) ts → kept limits k (Limit c.of) c.number ts ≡ true
the_next_count limits k b c cs ts h = the_count limits k c cs ts (All-tail (λ x. kept limits k (Limit x.of) x.number ts ≡ true) b (c ∷ cs) h)

is_nested : (limits : Limits) (k d : ℕ) (ts : List Token) → Counts limits k (nested d) ts → is_deep (kept limits k) d ts
is_nested limits k d ts h = the_count limits k (record { of = Nesting; number = d }) [] ts h

nested_too : (limits : Limits) (k n d : ℕ) (ts : List Token) → Counts limits k (nested_item n d) ts → is_deep (kept limits k) d ts
nested_too limits k n d ts h = the_next_count limits k (record { of = Items; number = suc n }) (record { of = Nesting; number = d }) [] ts h

item_allowed : (limits : Limits) (k n : ℕ) (cs : List Count) (ts : List Token) → Counts limits k (record { of = Items; number = suc n } ∷ cs) ts → kept limits k (Limit Items) (suc n) ts ≡ true
item_allowed limits k n cs ts h = the_count limits k (record { of = Items; number = suc n }) cs ts h

-- an item begins at a token
begins : (limits : Limits) (k n : ℕ) (cs : List Count) {c : Class} {p : Pos} {x : Of c} {ts us : List Token} → Takes c ts p x us → Counts limits k (record { of = Items; number = suc n } ∷ cs) ts → Begins (kept limits k) n p ts
begins limits k n cs {ts = ts} t h = record { at = ap place t.parts; counted = item_allowed limits k n cs ts h }

names : (limits : Limits) (k : ℕ) (cs : List Count) {p : Pos} {t : List ℕ} {ts us : List Token} → Takes A_name ts p t us → Counts limits k (and_name cs t) ts → Names (kept limits k) ts p t us
names limits k cs {t = t} {ts = ts} n h = record { takes = n; short = count_of_name limits k ts cs t h }

-- stars, a name and what is given to it are a declarator
declares : {limits : Limits} {k : ℕ} {cs at_name : List Count} {b : Base} {x : Starred} {r : Option Right} {ts us vs : List Token} (p : Pos) (n : ℕ)
    → SpellsStarred limits k cs at_name b x ts us → phrase.Spells (kept limits k) phrase.An_initializer r us vs → statement.Spells (kept limits k) (statement.A_declarator b p) n (declarator x p n r) ts (suc n) vs
declares {limits} {k} {b = b} {x = x} {r = r} {ts = ts} {vs = vs} p n s i =
    subst (λ y. statement.Spells (kept limits k) (statement.A_declarator b p) n (record { item = item (suc n) p; stars = x.stars; name = y; value = r }) ts (suc n) vs) (sym s.is_name)
    (statement.a_declarator s.stars s.has_star s.names i)

pub back_first_declarator : (limits : Limits) (k : ℕ) (b : Base) (p : Pos) (n : ℕ) (a : Tree (First_declarator b p n)) (ts us : List Token) → Roomy limits (First_declarator b p n)
    → Loose limits k (First_declarator b p n) (plan (First_declarator b p n)) a ts us → Spelled limits k (First_declarator b p n) a ts us
back_first_declarator limits k b p n a ts us h (l_call x s (l_call r i (l_give w))) = is limits k (First_declarator b p n) ts us w (declares p n (s h) (i h))

pub back_more_declarators : (limits : Limits) (k : ℕ) (b : Base) (n : ℕ) (a : Tree (More_declarators b n)) (ts us : List Token) → Roomy limits (More_declarators b n)
    → Loose limits k (More_declarators b n) (plan (More_declarators b n)) a ts us → Spelled limits k (More_declarators b n) a ts us
back_more_declarators limits k b n a ts us h (l_take {p = q} {x = y} t c d (l_call x s (l_call r i (l_call m j (l_give w))))) =
    let starred = s h in
    is limits k (More_declarators b n) ts us w
    (statement.next_declarator (q, y, t) (record { at = starred.at; counted = item_allowed limits k n [] _ starred.first }) (declares x.pos n starred (i h)) (j h))
back_more_declarators limits k b n a ts us h (l_pass (l_give w)) = is limits k (More_declarators b n) ts us w statement.last_declarator

pub back_more_threads : (limits : Limits) (k n : ℕ) (a : Tree (More_threads n)) (ts us : List Token) → Roomy limits (More_threads n)
    → Loose limits k (More_threads n) (plan (More_threads n)) a ts us → Spelled limits k (More_threads n) a ts us
back_more_threads limits k n a ts us h (l_take {p = q} {x = y} t c d (l_want {x = x} u e (l_call m j (l_give w)))) =
    is limits k (More_threads n) ts us w (statement.next_thread (q, y, t) (begins limits k n [] u (counts_before limits k _ (an_item n) x e)) (names limits k (an_item n) u e) (j h))
back_more_threads limits k n a ts us h (l_pass (l_give w)) = is limits k (More_threads n) ts us w statement.last_thread

pub back_threads : (limits : Limits) (k : ℕ) (p : Pos) (n : ℕ) (a : Tree (Threads_at p n)) (ts us : List Token) → Roomy limits (Threads_at p n)
    → Loose limits k (Threads_at p n) (plan (Threads_at p n)) a ts us → Spelled limits k (Threads_at p n) a ts us
back_threads limits k p n a ts us h (l_want u e (l_call m j (l_give w))) = is limits k (Threads_at p n) ts us w (λ pre s. statement.thread_locals s (names limits k [] u e) (j h))

pub back_variables : (limits : Limits) (k : ℕ) (b : Base) (p : Pos) (n : ℕ) (a : Tree (Variables_at b p n)) (ts us : List Token) → Roomy limits (Variables_at b p n)
    → Loose limits k (Variables_at b p n) (plan (Variables_at b p n)) a ts us → Spelled limits k (Variables_at b p n) a ts us
back_variables limits k b p n a ts us h (l_call l s (l_call m j (l_give w))) = is limits k (Variables_at b p n) ts us w (λ pre base. statement.variable_locals base (s h) (j h))

pub back_local : (limits : Limits) (k : ℕ) (p : Pos) (n : ℕ) (a : Tree (Local_at p n)) (ts us : List Token) → Roomy limits (Local_at p n)
    → Loose limits k (Local_at p n) (plan (Local_at p n)) a ts us → Spelled limits k (Local_at p n) a ts us
back_local limits k p n a ts us h (l_take {p = q} {x = y} t c d (l_call l s (l_give w))) = is limits k (Local_at p n) ts us w (statement.volatile_locals (q, y, t) (s h))
back_local limits k p n a ts us h (l_pass (l_take {p = q} {x = y} t c d (l_call l s (l_give w)))) = is limits k (Local_at p n) ts us w (s h ts (q, y, t))
back_local limits k p n a ts us h (l_pass (l_pass (l_take {p = q} {x = y} t c d (l_call l s (l_give w))))) = is limits k (Local_at p n) ts us w (s h ts (phrase.int_base (q, y, t)))
back_local limits k p n a ts us h (l_pass (l_pass (l_pass (l_want {p = q} {x = y} t c (l_want u e (l_call l s (l_give w))))))) =
    is limits k (Local_at p n) ts us w (s h ts (phrase.struct_base (q, y, t) (names limits k [] u e)))

at_end : (limits : Limits) (k n : ℕ) (of_function : Bool) (ts : List Token) → Counts limits k (at_close of_function n) ts → of_function ≡ true → kept limits k (Limit Items) (suc n) ts ≡ true
at_end limits k n true ts c h = item_allowed limits k n [] ts c
at_end limits k n false ts c h = absurd cc

pub back_statements : (limits : Limits) (k : ℕ) (in_loop : Bool) (d : ℕ) (of_function : Bool) (n : ℕ) (a : Tree (Statements in_loop d of_function n)) (ts us : List Token)
    → Roomy limits (Statements in_loop d of_function n) → Loose limits k (Statements in_loop d of_function n) (plan (Statements in_loop d of_function n)) a ts us
    → Spelled limits k (Statements in_loop d of_function n) a ts us
back_statements limits k in_loop d of_function n a ts us h (l_take t c e (l_give w)) =
    is limits k (Statements in_loop d of_function n) ts us w (record { vs = ts; statements = statement.no_statement; close = t; counted = λ g. at_end limits k n of_function ts c g })
back_statements limits k in_loop d of_function n a ts us h (l_pass (l_take {p = q} {x = y} t c e (l_call l s (l_want {p = o} {x = z} u f (l_call m j (l_give w)))))) =
    let more = j h in
    is limits k (Statements in_loop d of_function n) ts us w
    (record {
      vs = more.vs;
      statements = statement.declared_locals (nested_too limits k n d ts c) (begins limits k n (nested d) t c) (statement.volatile_locals (q, y, t) (s h)) (o, z, u) more.statements;
      close = more.close;
      counted = more.counted;
    })
back_statements limits k in_loop d of_function n a ts us h (l_pass (l_pass (l_take {p = q} {x = y} t c e (l_call l s (l_want {p = o} {x = z} u f (l_call m j (l_give w))))))) =
    let more = j h in
    is limits k (Statements in_loop d of_function n) ts us w
    (record {
      vs = more.vs;
      statements = statement.declared_locals (nested_too limits k n d ts c) (begins limits k n (nested d) t c) (s h ts (q, y, t)) (o, z, u) more.statements;
      close = more.close;
      counted = more.counted;
    })
back_statements limits k in_loop d of_function n a ts us h (l_pass (l_pass (l_pass (l_take {p = q} {x = y} t c e (l_call l s (l_want {p = o} {x = z} u f (l_call m j (l_give w)))))))) =
    let more = j h in
    is limits k (Statements in_loop d of_function n) ts us w
    (record {
      vs = more.vs;
      statements = statement.declared_locals (nested_too limits k n d ts c) (begins limits k n (nested d) t c) (s h ts (phrase.int_base (q, y, t))) (o, z, u) more.statements;
      close = more.close;
      counted = more.counted;
    })
back_statements limits k in_loop d of_function n a ts us h (l_pass (l_pass (l_pass (l_pass (l_take {p = q} {x = y} t c e (l_want v g (l_call l s (l_want {p = o} {x = z} u f (l_call m j (l_give w)))))))))) =
    let more = j h in
    is limits k (Statements in_loop d of_function n) ts us w
    (record {
      vs = more.vs;
      statements = statement.declared_locals (nested_too limits k n d ts c) (begins limits k n (nested d) t c) (s h ts (phrase.struct_base (q, y, t) (names limits k [] v g))) (o, z, u) more.statements;
      close = more.close;
      counted = more.counted;
    })
back_statements limits k in_loop d of_function n a ts us h (l_pass (l_pass (l_pass (l_pass (l_pass (l_call b s (l_call m j (l_give w)))))))) =
    let more = j h in
    is limits k (Statements in_loop d of_function n) ts us w (record { vs = more.vs; statements = statement.a_statement (s h) more.statements; close = more.close; counted = more.counted })

pub back_statement : (limits : Limits) (k : ℕ) (in_loop : Bool) (d n : ℕ) (a : Tree (A_statement in_loop d n)) (ts us : List Token) → Roomy limits (A_statement in_loop d n)
    → Loose limits k (A_statement in_loop d n) (plan (A_statement in_loop d n)) a ts us → Spelled limits k (A_statement in_loop d n) a ts us
back_statement limits k in_loop d n a ts us h (l_take {p = q} {x = y} t c e (l_call m s (l_give w))) =
    let block = s h in
    is limits k (A_statement in_loop d n) ts us w (statement.a_block (is_nested limits k d ts c) (q, y, t) block.statements (m.pos, tt, block.close))
back_statement limits k in_loop d n a ts us h (l_pass (l_call m s (l_give w))) = is limits k (A_statement in_loop d n) ts us w (s h).0

pub back_body : (limits : Limits) (k : ℕ) (in_loop : Bool) (d n : ℕ) (a : Tree (A_body in_loop d n)) (ts us : List Token) → Roomy limits (A_body in_loop d n)
    → Loose limits k (A_body in_loop d n) (plan (A_body in_loop d n)) a ts us → Spelled limits k (A_body in_loop d n) a ts us
back_body limits k in_loop d n a ts us h (l_take {p = q} {x = y} t c e (l_call m s (l_give w))) =
    let block = s h in
    is limits k (A_body in_loop d n) ts us w (statement.a_braced_body (q, y, t) block.statements (m.pos, tt, block.close))
back_body limits k in_loop d n a ts us h (l_pass (l_call m s (l_give w))) = is limits k (A_body in_loop d n) ts us w (statement.a_plain_body (s h).1 (s h).0)

pub back_condition : (limits : Limits) (k n : ℕ) (a : Tree (Condition n)) (ts us : List Token) → Roomy limits (Condition n) → Loose limits k (Condition n) (plan (Condition n)) a ts us
    → Spelled limits k (Condition n) a ts us
back_condition limits k n a ts us h (l_want {p = q} {x = y} t c (l_call b s (l_want {p = o} {x = z} u f (l_give w)))) =
    let inside = s h in
    is limits k (Condition n) ts us w
    (λ x pre s. record { behind_word = ts; inside = _; behind = _; word = s; paren = (q, y, t); counted = item_allowed limits k n [] _ inside.1; condition = inside.0; close = (o, z, u) })

back_closed : (limits : Limits) (k : ℕ) (in_loop : Bool) (d : ℕ) (i : ItemAt) (c : Exp) (x : Branch) (n : ℕ) (b : Bool) → x.is_open ≡ b → (a : Tree (Else_part in_loop d i c x n)) (ts us : List Token)
    → Roomy limits (Else_part in_loop d i c x n) → Loose limits k (Else_part in_loop d i c x n) (if_closed in_loop d i c x n b) a ts us → Spelled limits k (Else_part in_loop d i c x n) a ts us
back_closed limits k in_loop d i c x n false o a ts us h (l_take {p = q} {x = y} t e f (l_call m s (l_give w))) =
    is limits k (Else_part in_loop d i c x n) ts us w (statement.an_else o (q, y, t) (s h))
back_closed limits k in_loop d i c x n false o a ts us h (l_pass (l_give w)) = is limits k (Else_part in_loop d i c x n) ts us w statement.no_else
back_closed limits k in_loop d i c x n true o a ts us h (l_give w) = is limits k (Else_part in_loop d i c x n) ts us w statement.no_else

pub back_else_part : (limits : Limits) (k : ℕ) (in_loop : Bool) (d : ℕ) (i : ItemAt) (c : Exp) (x : Branch) (n : ℕ) (a : Tree (Else_part in_loop d i c x n)) (ts us : List Token)
    → Roomy limits (Else_part in_loop d i c x n) → Loose limits k (Else_part in_loop d i c x n) (plan (Else_part in_loop d i c x n)) a ts us → Spelled limits k (Else_part in_loop d i c x n) a ts us
back_else_part limits k in_loop d i c x n a ts us h m = back_closed limits k in_loop d i c x n x.is_open refl a ts us h m

pub back_for_first : (limits : Limits) (k n : ℕ) (a : Tree (For_first n)) (ts us : List Token) → Roomy limits (For_first n) → Loose limits k (For_first n) (plan (For_first n)) a ts us
    → Spelled limits k (For_first n) a ts us
back_for_first limits k n a ts us h (l_take {p = q} {x = y} t c e (l_give w)) = is limits k (For_first n) ts us w (statement.nothing_first (q, y, t))
back_for_first limits k n a ts us h (l_pass (l_take {p = q} {x = y} t c e (l_call l s (l_want {p = o} {x = z} u f (l_give w))))) =
    is limits k (For_first n) ts us w (statement.local_first (begins limits k n [] t c) (phrase.int_base (q, y, t)) (s h) (o, z, u))
back_for_first limits k n a ts us h (l_pass (l_pass (l_take {p = q} {x = y} t c e (l_want v g (l_call l s (l_want {p = o} {x = z} u f (l_give w))))))) =
    is limits k (For_first n) ts us w (statement.local_first (begins limits k n [] t c) (phrase.struct_base (q, y, t) (names limits k [] v g)) (s h) (o, z, u))
back_for_first limits k n a ts us h (l_pass (l_pass (l_pass (l_call b s (l_want {p = o} {x = z} u f (l_give w)))))) =
    let simple = s h in
    is limits k (For_first n) ts us w (statement.simple_first (record { at = simple.1; counted = item_allowed limits k n [] ts simple.2 }) simple.0 (o, z, u))

pub back_for_condition : (limits : Limits) (k n : ℕ) (a : Tree (For_condition n)) (ts us : List Token) → Roomy limits (For_condition n)
    → Loose limits k (For_condition n) (plan (For_condition n)) a ts us → Spelled limits k (For_condition n) a ts us
back_for_condition limits k n a ts us h (l_take {p = q} {x = y} t c e (l_give w)) = is limits k (For_condition n) ts us w (statement.no_condition (begins limits k n [] t c) (q, y, t))
back_for_condition limits k n a ts us h (l_pass (l_call b s (l_want {p = o} {x = z} u f (l_give w)))) =
    is limits k (For_condition n) ts us w (statement.a_condition (item_allowed limits k n [] ts (s h).1) (s h).0 (o, z, u))

pub back_for_step : (limits : Limits) (k n : ℕ) (a : Tree (For_step n)) (ts us : List Token) → Roomy limits (For_step n) → Loose limits k (For_step n) (plan (For_step n)) a ts us
    → Spelled limits k (For_step n) a ts us
back_for_step limits k n a ts us h (l_take {p = q} {x = y} t c e (l_give w)) = is limits k (For_step n) ts us w (statement.no_step (q, y, t))
back_for_step limits k n a ts us h (l_pass (l_call b s (l_want {p = o} {x = z} u f (l_give w)))) =
    let simple = s h in
    is limits k (For_step n) ts us w (statement.a_step (record { at = simple.1; counted = item_allowed limits k n [] ts simple.2 }) simple.0 (o, z, u))

-- ---- a statement without braces

back_simply : (limits : Limits) (k : ℕ) (in_loop : Bool) (d n : ℕ) (a : Tree (Braceless in_loop d n)) (ts us : List Token) → Roomy limits (Braceless in_loop d n)
    → Loose limits k (Braceless in_loop d n) (simply_said in_loop d n) a ts us → Spelled limits k (Braceless in_loop d n) a ts us
back_simply limits k in_loop d n a ts us h (l_call b s (l_want {p = o} {x = z} u f (l_give w))) =
    let simple = s h in
    is limits k (Braceless in_loop d n) ts us w (
      statement.a_simple (nested_too limits k n d ts simple.2) (record { at = simple.1; counted = item_allowed limits k n (nested d) ts simple.2 }) simple.0 (o, z, u),
      no_mark_first mark.OpenBrace (begins_simple simple.0) refl,
    )

back_loops : (limits : Limits) (k : ℕ) (in_loop : Bool) (d n : ℕ) (a : Tree (Braceless in_loop d n)) (ts us : List Token) → Roomy limits (Braceless in_loop d n)
    → Loose limits k (Braceless in_loop d n) (in_loops in_loop d n) a ts us → Spelled limits k (Braceless in_loop d n) a ts us
back_loops limits k true d n a ts us h (l_take t c e (l_want {p = o} {x = z} u f (l_give w))) =
    is limits k (Braceless true d n) ts us w (statement.a_break (is_nested limits k d ts c) t (o, z, u), lacks_at open_brace _ t t.fits refl)
back_loops limits k true d n a ts us h (l_pass (l_take t c e (l_want {p = o} {x = z} u f (l_give w)))) =
    is limits k (Braceless true d n) ts us w (statement.a_continue (is_nested limits k d ts c) t (o, z, u), lacks_at open_brace _ t t.fits refl)
back_loops limits k true d n a ts us h (l_pass (l_pass m)) = back_simply limits k true d n a ts us h m
back_loops limits k false d n a ts us h m = back_simply limits k false d n a ts us h m

pub back_braceless : (limits : Limits) (k : ℕ) (in_loop : Bool) (d n : ℕ) (a : Tree (Braceless in_loop d n)) (ts us : List Token) → Roomy limits (Braceless in_loop d n)
    → Loose limits k (Braceless in_loop d n) (plan (Braceless in_loop d n)) a ts us → Spelled limits k (Braceless in_loop d n) a ts us
back_braceless limits k in_loop d n a ts us h (l_take {p = q} {x = y} t c e (l_give w)) =
    is limits k (Braceless in_loop d n) ts us w (statement.an_empty (is_nested limits k d ts c) (q, y, t), lacks_at open_brace _ t t.fits refl)
back_braceless limits k in_loop d n a ts us h (l_pass (l_take {p = q} {x = y} t c e (l_take {p = o} {x = z} u f g (l_give w)))) =
    is limits k (Braceless in_loop d n) ts us w
    (statement.a_return (nested_too limits k n d ts c) (begins limits k n (nested d) t c) (q, y, t) phrase.no_expression (o, z, u), lacks_at open_brace _ t t.fits refl)
back_braceless limits k in_loop d n a ts us h (l_pass (l_take {p = q} {x = y} t c e (l_pass (l_call b s (l_want {p = o} {x = z} u f (l_give w)))))) =
    is limits k (Braceless in_loop d n) ts us w
    (statement.a_return (nested_too limits k n d ts c) (begins limits k n (nested d) t c) (q, y, t) (phrase.some_expression (s h).0) (o, z, u), lacks_at open_brace _ t t.fits refl)
back_braceless limits k in_loop d n a ts us h (l_pass (l_pass (l_take {p = q} {x = y} t c e (l_call b s (l_call m i (l_call x j (l_give w))))))) =
    is limits k (Braceless in_loop d n) ts us w
    (statement.an_if (is_nested limits k d ts c) (s h (codes "if") ts (q, y, t)) (i h) (j h), lacks_at open_brace _ t t.fits refl)
back_braceless limits k in_loop d n a ts us h (l_pass (l_pass (l_pass (l_take {p = q} {x = y} t c e (l_call b s (l_call m i (l_give w))))))) =
    is limits k (Braceless in_loop d n) ts us w
    (statement.a_while (is_nested limits k d ts c) (s h (codes "while") ts (q, y, t)) (i h), lacks_at open_brace _ t t.fits refl)
back_braceless limits k in_loop d n a ts us h (l_pass (l_pass (l_pass (l_pass (l_take {p = q} {x = y} t c e (l_call m i (l_want {p = r} {x = v} j f (l_call b s (l_want {p = o} {x = z} u g (l_give w)))))))))) =
    is limits k (Braceless in_loop d n) ts us w
    (statement.a_do (is_nested limits k d ts c) (q, y, t) (i h) (s h (codes "while") _ (r, v, j)) (o, z, u), lacks_at open_brace _ t t.fits refl)
back_braceless limits k in_loop d n a ts us h (l_pass (l_pass (l_pass (l_pass (l_pass (l_take {p = q} {x = y} t c e (l_want {p = r} {x = v} j f (l_call b s (l_call m i (l_call x o (l_call z u (l_give w)))))))))))) =
    is limits k (Braceless in_loop d n) ts us w
    (statement.a_for (is_nested limits k d ts c) (q, y, t) (r, v, j) (s h) (i h) (o h) (u h), lacks_at open_brace _ t t.fits refl)
back_braceless limits k in_loop d n a ts us h (l_pass (l_pass (l_pass (l_pass (l_pass (l_pass m)))))) = back_loops limits k in_loop d n a ts us h m

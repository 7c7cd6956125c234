-- The statements of each program are spelled, whatever follows: a body that is a block with its braces.
use Rattle.std.proofs.Common.{◌≡◌, ℕ, zero, suc, ◌≤◌, Bool, List, ◌∷◌, Option, Some, codes, refl, sym, ap}
use Rattle.ca_tree.specs.declared.text.Pos.{Pos}
use Rattle.ca_tree.specs.declared.token.Mark.TheVariants as mark
use Rattle.ca_tree.specs.declared.token.Word.TheVariants as word
use Rattle.ca_tree.specs.declared.token.Token.{Token}
use Rattle.ca_tree.specs.declared.tree.Base.{Base}
use Rattle.ca_tree.specs.declared.tree.Exp.{Exp}
use Rattle.ca_tree.specs.declared.tree.Name.{Name}
use Rattle.ca_tree.specs.declared.tree.ItemAt.{ItemAt}
use Rattle.ca_tree.specs.declared.tree.Simple.{Simple}
use Rattle.ca_tree.specs.declared.tree.LocalDeclarator.{LocalDeclarator}
use Rattle.ca_tree.specs.declared.tree.ThreadLocal.{ThreadLocal}
use Rattle.ca_tree.specs.declared.tree.Locals.{Locals}
use Rattle.ca_tree.specs.declared.tree.ForFirst.{ForFirst}
use Rattle.ca_tree.specs.declared.tree.Stmt.{Stmt}
use Rattle.ca_tree.specs.Lexed.{token}
use Rattle.ca_tree.specs.Places.{start}
use Rattle.ca_tree.specs.declared.counted.Counted.TheVariants as counted
use Rattle.ca_tree.specs.Counts.{most}
use Rattle.ca_tree.specs.TreeWords.{any_words}
use Rattle.ca_tree.specs.StatementTrees.{Branch, Head, RoomForItem, IsSimpleItem, IsLocal, MoreLocals, MoreThreads, IsLocals, IsFirst, IsCondition, IsStep, Part, Unbraced, A_statement, A_body, Statements, Tree, IsTree}
use Rattle.ca_grammar.specs.Words.{place}
use Rattle.ca_grammar.specs.Phrases.{A_simple}
use Rattle.ca_grammar.specs.Phrases as phrase
use Rattle.ca_grammar.specs.Statements.{Begins, Conditions, Declared, A_declarator, More_declarators, More_threads, For_first, For_condition, For_step, Spells}
use Rattle.ca_grammar.specs.Statements as statement
use Rattle.ca_tree.specs.StatementTrees as tree
use Rattle.ca_grammar.specs.Laws.{all_kept}
use Rattle.ca_grammar.proofs.EveryExpression.{of_mark, opened, in_parentheses, Whole, whole}
use Rattle.ca_grammar.proofs.EveryPhrase.{Spelled, spell, SpelledAt, begin, lacks_brace, allowed_up_to, marked, worded, the_mark, the_word_taken, the_word, named, the_name, base_spelled, starred, stars_spelled, initializer_spelled, optional_spelled, simple_spelled}

-- a part with n items before and m behind
abbrev pub Spells_as : (p : statement.Part) → ℕ → statement.Tree p → ℕ → List Token → List Token → Type 0
Spells_as p n a m ts us = Spells all_kept p n a ts m us

begins : {n : ℕ} {p : Pos} (ts : List Token) → place ts ≡ Some p → RoomForItem n → Begins all_kept n p ts
begins {n = n} ts h i = record { at = h; counted = allowed_up_to counted.Items (suc n) ts i }

-- ---- locals

-- the tokens of a local
abbrev starred_name : Pos → ℕ → Name → List Token → List Token
starred_name p k x us = starred p k (named x us)

-- they begin at its place
starred_name_place : (p : Pos) (k : ℕ) (x : Name) (us : List Token) → (k ≡ 0 → p ≡ x.pos) → place (starred_name p k x us) ≡ Some p
starred_name_place p zero x us h = ap Some (sym (h refl))
starred_name_place p (suc k) x us h = refl

-- a local, and the tokens behind its name
record Local (b : Base) (n : ℕ) (p : Pos) (d : LocalDeclarator) : Type 0 where
  room : RoomForItem n
  behind : List Token → List Token
  spells : (us : List Token) → Spells_as (A_declarator b p) n d (suc n) (starred_name p d.stars d.name (behind us)) us

local_spelled : {b : Base} {n : ℕ} {p : Pos} {d : LocalDeclarator} → IsLocal any_words b n p d → Local b n p d
local_spelled {p = p} (tree.a_local {k} {x} {r} room star is_name value) =
    let v = initializer_spelled r value in
    record {
      room = room;
      behind = v.tokens;
      spells = λ us. statement.a_declarator (stars_spelled p k (named x (v.tokens us))) star (the_name x (v.tokens us) is_name) (v.spells us);
    }

more_locals : {b : Base} {n m : ℕ} {ds : List LocalDeclarator} → MoreLocals any_words b n ds m → Spelled (Spells_as (More_declarators b) n ds m)
more_locals tree.no_local = spell _ (λ us. statement.last_declarator)
more_locals (tree.one_local {p = p} {d = d} l at more) =
    let x = local_spelled l in
    let y = more_locals more in
    spell _ (λ us. statement.next_declarator (the_mark mark.Comma _)
    (begins (starred_name p d.stars d.name (x.behind (y.tokens us))) (starred_name_place p d.stars d.name (x.behind (y.tokens us)) at) x.room) (x.spells (y.tokens us)) (y.spells us))

more_threads : {n m : ℕ} {ds : List ThreadLocal} → MoreThreads any_words n ds m → Spelled (Spells_as More_threads n ds m)
more_threads tree.no_thread = spell _ (λ us. statement.last_thread)
more_threads (tree.one_thread {x = x} room is_name more) =
    let y = more_threads more in
    spell _ (λ us. statement.next_thread (the_mark mark.Comma _) (begins (named x (y.tokens us)) refl room) (the_name x (y.tokens us) is_name) (y.spells us))

-- a declaration, and its place
record DeclaredAt (n : ℕ) (l : Locals) (m : ℕ) : Type 0 where
  room : RoomForItem n
  at : Pos
  spelled : SpelledAt at (Spells_as (Declared at) n l m)

locals_spelled : {n m : ℕ} {l : Locals} → IsLocals any_words n l m → DeclaredAt n l m
locals_spelled (tree.threads {p = p} {x = x} room is_name more) =
    let y = more_threads more in
    record {
      room = room;
      at = p;
      spelled = begin _ _ refl (λ us. statement.thread_locals (the_word p (codes "pthread_t") _) (the_name x (y.tokens us) is_name) (y.spells us));
    }
locals_spelled (tree.variables {b = b} {p = p} is_base l more) =
    let w = base_spelled p b is_base in
    let x = local_spelled l in
    let y = more_locals more in
    record { room = x.room; at = p; spelled = begin w.first _ w.no_brace (λ us. statement.variable_locals (w.spells _) (x.spells (y.tokens us)) (y.spells us)) }

-- ---- heads

-- a condition in parentheses, and a word before it
abbrev asked : {c : Exp} → Whole c → List Token → List Token
asked x us = opened start (x.inside (marked mark.CloseParen us))

abbrev asks : {c : Exp} → List ℕ → Whole c → List Token → List Token
asks w x us = worded start w (marked mark.OpenParen (asked x us))

conditions : {c : Exp} (n : ℕ) (w : List ℕ) (x : Whole c) (us : List Token) → RoomForItem n → Conditions all_kept w n (in_parentheses start c) (asks w x us) us
conditions n w x us room =
    record {
      behind_word = marked mark.OpenParen (asked x us);
      inside = asked x us;
      behind = marked mark.CloseParen us;
      word = the_word start w (marked mark.OpenParen (asked x us));
      paren = the_mark mark.OpenParen (asked x us);
      counted = allowed_up_to counted.Items (suc n) (asked x us) room;
      condition = x.expression start (marked mark.CloseParen us);
      close = the_mark mark.CloseParen us;
    }

item_spelled : {n : ℕ} {p : Pos} {a : Simple} → IsSimpleItem any_words n p a → SpelledAt p (phrase.Spells all_kept A_simple a)
item_spelled {p = p} {a = a} h = simple_spelled p a h.is_simple h.begins

first_spelled : {n m : ℕ} {f : Option ForFirst} → IsFirst any_words n f m → Spelled (Spells_as For_first n f m)
first_spelled tree.nothing_first = spell _ (λ us. statement.nothing_first (the_mark mark.Semicolon us))
first_spelled (tree.simple_first {p = p} h) =
    let x = item_spelled h in
    spell _ (λ us. statement.simple_first (begins (token p x.first ∷ x.behind (marked mark.Semicolon us)) refl h.room) (x.spells (marked mark.Semicolon us)) (the_mark mark.Semicolon us))
first_spelled (tree.local_first {b = b} {p = p} {d = d} is_base l) =
    let w = base_spelled p b is_base in
    let x = local_spelled l in
    spell _ (λ us. statement.local_first (begins (token p w.first ∷ w.behind (starred_name p d.stars d.name (x.behind (marked mark.Semicolon us)))) refl x.room)
    (w.spells (starred_name p d.stars d.name (x.behind (marked mark.Semicolon us)))) (x.spells (marked mark.Semicolon us)) (the_mark mark.Semicolon us))

condition_spelled : {n : ℕ} {c : Head (Option Exp)} → RoomForItem n → IsCondition any_words n c → Spelled (Spells_as For_condition n c (suc n))
condition_spelled {n = n} room (tree.no_condition {p}) =
    spell _ (λ us. statement.no_condition (begins (token p (word.Mark mark.Semicolon) ∷ us) refl room) (p, tt, of_mark mark.Semicolon p us))
condition_spelled {n = n} room (tree.a_condition {c} h) =
    let x = whole c h in
    spell _ (λ us. statement.a_condition (allowed_up_to counted.Items (suc n) (opened start (x.inside (marked mark.Semicolon us))) room) (x.expression start (marked mark.Semicolon us))
    (the_mark mark.Semicolon us))

step_spelled : {n m : ℕ} {g : Option (ItemAt × Simple)} → IsStep any_words n g m → Spelled (Spells_as For_step n g m)
step_spelled tree.no_step = spell _ (λ us. statement.no_step (the_mark mark.CloseParen us))
step_spelled (tree.a_step {p = p} h) =
    let x = item_spelled h in
    spell _ (λ us. statement.a_step (begins (token p x.first ∷ x.behind (marked mark.CloseParen us)) refl h.room) (x.spells (marked mark.CloseParen us)) (the_mark mark.CloseParen us))

-- ---- statements

-- a statement without braces, and its place
record UnbracedAt (in_loop : Bool) (d n : ℕ) (a : Branch) (m : ℕ) : Type 0 where
  at : Pos
  spelled : SpelledAt at (Spells_as (statement.A_statement in_loop d) n a m)

abbrev SpelledPart : (p : Part) → Bool → ℕ → ℕ → Tree p → ℕ → Type 0
SpelledPart Unbraced in_loop d n a m = d ≤ most counted.Nesting → UnbracedAt in_loop d n a m
SpelledPart A_statement in_loop d n a m = Spelled (Spells_as (statement.A_statement in_loop d) n a m)
SpelledPart A_body in_loop d n a m = Spelled (Spells_as (statement.A_body in_loop d) n a m)
SpelledPart Statements in_loop d n a m = Spelled (Spells_as (statement.Statements in_loop d) n a m)

deep : (d : ℕ) (ts : List Token) → d ≤ most counted.Nesting → statement.is_deep all_kept d ts
deep d ts h = allowed_up_to counted.Nesting d ts h

statement_spelled : {p : Part} {in_loop : Bool} {d n : ℕ} {a : Tree p} {m : ℕ} → IsTree any_words p in_loop d n a m → SpelledPart p in_loop d n a m
statement_spelled tree.no_statement = spell _ (λ us. statement.no_statement)
statement_spelled (tree.a_statement s r) =
    let x = statement_spelled s in
    let y = statement_spelled r in
    spell _ (λ us. statement.a_statement (x.spells (y.tokens us)) (y.spells us))
statement_spelled {d = d} (tree.declared_locals h l r) =
    let w = locals_spelled l in
    let x = w.spelled in
    let y = statement_spelled r in
    spell _ (λ us. statement.declared_locals (deep d (token w.at x.first ∷ x.behind (marked mark.Semicolon (y.tokens us))) h)
    (begins (token w.at x.first ∷ x.behind (marked mark.Semicolon (y.tokens us))) refl w.room)
    (x.spells (marked mark.Semicolon (y.tokens us))) (the_mark mark.Semicolon (y.tokens us)) (y.spells us))
statement_spelled {d = d} (tree.a_block h r) =
    let y = statement_spelled r in
    spell _ (λ us. statement.a_block (deep d (marked mark.OpenBrace (y.tokens (marked mark.CloseBrace us))) h) (the_mark mark.OpenBrace (y.tokens (marked mark.CloseBrace us)))
    (y.spells (marked mark.CloseBrace us)) (the_mark mark.CloseBrace us))
statement_spelled (tree.no_block h s) =
    let x = (statement_spelled s h).spelled in
    spell _ x.spells
statement_spelled (tree.a_braced_body r) =
    let y = statement_spelled r in
    spell _ (λ us. statement.a_braced_body (the_mark mark.OpenBrace (y.tokens (marked mark.CloseBrace us))) (y.spells (marked mark.CloseBrace us)) (the_mark mark.CloseBrace us))
statement_spelled (tree.a_plain_body h s) =
    let w = statement_spelled s h in
    let x = w.spelled in
    spell _ (λ us. statement.a_plain_body (lacks_brace w.at x.first (x.behind us) x.no_brace) (x.spells us))
statement_spelled {d = d} tree.an_empty = λ h.
    record { at = start; spelled = begin _ _ refl (λ us. statement.an_empty (deep d (marked mark.Semicolon us) h) (the_mark mark.Semicolon us)) }
statement_spelled {d = d} (tree.a_simple {p = p} s) = λ h.
    let x = item_spelled s in
    record {
      at = p;
      spelled = begin x.first _ x.no_brace (λ us. statement.a_simple (deep d (token p x.first ∷ x.behind (marked mark.Semicolon us)) h)
          (begins (token p x.first ∷ x.behind (marked mark.Semicolon us)) refl s.room) (x.spells (marked mark.Semicolon us)) (the_mark mark.Semicolon us));
    }
statement_spelled {d = d} (tree.a_return {p = p} {a = a} room e) = λ h.
    let x = optional_spelled a e in
    record {
      at = p;
      spelled = begin _ _ refl (λ us. statement.a_return (deep d (worded p (codes "return") (x.tokens (marked mark.Semicolon us))) h)
          (begins (worded p (codes "return") (x.tokens (marked mark.Semicolon us))) refl room) (the_word p (codes "return") (x.tokens (marked mark.Semicolon us)))
          (x.spells (marked mark.Semicolon us)) (the_mark mark.Semicolon us));
    }
statement_spelled {d = d} (tree.a_break {p = p}) = λ h.
    record {
      at = p;
      spelled = begin _ _ refl (λ us. statement.a_break (deep d (worded p (codes "break") (marked mark.Semicolon us)) h) (the_word_taken p (codes "break") (marked mark.Semicolon us)) (the_mark mark.Semicolon us));
    }
statement_spelled {d = d} (tree.a_continue {p = p}) = λ h.
    record {
      at = p;
      spelled = begin _ _ refl (λ us. statement.a_continue (deep d (worded p (codes "continue") (marked mark.Semicolon us)) h) (the_word_taken p (codes "continue") (marked mark.Semicolon us))
          (the_mark mark.Semicolon us));
    }
statement_spelled {d = d} {n = n} (tree.an_if {c = c} room e s) = λ h.
    let x = whole c e in
    let y = statement_spelled s in
    record {
      at = start;
      spelled = begin _ _ refl (λ us. statement.an_if (deep d (asks (codes "if") x (y.tokens us)) h) (conditions n (codes "if") x (y.tokens us) room) (y.spells us) statement.no_else);
    }
statement_spelled {d = d} {n = n} (tree.an_else {c = c} room e s closed r) = λ h.
    let x = whole c e in
    let y = statement_spelled s in
    let z = statement_spelled r in
    let behind : List Token → List Token = λ us. worded start (codes "else") (z.tokens us) in
    record {
      at = start;
      spelled = begin _ _ refl (λ us. statement.an_if (deep d (asks (codes "if") x (y.tokens (behind us))) h) (conditions n (codes "if") x (y.tokens (behind us)) room)
          (y.spells (behind us)) (statement.an_else closed (the_word start (codes "else") (z.tokens us)) (z.spells us)));
    }
statement_spelled {d = d} {n = n} (tree.a_while {c = c} room e s) = λ h.
    let x = whole c e in
    let y = statement_spelled s in
    record {
      at = start;
      spelled = begin _ _ refl (λ us. statement.a_while (deep d (asks (codes "while") x (y.tokens us)) h) (conditions n (codes "while") x (y.tokens us) room) (y.spells us));
    }
statement_spelled {d = d} (tree.a_do {m = m} {c = c} s room e) = λ h.
    let x = whole c e in
    let y = statement_spelled s in
    let behind : List Token → List Token = λ us. asks (codes "while") x (marked mark.Semicolon us) in
    record {
      at = start;
      spelled = begin _ _ refl (λ us. statement.a_do (deep d (worded start (codes "do") (y.tokens (behind us))) h) (the_word start (codes "do") (y.tokens (behind us))) (y.spells (behind us))
          (conditions m (codes "while") x (marked mark.Semicolon us) room) (the_mark mark.Semicolon us));
    }
statement_spelled {d = d} (tree.a_for f room c g s) = λ h.
    let w = first_spelled f in
    let x = condition_spelled room c in
    let y = step_spelled g in
    let z = statement_spelled s in
    let inside : List Token → List Token = λ us. marked mark.OpenParen (w.tokens (x.tokens (y.tokens (z.tokens us)))) in
    record {
      at = start;
      spelled = begin _ _ refl (λ us. statement.a_for (deep d (worded start (codes "for") (inside us)) h) (the_word start (codes "for") (inside us)) (the_mark mark.OpenParen _)
          (w.spells _) (x.spells _) (y.spells (z.tokens us)) (z.spells us));
    }

pub statements_spelled : {in_loop : Bool} {d n m : ℕ} {more : List Stmt} → IsTree any_words Statements in_loop d n more m → Spelled (Spells_as (statement.Statements in_loop d) n more m)
statements_spelled s = statement_spelled s

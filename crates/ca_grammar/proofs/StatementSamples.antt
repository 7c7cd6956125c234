-- Tokens that each part of a statement can be completed with.
use Rattle.std.proofs.Common.{◌≡◌, ℕ, zero, suc, ◌<◌, pos, Bool, true, List, [], ◌∷◌, length, None, codes, arith, refl}
use Rattle.std.proofs.lemmas.List.Elements.{All-head}
use Rattle.ca_tree.specs.declared.text.Pos.{Pos}
use Rattle.ca_tree.specs.declared.token.Token.{Token}
use Rattle.ca_tree.specs.declared.token.Word.TheVariants as word
use Rattle.ca_tree.specs.declared.token.Mark.{Mark}
use Rattle.ca_tree.specs.declared.token.Mark.TheVariants as mark
use Rattle.ca_tree.specs.declared.tree.Base.{Base}
use Rattle.ca_tree.specs.declared.tree.Base.TheVariants as base
use Rattle.ca_tree.specs.declared.tree.Exp.{Exp}
use Rattle.ca_tree.specs.declared.tree.Exp.TheVariants as e
use Rattle.ca_tree.specs.declared.tree.ItemAt.{ItemAt}
use Rattle.ca_tree.specs.declared.tree.LocalDeclarator.{LocalDeclarator}
use Rattle.ca_tree.specs.declared.tree.Locals.TheVariants as locals
use Rattle.ca_tree.specs.declared.tree.Stmt.TheVariants as s
use Rattle.ca_tree.specs.Lexed.{token}
use Rattle.ca_tree.specs.Places.{start}
use Rattle.ca_tree.specs.declared.counted.Counted.{Counted}
use Rattle.ca_tree.specs.declared.counted.Counted.TheVariants.{Items, Nesting, NameBytes}
use Rattle.ca_tree.specs.Names.{is_reserved, is_left_out}
use Rattle.ca_tree.specs.PhraseTrees.{has_star}
use Rattle.ca_tree.specs.StatementTrees.{Branch, closed, item}
use Rattle.ca_grammar.specs.declared.operand.Operand.{Operand}
use Rattle.ca_grammar.specs.Words.{The_mark, A_name, Takes, Skips, Lacks, open_brace}
use Rattle.ca_grammar.specs.Limits.{Limit, Limits, Allowed, kept}
use Rattle.ca_grammar.specs.Expressions as exp
use Rattle.ca_grammar.specs.Expressions.{name}
use Rattle.ca_grammar.specs.Phrases as phrase
use Rattle.ca_grammar.specs.Phrases.{Names}
use Rattle.ca_grammar.specs.Statements as statement
use Rattle.ca_grammar.specs.Goals.{First_declarator, More_declarators, More_threads, Threads_at, Variables_at, Local_at, Statements, A_statement, Braceless, A_body, Condition, Else_part, For_first, For_condition, For_step}
use Rattle.ca_grammar.specs.Plan.{counted}
use Rattle.ca_grammar.specs.StatementPlans.{numbered, without_else}
use Rattle.ca_grammar.proofs.Loose.{Sample}
use Rattle.ca_grammar.proofs.Combinators.{counts_past, lacks_at}

-- where fewer than k tokens are left, one more of a kind is allowed
allowed_past : (limits : Limits) (k : ℕ) (of : Counted) (n : ℕ) (ts : List Token) → length ts < k → kept limits k (Limit of) n ts ≡ true
allowed_past limits k of n ts h = All-head (λ c. kept limits k (Limit c.of) c.number ts ≡ true) (counted of n) [] (counts_past limits k (counted of n ∷ []) ts h)

abbrev mark_token : Mark → Token
mark_token m = token start (word.Mark m)

abbrev x_token : Token
x_token = token start (word.Name (codes "x"))

abbrev int_token : Token
int_token = token start (word.Name (codes "int"))

abbrev zero_token : Token
zero_token = token start (word.Number (pos 0))

abbrev skips_mark : (m : Mark) (us : List Token) → Skips (The_mark m) (mark_token m ∷ us) us
skips_mark m us = (start, tt, record { first = word.Mark m; parts = refl; fits = refl })

takes_x : (us : List Token) → Takes A_name (x_token ∷ us) start (codes "x") us
unfolding is_reserved is_left_out
takes_x us = record { first = word.Name (codes "x"); parts = refl; fits = (refl, refl) }

names_x : (limits : Limits) (k : ℕ) (us : List Token) → length (x_token ∷ us) < k → Names (kept limits k) (x_token ∷ us) start (codes "x") us
names_x limits k us h = record { takes = takes_x us; short = allowed_past limits k NameBytes (length (codes "x")) (x_token ∷ us) h }

one_star : (b : Base) → has_star b 1 ≡ true
one_star base.Int = refl
one_star (base.Struct n) = refl

abbrev star_x : Pos → ℕ → LocalDeclarator
star_x p n = record { item = item (suc n) p; stars = 1; name = name start (codes "x"); value = None }

-- `* x` declares a variable of any base
declares_x : (limits : Limits) (k : ℕ) (b : Base) (p : Pos) (n : ℕ) (us : List Token) → length (x_token ∷ us) < k
    → statement.Spells (kept limits k) (statement.A_declarator b p) n (star_x p n) (mark_token mark.Star ∷ x_token ∷ us) (suc n) us
declares_x limits k b p n us h = statement.a_declarator (phrase.a_star (skips_mark mark.Star (x_token ∷ us)) phrase.no_star) (one_star b) (names_x limits k us h) phrase.no_initializer

pub sample_first_declarator : (limits : Limits) (b : Base) (p : Pos) (n : ℕ) → Sample limits (First_declarator b p n)
sample_first_declarator limits b p n =
    record { tree = star_x p n; more = mark_token mark.Star ∷ x_token ∷ []; spells = λ k vs h r. declares_x limits k b p n vs (omega arith) }

pub sample_more_declarators : (limits : Limits) (b : Base) (n : ℕ) → Sample limits (More_declarators b n)
sample_more_declarators limits b n = record { tree = numbered [] n; more = []; spells = λ k vs h r. statement.last_declarator }

pub sample_more_threads : (limits : Limits) (n : ℕ) → Sample limits (More_threads n)
sample_more_threads limits n = record { tree = numbered [] n; more = []; spells = λ k vs h r. statement.last_thread }

pub sample_threads : (limits : Limits) (p : Pos) (n : ℕ) → Sample limits (Threads_at p n)
sample_threads limits p n =
    record {
      tree = numbered (locals.Threads (record { item = item (suc n) p; name = name start (codes "x") } ∷ [])) (suc n);
      more = x_token ∷ [];
      spells = λ k vs h r. λ pre w. statement.thread_locals w (names_x limits k vs h) statement.last_thread;
    }

pub sample_variables : (limits : Limits) (b : Base) (p : Pos) (n : ℕ) → Sample limits (Variables_at b p n)
sample_variables limits b p n =
    record {
      tree = numbered (locals.Variables b (star_x p n ∷ [])) (suc n);
      more = mark_token mark.Star ∷ x_token ∷ [];
      spells = λ k vs h r. λ pre w. statement.variable_locals w (declares_x limits k b p n vs (omega arith)) statement.last_declarator;
    }

int_base : {allowed : Allowed} (us : List Token) → phrase.Spells allowed phrase.A_base base.Int (int_token ∷ us) us
int_base us = phrase.int_base (start, tt, record { first = word.Name (codes "int"); parts = refl; fits = refl })

pub sample_local : (limits : Limits) (p : Pos) (n : ℕ) → Sample limits (Local_at p n)
sample_local limits p n =
    record {
      tree = numbered (locals.Variables base.Int (star_x p n ∷ [])) (suc n);
      more = int_token ∷ mark_token mark.Star ∷ x_token ∷ [];
      spells = λ k vs h r. statement.variable_locals (int_base (mark_token mark.Star ∷ x_token ∷ vs)) (declares_x limits k base.Int p n vs (omega arith)) statement.last_declarator;
    }

pub sample_statements : (limits : Limits) (in_loop : Bool) (d : ℕ) (of_function : Bool) (n : ℕ) → Sample limits (Statements in_loop d of_function n)
sample_statements limits in_loop d of_function n =
    record {
      tree = record { pos = start; what = numbered [] n };
      more = mark_token mark.CloseBrace ∷ [];
      spells = λ k vs h r. record {
        vs = mark_token mark.CloseBrace ∷ vs;
        statements = statement.no_statement;
        close = (skips_mark mark.CloseBrace vs).2;
        counted = λ f. allowed_past limits k Items (suc n) (mark_token mark.CloseBrace ∷ vs) h;
      };
    }

-- `;` is a statement
empty_spelled : (limits : Limits) (k : ℕ) (in_loop : Bool) (d n : ℕ) (us : List Token) → length (mark_token mark.Semicolon ∷ us) < k
    → statement.Spells (kept limits k) (statement.A_statement in_loop d) n (closed s.Empty) (mark_token mark.Semicolon ∷ us) n us
empty_spelled limits k in_loop d n us h = statement.an_empty (allowed_past limits k Nesting d (mark_token mark.Semicolon ∷ us) h) (skips_mark mark.Semicolon us)

no_brace : (us : List Token) → Lacks open_brace (mark_token mark.Semicolon ∷ us)
no_brace us = lacks_at open_brace (word.Mark mark.Semicolon) (skips_mark mark.Semicolon us).2 refl refl

pub sample_statement : (limits : Limits) (in_loop : Bool) (d n : ℕ) → Sample limits (A_statement in_loop d n)
sample_statement limits in_loop d n =
    record { tree = numbered (closed s.Empty) n; more = mark_token mark.Semicolon ∷ []; spells = λ k vs h r. empty_spelled limits k in_loop d n vs h }

pub sample_braceless : (limits : Limits) (in_loop : Bool) (d n : ℕ) → Sample limits (Braceless in_loop d n)
sample_braceless limits in_loop d n =
    record { tree = numbered (closed s.Empty) n; more = mark_token mark.Semicolon ∷ []; spells = λ k vs h r. (empty_spelled limits k in_loop d n vs h, no_brace vs) }

pub sample_body : (limits : Limits) (in_loop : Bool) (d n : ℕ) → Sample limits (A_body in_loop d n)
sample_body limits in_loop d n =
    record { tree = numbered (closed s.Empty) n; more = mark_token mark.Semicolon ∷ []; spells = λ k vs h r. statement.a_plain_body (no_brace vs) (empty_spelled limits k in_loop d n vs h) }

abbrev zero_read : Operand
zero_read = exp.leaf start (e.Number start (pos 0))

level_zero : {allowed : Allowed} (l : ℕ) (us : List Token) → exp.Spells allowed (exp.Level l) zero_read (zero_token ∷ us) us
level_zero zero us = exp.a_postfix (exp.postfix (exp.a_number (record { first = word.Number (pos 0); parts = refl; fits = (refl, refl) })) exp.no_postfix)
level_zero (suc l) us = exp.operands (level_zero l us) exp.no_operator

pub sample_condition : (limits : Limits) (n : ℕ) → Sample limits (Condition n)
sample_condition limits n =
    record {
      tree = zero_read;
      more = mark_token mark.OpenParen ∷ zero_token ∷ mark_token mark.CloseParen ∷ [];
      spells = λ k vs h r. λ w pre i. record {
        behind_word = mark_token mark.OpenParen ∷ zero_token ∷ mark_token mark.CloseParen ∷ vs;
        inside = zero_token ∷ mark_token mark.CloseParen ∷ vs;
        behind = mark_token mark.CloseParen ∷ vs;
        word = i;
        paren = skips_mark mark.OpenParen (zero_token ∷ mark_token mark.CloseParen ∷ vs);
        counted = allowed_past limits k Items (suc n) (zero_token ∷ mark_token mark.CloseParen ∷ vs) (omega arith);
        condition = exp.an_expression (level_zero 6 (mark_token mark.CloseParen ∷ vs)) r;
        close = skips_mark mark.CloseParen vs;
      };
    }

pub sample_else_part : (limits : Limits) (in_loop : Bool) (d : ℕ) (i : ItemAt) (c : Exp) (x : Branch) (n : ℕ) → Sample limits (Else_part in_loop d i c x n)
sample_else_part limits in_loop d i c x n = record { tree = numbered (without_else i c x) n; more = []; spells = λ k vs h r. statement.no_else }

pub sample_for_first : (limits : Limits) (n : ℕ) → Sample limits (For_first n)
sample_for_first limits n = record { tree = numbered None n; more = mark_token mark.Semicolon ∷ []; spells = λ k vs h r. statement.nothing_first (skips_mark mark.Semicolon vs) }

pub sample_for_condition : (limits : Limits) (n : ℕ) → Sample limits (For_condition n)
sample_for_condition limits n =
    record {
      tree = record { item = item (suc n) start; what = None };
      more = mark_token mark.Semicolon ∷ [];
      spells = λ k vs h r. statement.no_condition (record { at = refl; counted = allowed_past limits k Items (suc n) (mark_token mark.Semicolon ∷ vs) h }) (skips_mark mark.Semicolon vs);
    }

pub sample_for_step : (limits : Limits) (n : ℕ) → Sample limits (For_step n)
sample_for_step limits n = record { tree = numbered None n; more = mark_token mark.CloseParen ∷ []; spells = λ k vs h r. statement.no_step (skips_mark mark.CloseParen vs) }

-- Tokens that each part of a declaration or of a program can be completed with.
use Rattle.std.proofs.Common.{◌≡◌, ◌<◌, ℕ, pos, suc, true, false, ◌||◌, List, [], ◌∷◌, length, None, codes, arith, refl, ap}
use Rattle.std.proofs.lemmas.Bool.{lt-ltb}
use Rattle.ca_tree.specs.declared.token.Mark.{Mark}
use Rattle.ca_tree.specs.declared.token.Mark.TheVariants as mark
use Rattle.ca_tree.specs.declared.token.Word.TheVariants as word
use Rattle.ca_tree.specs.declared.token.Token.{Token}
use Rattle.ca_tree.specs.declared.tree.Name.{Name}
use Rattle.ca_tree.specs.declared.tree.Base.{Base}
use Rattle.ca_tree.specs.declared.tree.Base.TheVariants as base
use Rattle.ca_tree.specs.declared.tree.Constant.TheVariants as constant
use Rattle.ca_tree.specs.declared.tree.GlobalForm.TheVariants as form
use Rattle.ca_tree.specs.declared.tree.Globals.TheVariants as globals
use Rattle.ca_tree.specs.declared.tree.ResultType.{ResultType}
use Rattle.ca_tree.specs.declared.tree.ResultType.TheVariants as result
use Rattle.ca_tree.specs.declared.tree.ParameterType.{ParameterType}
use Rattle.ca_tree.specs.declared.tree.ParameterType.TheVariants as parameter
use Rattle.ca_tree.specs.declared.tree.Top.TheVariants as top
use Rattle.ca_tree.specs.Lexed.{token}
use Rattle.ca_tree.specs.Places.{start}
use Rattle.ca_tree.specs.declared.counted.Counted.{Counted}
use Rattle.ca_tree.specs.declared.counted.Counted.TheVariants as counts
use Rattle.ca_tree.specs.Counts.{Totals, one_more_global, one_more_mutex, nothing_yet}
use Rattle.ca_tree.specs.Names.{is_reserved, is_left_out}
use Rattle.ca_tree.specs.PhraseTrees.{has_star}
use Rattle.ca_grammar.specs.Words.{The_mark, The_word, Skips}
use Rattle.ca_grammar.specs.Limits.{Limit, Limits, within, kept}
use Rattle.ca_grammar.specs.Expressions.{name}
use Rattle.ca_grammar.specs.Phrases as phrase
use Rattle.ca_grammar.specs.Declarations as g
use Rattle.ca_grammar.specs.Declarations.{stars_missing}
use Rattle.ca_grammar.specs.Goals.{Field_declarators, A_field, More_fields, Mutexes, Threads, A_constant, Behind_global, More_globals, Next_global, Behind_type, More_parameters, Next_parameter, Parameters, Body_of, Function_of, Behind_paren, Behind_base, Behind_void, Qualified, Behind_tag, A_top, Tops, A_program}
use Rattle.ca_grammar.specs.DeclarationPlans.{totalled, global, unnamed}
use Rattle.ca_grammar.proofs.Loose.{Sample, NamedBefore}
use Rattle.ca_grammar.proofs.DeclarationBack.{of_name, no_star_missing}

not_reserved : is_reserved (codes "x") ≡ false
unfolding is_reserved is_left_out
not_reserved = refl

-- a token that is a mark, a word or the name x
abbrev a_mark : Mark → Token
a_mark m = token start (word.Mark m)

abbrev a_word : List ℕ → Token
a_word t = token start (word.Name t)

abbrev an_x : Token
an_x = a_word (codes "x")

abbrev name_x : Name
name_x = name start (codes "x")

marked : (m : Mark) (us : List Token) → Skips (The_mark m) (a_mark m ∷ us) us
marked m us = (start, tt, record { first = word.Mark m; parts = refl; fits = refl })

worded : (t : List ℕ) (us : List Token) → Skips (The_word t) (a_word t ∷ us) us
worded t us = (start, tt, record { first = word.Name t; parts = refl; fits = refl })

-- where fewer than k tokens are left
allowed_past : (limits : Limits) (k : ℕ) (of : Counted) (n : ℕ) (ts : List Token) → length ts < k → kept limits k (Limit of) n ts ≡ true
allowed_past limits k of n ts h = ap (λ b. b || within (limits (Limit of)) n) (lt-ltb (length ts) k h)

names_x : (limits : Limits) (k : ℕ) (us : List Token) → suc (length us) < k → phrase.Names (kept limits k) (an_x ∷ us) start (codes "x") us
names_x limits k us h = record { takes = record { first = word.Name (codes "x"); parts = refl; fits = (refl, not_reserved) }; short = allowed_past limits k counts.NameBytes 1 (an_x ∷ us) h }

one_star : (limits : Limits) (k : ℕ) (us : List Token) → phrase.Spells (kept limits k) (phrase.Stars 0) 1 (a_mark mark.Star ∷ us) us
one_star limits k us = phrase.a_star (marked mark.Star us) phrase.no_star

has_one : (b : Base) → has_star b 1 ≡ true
has_one base.Int = refl
has_one (base.Struct x) = refl

pub sample_field_declarators : (limits : Limits) (b : Base) (j : ℕ) → Sample limits (Field_declarators b j)
sample_field_declarators limits b j =
    record {
      tree = record { stars = 1; name = name_x } ∷ [];
      more = a_mark mark.Star ∷ an_x ∷ a_mark mark.Semicolon ∷ [];
      spells = λ k vs h r n.
          let behind = a_mark mark.Semicolon ∷ vs in
          g.last_field (one_star limits k (an_x ∷ behind)) (has_one b) (allowed_past limits k counts.Fields (suc j) (an_x ∷ behind) (omega (arith, h))) (names_x limits k behind (omega (arith, h)))
          (marked mark.Semicolon vs);
    }

-- an `int`
int_at : (limits : Limits) (k : ℕ) (us : List Token) → phrase.Spells (kept limits k) phrase.A_base base.Int (a_word (codes "int") ∷ us) us
int_at limits k us = phrase.int_base (worded (codes "int") us)

pub sample_field : (limits : Limits) (j : ℕ) → Sample limits (A_field j)
sample_field limits j =
    record {
      tree = record { base = base.Int; declarators = record { stars = 0; name = name_x } ∷ [] } ∷ [];
      more = a_word (codes "int") ∷ an_x ∷ a_mark mark.Semicolon ∷ a_mark mark.CloseBrace ∷ [];
      spells = λ k vs h r n.
          let close = a_mark mark.CloseBrace ∷ vs in
          let behind = a_mark mark.Semicolon ∷ close in
          let one = g.last_field phrase.no_star refl (allowed_past limits k counts.Fields (suc j) (an_x ∷ behind) (omega (arith, h))) (names_x limits k behind (omega (arith, h))) (marked mark.Semicolon close) in (
            record { base = base.Int; declarators = record { stars = 0; name = name_x } ∷ [] },
            [],
            refl,
            (close, g.more_fields (int_at limits k (an_x ∷ behind)) one g.no_more_fields, marked mark.CloseBrace vs),
          );
    }

pub sample_more_fields : (limits : Limits) (j : ℕ) → Sample limits (More_fields j)
sample_more_fields limits j =
    record { tree = []; more = a_mark mark.CloseBrace ∷ []; spells = λ k vs h r n. (a_mark mark.CloseBrace ∷ vs, g.no_more_fields, marked mark.CloseBrace vs) }

pub sample_mutexes : (limits : Limits) (t : Totals) → Sample limits (Mutexes t)
sample_mutexes limits t =
    record {
      tree = totalled (record { name = name_x; has_initializer = false } ∷ []) (one_more_mutex t);
      more = an_x ∷ a_mark mark.Semicolon ∷ [];
      spells = λ k vs h r.
          let end = a_mark mark.Semicolon ∷ vs in (
            record { name = name_x; has_initializer = false },
            [],
            refl,
            record {
              first_totals = one_more_mutex t;
              behind_first = end;
              behind_all = end;
              first = g.a_mutex (allowed_past limits k counts.Mutexes (suc t.mutexes) (an_x ∷ end) (omega (arith, h))) (names_x limits k end (omega (arith, h)));
              others = g.no_more_mutexes;
              end = marked mark.Semicolon vs;
            },
          );
    }

pub sample_threads : (limits : Limits) (t : Totals) → Sample limits (Threads t)
sample_threads limits t =
    record {
      tree = totalled (record { name = name_x; length = None } ∷ []) (one_more_global t);
      more = an_x ∷ a_mark mark.Semicolon ∷ [];
      spells = λ k vs h r.
          let end = a_mark mark.Semicolon ∷ vs in (
            record { name = name_x; length = None },
            [],
            refl,
            record {
              first_totals = one_more_global t;
              behind_first = end;
              behind_all = end;
              first = g.a_thread (names_x limits k end (omega (arith, h))) (allowed_past limits k counts.Globals (suc t.globals) end (omega (arith, h)));
              others = g.no_more_threads;
              end = marked mark.Semicolon vs;
            },
          );
    }

pub sample_constant : (limits : Limits) → Sample limits A_constant
sample_constant limits =
    record {
      tree = constant.Number (pos 0);
      more = token start (word.Number (pos 0)) ∷ [];
      spells = λ k vs h r n. g.a_number {p = start} {i = pos 0} (record { first = word.Number (pos 0); parts = refl; fits = (refl, refl) });
    }

-- a global named before, which is plain
plain_global : (limits : Limits) (k : ℕ) (b : Base) (j : ℕ) (x : Name) (t : Totals) (pre ts : List Token) → length ts < k → NamedBefore (kept limits k) j x pre ts
    → g.Spells (kept limits k) (g.A_global b) t (global j x form.Plain) pre (one_more_global t) ts
plain_global limits k b j x t pre ts h n =
    of_name (λ y. g.Spells (kept limits k) (g.A_global b) t (global j y form.Plain) pre (one_more_global t) ts) x n.p n.t n.is_name
    (g.a_global n.stars n.names (allowed_past limits k counts.Globals (suc t.globals) ts h) g.plain)

-- the name x is before
x_before : (limits : Limits) (k : ℕ) (ts : List Token) → suc (length ts) < k → NamedBefore (kept limits k) 0 name_x (an_x ∷ ts) ts
x_before limits k ts h = record { us = an_x ∷ ts; p = start; t = codes "x"; stars = phrase.no_star; names = names_x limits k ts h; is_name = refl }

pub sample_behind_global : (limits : Limits) (b : Base) (j : ℕ) (x : Name) (t : Totals) → Sample limits (Behind_global b j x t)
sample_behind_global limits b j x t =
    record {
      tree = totalled (global j x form.Plain ∷ []) (one_more_global t);
      more = a_mark mark.Semicolon ∷ [];
      spells = λ k vs h r pre n.
          let end = a_mark mark.Semicolon ∷ vs in (
            global j x form.Plain,
            [],
            refl,
            record {
              first_totals = one_more_global t;
              behind_first = end;
              behind_all = end;
              first = plain_global limits k b j x t pre end h n;
              others = g.no_more_globals;
              end = marked mark.Semicolon vs;
            },
          );
    }

pub sample_more_globals : (limits : Limits) (b : Base) (t : Totals) → Sample limits (More_globals b t)
sample_more_globals limits b t =
    record { tree = totalled [] t; more = a_mark mark.Semicolon ∷ []; spells = λ k vs h r. (a_mark mark.Semicolon ∷ vs, g.no_more_globals, marked mark.Semicolon vs) }

pub sample_next_global : (limits : Limits) (b : Base) (t : Totals) → Sample limits (Next_global b t)
sample_next_global limits b t =
    record {
      tree = totalled (global 0 name_x form.Plain ∷ []) (one_more_global t);
      more = an_x ∷ a_mark mark.Semicolon ∷ [];
      spells = λ k vs h r.
          let end = a_mark mark.Semicolon ∷ vs in (
            global 0 name_x form.Plain,
            [],
            refl,
            record {
              first_totals = one_more_global t;
              behind_first = end;
              behind_all = end;
              first = plain_global limits k b 0 name_x t (an_x ∷ end) end (omega (arith, h)) (x_before limits k end (omega (arith, h)));
              others = g.no_more_globals;
              end = marked mark.Semicolon vs;
            },
          );
    }

pub sample_behind_type : (limits : Limits) (of : ParameterType) (j : ℕ) → Sample limits (Behind_type of j)
sample_behind_type limits of j =
    record {
      tree = unnamed of ∷ [];
      more = a_mark mark.CloseParen ∷ [];
      spells = λ k vs h r n pre s.
          let end = a_mark mark.CloseParen ∷ vs in
          (unnamed of, [], refl, record { behind_first = end; first = g.a_parameter s (allowed_past limits k counts.Parameters (suc j) end h); others = g.last_parameter (marked mark.CloseParen vs) });
    }

pub sample_more_parameters : (limits : Limits) (j : ℕ) → Sample limits (More_parameters j)
sample_more_parameters limits j = record { tree = []; more = a_mark mark.CloseParen ∷ []; spells = λ k vs h r n. g.last_parameter (marked mark.CloseParen vs) }

pub sample_next_parameter : (limits : Limits) (j : ℕ) → Sample limits (Next_parameter j)
sample_next_parameter limits j =
    let of = parameter.Value (record { base = base.Int; stars = 0 }) in
    record {
      tree = unnamed of ∷ [];
      more = a_word (codes "int") ∷ a_mark mark.CloseParen ∷ [];
      spells = λ k vs h r n.
          let end = a_mark mark.CloseParen ∷ vs in (
            unnamed of,
            [],
            refl,
            record {
              behind_first = end;
              first = g.a_parameter (g.a_value_parameter (int_at limits k end) phrase.no_star refl) (allowed_past limits k counts.Parameters (suc j) end (omega (arith, h)));
              others = g.last_parameter (marked mark.CloseParen vs);
            },
          );
    }

pub sample_parameters : (limits : Limits) → Sample limits Parameters
sample_parameters limits = record { tree = []; more = a_mark mark.CloseParen ∷ []; spells = λ k vs h r n. g.no_parameters (marked mark.CloseParen vs) }

pub sample_body_of : (limits : Limits) (t : Totals) → Sample limits (Body_of t)
sample_body_of limits t = record { tree = totalled None t; more = a_mark mark.Semicolon ∷ []; spells = λ k vs h r. g.no_body (marked mark.Semicolon vs) }

pub sample_function_of : (limits : Limits) (r : ResultType) (t : Totals) → Sample limits (Function_of r t)
sample_function_of limits r t =
    record {
      tree = totalled (record { result = r; name = name_x; parameters = []; body = None }) t;
      more = an_x ∷ a_mark mark.OpenParen ∷ a_mark mark.CloseParen ∷ a_mark mark.Semicolon ∷ [];
      spells = λ k vs h i pre s z.
          let end = a_mark mark.Semicolon ∷ vs in
          let close = a_mark mark.CloseParen ∷ end in
          let paren = a_mark mark.OpenParen ∷ close in
          g.a_function s (names_x limits k paren (omega (arith, h))) (no_star_missing limits k (stars_missing r) paren z) (marked mark.OpenParen close) (g.no_parameters (marked mark.CloseParen end))
          (g.no_body (marked mark.Semicolon vs));
    }

pub sample_behind_paren : (limits : Limits) (r : ResultType) (x : Name) (t : Totals) → Sample limits (Behind_paren r x t)
sample_behind_paren limits r x t =
    record {
      tree = totalled (record { result = r; name = x; parameters = []; body = None }) t;
      more = a_mark mark.CloseParen ∷ a_mark mark.Semicolon ∷ [];
      spells = λ k vs h i pre o.
          let end = a_mark mark.Semicolon ∷ vs in
          of_name (λ y. g.Spells (kept limits k) g.A_function t (record { result = r; name = y; parameters = []; body = None }) pre t vs) x o.p o.text o.is_name
          (g.a_function o.result o.names o.star o.paren (g.no_parameters (marked mark.CloseParen end)) (g.no_body (marked mark.Semicolon vs)));
    }

-- a global x of a base that is before
x_of : (limits : Limits) (k : ℕ) (b : Base) (t : Totals) (pre vs : List Token) → suc (suc (length vs)) < k → phrase.Spells (kept limits k) phrase.A_base b pre (an_x ∷ a_mark mark.Semicolon ∷ vs)
    → g.Spells (kept limits k) g.A_qualified t (top.Globals (globals.Variables b (global 0 name_x form.Plain ∷ []))) pre (one_more_global t) vs
x_of limits k b t pre vs h s =
    let end = a_mark mark.Semicolon ∷ vs in
    g.globals_of (g.variables s (plain_global limits k b 0 name_x t (an_x ∷ end) end (omega (arith, h)) (x_before limits k end h)) g.no_more_globals) (marked mark.Semicolon vs)

pub sample_behind_base : (limits : Limits) (b : Base) (t : Totals) → Sample limits (Behind_base b t)
sample_behind_base limits b t =
    record {
      tree = totalled (top.Globals (globals.Variables b (global 0 name_x form.Plain ∷ []))) (one_more_global t);
      more = an_x ∷ a_mark mark.Semicolon ∷ [];
      spells = λ k vs h r pre s. x_of limits k b t pre vs h s;
    }

pub sample_behind_void : (limits : Limits) (t : Totals) → Sample limits (Behind_void t)
sample_behind_void limits t =
    let f = sample_function_of limits result.Void t in
    record {
      tree = totalled (top.Function f.tree.what) f.tree.totals;
      more = f.more;
      spells = λ k vs h r pre s. g.function_of (f.spells k vs h r pre (g.nothing s) refl);
    }

pub sample_qualified : (limits : Limits) (t : Totals) → Sample limits (Qualified t)
sample_qualified limits t =
    record {
      tree = totalled (top.Globals (globals.Variables base.Int (global 0 name_x form.Plain ∷ []))) (one_more_global t);
      more = a_word (codes "int") ∷ an_x ∷ a_mark mark.Semicolon ∷ [];
      spells = λ k vs h r. let behind = an_x ∷ a_mark mark.Semicolon ∷ vs in x_of limits k base.Int t (a_word (codes "int") ∷ behind) vs (omega (arith, h)) (int_at limits k behind);
    }

pub sample_behind_tag : (limits : Limits) (x : Name) (t : Totals) → Sample limits (Behind_tag x t)
sample_behind_tag limits x t =
    record {
      tree = totalled (top.Globals (globals.Variables (base.Struct x) (global 0 name_x form.Plain ∷ []))) (one_more_global t);
      more = an_x ∷ a_mark mark.Semicolon ∷ [];
      spells = λ k vs h r pre mid p text s n o.
          let behind = an_x ∷ a_mark mark.Semicolon ∷ vs in
          g.qualified (x_of limits k (base.Struct x) t pre vs h (of_name (λ y. phrase.Spells (kept limits k) phrase.A_base (base.Struct y) pre behind) x p text o (phrase.struct_base s n)));
    }

pub sample_top : (limits : Limits) (t : Totals) → Sample limits (A_top t)
sample_top limits t = record { tree = totalled None t; more = []; spells = λ k vs h r. (refl, refl) }

pub sample_tops : (limits : Limits) (t : Totals) → Sample limits (Tops t)
sample_tops limits t = record { tree = totalled [] t; more = []; spells = λ k vs h r. g.no_top }

pub sample_program : (limits : Limits) → Sample limits A_program
sample_program limits =
    record {
      tree = record { tops = [] };
      more = token start word.End ∷ [];
      spells = λ k vs h r. (nothing_yet, g.a_program g.no_top (start, tt, record { first = word.End; parts = refl; fits = refl }));
    }

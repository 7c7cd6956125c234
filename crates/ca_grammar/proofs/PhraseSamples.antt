-- Tokens with which types, calls, right sides and simple statements can be completed.
use Rattle.std.proofs.Common.{◌≡◌, ℕ, ◌<◌, ◌||◌, false, true, List, [], ◌∷◌, length, Option, None, codes, arith, refl, ap}
use Rattle.std.proofs.lemmas.Bool.{lt-ltb}
use Rattle.ca_tree.specs.declared.text.Pos.{Pos}
use Rattle.ca_tree.specs.declared.token.Token.{Token}
use Rattle.ca_tree.specs.declared.token.Word.TheVariants as word
use Rattle.ca_tree.specs.declared.token.Mark.{Mark}
use Rattle.ca_tree.specs.declared.token.Mark.TheVariants as mark
use Rattle.ca_tree.specs.declared.tree.Base.{Base}
use Rattle.ca_tree.specs.declared.tree.Base.TheVariants as base
use Rattle.ca_tree.specs.declared.tree.«Type».{«Type» as CType}
use Rattle.ca_tree.specs.declared.tree.Right.TheVariants as right
use Rattle.ca_tree.specs.declared.tree.UpdateOp.TheVariants as update
use Rattle.ca_tree.specs.declared.tree.Simple.TheVariants as simple
use Rattle.ca_tree.specs.Lexed.{token}
use Rattle.ca_tree.specs.Places.{start}
use Rattle.ca_grammar.specs.declared.faults.Count.{Count}
use Rattle.ca_tree.specs.declared.counted.Counted.{Counted}
use Rattle.ca_tree.specs.Names.{is_reserved, is_left_out}
use Rattle.ca_tree.specs.PhraseTrees.{has_star}
use Rattle.ca_grammar.specs.declared.operand.Operand.{Operand}
use Rattle.ca_grammar.specs.Words.{The_mark, The_word, A_name, A_step_operator, Takes}
use Rattle.ca_grammar.specs.Limits.{Limit, Limits, within, Allowed, kept}
use Rattle.ca_grammar.specs.Expressions as g
use Rattle.ca_grammar.specs.Phrases as phrase
use Rattle.ca_grammar.specs.Goals.{Stars, Starred_name, Base_at, Type_name, Arguments_behind, More_arguments, Print_arguments, Behind_malloc, A_right, Initializer, Behind_target, Simple_at}
use Rattle.ca_grammar.proofs.Combinators.{counts_past}
use Rattle.ca_grammar.proofs.Loose.{f_target, Sample}
use Rattle.ca_grammar.proofs.ExpressionTheory.{zero_token, zero_read, level_zero}

-- where fewer than k tokens are left, any number is allowed
pub allowed_past : (limits : Limits) (k : ℕ) (of : Counted) (n : ℕ) (ts : List Token) → length ts < k → (kept limits k (Limit of) n ts) ≡ true
allowed_past limits k of n ts h = ap (λ b. b || within (limits (Limit of)) n) (lt-ltb (length ts) k h)

abbrev pub mark_token : Mark → Token
mark_token m = token start (word.Mark m)

abbrev pub word_token : List ℕ → Token
word_token t = token start (word.Name t)

abbrev pub at_mark : (m : Mark) (us : List Token) → Takes (The_mark m) (mark_token m ∷ us) start tt us
at_mark m us = record { first = word.Mark m; parts = refl; fits = refl }

abbrev pub at_word : (t : List ℕ) (us : List Token) → Takes (The_word t) (word_token t ∷ us) start tt us
at_word t us = record { first = word.Name t; parts = refl; fits = refl }

-- any name
abbrev pub some_name : List ℕ
some_name = codes "x"

pub some_name_free : is_reserved some_name ≡ false
unfolding is_reserved is_left_out
some_name_free = refl

pub at_name : (us : List Token) → Takes A_name (word_token some_name ∷ us) start some_name us
at_name us = record { first = word.Name some_name; parts = refl; fits = (refl, some_name_free) }

pub sample_stars : (limits : Limits) (j : ℕ) → Sample limits (Stars j)
sample_stars limits j = record { tree = j; more = []; spells = λ k vs h r. phrase.no_star }

pub one_star : (b : Base) → has_star b 1 ≡ true
one_star base.Int = refl
one_star (base.Struct n) = refl

pub sample_starred_name : (limits : Limits) (cs at_name : List Count) (b : Base) → Sample limits (Starred_name cs at_name b)
sample_starred_name limits cs more_at_name b =
    record {
      tree = record { pos = start; stars = 1; name = g.name start some_name };
      more = mark_token mark.Star ∷ word_token some_name ∷ [];
      spells = λ k vs h r. record {
        us = word_token some_name ∷ vs;
        p = start;
        t = some_name;
        stars = phrase.a_star (start, tt, at_mark mark.Star (word_token some_name ∷ vs)) phrase.no_star;
        has_star = one_star b;
        names = record { takes = at_name vs; short = allowed_past limits k _ (length some_name) (word_token some_name ∷ vs) (omega (arith, h)) };
        is_name = refl;
        at = refl;
        first = counts_past limits k cs (mark_token mark.Star ∷ word_token some_name ∷ vs) h;
        counted = counts_past limits k more_at_name (word_token some_name ∷ vs) (omega (arith, h));
      };
    }

pub sample_base : (limits : Limits) (cs : List Count) → Sample limits (Base_at cs)
sample_base limits cs =
    record {
      tree = record { pos = start; what = base.Int };
      more = word_token (codes "int") ∷ [];
      spells = λ k vs h r. (phrase.int_base (start, tt, at_word (codes "int") vs), refl, counts_past limits k cs (word_token (codes "int") ∷ vs) h);
    }

abbrev pub int_type : CType
int_type = record { base = base.Int; stars = 0 }

pub at_int : {allowed : Allowed} (us : List Token) → phrase.Spells allowed phrase.A_type int_type (word_token (codes "int") ∷ us) us
at_int us = phrase.a_type (phrase.int_base (start, tt, at_word (codes "int") us)) phrase.no_star

pub sample_type_name : (limits : Limits) → Sample limits Type_name
sample_type_name limits = record { tree = int_type; more = word_token (codes "int") ∷ []; spells = λ k vs h r. at_int vs }

pub sample_arguments : (limits : Limits) → Sample limits Arguments_behind
sample_arguments limits = record { tree = []; more = mark_token mark.CloseParen ∷ []; spells = λ k vs h r. phrase.no_arguments (start, tt, at_mark mark.CloseParen vs) }

pub sample_more_arguments : (limits : Limits) → Sample limits More_arguments
sample_more_arguments limits = record { tree = []; more = mark_token mark.CloseParen ∷ []; spells = λ k vs h r. phrase.last_argument (start, tt, at_mark mark.CloseParen vs) }

pub sample_print_arguments : (limits : Limits) (j : ℕ) → Sample limits (Print_arguments j)
sample_print_arguments limits j =
    record { tree = []; more = mark_token mark.CloseParen ∷ []; spells = λ k vs h r. phrase.last_print_argument (start, tt, at_mark mark.CloseParen vs) }

pub sample_malloc : (limits : Limits) (p : Pos) (cast : Option CType) → Sample limits (Behind_malloc p cast)
sample_malloc limits p cast =
    record {
      tree = record { pos = p; cast = cast; count = None; of = int_type };
      more = mark_token mark.OpenParen ∷ word_token (codes "sizeof") ∷ mark_token mark.OpenParen ∷ word_token (codes "int") ∷ mark_token mark.CloseParen ∷ mark_token mark.CloseParen ∷ [];
      spells = λ k vs h r. phrase.a_malloc (start, tt, at_mark mark.OpenParen _) phrase.no_count (start, tt, at_word (codes "sizeof") _) (start, tt, at_mark mark.OpenParen _) (at_int _)
          (start, tt, at_mark mark.CloseParen _) (start, tt, at_mark mark.CloseParen vs);
    }

pub sample_right : (limits : Limits) → Sample limits A_right
sample_right limits =
    record { tree = right.Value zero_read.exp; more = zero_token ∷ []; spells = λ k vs h r. phrase.a_value refl (g.an_expression (level_zero 6 vs) r) }

pub sample_initializer : (limits : Limits) → Sample limits Initializer
sample_initializer limits = record { tree = None; more = []; spells = λ k vs h r. phrase.no_initializer }

abbrev pub at_increment : (us : List Token) → Takes A_step_operator (mark_token mark.Increment ∷ us) start update.Add us
at_increment us = record { first = word.Mark mark.Increment; parts = refl; fits = refl }

pub sample_target : (limits : Limits) (a : Operand) → Sample limits (Behind_target a)
sample_target limits a =
    record { tree = simple.Update a.exp update.Add (phrase.one start); more = mark_token mark.Increment ∷ []; spells = λ k vs h r. f_target (λ pre x. phrase.a_step_behind x (at_increment vs)) }

pub sample_simple : (limits : Limits) (cs : List Count) → Sample limits (Simple_at cs)
sample_simple limits cs =
    record {
      tree = record { pos = start; what = simple.Update zero_read.exp update.Add (phrase.one start) };
      more = mark_token mark.Increment ∷ zero_token ∷ [];
      spells = λ k vs h r. (phrase.a_step_before (at_increment (zero_token ∷ vs)) (g.a_whole_unary (level_zero 0 vs) r), refl, counts_past limits k cs (mark_token mark.Increment ∷ zero_token ∷ vs) h);
    }

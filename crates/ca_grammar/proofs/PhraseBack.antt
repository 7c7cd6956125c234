-- What may be read as a type, a call, a right side or a simple statement is spelled so.
use Rattle.std.proofs.Common.{◌≡◌, ℕ, ◌≤◌, ◌+◌, true, false, List, [], ◌∷◌, ◌++◌, length, Option, codes, arith, refl, ap, ◌∙◌}
use Rattle.std.specs.Option.{is_some}
use Rattle.std.proofs.lemmas.Bool.{le-leb}
use Rattle.std.proofs.lemmas.List.Elements.{All-head}
use Rattle.ca_tree.specs.declared.text.Pos.{Pos}
use Rattle.ca_tree.specs.declared.token.Token.{Token}
use Rattle.ca_tree.specs.declared.token.Word.{Word}
use Rattle.ca_tree.specs.declared.token.Word.TheVariants as word
use Rattle.ca_tree.specs.declared.tree.Exp.{Exp}
use Rattle.ca_tree.specs.declared.tree.Exp.TheVariants as e
use Rattle.ca_tree.specs.declared.tree.Base.{Base}
use Rattle.ca_tree.specs.declared.tree.Base.TheVariants as base
use Rattle.ca_tree.specs.declared.tree.«Type».{«Type» as CType}
use Rattle.ca_tree.specs.declared.tree.Malloc.{Malloc}
use Rattle.ca_tree.specs.declared.tree.Right.{Right}
use Rattle.ca_tree.specs.declared.tree.Simple.{Simple}
use Rattle.ca_grammar.specs.declared.faults.Count.{Count}
use Rattle.ca_tree.specs.declared.counted.Counted.TheVariants.{NameBytes}
use Rattle.ca_tree.specs.Names.{is_library_word}
use Rattle.ca_grammar.specs.declared.operand.Operand.{Operand}
use Rattle.ca_grammar.specs.Words.{Class, A_name, A_name_of_the_source, Of, Takes, Lacks, unary_operator, is_library_call, begins_library_call}
use Rattle.ca_grammar.specs.Limits.{Limit, Depth, Limits, within, Allowed, kept}
use Rattle.ca_grammar.specs.Expressions.{Spells}
use Rattle.ca_grammar.specs.Expressions as g
use Rattle.ca_grammar.specs.Phrases as phrase
use Rattle.ca_grammar.specs.Goals.{From, Stars, Starred_name, Starred, Base_at, Placed, Type_name, Arguments_behind, More_arguments, Print_arguments, Behind_malloc, A_right, Initializer, Behind_target, Simple_at}
use Rattle.ca_grammar.specs.Plan.{and_name}
use Rattle.ca_grammar.specs.Reads.{plan}
use Rattle.ca_grammar.proofs.Combinators.{All_front, All_back, counts_before, count_of_name}
use Rattle.ca_grammar.proofs.Loose.{Counts, Roomy, Holds, Follows, f_unary, f_level, Finishes, f_target, Spelled, Loose, l_give, l_take, l_pass, l_want, l_call}
use Rattle.ca_grammar.proofs.Depths.{deep, at_most}
use Rattle.ca_grammar.proofs.ExpressionTheory.{is, place_at, from_unary}

-- the one thing that is counted is allowed
pub only_count : (limits : Limits) (k : ℕ) (c : Count) (ts : List Token) → Counts limits k (c ∷ []) ts → kept limits k (Limit c.of) c.number ts ≡ true
only_count limits k c ts i = All-head (λ (x : Count). kept limits k (Limit x.of) x.number ts ≡ true) c [] i

-- a name with nothing counted before it
pub names_of : (limits : Limits) (k : ℕ) {p : Pos} {t : List ℕ} {ts us : List Token} → Takes A_name ts p t us → Counts limits k (and_name [] t) ts → phrase.Names (kept limits k) ts p t us
names_of limits k {t = t} {ts = ts} n c = record { takes = n; short = count_of_name limits k ts [] t c }

-- stars are never fewer than those so far
pub stars_grow : {allowed : Allowed} {j m : ℕ} {ts us : List Token} → phrase.Spells allowed (phrase.Stars j) m ts us → j ≤ m
stars_grow phrase.no_star = omega arith
stars_grow (phrase.a_star t s) = omega (arith, stars_grow s)

pub back_stars : (limits : Limits) (k j m : ℕ) (ts us : List Token) → Roomy limits (Stars j) → Loose limits k (Stars j) (plan (Stars j)) m ts us → Spelled limits k (Stars j) m ts us
back_stars limits k j m ts us i (l_take t c d (l_call b s (l_give w))) = is limits k (Stars j) ts us w (phrase.a_star (_, _, t) (s i))
back_stars limits k j m ts us i (l_pass (l_give w)) = is limits k (Stars j) ts us w phrase.no_star

pub back_starred_name : (limits : Limits) (k : ℕ) (cs at_name : List Count) (b : Base) (x : Starred) (ts us : List Token) → Roomy limits (Starred_name cs at_name b)
    → Loose limits k (Starred_name cs at_name b) (plan (Starred_name cs at_name b)) x ts us → Spelled limits k (Starred_name cs at_name b) x ts us
back_starred_name limits k cs at_name base.Int x ts us i (l_take t c d (l_call m s (l_want {p = q} {x = y} u n (l_give w)))) =
    is limits k (Starred_name cs at_name base.Int) ts us w
    (record {
      us = _;
      p = q;
      t = y;
      stars = phrase.a_star (_, _, t) (s i);
      has_star = refl;
      names = record { takes = u; short = count_of_name limits k _ at_name y n };
      is_name = refl;
      at = place_at t;
      first = c;
      counted = counts_before limits k _ at_name y n;
    })
back_starred_name limits k cs at_name base.Int x ts us i (l_pass (l_want {p = q} {x = y} u n (l_give w))) =
    let P = λ (c : Count). kept limits k (Limit c.of) c.number ts ≡ true in
    let both = counts_before limits k ts (cs ++ at_name) y n in
    is limits k (Starred_name cs at_name base.Int) ts us w
    (record {
      us = _;
      p = q;
      t = y;
      stars = phrase.no_star;
      has_star = refl;
      names = record { takes = u; short = count_of_name limits k ts (cs ++ at_name) y n };
      is_name = refl;
      at = place_at u;
      first = All_front P cs at_name both;
      counted = All_back P cs at_name both;
    })
back_starred_name limits k cs at_name (base.Struct z) x ts us i (l_want t c (l_call m s (l_want {p = q} {x = y} u n (l_give w)))) =
    is limits k (Starred_name cs at_name (base.Struct z)) ts us w
    (record {
      us = _;
      p = q;
      t = y;
      stars = phrase.a_star (_, _, t) (s i);
      has_star = le-leb 1 m (stars_grow (s i));
      names = record { takes = u; short = count_of_name limits k _ at_name y n };
      is_name = refl;
      at = place_at t;
      first = c;
      counted = counts_before limits k _ at_name y n;
    })

pub back_base : (limits : Limits) (k : ℕ) (cs : List Count) (b : Placed Base) (ts us : List Token) → Roomy limits (Base_at cs) → Loose limits k (Base_at cs) (plan (Base_at cs)) b ts us → Spelled limits k (Base_at cs) b ts us
back_base limits k cs b ts us i (l_take t c d (l_give w)) = is limits k (Base_at cs) ts us w (phrase.int_base (_, _, t), place_at t, c)
back_base limits k cs b ts us i (l_pass (l_want t c (l_want u n (l_give w)))) = is limits k (Base_at cs) ts us w (phrase.struct_base (_, _, t) (names_of limits k u n), place_at t, c)

pub back_type_name : (limits : Limits) (k : ℕ) (a : CType) (ts us : List Token) → Roomy limits Type_name → Loose limits k Type_name (plan Type_name) a ts us → Spelled limits k Type_name a ts us
back_type_name limits k a ts us i (l_call b s (l_call m r (l_give w))) = is limits k Type_name ts us w (phrase.a_type (s i).0 (r i))

pub back_arguments : (limits : Limits) (k : ℕ) (a : List Exp) (ts us : List Token) → Roomy limits Arguments_behind → Loose limits k Arguments_behind (plan Arguments_behind) a ts us → Spelled limits k Arguments_behind a ts us
back_arguments limits k a ts us i (l_take t c d (l_give w)) = is limits k Arguments_behind ts us w (phrase.no_arguments (_, _, t))
back_arguments limits k a ts us i (l_pass (l_call b s (l_call more r (l_give w)))) = is limits k Arguments_behind ts us w (phrase.some_arguments (s i).0 (r i))

pub back_more_arguments : (limits : Limits) (k : ℕ) (a : List Exp) (ts us : List Token) → Roomy limits More_arguments → Loose limits k More_arguments (plan More_arguments) a ts us → Spelled limits k More_arguments a ts us
back_more_arguments limits k a ts us i (l_take t c d (l_call b s (l_call more r (l_give w)))) = is limits k More_arguments ts us w (phrase.next_argument (_, _, t) (s i).0 (r i))
back_more_arguments limits k a ts us i (l_pass (l_want t c (l_give w))) = is limits k More_arguments ts us w (phrase.last_argument (_, _, t))

pub back_print_arguments : (limits : Limits) (k j : ℕ) (a : List Exp) (ts us : List Token) → Roomy limits (Print_arguments j) → Loose limits k (Print_arguments j) (plan (Print_arguments j)) a ts us
    → Spelled limits k (Print_arguments j) a ts us
back_print_arguments limits k j a ts us i (l_take t c d (l_call b s (l_call more r (l_give w)))) =
    let e = s i in
    is limits k (Print_arguments j) ts us w (phrase.next_print_argument (_, _, t) (only_count limits k _ _ e.1) e.0 (r i))
back_print_arguments limits k j a ts us i (l_pass (l_want t c (l_give w))) = is limits k (Print_arguments j) ts us w (phrase.last_print_argument (_, _, t))

pub back_malloc : (limits : Limits) (k : ℕ) (p : Pos) (cast : Option CType) (m : Malloc) (ts us : List Token) → Roomy limits (Behind_malloc p cast)
    → Loose limits k (Behind_malloc p cast) (plan (Behind_malloc p cast)) m ts us → Spelled limits k (Behind_malloc p cast) m ts us
back_malloc limits k p cast m ts us i (l_want t c (l_take u d e (l_want o n (l_call b s (l_want x y (l_want z v (l_give w))))))) =
    is limits k (Behind_malloc p cast) ts us w (phrase.a_malloc (_, _, t) phrase.no_count (_, _, u) (_, _, o) (s i) (_, _, x) (_, _, z))
back_malloc limits k p cast m ts us i (l_want t c (l_pass (l_call a r (l_want q d (l_want u e (l_want o n (l_call b s (l_want x y (l_want z v (l_give w)))))))))) =
    is limits k (Behind_malloc p cast) ts us w (phrase.a_malloc (_, _, t) (phrase.a_count (r i).0 (_, _, q)) (_, _, u) (_, _, o) (s i) (_, _, x) (_, _, z))

-- where a name is one of the source, it is a name
pub as_name : {p : Pos} {t : List ℕ} {ts us : List Token} → Takes A_name_of_the_source ts p t us → Takes A_name ts p t us
as_name t = record { first = t.first; parts = t.parts; fits = (t.fits.0, t.fits.1) }

-- what begins with a word that is no call of the library doesn't begin with one
pub no_library : {c : Class} {p : Pos} {x : Of c} {ts us : List Token} (w : Word) (t : Takes c ts p x us) → t.first ≡ w → is_library_call w ≡ false → begins_library_call ts ≡ false
no_library w t e f = ap begins_library_call t.parts ∙ (ap is_library_call e ∙ f)

pub null_is_no_call : is_library_word (codes "NULL") ≡ false
unfolding is_library_word
null_is_no_call = refl

-- a unary operator is no call of the library
pub operator_is_no_call : (w : Word) → is_some (unary_operator w) ≡ true → is_library_call w ≡ false
operator_is_no_call (word.Name t) i = absurd cc
operator_is_no_call w i = refl

-- a unary and what follows it is of that level
pub level_of : {allowed : Allowed} {l : ℕ} {a b : Operand} {ts vs us : List Token} → Spells allowed (g.Level 0) a ts vs → Follows allowed l a b vs us → Spells allowed (g.Level l) b ts us
level_of s f_unary = s
level_of s (f_level f r) = g.operands (level_of s f) r

-- a primary, and an expression from it on
pub expression_from : (limits : Limits) (k : ℕ) {a b : Operand} {ts vs us : List Token} → Spells (kept limits k) g.Primary a ts vs → Spelled limits k (From 6 a) b vs us → Spells (kept limits k) g.Expression b ts us
expression_from limits k {b = b} s (c, ws, r, f, i) = g.an_expression (level_of (g.a_postfix (g.postfix s r)) f) (at_most (limits Depth) b.depth (0 + (b.depth + 0)) i (omega arith))

pub back_right : (limits : Limits) (k : ℕ) (a : Right) (ts us : List Token) → Roomy limits A_right → Loose limits k A_right (plan A_right) a ts us → Spelled limits k A_right a ts us
back_right limits k a ts us i (l_take t c d (l_call m s (l_give w))) = is limits k A_right ts us w (phrase.plain_malloc t (s i))
back_right limits k a ts us i (l_pass (l_take {x = y} t c d (l_take u e f (l_call more s (l_give w))))) =
    is limits k A_right ts us w (phrase.a_called_value (phrase.a_call t (count_of_name limits k ts [] y c) (_, _, u) (s i)))
back_right limits k a ts us i (l_pass (l_take {x = y} t c d (l_pass (l_call b s (l_give w))))) =
    is limits k A_right ts us w
    (phrase.a_value (no_library _ t t.fits.0 t.fits.2) (expression_from limits k (g.a_name (as_name t) (count_of_name limits k ts [] y c)) (s (i, omega arith))))
back_right limits k a ts us i (l_pass (l_pass (l_take t c d (l_take u e f (l_call m s (l_want x n (l_want y o (l_call b r (l_give w))))))))) =
    is limits k A_right ts us w (phrase.cast_malloc t (phrase.a_type (phrase.int_base (_, _, u)) (s i)) (_, _, x) (_, _, y) (r i))
back_right limits k a ts us i (l_pass (l_pass (l_take t c d (l_pass (l_take u e f (l_want v q (l_call m s (l_want x n (l_want y o (l_call b r (l_give w))))))))))) =
    is limits k A_right ts us w (phrase.cast_malloc t (phrase.a_type (phrase.struct_base (_, _, u) (names_of limits k v q)) (s i)) (_, _, x) (_, _, y) (r i))
back_right limits k a ts us i (l_pass (l_pass (l_take t c d (l_pass (l_pass (l_call b s (l_want u n (l_call x r (l_give w))))))))) =
    let j = s i in
    is limits k A_right ts us w
    (phrase.a_value (no_library _ t t.fits refl) (expression_from limits k (g.parentheses t j.0 u) (r (j.1, omega (arith, deep j.0)))))
back_right limits k a ts us i (l_pass (l_pass (l_pass (l_take t c d (l_call b s (l_call x r (l_give w))))))) =
    let j = s d in
    let m = r (at_most (limits Depth) (0 + (b.depth + 1)) (1 + (b.depth + 0)) j.1 (omega arith), omega arith) in
    is limits k A_right ts us w
    (phrase.a_value (no_library _ t refl (operator_is_no_call t.first (ap is_some t.fits)))
    (g.an_expression (level_of (g.a_unary t j.0) m.0) (at_most (limits Depth) x.depth (0 + (x.depth + 0)) m.1 (omega arith))))
back_right limits k a ts us i (l_pass (l_pass (l_pass (l_pass (l_take t c d (l_call b s (l_give w))))))) =
    is limits k A_right ts us w (phrase.a_value (no_library _ t t.fits null_is_no_call) (expression_from limits k (g.a_null t) (s (i, omega arith))))
back_right limits k a ts us i (l_pass (l_pass (l_pass (l_pass (l_pass (l_want t c (l_call b s (l_give w)))))))) =
    is limits k A_right ts us w (phrase.a_value (no_library _ t t.fits.0 refl) (expression_from limits k (g.a_number t) (s (i, omega arith))))

pub back_initializer : (limits : Limits) (k : ℕ) (a : Option Right) (ts us : List Token) → Roomy limits Initializer → Loose limits k Initializer (plan Initializer) a ts us → Spelled limits k Initializer a ts us
back_initializer limits k a ts us i (l_take t c d (l_call b s (l_give w))) = is limits k Initializer ts us w (phrase.an_initializer (_, _, t) (s i))
back_initializer limits k a ts us i (l_pass (l_give w)) = is limits k Initializer ts us w phrase.no_initializer

-- where an operand holds, a leaf does
pub holds_leaf : (limits : Limits) (a : Operand) → Holds limits a → within (limits Depth) 1 ≡ true
holds_leaf limits a i = at_most (limits Depth) 1 (0 + a.depth) i.0 (omega (arith, i.1))

pub back_target : (limits : Limits) (k : ℕ) (a : Operand) (b : Simple) (ts us : List Token) → Roomy limits (Behind_target a) → Loose limits k (Behind_target a) (plan (Behind_target a)) b ts us
    → Spelled limits k (Behind_target a) b ts us
back_target limits k a b ts us i (l_take t c d (l_call r s (l_give w))) =
    is limits k (Behind_target a) ts us w (f_target (λ pre x. phrase.a_set x (_, _, t) (s (holds_leaf limits a i))))
back_target limits k a b ts us i (l_pass (l_take t c d (l_call r s (l_give w)))) =
    is limits k (Behind_target a) ts us w (f_target (λ pre x. phrase.an_update x t (s (holds_leaf limits a i)).0))
back_target limits k a b ts us i (l_pass (l_pass (l_want t c (l_give w)))) =
    is limits k (Behind_target a) ts us w (f_target (λ pre x. phrase.a_step_behind x t))

-- a unary that begins with no name begins with no call of the library
pub nameless_is_no_call : {allowed : Allowed} {a : Operand} {ts us : List Token} → Spells allowed g.Unary a ts us → Lacks A_name ts → begins_library_call ts ≡ false
nameless_is_no_call (g.a_whole_unary (g.a_unary t s) w) n = no_library _ t refl (operator_is_no_call t.first (ap is_some t.fits))
nameless_is_no_call (g.a_whole_unary (g.a_postfix (g.postfix (g.parentheses t s e) r)) w) n = no_library _ t t.fits refl
nameless_is_no_call (g.a_whole_unary (g.a_postfix (g.postfix (g.a_null t) r)) w) n = no_library _ t t.fits null_is_no_call
nameless_is_no_call (g.a_whole_unary (g.a_postfix (g.postfix (g.a_number t) r)) w) n = no_library _ t t.fits.0 refl
nameless_is_no_call (g.a_whole_unary (g.a_postfix (g.postfix (g.a_name t i) r)) w) n = absurd (n _ _ _ t)

-- a target, and a simple statement from it on
pub simple_from : {allowed : Allowed} {a : Operand} {b : Simple} {ts vs us : List Token} → phrase.Targets allowed a ts vs → Finishes allowed a b vs us → phrase.Spells allowed phrase.A_simple b ts us
simple_from {ts = ts} x (f_target f) = f ts x

-- a unary that stands by itself lets more follow it
pub unary_holds : (limits : Limits) (k : ℕ) {a : Operand} {ts us : List Token} → Spells (kept limits k) g.Unary a ts us → Holds limits a
unary_holds limits k {a} (g.a_whole_unary s w) = (at_most (limits Depth) (0 + a.depth) a.depth w (omega arith), deep s)

-- a name of the source and what stands behind it, as a target
pub target_from : (limits : Limits) (k : ℕ) {p : Pos} {t : List ℕ} {b : Operand} {ts vs us : List Token} → Takes A_name_of_the_source ts p t vs → kept limits k (Limit NameBytes) (length t) ts ≡ true
    → Spelled limits k (From 0 (g.leaf p (e.Name (g.name p t)))) b vs us → phrase.Targets (kept limits k) b ts us
target_from limits k {b = b} t n r =
    record {
      unary = g.a_whole_unary (g.a_postfix (g.postfix (g.a_name (as_name t) n) (from_unary limits k r))) (at_most (limits Depth) b.depth (0 + (b.depth + 0)) r.4 (omega arith));
      no_call = no_library _ t t.fits.0 t.fits.2;
    }

pub back_simple : (limits : Limits) (k : ℕ) (cs : List Count) (b : Placed Simple) (ts us : List Token) → Roomy limits (Simple_at cs) → Loose limits k (Simple_at cs) (plan (Simple_at cs)) b ts us → Spelled limits k (Simple_at cs) b ts us
back_simple limits k cs b ts us i (l_take t c d (l_want o c1 (l_want m c2 (l_want n c3 (l_want z c4 (l_give w)))))) =
    is limits k (Simple_at cs) ts us w
    (phrase.a_library_called (phrase.a_lock (record { us = _; word = (_, _, t); paren = (_, _, o) }) (record { us = _; ampersand = (_, _, m); names = names_of limits k n c3 }) (_, _, z)), place_at t, c)
back_simple limits k cs b ts us i (l_pass (l_take t c d (l_want o c1 (l_want m c2 (l_want n c3 (l_want z c4 (l_give w))))))) =
    is limits k (Simple_at cs) ts us w
    (phrase.a_library_called (phrase.an_unlock (record { us = _; word = (_, _, t); paren = (_, _, o) }) (record { us = _; ampersand = (_, _, m); names = names_of limits k n c3 }) (_, _, z)), place_at t, c)
back_simple limits k cs b ts us i (l_pass (l_pass (l_take t c d (l_want o c1 (l_want m c2 (l_want n c3 (l_want x c4 (l_want y c5 (l_want z c6 (l_want f c7 (l_want v c8 (l_call a s (l_want q c9 (l_give w)))))))))))))) =
    is limits k (Simple_at cs) ts us w (
      phrase.a_library_called
          (phrase.a_create (record { us = _; word = (_, _, t); paren = (_, _, o) }) (record { us = _; ampersand = (_, _, m); names = names_of limits k n c3 }) (_, _, x) (_, _, y) (_, _, z) (names_of limits k f c7) (_, _, v) (s i).0 (_, _, q)),
      place_at t,
      c,
    )
back_simple limits k cs b ts us i (l_pass (l_pass (l_pass (l_take t c d (l_want o c1 (l_call a s (l_want x c2 (l_want y c3 (l_want z c4 (l_give w)))))))))) =
    is limits k (Simple_at cs) ts us w
    (phrase.a_library_called (phrase.a_join (record { us = _; word = (_, _, t); paren = (_, _, o) }) (s i).0 (_, _, x) (_, _, y) (_, _, z)), place_at t, c)
back_simple limits k cs b ts us i (l_pass (l_pass (l_pass (l_pass (l_take t c d (l_want o c1 (l_call a s (l_want z c2 (l_give w))))))))) =
    is limits k (Simple_at cs) ts us w (phrase.a_library_called (phrase.a_free (record { us = _; word = (_, _, t); paren = (_, _, o) }) (s i).0 (_, _, z)), place_at t, c)
back_simple limits k cs b ts us i (l_pass (l_pass (l_pass (l_pass (l_pass (l_take t c d (l_want o c1 (l_call a s (l_want z c2 (l_give w)))))))))) =
    is limits k (Simple_at cs) ts us w (phrase.a_library_called (phrase.an_assert (record { us = _; word = (_, _, t); paren = (_, _, o) }) (s i).0 (_, _, z)), place_at t, c)
back_simple limits k cs b ts us i (l_pass (l_pass (l_pass (l_pass (l_pass (l_pass (l_take t c d (l_want o c1 (l_want x c2 (l_call more s (l_give w))))))))))) =
    is limits k (Simple_at cs) ts us w
    (phrase.a_library_called (phrase.a_print (record { us = _; word = (_, _, t); paren = (_, _, o) }) x (only_count limits k _ _ c2) (s i)), place_at t, c)
back_simple limits k cs b ts us i (l_pass (l_pass (l_pass (l_pass (l_pass (l_pass (l_pass (l_take t c d (l_call a s (l_give w)))))))))) =
    is limits k (Simple_at cs) ts us w (phrase.a_step_before t (s i).0, place_at t, c)
back_simple limits k cs b ts us i (l_pass (l_pass (l_pass (l_pass (l_pass (l_pass (l_pass (l_pass (l_take {x = y} t c d (l_take u e f (l_call more s (l_give w)))))))))))) =
    is limits k (Simple_at cs) ts us w
    (phrase.a_called (phrase.a_call t (count_of_name limits k ts cs y c) (_, _, u) (s i)), place_at t, counts_before limits k ts cs y c)
back_simple limits k cs b ts us i (l_pass (l_pass (l_pass (l_pass (l_pass (l_pass (l_pass (l_pass (l_take {x = y} t c d (l_pass (l_call a s (l_call z r (l_give w))))))))))))) =
    let x = target_from limits k t (count_of_name limits k ts cs y c) (s (i, omega arith)) in
    is limits k (Simple_at cs) ts us w (simple_from x (r (unary_holds limits k x.unary)), place_at t, counts_before limits k ts cs y c)
back_simple limits k cs b ts us i (l_pass (l_pass (l_pass (l_pass (l_pass (l_pass (l_pass (l_pass (l_pass (l_call a s (l_call z r (l_give w)))))))))))) =
    let j = s i in
    is limits k (Simple_at cs) ts us w (simple_from (record { unary = j.0; no_call = nameless_is_no_call j.0 j.1 }) (r (unary_holds limits k j.0)), j.2, j.3)

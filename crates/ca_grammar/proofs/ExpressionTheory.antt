-- What may be read is spelled so, and what is spelled is read.
use Rattle.std.proofs.Common.{◌≡◌, ℕ, zero, suc, ◌<◌, ◌≤◌, ◌+◌, pos, Bool, true, false, ◌&&◌, List, [], ◌∷◌, length, Some, lit<, arith, refl, sym, ap, subst, ◌∙◌}
use Rattle.std.specs.Option.{is_some}
use Rattle.std.proofs.lemmas.List.Elements.{All-nil, All-cons, All-append}
use Rattle.ca_tree.specs.declared.text.Pos.{Pos}
use Rattle.ca_tree.specs.declared.token.Token.{Token}
use Rattle.ca_tree.specs.declared.token.Word.{Word}
use Rattle.ca_tree.specs.declared.token.Word.TheVariants as word
use Rattle.ca_tree.specs.declared.token.Mark.TheVariants as mark
use Rattle.ca_tree.specs.declared.tree.Exp.TheVariants as e
use Rattle.ca_tree.specs.Lexed.{token}
use Rattle.ca_tree.specs.Places.{start}
use Rattle.ca_grammar.specs.declared.faults.Count.{Count}
use Rattle.ca_tree.specs.declared.counted.Counted.TheVariants.{NameBytes}
use Rattle.ca_grammar.specs.declared.operand.Operand.{Operand}
use Rattle.ca_grammar.specs.Words.{Class, The_mark, A_number, A_name, A_unary_operator, Of, Takes, Lacks, place, unary_operator, null_word, open_paren}
use Rattle.ca_grammar.specs.Limits.{Limit, Depth, Limits, within, Allowed, kept}
use Rattle.ca_grammar.specs.Expressions.{Part, Spells}
use Rattle.ca_grammar.specs.Expressions as g
use Rattle.ca_grammar.specs.Goals.{Goal, Primary, Postfixes, Postfix, Level, Operators, Behind, From, Unary, Nameless_unary, Expression, Whole, Tree}
use Rattle.ca_grammar.specs.Plan.{and_name, bytes_of_name}
use Rattle.ca_grammar.specs.Reads.{plan}
use Rattle.ca_grammar.specs.ExpressionPlans.{one_more}
use Rattle.ca_grammar.specs.Texts.{SpellsWhole}
use Rattle.ca_grammar.proofs.Combinators.{counts_before, count_of_name, counts_past, t_gives, t_takes, t_wants, t_passes, t_calls, can_be, lacks_at, not_null, binds, binds_at, operator_binds_at, Ends, no_mark, no_binary, ends_at}
use Rattle.ca_grammar.proofs.Loose.{Counts, Fits, Roomy, Follows, f_unary, f_level, Spelled, Through, Loose, l_give, l_take, l_pass, l_want, l_call, Sample}
use Rattle.ca_grammar.proofs.Depths.{deep, at_most, room_for_both, round, plain_fits, grows, grown_fits, base_fits}

pub is : (limits : Limits) (k : ℕ) (g : Goal) (ts us : List Token) {w a : Tree g} → w ≡ a → Spelled limits k g w ts us → Spelled limits k g a ts us
is limits k g ts us w s = subst (λ x. Spelled limits k g x ts us) w s

-- a place where an operand stands lets more follow it
pub room_behind : (limits : Limits) (v : ℕ) (inside : Bool) (a : Operand) → Fits limits v inside a → within (limits Depth) (v + a.depth) ≡ true
room_behind limits v inside a h = at_most (limits Depth) (v + a.depth) (v + (a.depth + one_more (inside && a.in_parentheses))) h (omega arith)

pub back_primary : (limits : Limits) (k : ℕ) (cs : List Count) (v : ℕ) (inside : Bool) (a : Operand) (ts us : List Token) → Roomy limits (Primary cs v inside) → Loose limits k (Primary cs v inside) (plan (Primary cs v inside)) a ts us
    → Spelled limits k (Primary cs v inside) a ts us
back_primary limits k cs v inside a ts us h (l_take t c d (l_call b s (l_want u n (l_give w)))) =
    let i = s d in
    is limits k (Primary cs v inside) ts us w
    (g.parentheses t i.0 u, subst (λ n. within (limits Depth) n ≡ true) (round v b.depth inside b.in_parentheses) i.1, c)
back_primary limits k cs v inside a ts us h (l_pass (l_take t c d (l_give w))) =
    is limits k (Primary cs v inside) ts us w (g.a_null t, plain_fits (limits Depth) v 1 inside h, c)
back_primary limits k cs v inside a ts us h (l_pass (l_pass (l_take {x = x} t c d (l_give w)))) =
    is limits k (Primary cs v inside) ts us w (g.a_name t (count_of_name limits k ts cs x c), plain_fits (limits Depth) v 1 inside h, counts_before limits k ts cs x c)
back_primary limits k cs v inside a ts us h (l_pass (l_pass (l_pass (l_want t c (l_give w))))) =
    is limits k (Primary cs v inside) ts us w (g.a_number t, plain_fits (limits Depth) v 1 inside h, c)

pub back_postfixes : (limits : Limits) (k : ℕ) (v : ℕ) (a b : Operand) (ts us : List Token) → Roomy limits (Postfixes v a) → Loose limits k (Postfixes v a) (plan (Postfixes v a)) b ts us
    → Spelled limits k (Postfixes v a) b ts us
back_postfixes limits k v a b ts us h (l_take t c d (l_call i s (l_want u n (l_call x r (l_give w))))) =
    let j = s (at_most (limits Depth) (v + 1 + 1) (v + a.depth + 1) d (omega (arith, h.1))) in
    let m = r (room_for_both (limits Depth) v a.depth i.depth d j.1, omega arith) in
    is limits k (Postfixes v a) ts us w (g.an_index t j.0 u m.0, m.1)
back_postfixes limits k v a b ts us h (l_pass (l_take t c d (l_want {x = x} u n (l_call y r (l_give w))))) =
    let m = r (at_most (limits Depth) (v + (a.depth + 1)) (v + a.depth + 1) d (omega arith), omega arith) in
    is limits k (Postfixes v a) ts us w (g.a_field t u (count_of_name limits k _ [] x n) m.0, m.1)
back_postfixes limits k v a b ts us h (l_pass (l_pass (l_take t c d (l_want {x = x} u n (l_call y r (l_give w)))))) =
    let m = r (at_most (limits Depth) (v + (a.depth + 1)) (v + a.depth + 1) d (omega arith), omega arith) in
    is limits k (Postfixes v a) ts us w (g.an_arrow t u (count_of_name limits k _ [] x n) m.0, m.1)
back_postfixes limits k v a b ts us h (l_pass (l_pass (l_pass (l_give w)))) =
    is limits k (Postfixes v a) ts us w (g.no_postfix, plain_fits (limits Depth) v a.depth false h.0)

pub back_postfix : (limits : Limits) (k : ℕ) (cs : List Count) (v : ℕ) (inside : Bool) (a : Operand) (ts us : List Token) → Roomy limits (Postfix cs v inside) → Loose limits k (Postfix cs v inside) (plan (Postfix cs v inside)) a ts us
    → Spelled limits k (Postfix cs v inside) a ts us
back_postfix limits k cs v inside a ts us h (l_call b s (l_call x r (l_give w))) =
    let i = s h in
    let j = r (room_behind limits v inside b i.1, deep i.0) in
    is limits k (Postfix cs v inside) ts us w (g.postfix i.0 j.0, grown_fits limits v inside b x (grows j.0) i.1 j.1, i.2)

pub back_level : (limits : Limits) (k : ℕ) (l : ℕ) (cs : List Count) (v : ℕ) (inside : Bool) (a : Operand) (ts us : List Token) → Roomy limits (Level l cs v inside) → Loose limits k (Level l cs v inside) (plan (Level l cs v inside)) a ts us
    → Spelled limits k (Level l cs v inside) a ts us
back_level limits k zero cs v inside a ts us h (l_take t c d (l_call b s (l_give w))) =
    let i = s (at_most (limits Depth) (v + 1 + 1) (v + 2) d (omega arith)) in
    is limits k (Level 0 cs v inside) ts us w
    (g.a_unary t i.0, plain_fits (limits Depth) v (b.depth + 1) inside (at_most (limits Depth) (v + (b.depth + 1)) (v + 1 + (b.depth + 0)) i.1 (omega arith)), c)
back_level limits k zero cs v inside a ts us h (l_pass (l_call b s (l_give w))) =
    let i = s h in
    is limits k (Level 0 cs v inside) ts us w (g.a_postfix i.0, i.1, i.2)
back_level limits k (suc l) cs v inside a ts us h (l_call b s (l_call x r (l_give w))) =
    let i = s h in
    let j = r (room_behind limits v inside b i.1, deep i.0) in
    is limits k (Level (suc l) cs v inside) ts us w (g.operands i.0 j.0, grown_fits limits v inside b x (grows j.0) i.1 j.1, i.2)

pub back_operators : (limits : Limits) (k : ℕ) (l v : ℕ) (a b : Operand) (ts us : List Token) → Roomy limits (Operators l v a) → Loose limits k (Operators l v a) (plan (Operators l v a)) b ts us
    → Spelled limits k (Operators l v a) b ts us
back_operators limits k zero v a b ts us h (l_give w) =
    is limits k (Operators 0 v a) ts us w (g.no_operator, plain_fits (limits Depth) v a.depth false h.0)
back_operators limits k (suc l) v a b ts us h (l_take t c d (l_call y s (l_call x r (l_give w)))) =
    let j = s (at_most (limits Depth) (v + 1 + 1) (v + a.depth + 1) d (omega (arith, h.1))) in
    let m = r (room_for_both (limits Depth) v a.depth y.depth d j.1, omega arith) in
    is limits k (Operators (suc l) v a) ts us w (g.an_operator t j.0 m.0, m.1)
back_operators limits k (suc l) v a b ts us h (l_pass (l_give w)) =
    is limits k (Operators (suc l) v a) ts us w (g.no_operator, plain_fits (limits Depth) v a.depth false h.0)

pub back_unary : (limits : Limits) (k : ℕ) (cs : List Count) (a : Operand) (ts us : List Token) → Roomy limits (Unary cs) → Loose limits k (Unary cs) (plan (Unary cs)) a ts us
    → Spelled limits k (Unary cs) a ts us
back_unary limits k cs a ts us h (l_call b s (l_give w)) =
    let i = s h in
    is limits k (Unary cs) ts us w (g.a_whole_unary i.0 (at_most (limits Depth) b.depth (0 + (b.depth + 0)) i.1 (omega arith)), i.2)

pub back_expression : (limits : Limits) (k : ℕ) (cs : List Count) (a : Operand) (ts us : List Token) → Roomy limits (Expression cs) → Loose limits k (Expression cs) (plan (Expression cs)) a ts us
    → Spelled limits k (Expression cs) a ts us
back_expression limits k cs a ts us h (l_call b s (l_give w)) =
    let i = s h in
    is limits k (Expression cs) ts us w (g.an_expression i.0 (at_most (limits Depth) b.depth (0 + (b.depth + 0)) i.1 (omega arith)), i.2)

pub back_whole : (limits : Limits) (k : ℕ) (a : Operand) (ts us : List Token) → Roomy limits Whole → Loose limits k Whole (plan Whole) a ts us
    → Spelled limits k Whole a ts us
back_whole limits k a ts us h (l_call b s (l_want t c (l_give w))) =
    is limits k Whole ts us w (record { us = _; p = _; spells = (s h).0; end = t })

-- what follows a unary is at least as deep
pub follows_deep : {allowed : Allowed} {l : ℕ} {a b : Operand} {ts us : List Token} → Follows allowed l a b ts us → a.depth ≤ b.depth
follows_deep f_unary = omega arith
follows_deep (f_level s r) = omega (arith, follows_deep s, deep r)

-- where what follows it fits, so does the unary
pub follows_base_fits : (limits : Limits) {allowed : Allowed} {l : ℕ} {a b : Operand} {ts us : List Token} → Follows allowed l a b ts us → Fits limits 0 false b → Fits limits 0 false a
follows_base_fits limits f_unary f = f
follows_base_fits limits (f_level {b = b} {c} s r) f = follows_base_fits limits s (base_fits limits 0 false b c (grows r) f)

pub back_behind : (limits : Limits) (k l : ℕ) (a b : Operand) (ts us : List Token) → Roomy limits (Behind l a) → Loose limits k (Behind l a) (plan (Behind l a)) b ts us → Spelled limits k (Behind l a) b ts us
back_behind limits k zero a b ts us h (l_give w) = is limits k (Behind 0 a) ts us w (f_unary, plain_fits (limits Depth) 0 a.depth false h.0)
back_behind limits k (suc l) a b ts us h (l_call x s (l_call y r (l_give w))) =
    let i = s h in
    let j = r (room_behind limits 0 false x i.1, omega (arith, h.1, follows_deep i.0)) in
    is limits k (Behind (suc l) a) ts us w (f_level i.0 j.0, j.1)

pub back_from : (limits : Limits) (k l : ℕ) (a b : Operand) (ts us : List Token) → Roomy limits (From l a) → Loose limits k (From l a) (plan (From l a)) b ts us → Spelled limits k (From l a) b ts us
back_from limits k l a b ts us h (l_call x s (l_call y r (l_give w))) =
    let i = s h in
    let j = r (room_behind limits 0 false x i.1, omega (arith, h.1, deep i.0)) in
    is limits k (From l a) ts us w (x, _, i.0, j.0, j.1)

-- a primary and what stands behind it, up to a level
pub from_unary : (limits : Limits) (k : ℕ) {a b : Operand} {ts us : List Token} → Spelled limits k (From 0 a) b ts us → Spells (kept limits k) (g.Postfixes a) b ts us
from_unary limits k (c, vs, s, f_unary, f) = s

-- what stands behind a primary leaves its start
pub start_kept : {allowed : Allowed} {a b : Operand} {ts us : List Token} → Spells allowed (g.Postfixes a) b ts us → b.start ≡ a.start
start_kept g.no_postfix = refl
start_kept (g.an_index t s e r) = start_kept r
start_kept (g.a_field t m n r) = start_kept r
start_kept (g.an_arrow t m n r) = start_kept r

-- a unary operator is no name
pub no_name : (w : Word) → is_some (unary_operator w) ≡ true → can_be A_name w ≡ false
no_name (word.Name t) h = absurd cc
no_name w h = refl

pub place_at : {c : Class} {p : Pos} {x : Of c} {ts us : List Token} → Takes c ts p x us → place ts ≡ Some p
place_at t = ap place t.parts

-- a primary that is no name, and what stands behind it
nameless : (limits : Limits) (k : ℕ) (cs : List Count) (a b : Operand) (ts vs us : List Token) → Spells (kept limits k) g.Primary a ts vs → Lacks A_name ts → place ts ≡ Some a.start → Counts limits k cs ts
    → Spelled limits k (From 0 a) b vs us → Spelled limits k (Nameless_unary cs) b ts us
nameless limits k cs a b ts vs us s n p c r =
    (g.a_whole_unary (g.a_postfix (g.postfix s (from_unary limits k r))) (at_most (limits Depth) b.depth (0 + (b.depth + 0)) r.4 (omega arith)), n, p ∙ ap Some (sym (start_kept (from_unary limits k r))), c)

pub back_nameless_unary : (limits : Limits) (k : ℕ) (cs : List Count) (a : Operand) (ts us : List Token) → Roomy limits (Nameless_unary cs) → Loose limits k (Nameless_unary cs) (plan (Nameless_unary cs)) a ts us
    → Spelled limits k (Nameless_unary cs) a ts us
back_nameless_unary limits k cs a ts us h (l_take t c d (l_call b s (l_give w))) =
    let i = s d in
    is limits k (Nameless_unary cs) ts us w
    (g.a_whole_unary (g.a_unary t i.0) (at_most (limits Depth) (b.depth + 1) (1 + (b.depth + 0)) i.1 (omega arith)), lacks_at A_name _ t refl (no_name t.first (ap is_some t.fits)), place_at t, c)
back_nameless_unary limits k cs a ts us h (l_pass (l_take t c d (l_call b s (l_want u n (l_call x r (l_give w)))))) =
    let i = s d in
    is limits k (Nameless_unary cs) ts us w
    (nameless limits k cs _ x ts _ us (g.parentheses t i.0 u) (lacks_at A_name _ t t.fits refl) (place_at t) c (r (i.1, omega (arith, deep i.0))))
back_nameless_unary limits k cs a ts us h (l_pass (l_pass (l_take t c d (l_call x r (l_give w))))) =
    is limits k (Nameless_unary cs) ts us w (nameless limits k cs _ x ts _ us (g.a_null t) (λ q y vs s. not_null s _ _ _ t) (place_at t) c (r (h, omega arith)))
back_nameless_unary limits k cs a ts us h (l_pass (l_pass (l_pass (l_want t c (l_call x r (l_give w)))))) =
    is limits k (Nameless_unary cs) ts us w (nameless limits k cs _ x ts _ us (g.a_number t) (lacks_at A_name _ t t.fits.0 refl) (place_at t) c (r (h, omega arith)))

-- ---- tokens for each goal

abbrev pub zero_token : Token
zero_token = token start (word.Number (pos 0))

abbrev pub end_token : Token
end_token = token start word.End

abbrev pub zero_read : Operand
zero_read = g.leaf start (e.Number start (pos 0))

pub primary_zero : {allowed : Allowed} (us : List Token) → Spells allowed g.Primary zero_read (zero_token ∷ us) us
primary_zero us = g.a_number (record { first = word.Number (pos 0); parts = refl; fits = (refl, refl) })

pub level_zero : {allowed : Allowed} (l : ℕ) (us : List Token) → Spells allowed (g.Level l) zero_read (zero_token ∷ us) us
level_zero zero us = g.a_postfix (g.postfix (primary_zero us) g.no_postfix)
level_zero (suc l) us = g.operands (level_zero l us) g.no_operator

pub sample_primary : (limits : Limits) (cs : List Count) (v : ℕ) (inside : Bool) → Sample limits (Primary cs v inside)
sample_primary limits cs v inside =
    record { tree = zero_read; more = zero_token ∷ []; spells = λ k vs h r. (primary_zero vs, plain_fits (limits Depth) v 1 inside r, counts_past limits k cs (zero_token ∷ vs) h) }

pub sample_postfixes : (limits : Limits) (v : ℕ) (a : Operand) → Sample limits (Postfixes v a)
sample_postfixes limits v a = record { tree = a; more = []; spells = λ k vs h r. (g.no_postfix, plain_fits (limits Depth) v a.depth false r.0) }

pub sample_postfix : (limits : Limits) (cs : List Count) (v : ℕ) (inside : Bool) → Sample limits (Postfix cs v inside)
sample_postfix limits cs v inside =
    record {
      tree = zero_read;
      more = zero_token ∷ [];
      spells = λ k vs h r. (g.postfix (primary_zero vs) g.no_postfix, plain_fits (limits Depth) v 1 inside r, counts_past limits k cs (zero_token ∷ vs) h);
    }

pub sample_level : (limits : Limits) (l : ℕ) (cs : List Count) (v : ℕ) (inside : Bool) → Sample limits (Level l cs v inside)
sample_level limits l cs v inside =
    record { tree = zero_read; more = zero_token ∷ []; spells = λ k vs h r. (level_zero l vs, plain_fits (limits Depth) v 1 inside r, counts_past limits k cs (zero_token ∷ vs) h) }

pub sample_operators : (limits : Limits) (l v : ℕ) (a : Operand) → Sample limits (Operators l v a)
sample_operators limits l v a = record { tree = a; more = []; spells = λ k vs h r. (g.no_operator, plain_fits (limits Depth) v a.depth false r.0) }

-- nothing follows, at any level
pub follows_nothing : {allowed : Allowed} {a : Operand} {us : List Token} (l : ℕ) → Follows allowed l a a us us
follows_nothing zero = f_unary
follows_nothing (suc l) = f_level (follows_nothing l) g.no_operator

pub sample_behind : (limits : Limits) (l : ℕ) (a : Operand) → Sample limits (Behind l a)
sample_behind limits l a = record { tree = a; more = []; spells = λ k vs h r. (follows_nothing l, plain_fits (limits Depth) 0 a.depth false r.0) }

pub sample_from : (limits : Limits) (l : ℕ) (a : Operand) → Sample limits (From l a)
sample_from limits l a = record { tree = a; more = []; spells = λ k vs h r. (a, vs, g.no_postfix, follows_nothing l, plain_fits (limits Depth) 0 a.depth false r.0) }

pub sample_unary : (limits : Limits) (cs : List Count) → Sample limits (Unary cs)
sample_unary limits cs =
    record { tree = zero_read; more = zero_token ∷ []; spells = λ k vs h r. (g.a_whole_unary (level_zero 0 vs) r, counts_past limits k cs (zero_token ∷ vs) h) }

abbrev pub number_at : (us : List Token) → Takes A_number (zero_token ∷ us) start (pos 0) us
number_at us = record { first = word.Number (pos 0); parts = refl; fits = (refl, refl) }

pub sample_nameless_unary : (limits : Limits) (cs : List Count) → Sample limits (Nameless_unary cs)
sample_nameless_unary limits cs =
    record {
      tree = zero_read;
      more = zero_token ∷ [];
      spells = λ k vs h r. (g.a_whole_unary (level_zero 0 vs) r, lacks_at A_name (word.Number (pos 0)) (number_at vs) refl refl, refl, counts_past limits k cs (zero_token ∷ vs) h);
    }

pub sample_expression : (limits : Limits) (cs : List Count) → Sample limits (Expression cs)
sample_expression limits cs =
    record { tree = zero_read; more = zero_token ∷ []; spells = λ k vs h r. (g.an_expression (level_zero 6 vs) r, counts_past limits k cs (zero_token ∷ vs) h) }

pub sample_whole : (limits : Limits) → Sample limits Whole
sample_whole limits =
    record {
      tree = zero_read;
      more = zero_token ∷ end_token ∷ [];
      spells = λ k vs h r. record {
        us = end_token ∷ vs;
        p = start;
        spells = g.an_expression (level_zero 6 (end_token ∷ vs)) r;
        end = record { first = word.End; parts = refl; fits = refl };
      };
    }

-- ---- what is spelled is read

-- a primary begins with no unary operator
begins_primary : {allowed : Allowed} {a : Operand} {ts us : List Token} → Spells allowed g.Primary a ts us → Lacks A_unary_operator ts
begins_primary (g.a_number t) = lacks_at A_unary_operator _ t t.fits.0 refl
begins_primary (g.a_null t) = lacks_at A_unary_operator _ t t.fits refl
begins_primary (g.a_name t w) = lacks_at A_unary_operator _ t t.fits.0 refl
begins_primary (g.parentheses t s e) = lacks_at A_unary_operator _ t t.fits refl

begins : {allowed : Allowed} {a : Operand} {ts us : List Token} → Spells allowed g.Postfix a ts us → Lacks A_unary_operator ts
begins (g.postfix s r) = begins_primary s

-- the token behind an operand goes on with no tighter operator
next_ends : {allowed : Allowed} {l : ℕ} {a b : Operand} {us vs : List Token} → Spells allowed (g.Operators (suc l) a) b us vs → suc l < binds_at vs → l < binds_at us
next_ends g.no_operator h = omega arith
next_ends (g.an_operator t s r) h = omega (arith, operator_binds_at t)

-- the goal that reads a part
abbrev pub goal_of : Part → List Count → ℕ → Bool → Goal
goal_of g.Primary cs v inside = Primary cs v inside
goal_of (g.Postfixes a) cs v inside = Postfixes v a
goal_of g.Postfix cs v inside = Postfix cs v inside
goal_of (g.Level l) cs v inside = Level l cs v inside
goal_of (g.Operators l a) cs v inside = Operators l v a
goal_of g.Unary cs v inside = Unary cs
goal_of g.Expression cs v inside = Expression cs

abbrev pub tree_of : (P : Part) (cs : List Count) (v : ℕ) (inside : Bool) → Operand → Tree (goal_of P cs v inside)
tree_of g.Primary cs v inside a = a
tree_of (g.Postfixes b) cs v inside a = a
tree_of g.Postfix cs v inside a = a
tree_of (g.Level l) cs v inside a = a
tree_of (g.Operators l b) cs v inside a = a
tree_of g.Unary cs v inside a = a
tree_of g.Expression cs v inside a = a

-- what is spelled as a part may stand at this place
abbrev pub Stands : Limits → Part → ℕ → Bool → Operand → Type 0
Stands limits g.Primary v inside a = Fits limits v inside a
Stands limits (g.Postfixes b) v inside a = Fits limits v false a × (1 ≤ b.depth)
Stands limits g.Postfix v inside a = Fits limits v inside a
Stands limits (g.Level l) v inside a = Fits limits v inside a
Stands limits (g.Operators l b) v inside a = Fits limits v false a × (1 ≤ b.depth)
Stands limits g.Unary v inside a = Unit {0}
Stands limits g.Expression v inside a = Unit {0}

pub none : (limits : Limits) (k : ℕ) (ts : List Token) → Counts limits k [] ts
none limits k ts = All-nil (λ c. kept limits k (Limit c.of) c.number ts ≡ true)

pub counts_at_name : (limits : Limits) (k : ℕ) (ts : List Token) (cs : List Count) (t : List ℕ) → Counts limits k cs ts → kept limits k (Limit NameBytes) (length t) ts ≡ true → Counts limits k (and_name cs t) ts
counts_at_name limits k ts cs t h i =
    let P = λ (c : Count). kept limits k (Limit c.of) c.number ts ≡ true in
    All-append P cs (bytes_of_name t ∷ []) h (All-cons P (bytes_of_name t) [] i (All-nil P))

outside_fits : (limits : Limits) (v : ℕ) (inside : Bool) (a : Operand) → Fits limits v inside a → Fits limits v false a
outside_fits limits v inside a h = at_most (limits Depth) (v + (a.depth + 0)) (v + (a.depth + one_more (inside && a.in_parentheses))) h (omega arith)

no_operator_read : (limits : Limits) (k : ℕ) (l v : ℕ) (a : Operand) (us : List Token) → l < binds_at us → Through limits k (Operators l v a) (plan (Operators l v a)) a us us
no_operator_read limits k zero v a us h = t_gives
no_operator_read limits k (suc l) v a us h = t_passes (no_binary (suc l) us h) t_gives

pub reads : (limits : Limits) (k : ℕ) {P : Part} {a : Operand} {ts us : List Token} → Spells (kept limits k) P a ts us → (cs : List Count) (v : ℕ) (inside : Bool) → Stands limits P v inside a → Counts limits k cs ts → Ends P us
    → Through limits k (goal_of P cs v inside) (plan (goal_of P cs v inside)) (tree_of P cs v inside a) ts us
reads limits k (g.a_number t) cs v inside f c n =
    t_passes (lacks_at (The_mark mark.OpenParen) _ t t.fits.0 refl) (t_passes (lacks_at null_word _ t t.fits.0 refl) (t_passes (lacks_at A_name _ t t.fits.0 refl) (t_wants t c t_gives)))
reads limits k (g.a_null t) cs v inside f c n = t_passes (lacks_at (The_mark mark.OpenParen) _ t t.fits refl) (t_takes t c tt t_gives)
reads limits k {ts = ts} (g.a_name {t = x} t w) cs v inside f c n =
    t_passes (lacks_at (The_mark mark.OpenParen) _ t t.fits.0 refl) (t_passes (not_null t) (t_takes t (counts_at_name limits k ts cs x c w) tt t_gives))
reads limits k (g.parentheses {a = a} {us = us} {vs = vs} t s e) cs v inside f c n =
    let same = round v a.depth inside a.in_parentheses in
    t_takes t c (at_most (limits Depth) (v + one_more inside + 1) (v + (a.depth + g.more_depth a + one_more (inside && true))) f (omega (arith, same, deep s)))
    (t_calls (reads limits k s [] (v + one_more inside) true (subst (λ n. within (limits Depth) n ≡ true) (sym same) f) (none limits k us) (ends_at 6 e (lit< tt)))
    (t_wants e (none limits k vs) t_gives))
reads limits k (g.postfix {a} {b} {us = us} s r) cs v inside f c n =
    t_calls (reads limits k s cs v inside (base_fits limits v inside a b (grows r) f) c tt)
    (t_calls (reads limits k r [] v false (outside_fits limits v inside b f, deep s) (none limits k us) n) t_gives)
reads limits k {us = us} g.no_postfix cs v inside f c n =
    t_passes (no_mark mark.OpenBracket us n) (t_passes (no_mark mark.Dot us n) (t_passes (no_mark mark.Arrow us n) t_gives))
reads limits k (g.an_index {a = a} {i} {b} {ts = ts} {us = us} {vs = vs} {ws = ws} t s e r) cs v inside f c n =
    t_takes t (none limits k ts) (at_most (limits Depth) (v + a.depth + 1) (v + (b.depth + 0)) f.0 (omega (arith, deep r)))
    (t_calls (reads limits k s [] (v + 1) false (at_most (limits Depth) (v + 1 + (i.depth + 0)) (v + (b.depth + 0)) f.0 (omega (arith, deep r))) (none limits k us) (ends_at 6 e (lit< tt)))
    (t_wants e (none limits k vs) (t_calls (reads limits k r [] v false (f.0, omega arith) (none limits k ws) n) t_gives)))
reads limits k (g.a_field {t = x} {a = a} {b} {ts = ts} {us = us} {vs = vs} t m w r) cs v inside f c n =
    t_passes (lacks_at (The_mark mark.OpenBracket) _ t t.fits refl)
    (t_takes t (none limits k ts) (at_most (limits Depth) (v + a.depth + 1) (v + (b.depth + 0)) f.0 (omega (arith, deep r)))
    (t_wants m (counts_at_name limits k us [] x (none limits k us) w) (t_calls (reads limits k r [] v false (f.0, omega arith) (none limits k vs) n) t_gives)))
reads limits k (g.an_arrow {t = x} {a = a} {b} {ts = ts} {us = us} {vs = vs} t m w r) cs v inside f c n =
    t_passes (lacks_at (The_mark mark.OpenBracket) _ t t.fits refl) (t_passes (lacks_at (The_mark mark.Dot) _ t t.fits refl)
    (t_takes t (none limits k ts) (at_most (limits Depth) (v + a.depth + 1) (v + (b.depth + 0)) f.0 (omega (arith, deep r)))
    (t_wants m (counts_at_name limits k us [] x (none limits k us) w) (t_calls (reads limits k r [] v false (f.0, omega arith) (none limits k vs) n) t_gives))))
reads limits k (g.a_unary {a = a} {us = us} t s) cs v inside f c n =
    let whole = v + (a.depth + 1 + one_more (inside && false)) in
    t_takes t c (at_most (limits Depth) (v + 2) whole f (omega (arith, deep s)))
    (t_calls (reads limits k s [] (v + 1) false (at_most (limits Depth) (v + 1 + (a.depth + 0)) whole f (omega arith)) (none limits k us) n) t_gives)
reads limits k (g.a_postfix s) cs v inside f c n = t_passes (begins s) (t_calls (reads limits k s cs v inside f c n) t_gives)
reads limits k (g.operands {a = a} {b} {us = us} s r) cs v inside f c n =
    t_calls (reads limits k s cs v inside (base_fits limits v inside a b (grows r) f) c (next_ends r n))
    (t_calls (reads limits k r [] v false (outside_fits limits v inside b f, deep s) (none limits k us) n) t_gives)
reads limits k {us = us} (g.no_operator {l} {a}) cs v inside f c n = no_operator_read limits k l v a us n
reads limits k (g.an_operator {a = a} {b = y} {c = b} {ts = ts} {us = us} {vs = vs} t s r) cs v inside f c n =
    t_takes t (none limits k ts) (at_most (limits Depth) (v + a.depth + 1) (v + (b.depth + 0)) f.0 (omega (arith, deep r)))
    (t_calls (reads limits k s [] (v + 1) false (at_most (limits Depth) (v + 1 + (y.depth + 0)) (v + (b.depth + 0)) f.0 (omega (arith, deep r))) (none limits k us) (next_ends r n))
    (t_calls (reads limits k r [] v false (f.0, omega arith) (none limits k vs) n) t_gives))
reads limits k (g.a_whole_unary {a} s w) cs v inside f c n = t_calls (reads limits k s cs 0 false (at_most (limits Depth) (0 + (a.depth + 0)) a.depth w (omega arith)) c n) t_gives
reads limits k (g.an_expression {a} s w) cs v inside f c n = t_calls (reads limits k s cs 0 false (at_most (limits Depth) (0 + (a.depth + 0)) a.depth w (omega arith)) c n) t_gives

pub reads_whole : (limits : Limits) (k : ℕ) (a : Operand) (ts vs : List Token) → SpellsWhole (kept limits k) a ts vs → Through limits k Whole (plan Whole) a ts vs
reads_whole limits k a ts vs s =
    t_calls (reads limits k s.spells [] 0 false tt (none limits k ts) (subst (λ n. 6 < n) (sym (ap binds_at s.end.parts ∙ ap binds s.end.fits)) (lit< tt))) (t_wants s.end (none limits k s.us) t_gives)

pub reads_expression : (limits : Limits) (k : ℕ) (cs : List Count) {a : Operand} {ts us : List Token} → Spells (kept limits k) g.Expression a ts us → Counts limits k cs ts → 6 < binds_at us
    → Through limits k (Expression cs) (plan (Expression cs)) a ts us
reads_expression limits k cs s c n = reads limits k s cs 0 false tt c n

pub reads_unary : (limits : Limits) (k : ℕ) (cs : List Count) {a : Operand} {ts us : List Token} → Spells (kept limits k) g.Unary a ts us → Counts limits k cs ts → 0 < binds_at us
    → Through limits k (Unary cs) (plan (Unary cs)) a ts us
reads_unary limits k cs s c n = reads limits k s cs 0 false tt c n

-- the token behind a unary goes on with no postfix
pub follows_next : {allowed : Allowed} {l : ℕ} {a b : Operand} {ts us : List Token} → Follows allowed l a b ts us → l < binds_at us → 0 < binds_at ts
follows_next f_unary h = h
follows_next (f_level s r) h = follows_next s (next_ends r h)

pub reads_behind : (limits : Limits) (k : ℕ) {l : ℕ} {a b : Operand} {ts us : List Token} → Follows (kept limits k) l a b ts us → Fits limits 0 false b → 1 ≤ a.depth → l < binds_at us
    → Through limits k (Behind l a) (plan (Behind l a)) b ts us
reads_behind limits k f_unary f d n = t_gives
reads_behind limits k (f_level {b = b} {c} {us = us} s r) f d n =
    t_calls (reads_behind limits k s (base_fits limits 0 false b c (grows r) f) d (next_ends r n))
    (t_calls (reads limits k r [] 0 false (f, omega (arith, d, follows_deep s)) (none limits k us) n) t_gives)

pub reads_from : (limits : Limits) (k : ℕ) {l : ℕ} {a c b : Operand} {ts vs us : List Token} → Spells (kept limits k) (g.Postfixes a) c ts vs → Follows (kept limits k) l c b vs us → Fits limits 0 false b → 1 ≤ a.depth
    → l < binds_at us → Through limits k (From l a) (plan (From l a)) b ts us
reads_from limits k {ts = ts} s r f d n =
    t_calls (reads limits k s [] 0 false (follows_base_fits limits r f, d) (none limits k ts) (follows_next r n))
    (t_calls (reads_behind limits k r f (omega (arith, d, deep s)) n) t_gives)

-- an expression begins with a unary
pub unary_of : {allowed : Allowed} {b : Operand} {ts us : List Token} (l : ℕ) → Spells allowed (g.Level l) b ts us
    → (a : Operand) × (vs : List Token) × Spells allowed (g.Level 0) a ts vs × Follows allowed l a b vs us
unary_of zero s = (_, _, s, f_unary)
unary_of (suc l) (g.operands s r) = let i = unary_of l s in (i.0, i.1, i.2, f_level i.3 r)

pub reads_nameless_unary : (limits : Limits) (k : ℕ) (cs : List Count) {a : Operand} {ts us : List Token} → Spells (kept limits k) g.Unary a ts us → Lacks A_name ts → Counts limits k cs ts → 0 < binds_at us
    → Through limits k (Nameless_unary cs) (plan (Nameless_unary cs)) a ts us
reads_nameless_unary limits k cs (g.a_whole_unary (g.a_unary {a = a} {us = us} t s) w) m c n =
    t_takes t c (at_most (limits Depth) 2 (a.depth + 1) w (omega (arith, deep s)))
    (t_calls (reads limits k s [] 1 false (at_most (limits Depth) (1 + (a.depth + 0)) (a.depth + 1) w (omega arith)) (none limits k us) n) t_gives)
reads_nameless_unary limits k cs {a} (g.a_whole_unary (g.a_postfix (g.postfix (g.parentheses {a = b} {us = us} {vs = vs} t s e) r)) w) m c n =
    let inside : within (limits Depth) (b.depth + g.more_depth b) ≡ true = at_most (limits Depth) (b.depth + g.more_depth b) a.depth w (deep r) in
    t_passes (lacks_at A_unary_operator _ t t.fits refl)
    (t_takes t c (at_most (limits Depth) 1 (b.depth + g.more_depth b) inside (omega (arith, deep s)))
    (t_calls (reads limits k s [] 0 true (at_most (limits Depth) (0 + (b.depth + one_more (true && b.in_parentheses))) (b.depth + g.more_depth b) inside (omega arith)) (none limits k us) (ends_at 6 e (lit< tt)))
    (t_wants e (none limits k vs) (t_calls (reads_from limits k r f_unary (at_most (limits Depth) (0 + (a.depth + 0)) a.depth w (omega arith)) (omega (arith, deep s)) n) t_gives))))
reads_nameless_unary limits k cs {a} (g.a_whole_unary (g.a_postfix (g.postfix (g.a_null t) r)) w) m c n =
    t_passes (lacks_at A_unary_operator _ t t.fits refl) (t_passes (lacks_at open_paren _ t t.fits refl)
    (t_takes t c tt (t_calls (reads_from limits k r f_unary (at_most (limits Depth) (0 + (a.depth + 0)) a.depth w (omega arith)) (omega arith) n) t_gives)))
reads_nameless_unary limits k cs {a} (g.a_whole_unary (g.a_postfix (g.postfix (g.a_number t) r)) w) m c n =
    t_passes (lacks_at A_unary_operator _ t t.fits.0 refl) (t_passes (lacks_at open_paren _ t t.fits.0 refl) (t_passes (lacks_at null_word _ t t.fits.0 refl)
    (t_wants t c (t_calls (reads_from limits k r f_unary (at_most (limits Depth) (0 + (a.depth + 0)) a.depth w (omega arith)) (omega arith) n) t_gives))))
reads_nameless_unary limits k cs (g.a_whole_unary (g.a_postfix (g.postfix (g.a_name t i) r)) w) m c n = absurd (m _ _ _ t)

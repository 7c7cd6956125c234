-- What is spelled as a type, a call, a right side or a simple statement is read.
use Rattle.std.proofs.Common.{◌≡◌, ℕ, zero, suc, ◌<◌, ◌+◌, Bool, true, false, ◌&&◌, ◌||◌, List, [], ◌∷◌, ◌++◌, length, Option, Some, None, if◌then◌else◌, codes, lit<, arith, refl, sym, ap, subst, ◌∙◌}
use Rattle.std.specs.Option.{is_some}
use Rattle.std.specs.Str.{bytes_eq}
use Rattle.std.proofs.lemmas.List.Elements.{All-cons, All-append}
use Rattle.ca_tree.specs.declared.text.Pos.{Pos}
use Rattle.ca_tree.specs.declared.token.Token.{Token}
use Rattle.ca_tree.specs.declared.token.Word.{Word}
use Rattle.ca_tree.specs.declared.token.Word.TheVariants as word
use Rattle.ca_tree.specs.declared.token.Mark.{Mark}
use Rattle.ca_tree.specs.declared.token.Mark.TheVariants as mark
use Rattle.ca_tree.specs.declared.tree.Exp.{Exp}
use Rattle.ca_tree.specs.declared.tree.Base.{Base}
use Rattle.ca_tree.specs.declared.tree.Base.TheVariants as base
use Rattle.ca_tree.specs.declared.tree.«Type».{«Type» as CType}
use Rattle.ca_tree.specs.declared.tree.Malloc.{Malloc}
use Rattle.ca_tree.specs.declared.tree.Right.{Right}
use Rattle.ca_tree.specs.declared.tree.Right.TheVariants as right
use Rattle.ca_tree.specs.declared.tree.Library.{Library}
use Rattle.ca_tree.specs.declared.tree.Simple.{Simple}
use Rattle.ca_tree.specs.declared.tree.Simple.TheVariants as simple
use Rattle.ca_tree.specs.Lexed.{token}
use Rattle.ca_grammar.specs.declared.faults.Count.{Count}
use Rattle.ca_tree.specs.declared.counted.Counted.TheVariants.{Arguments, StringBytes}
use Rattle.ca_tree.specs.Names.{is_reserved, is_one_of, kept_keywords, is_left_out, reserved_names, library_words, is_library_word}
use Rattle.ca_tree.specs.PhraseTrees.{has_star}
use Rattle.ca_grammar.specs.declared.operand.Operand.{Operand}
use Rattle.ca_grammar.specs.Words.{Class, The_mark, The_word, A_name, A_name_of_the_source, A_unary_operator, A_binary_operator, An_update_operator, A_step_operator, Of, Is, Takes, Lacks, Skips, place, unary_operator, binary_operator, update_operator, step_operator, is_library_call, begins_library_call, null_word, open_paren, close_paren, comma, star, assign}
use Rattle.ca_grammar.specs.Limits.{Limit, Depth, Limits, within, Allowed, kept}
use Rattle.ca_grammar.specs.Expressions.{Spells}
use Rattle.ca_grammar.specs.Expressions as g
use Rattle.ca_grammar.specs.Phrases as phrase
use Rattle.ca_grammar.specs.Goals.{Stars, Starred_name, Starred, Base_at, Placed, Type_name, Arguments_behind, More_arguments, Print_arguments, Behind_malloc, A_right, Initializer, Behind_target, Simple_at}
use Rattle.ca_grammar.specs.Plan.{counted}
use Rattle.ca_grammar.specs.PhrasePlans.{behind_sizeof, on_target_or_call}
use Rattle.ca_grammar.specs.Reads.{plan}
use Rattle.ca_grammar.specs.ExpressionPlans.{one_more}
use Rattle.ca_grammar.proofs.Combinators.{t_gives, t_takes, t_wants, t_passes, t_calls, lacks_at, not_null, binds, binds_at, ends_at, no_mark}
use Rattle.ca_grammar.proofs.Loose.{Counts, Follows, f_unary, f_level, SpellsStarred, Through}
use Rattle.ca_grammar.proofs.Depths.{deep, at_most}
use Rattle.ca_grammar.proofs.ExpressionTheory.{none, counts_at_name, place_at, start_kept, unary_of, follows_deep, follows_next, reads, reads_expression, reads_unary, reads_behind, reads_from, reads_nameless_unary}
use Rattle.ca_grammar.proofs.PhraseBack.{as_name, no_library}

-- ---- what tokens begin with

-- tokens have one first word
pub same_first : {c d : Class} {p q : Pos} {x : Of c} {y : Of d} {ts us vs : List Token} (t : Takes c ts p x us) (s : Takes d ts q y vs) → t.first ≡ s.first
same_first {p = p} {q} {us = us} {vs} t s =
    let same : token p t.first ∷ us ≡ token q s.first ∷ vs = sym t.parts ∙ s.parts in
    let heads : token p t.first ≡ token q s.first = cc in
    ap (λ (x : Token). x.word) heads

-- and one place
pub same_place : {c : Class} {p q : Pos} {x : Of c} {ts us : List Token} → Takes c ts p x us → place ts ≡ Some q → p ≡ q
same_place {p = p} {q} t e =
    let same : Some p ≡ Some q = sym (place_at t) ∙ e in
    cc

-- what begins with a unary operator begins with none of a class of other words
pub unary_lacks : {p : Pos} {o : Of A_unary_operator} {ts us : List Token} (c : Class) → Takes A_unary_operator ts p o us → ((w : Word) (x : Of c) → Is c w x → unary_operator w ≡ None) → Lacks c ts
unary_lacks c t f q y vs s =
    let e : unary_operator t.first ≡ None = ap unary_operator (same_first t s) ∙ f s.first y s.fits in
    let i = t.fits in
    absurd cc

pub binary_lacks_paren : {l : ℕ} {p : Pos} {o : Of (A_binary_operator l)} {ts us : List Token} → Takes (A_binary_operator l) ts p o us → Lacks open_paren ts
binary_lacks_paren t q y vs s =
    let e : binary_operator t.first ≡ None = ap binary_operator (same_first t s ∙ s.fits) in
    let i = t.fits.0 in
    absurd cc

pub update_lacks : {p : Pos} {o : Of An_update_operator} {ts us : List Token} (m : Mark) → Takes An_update_operator ts p o us → update_operator (word.Mark m) ≡ None → Lacks (The_mark m) ts
update_lacks m t f q y vs s =
    let e : update_operator t.first ≡ None = ap update_operator (same_first t s ∙ s.fits) ∙ f in
    let i = t.fits in
    absurd cc

pub step_lacks : {p : Pos} {o : Of A_step_operator} {ts us : List Token} (m : Mark) → Takes A_step_operator ts p o us → step_operator (word.Mark m) ≡ None → Lacks (The_mark m) ts
step_lacks m t f q y vs s =
    let e : step_operator t.first ≡ None = ap step_operator (same_first t s ∙ s.fits) ∙ f in
    let i = t.fits in
    absurd cc

step_is_no_update : (w : Word) → is_some (update_operator w) ≡ true → step_operator w ≡ None
step_is_no_update (word.Mark mark.Increment) i = absurd cc
step_is_no_update (word.Mark mark.Decrement) i = absurd cc
step_is_no_update w i = refl

pub step_lacks_update : {p : Pos} {o : Of A_step_operator} {ts us : List Token} → Takes A_step_operator ts p o us → Lacks An_update_operator ts
step_lacks_update t q y vs s =
    let e : step_operator t.first ≡ None = ap step_operator (same_first t s) ∙ step_is_no_update s.first (ap is_some s.fits) in
    let i = t.fits in
    absurd cc

step_is_no_call : (w : Word) → is_some (step_operator w) ≡ true → is_library_call w ≡ false
step_is_no_call (word.Name t) i = absurd cc
step_is_no_call w i = refl

update_binds : (w : Word) → is_some (update_operator w) ≡ true → 0 < binds w
update_binds (word.Mark mark.OpenParen) i = absurd cc
update_binds (word.Mark mark.OpenBracket) i = absurd cc
update_binds (word.Mark mark.Dot) i = absurd cc
update_binds (word.Mark mark.Arrow) i = absurd cc
update_binds w i = lit< tt

step_binds : (w : Word) → is_some (step_operator w) ≡ true → 0 < binds w
step_binds (word.Mark mark.OpenParen) i = absurd cc
step_binds (word.Mark mark.OpenBracket) i = absurd cc
step_binds (word.Mark mark.Dot) i = absurd cc
step_binds (word.Mark mark.Arrow) i = absurd cc
step_binds w i = lit< tt

-- whether an expression may begin with a word
abbrev pub can_start : Word → Bool
can_start (word.Number n) = true
can_start (word.Name t) = if is_reserved t then bytes_eq t (codes "NULL") else true
can_start (word.Mark mark.OpenParen) = true
can_start w = is_some (unary_operator w)

abbrev pub can_start_at : List Token → Bool
can_start_at [] = false
can_start_at (u ∷ us) = can_start u.word

unary_can_start : (w : Word) → is_some (unary_operator w) ≡ true → can_start w ≡ true
unary_can_start (word.Number n) i = refl
unary_can_start (word.Name t) i = absurd cc
unary_can_start (word.Mark mark.OpenParen) i = refl
unary_can_start w i = i

null_can_start : can_start (word.Name (codes "NULL")) ≡ true
unfolding is_reserved is_left_out
null_can_start = refl

pub starts : {allowed : Allowed} {a : Operand} {ts us : List Token} (l : ℕ) → Spells allowed (g.Level l) a ts us → can_start_at ts ≡ true
starts zero (g.a_unary t s) = ap can_start_at t.parts ∙ unary_can_start t.first (ap is_some t.fits)
starts zero (g.a_postfix (g.postfix (g.a_number t) r)) = ap can_start_at t.parts ∙ ap can_start t.fits.0
starts zero (g.a_postfix (g.postfix (g.a_null t) r)) = ap can_start_at t.parts ∙ (ap can_start t.fits ∙ null_can_start)
starts zero (g.a_postfix (g.postfix (g.a_name {t = x} t n) r)) = ap can_start_at t.parts ∙ (ap can_start t.fits.0 ∙ ap (λ b. if b then bytes_eq x (codes "NULL") else true) t.fits.1)
starts zero (g.a_postfix (g.postfix (g.parentheses t s e) r)) = ap can_start_at t.parts ∙ ap can_start t.fits
starts (suc l) (g.operands s r) = starts l s

pub expression_starts : {allowed : Allowed} {a : Operand} {ts us : List Token} → Spells allowed g.Expression a ts us → can_start_at ts ≡ true
expression_starts (g.an_expression s w) = starts 6 s

pub unary_starts : {allowed : Allowed} {a : Operand} {ts us : List Token} → Spells allowed g.Unary a ts us → can_start_at ts ≡ true
unary_starts (g.a_whole_unary s w) = starts 0 s

-- where an expression begins, no mark stands that begins none
pub start_lacks_mark : {ts : List Token} (m : Mark) → can_start_at ts ≡ true → can_start (word.Mark m) ≡ false → Lacks (The_mark m) ts
start_lacks_mark {ts} m i n p x us t =
    let e : can_start_at ts ≡ false = ap can_start_at t.parts ∙ (ap can_start t.fits ∙ n) in
    absurd cc

keyword_is_reserved : (w : List ℕ) → is_one_of kept_keywords w ≡ true → is_reserved w ≡ true
unfolding is_reserved
keyword_is_reserved w i = ap (λ b. b || (is_left_out w || is_one_of reserved_names w)) i

-- and no keyword
pub start_lacks_word : {ts : List Token} (w : List ℕ) → can_start_at ts ≡ true → is_one_of kept_keywords w ≡ true → bytes_eq w (codes "NULL") ≡ false → Lacks (The_word w) ts
start_lacks_word {ts} w i n o p x us t =
    let e : can_start_at ts ≡ false = ap can_start_at t.parts ∙ (ap can_start t.fits ∙ (ap (λ b. if b then bytes_eq w (codes "NULL") else true) (keyword_is_reserved w n) ∙ o)) in
    absurd cc

step_starts_nothing : (w : Word) → is_some (step_operator w) ≡ true → can_start w ≡ false
step_starts_nothing (word.Number n) i = absurd cc
step_starts_nothing (word.Name t) i = absurd cc
step_starts_nothing (word.Mark mark.OpenParen) i = absurd cc
step_starts_nothing (word.Mark mark.Minus) i = absurd cc
step_starts_nothing (word.Mark mark.Not) i = absurd cc
step_starts_nothing (word.Mark mark.Star) i = absurd cc
step_starts_nothing (word.Mark mark.Ampersand) i = absurd cc
step_starts_nothing w i = refl

pub start_lacks_step : {ts : List Token} → can_start_at ts ≡ true → Lacks A_step_operator ts
start_lacks_step {ts} i p x us t =
    let e : can_start_at ts ≡ false = ap can_start_at t.parts ∙ step_starts_nothing t.first (ap is_some t.fits) in
    absurd cc

-- what begins with no call of the library begins with none of its words
pub no_call_lacks : {ts : List Token} (w : List ℕ) → begins_library_call ts ≡ false → is_one_of library_words w ≡ true → Lacks (The_word w) ts
unfolding is_library_word
no_call_lacks {ts} w n i p x us t =
    let e : begins_library_call ts ≡ true = ap begins_library_call t.parts ∙ (ap is_library_call t.fits ∙ i) in
    absurd cc

-- where no call of the library begins, a name is one of the source
pub of_the_source : {p : Pos} {t : List ℕ} {ts us : List Token} → Takes A_name ts p t us → begins_library_call ts ≡ false → Takes A_name_of_the_source ts p t us
of_the_source t n = record { first = t.first; parts = t.parts; fits = (t.fits.0, t.fits.1, sym (ap begins_library_call t.parts ∙ ap is_library_call t.fits.0) ∙ n) }

-- ---- no `(` stands behind what an expression begins with, if none stands behind it all

pub no_paren_before_operators : {allowed : Allowed} {l : ℕ} {a b : Operand} {ts us : List Token} → Spells allowed (g.Operators l a) b ts us → Lacks open_paren us → Lacks open_paren ts
no_paren_before_operators g.no_operator n = n
no_paren_before_operators (g.an_operator t s r) n = binary_lacks_paren t

pub no_paren_before_follows : {allowed : Allowed} {l : ℕ} {a b : Operand} {ts us : List Token} → Follows allowed l a b ts us → Lacks open_paren us → Lacks open_paren ts
no_paren_before_follows f_unary n = n
no_paren_before_follows (f_level s r) n = no_paren_before_follows s (no_paren_before_operators r n)

pub no_paren_before_postfixes : {allowed : Allowed} {a b : Operand} {ts us : List Token} → Spells allowed (g.Postfixes a) b ts us → Lacks open_paren us → Lacks open_paren ts
no_paren_before_postfixes g.no_postfix n = n
no_paren_before_postfixes (g.an_index t s e r) n = lacks_at open_paren _ t t.fits refl
no_paren_before_postfixes (g.a_field t m w r) n = lacks_at open_paren _ t t.fits refl
no_paren_before_postfixes (g.an_arrow t m w r) n = lacks_at open_paren _ t t.fits refl

-- ---- types

pub reads_stars : (limits : Limits) (k j : ℕ) {m : ℕ} {ts us : List Token} → phrase.Spells (kept limits k) (phrase.Stars j) m ts us → Lacks star us → Through limits k (Stars j) (plan (Stars j)) m ts us
reads_stars limits k j phrase.no_star n = t_passes n t_gives
reads_stars limits k j {ts = ts} (phrase.a_star t s) n = t_takes t.2 (none limits k ts) tt (t_calls (reads_stars limits k (suc j) s n) t_gives)

-- with the stars and the name apart
starred : (limits : Limits) (k : ℕ) (cs more : List Count) (b : Base) {p q : Pos} {m : ℕ} {t : List ℕ} {ts us vs : List Token} → phrase.Spells (kept limits k) (phrase.Stars 0) m ts us → has_star b m ≡ true
    → phrase.Names (kept limits k) us q t vs → place ts ≡ Some p → Counts limits k cs ts → Counts limits k more us
    → Through limits k (Starred_name cs more b) (plan (Starred_name cs more b)) (record { pos = p; stars = m; name = g.name q t }) ts vs
starred limits k cs more base.Int {q = q} {t = t} {ts = ts} {vs = vs} phrase.no_star i n e c d =
    let P = λ (x : Count). kept limits k (Limit x.of) x.number ts ≡ true in
    subst (λ z. Through limits k (Starred_name cs more base.Int) (plan (Starred_name cs more base.Int)) (record { pos = z; stars = 0; name = g.name q t }) ts vs) (same_place n.takes e)
    (t_passes (lacks_at star _ n.takes n.takes.fits.0 refl) (t_wants n.takes (counts_at_name limits k ts (cs ++ more) t (All-append P cs more c d) n.short) t_gives))
starred limits k cs more base.Int {q = q} {m = m} {t = t} {ts = ts} {us = us} {vs = vs} (phrase.a_star s r) i n e c d =
    subst (λ z. Through limits k (Starred_name cs more base.Int) (plan (Starred_name cs more base.Int)) (record { pos = z; stars = m; name = g.name q t }) ts vs) (same_place s.2 e)
    (t_takes s.2 c tt (t_calls (reads_stars limits k 1 r (lacks_at star _ n.takes n.takes.fits.0 refl)) (t_wants n.takes (counts_at_name limits k us more t d n.short) t_gives)))
starred limits k cs more (base.Struct x) phrase.no_star i n e c d = absurd cc
starred limits k cs more (base.Struct x) {q = q} {m = m} {t = t} {ts = ts} {us = us} {vs = vs} (phrase.a_star s r) i n e c d =
    subst (λ z. Through limits k (Starred_name cs more (base.Struct x)) (plan (Starred_name cs more (base.Struct x))) (record { pos = z; stars = m; name = g.name q t }) ts vs) (same_place s.2 e)
    (t_wants s.2 c (t_calls (reads_stars limits k 1 r (lacks_at star _ n.takes n.takes.fits.0 refl)) (t_wants n.takes (counts_at_name limits k us more t d n.short) t_gives)))

pub reads_starred_name : (limits : Limits) (k : ℕ) (cs at_name : List Count) (b : Base) {x : Starred} {ts us : List Token} → SpellsStarred limits k cs at_name b x ts us
    → Through limits k (Starred_name cs at_name b) (plan (Starred_name cs at_name b)) x ts us
reads_starred_name limits k cs at_name b {x} {ts} {us} s =
    subst (λ n. Through limits k (Starred_name cs at_name b) (plan (Starred_name cs at_name b)) (record { pos = x.pos; stars = x.stars; name = n }) ts us) (sym s.is_name)
    (starred limits k cs at_name b s.stars s.has_star s.names s.at s.first s.counted)

pub reads_base : (limits : Limits) (k : ℕ) (cs : List Count) {b : Base} {p : Pos} {ts us : List Token} → phrase.Spells (kept limits k) phrase.A_base b ts us → place ts ≡ Some p → Counts limits k cs ts
    → Through limits k (Base_at cs) (plan (Base_at cs)) (record { pos = p; what = b }) ts us
reads_base limits k cs {b} {ts = ts} {us = us} (phrase.int_base t) e c =
    subst (λ z. Through limits k (Base_at cs) (plan (Base_at cs)) (record { pos = z; what = b }) ts us) (same_place t.2 e) (t_takes t.2 c tt t_gives)
reads_base limits k cs {b} {ts = ts} {us = us} (phrase.struct_base {t = x} {us = vs} t n) e c =
    subst (λ z. Through limits k (Base_at cs) (plan (Base_at cs)) (record { pos = z; what = b }) ts us) (same_place t.2 e)
    (t_passes (lacks_at (The_word (codes "int")) _ t.2 t.2.fits refl) (t_wants t.2 c (t_wants n.takes (counts_at_name limits k vs [] x (none limits k vs) n.short) t_gives)))

-- where a base begins
base_place : {allowed : Allowed} {b : Base} {ts us : List Token} → phrase.Spells allowed phrase.A_base b ts us → (p : Pos) × (place ts ≡ Some p)
base_place (phrase.int_base t) = (t.0, place_at t.2)
base_place (phrase.struct_base t n) = (t.0, place_at t.2)

pub reads_type_name : (limits : Limits) (k : ℕ) {t : CType} {ts us : List Token} → phrase.Spells (kept limits k) phrase.A_type t ts us → Lacks star us → Through limits k Type_name (plan Type_name) t ts us
reads_type_name limits k {ts = ts} (phrase.a_type b s) n = t_calls (reads_base limits k [] b (base_place b).1 (none limits k ts)) (t_calls (reads_stars limits k 0 s n) t_gives)

-- ---- arguments

arguments_end : {allowed : Allowed} {more : List Exp} {ts us : List Token} → phrase.Spells allowed phrase.More_arguments more ts us → 6 < binds_at ts
arguments_end (phrase.last_argument t) = ends_at 6 t.2 (lit< tt)
arguments_end (phrase.next_argument t s r) = ends_at 6 t.2 (lit< tt)

pub reads_more_arguments : (limits : Limits) (k : ℕ) {more : List Exp} {ts us : List Token} → phrase.Spells (kept limits k) phrase.More_arguments more ts us → Through limits k More_arguments (plan More_arguments) more ts us
reads_more_arguments limits k {ts = ts} (phrase.last_argument t) = t_passes (lacks_at comma _ t.2 t.2.fits refl) (t_wants t.2 (none limits k ts) t_gives)
reads_more_arguments limits k {ts = ts} (phrase.next_argument {us = us} t s r) =
    t_takes t.2 (none limits k ts) tt (t_calls (reads_expression limits k [] s (none limits k us) (arguments_end r)) (t_calls (reads_more_arguments limits k r) t_gives))

pub reads_arguments : (limits : Limits) (k : ℕ) {more : List Exp} {ts us : List Token} → phrase.Spells (kept limits k) phrase.Arguments_behind more ts us → Through limits k Arguments_behind (plan Arguments_behind) more ts us
reads_arguments limits k {ts = ts} (phrase.no_arguments t) = t_takes t.2 (none limits k ts) tt t_gives
reads_arguments limits k {ts = ts} (phrase.some_arguments s r) =
    t_passes (start_lacks_mark mark.CloseParen (expression_starts s) refl)
    (t_calls (reads_expression limits k [] s (none limits k ts) (arguments_end r)) (t_calls (reads_more_arguments limits k r) t_gives))

print_arguments_end : {allowed : Allowed} {j : ℕ} {more : List Exp} {ts us : List Token} → phrase.Spells allowed (phrase.Print_arguments j) more ts us → 6 < binds_at ts
print_arguments_end (phrase.last_print_argument t) = ends_at 6 t.2 (lit< tt)
print_arguments_end (phrase.next_print_argument t c s r) = ends_at 6 t.2 (lit< tt)

-- one thing is counted
pub one_counted : (limits : Limits) (k : ℕ) (c : Count) (ts : List Token) → kept limits k (Limit c.of) c.number ts ≡ true → Counts limits k (c ∷ []) ts
one_counted limits k c ts i = All-cons (λ (x : Count). kept limits k (Limit x.of) x.number ts ≡ true) c [] i (none limits k ts)

pub reads_print_arguments : (limits : Limits) (k j : ℕ) {more : List Exp} {ts us : List Token} → phrase.Spells (kept limits k) (phrase.Print_arguments j) more ts us
    → Through limits k (Print_arguments j) (plan (Print_arguments j)) more ts us
reads_print_arguments limits k j {ts = ts} (phrase.last_print_argument t) = t_passes (lacks_at comma _ t.2 t.2.fits refl) (t_wants t.2 (none limits k ts) t_gives)
reads_print_arguments limits k j {ts = ts} (phrase.next_print_argument {us = us} t c s r) =
    t_takes t.2 (none limits k ts) tt
    (t_calls (reads_expression limits k (counted Arguments (suc j) ∷ []) s (one_counted limits k (counted Arguments (suc j)) us c) (print_arguments_end r)) (t_calls (reads_print_arguments limits k (suc j) r) t_gives))

-- ---- right sides

reads_sizeof : (limits : Limits) (k : ℕ) (p : Pos) (cast : Option CType) (c : Option Exp) {t : CType} {ts us vs ws xs : List Token} → Skips open_paren ts us → phrase.Spells (kept limits k) phrase.A_type t us vs
    → Skips close_paren vs ws → Skips close_paren ws xs → Through limits k (Behind_malloc p cast) (behind_sizeof p cast c) (record { pos = p; cast = cast; count = c; of = t }) ts xs
reads_sizeof limits k p cast c {ts = ts} {vs = vs} {ws = ws} o s x y =
    t_wants o.2 (none limits k ts) (t_calls (reads_type_name limits k s (lacks_at star _ x.2 x.2.fits refl)) (t_wants x.2 (none limits k vs) (t_wants y.2 (none limits k ws) t_gives)))

pub reads_malloc : (limits : Limits) (k : ℕ) (p : Pos) (cast : Option CType) {m : Malloc} {ts us : List Token} → phrase.Spells (kept limits k) (phrase.Behind_malloc p cast) m ts us
    → Through limits k (Behind_malloc p cast) (plan (Behind_malloc p cast)) m ts us
reads_malloc limits k p cast {ts = ts} (phrase.a_malloc {us = us} t phrase.no_count u o s x y) =
    t_wants t.2 (none limits k ts) (t_takes u.2 (none limits k us) tt (reads_sizeof limits k p cast None o s x y))
reads_malloc limits k p cast {ts = ts} (phrase.a_malloc {us = us} {vs = vs} t (phrase.a_count {a = a} {us = os} v w) u o s x y) =
    t_wants t.2 (none limits k ts) (t_passes (start_lacks_word (codes "sizeof") (unary_starts v) refl refl)
    (t_calls (reads_unary limits k [] v (none limits k us) (ends_at 0 w.2 (lit< tt)))
    (t_wants w.2 (none limits k os) (t_wants u.2 (none limits k vs) (reads_sizeof limits k p cast (Some a.exp) o s x y)))))

-- what doesn't go on with an expression is no `(`
no_open : {us : List Token} → 6 < binds_at us → Lacks open_paren us
no_open {us} n = no_mark mark.OpenParen us (omega (arith, n))

-- an expression as a right side, by what it begins with
reads_value : (limits : Limits) (k : ℕ) {a b : Operand} {ts vs us : List Token} → Spells (kept limits k) (g.Level 0) a ts vs → Follows (kept limits k) 6 a b vs us → within (limits Depth) b.depth ≡ true
    → begins_library_call ts ≡ false → 6 < binds_at us → Lacks open_paren us → Through limits k A_right (plan A_right) (right.Value b.exp) ts us
reads_value limits k {b = b} {ts = ts} (g.a_unary {a = a} {us = us} t s) f w l n m =
    t_passes (no_call_lacks (codes "malloc") l refl) (t_passes (unary_lacks A_name_of_the_source t (λ v x e. ap unary_operator e.0)) (t_passes (unary_lacks open_paren t (λ v x e. ap unary_operator e))
    (t_takes t (none limits k ts) (at_most (limits Depth) 2 b.depth w (omega (arith, deep s, follows_deep f)))
    (t_calls (reads limits k s [] 1 false (at_most (limits Depth) (1 + (a.depth + 0)) b.depth w (omega (arith, follows_deep f))) (none limits k us) (follows_next f n))
    (t_calls (reads_behind limits k f (at_most (limits Depth) (0 + (b.depth + 0)) b.depth w (omega arith)) (omega arith) n) t_gives)))))
reads_value limits k {b = b} {ts = ts} (g.a_postfix (g.postfix (g.parentheses {a = a} {us = us} {vs = vs} t s e) r)) f w l n m =
    t_passes (lacks_at (The_word (codes "malloc")) _ t t.fits refl) (t_passes (lacks_at A_name_of_the_source _ t t.fits refl)
    (t_takes t (none limits k ts) tt
    (t_passes (start_lacks_word (codes "int") (starts 6 s) refl refl) (t_passes (start_lacks_word (codes "struct") (starts 6 s) refl refl)
    (t_calls (reads limits k s [] 0 true (at_most (limits Depth) (0 + (a.depth + one_more (true && a.in_parentheses))) b.depth w (omega (arith, deep r, follows_deep f))) (none limits k us) (ends_at 6 e (lit< tt)))
    (t_wants e (none limits k vs) (t_calls (reads_from limits k r f (at_most (limits Depth) (0 + (b.depth + 0)) b.depth w (omega arith)) (omega (arith, deep s)) n) t_gives)))))))
reads_value limits k {b = b} {ts = ts} (g.a_postfix (g.postfix (g.a_name {t = x} t i) r)) f w l n m =
    t_passes (no_call_lacks (codes "malloc") l refl)
    (t_takes (of_the_source t l) (counts_at_name limits k ts [] x (none limits k ts) i) tt
    (t_passes (no_paren_before_postfixes r (no_paren_before_follows f m))
    (t_calls (reads_from limits k r f (at_most (limits Depth) (0 + (b.depth + 0)) b.depth w (omega arith)) (omega arith) n) t_gives)))
reads_value limits k {b = b} {ts = ts} (g.a_postfix (g.postfix (g.a_null t) r)) f w l n m =
    t_passes (lacks_at (The_word (codes "malloc")) _ t t.fits refl) (t_passes (λ q y vs s. not_null (as_name s) _ _ _ t) (t_passes (lacks_at open_paren _ t t.fits refl) (t_passes (lacks_at A_unary_operator _ t t.fits refl)
    (t_takes t (none limits k ts) tt (t_calls (reads_from limits k r f (at_most (limits Depth) (0 + (b.depth + 0)) b.depth w (omega arith)) (omega arith) n) t_gives)))))
reads_value limits k {b = b} {ts = ts} (g.a_postfix (g.postfix (g.a_number t) r)) f w l n m =
    t_passes (lacks_at (The_word (codes "malloc")) _ t t.fits.0 refl) (t_passes (lacks_at A_name_of_the_source _ t t.fits.0 refl) (t_passes (lacks_at open_paren _ t t.fits.0 refl)
    (t_passes (lacks_at A_unary_operator _ t t.fits.0 refl) (t_passes (lacks_at null_word _ t t.fits.0 refl)
    (t_wants t (none limits k ts) (t_calls (reads_from limits k r f (at_most (limits Depth) (0 + (b.depth + 0)) b.depth w (omega arith)) (omega arith) n) t_gives))))))

-- a right side, with no `(` behind it, which would make a call of a name
pub reads_right : (limits : Limits) (k : ℕ) {r : Right} {ts us : List Token} → phrase.Spells (kept limits k) phrase.A_right r ts us → 6 < binds_at us
    → Through limits k A_right (plan A_right) r ts us
reads_right limits k (phrase.a_value l (g.an_expression s w)) n = let i = unary_of 6 s in reads_value limits k i.2 i.3 w l n (no_open n)
reads_right limits k {ts = ts} (phrase.a_called_value (phrase.a_call {t = x} {us = us} t i o s)) n =
    t_passes (no_call_lacks (codes "malloc") (no_library _ t t.fits.0 t.fits.2) refl)
    (t_takes t (counts_at_name limits k ts [] x (none limits k ts) i) tt (t_takes o.2 (none limits k us) tt (t_calls (reads_arguments limits k s) t_gives)))
reads_right limits k {ts = ts} (phrase.plain_malloc {p = p} t s) n = t_takes t (none limits k ts) tt (t_calls (reads_malloc limits k p None s) t_gives)
reads_right limits k {ts = ts} (phrase.cast_malloc {p = p} {t = c} {us = us} {vs = vs} {ws = ws} t (phrase.a_type (phrase.int_base b) s) x y z) n =
    t_passes (lacks_at (The_word (codes "malloc")) _ t t.fits refl) (t_passes (lacks_at A_name_of_the_source _ t t.fits refl)
    (t_takes t (none limits k ts) tt
    (t_takes b.2 (none limits k us) tt
    (t_calls (reads_stars limits k 0 s (lacks_at star _ x.2 x.2.fits refl)) (t_wants x.2 (none limits k vs) (t_wants y.2 (none limits k ws) (t_calls (reads_malloc limits k p (Some c) z) t_gives)))))))
reads_right limits k {ts = ts} (phrase.cast_malloc {p = p} {t = c} {us = us} {vs = vs} {ws = ws} t (phrase.a_type (phrase.struct_base {t = e} {us = os} b i) s) x y z) n =
    t_passes (lacks_at (The_word (codes "malloc")) _ t t.fits refl) (t_passes (lacks_at A_name_of_the_source _ t t.fits refl)
    (t_takes t (none limits k ts) tt
    (t_passes (lacks_at (The_word (codes "int")) _ b.2 b.2.fits refl)
    (t_takes b.2 (none limits k us) tt (t_wants i.takes (counts_at_name limits k os [] e (none limits k os) i.short)
    (t_calls (reads_stars limits k 0 s (lacks_at star _ x.2 x.2.fits refl)) (t_wants x.2 (none limits k vs) (t_wants y.2 (none limits k ws) (t_calls (reads_malloc limits k p (Some c) z) t_gives)))))))))

pub reads_initializer : (limits : Limits) (k : ℕ) {r : Option Right} {ts us : List Token} → phrase.Spells (kept limits k) phrase.An_initializer r ts us → 6 < binds_at us → Lacks assign us
    → Through limits k Initializer (plan Initializer) r ts us
reads_initializer limits k phrase.no_initializer n a = t_passes a t_gives
reads_initializer limits k {ts = ts} (phrase.an_initializer t s) n a = t_takes t.2 (none limits k ts) tt (t_calls (reads_right limits k s n) t_gives)

-- ---- simple statements

-- the place of a simple statement is that of its first token
placed : (limits : Limits) (k : ℕ) (cs : List Count) {s : Simple} {p q : Pos} {ts us : List Token} → q ≡ p → Through limits k (Simple_at cs) (plan (Simple_at cs)) (record { pos = q; what = s }) ts us
    → Through limits k (Simple_at cs) (plan (Simple_at cs)) (record { pos = p; what = s }) ts us
placed limits k cs {s} {ts = ts} {us} e r = subst (λ z. Through limits k (Simple_at cs) (plan (Simple_at cs)) (record { pos = z; what = s }) ts us) e r

-- past the words of the library
past_library : (limits : Limits) (k : ℕ) (cs : List Count) {s : Placed Simple} {ts us : List Token} → begins_library_call ts ≡ false → Through limits k (Simple_at cs) (on_target_or_call cs) s ts us
    → Through limits k (Simple_at cs) (plan (Simple_at cs)) s ts us
past_library limits k cs l r =
    t_passes (no_call_lacks (codes "pthread_mutex_lock") l refl) (t_passes (no_call_lacks (codes "pthread_mutex_unlock") l refl) (t_passes (no_call_lacks (codes "pthread_create") l refl)
    (t_passes (no_call_lacks (codes "pthread_join") l refl) (t_passes (no_call_lacks (codes "free") l refl) (t_passes (no_call_lacks (codes "assert") l refl) (t_passes (no_call_lacks (codes "printf") l refl) r))))))

-- where a unary begins
unary_place : {allowed : Allowed} {a : Operand} {ts us : List Token} → Spells allowed g.Unary a ts us → place ts ≡ Some a.start
unary_place (g.a_whole_unary (g.a_unary t s) w) = place_at t
unary_place (g.a_whole_unary (g.a_postfix (g.postfix (g.a_number t) r)) w) = place_at t ∙ ap Some (sym (start_kept r))
unary_place (g.a_whole_unary (g.a_postfix (g.postfix (g.a_null t) r)) w) = place_at t ∙ ap Some (sym (start_kept r))
unary_place (g.a_whole_unary (g.a_postfix (g.postfix (g.a_name t i) r)) w) = place_at t ∙ ap Some (sym (start_kept r))
unary_place (g.a_whole_unary (g.a_postfix (g.postfix (g.parentheses t s e) r)) w) = place_at t ∙ ap Some (sym (start_kept r))

-- a target that begins with no name, and what makes a statement of it
nameless_target : (limits : Limits) (k : ℕ) (cs : List Count) {a : Operand} {s : Simple} {p : Pos} {ts us vs : List Token} → Spells (kept limits k) g.Unary a ts us → begins_library_call ts ≡ false → Lacks A_name ts
    → place ts ≡ Some p → Counts limits k cs ts → 0 < binds_at us → Through limits k (Behind_target a) (plan (Behind_target a)) s us vs
    → Through limits k (Simple_at cs) (plan (Simple_at cs)) (record { pos = p; what = s }) ts vs
nameless_target limits k cs {a} {p = p} x l m e c n r =
    let same : Some a.start ≡ Some p = sym (unary_place x) ∙ e in
    let at : a.start ≡ p = cc in
    placed limits k cs at
    (past_library limits k cs l (t_passes (start_lacks_step (unary_starts x)) (t_passes (λ q y vs s. m q y vs (as_name s)) (t_calls (reads_nameless_unary limits k cs x m c n) (t_calls r t_gives)))))

-- any target, and what makes a statement of it
target : (limits : Limits) (k : ℕ) (cs : List Count) {a : Operand} {s : Simple} {p : Pos} {ts us vs : List Token} → Spells (kept limits k) g.Unary a ts us → begins_library_call ts ≡ false
    → place ts ≡ Some p → Counts limits k cs ts → 0 < binds_at us → Lacks open_paren us → Through limits k (Behind_target a) (plan (Behind_target a)) s us vs
    → Through limits k (Simple_at cs) (plan (Simple_at cs)) (record { pos = p; what = s }) ts vs
target limits k cs {a} {ts = ts} (g.a_whole_unary (g.a_postfix (g.postfix (g.a_name {t = x} t i) o)) w) l e c n m r =
    placed limits k cs (same_place t e)
    (past_library limits k cs l (t_passes (lacks_at A_step_operator _ t t.fits.0 refl) (t_takes (of_the_source t l) (counts_at_name limits k ts cs x c i) tt
    (t_passes (no_paren_before_postfixes o m)
    (t_calls (reads_from limits k o f_unary (at_most (limits Depth) (0 + (a.depth + 0)) a.depth w (omega arith)) (omega arith) n) (t_calls r t_gives))))))
target limits k cs (g.a_whole_unary (g.a_postfix (g.postfix (g.a_number t) o)) w) l e c n m r =
    nameless_target limits k cs (g.a_whole_unary (g.a_postfix (g.postfix (g.a_number t) o)) w) l (lacks_at A_name _ t t.fits.0 refl) e c n r
target limits k cs (g.a_whole_unary (g.a_postfix (g.postfix (g.a_null t) o)) w) l e c n m r =
    nameless_target limits k cs (g.a_whole_unary (g.a_postfix (g.postfix (g.a_null t) o)) w) l (λ q y vs s. not_null s _ _ _ t) e c n r
target limits k cs (g.a_whole_unary (g.a_postfix (g.postfix (g.parentheses t s z) o)) w) l e c n m r =
    nameless_target limits k cs (g.a_whole_unary (g.a_postfix (g.postfix (g.parentheses t s z) o)) w) l (lacks_at A_name _ t t.fits refl) e c n r
target limits k cs (g.a_whole_unary (g.a_unary t s) w) l e c n m r =
    nameless_target limits k cs (g.a_whole_unary (g.a_unary t s) w) l (unary_lacks A_name t (λ v x e. ap unary_operator e.0)) e c n r

reads_library_call : (limits : Limits) (k : ℕ) (cs : List Count) {c : Library} {p : Pos} {ts us : List Token} → phrase.Spells (kept limits k) phrase.A_library_call c ts us → place ts ≡ Some p → Counts limits k cs ts
    → Through limits k (Simple_at cs) (plan (Simple_at cs)) (record { pos = p; what = simple.Library c }) ts us
reads_library_call limits k cs (phrase.a_lock {us = us} {vs = vs} w x z) e c =
    let t = w.word.2 in
    placed limits k cs (same_place t e)
    (t_takes t c tt (t_wants w.paren.2 (none limits k w.us) (t_wants x.ampersand.2 (none limits k us)
    (t_wants x.names.takes (counts_at_name limits k x.us [] _ (none limits k x.us) x.names.short) (t_wants z.2 (none limits k vs) t_gives)))))
reads_library_call limits k cs (phrase.an_unlock {us = us} {vs = vs} w x z) e c =
    let t = w.word.2 in
    placed limits k cs (same_place t e)
    (t_passes (lacks_at (The_word (codes "pthread_mutex_lock")) _ t t.fits refl)
    (t_takes t c tt (t_wants w.paren.2 (none limits k w.us) (t_wants x.ampersand.2 (none limits k us)
    (t_wants x.names.takes (counts_at_name limits k x.us [] _ (none limits k x.us) x.names.short) (t_wants z.2 (none limits k vs) t_gives))))))
reads_library_call limits k cs (phrase.a_create {us = us} {vs} {ws} {xs} {ys} {zs} {os} {ps} w x y z v n i s o) e c =
    let t = w.word.2 in
    placed limits k cs (same_place t e)
    (t_passes (lacks_at (The_word (codes "pthread_mutex_lock")) _ t t.fits refl) (t_passes (lacks_at (The_word (codes "pthread_mutex_unlock")) _ t t.fits refl)
    (t_takes t c tt (t_wants w.paren.2 (none limits k w.us) (t_wants x.ampersand.2 (none limits k us)
    (t_wants x.names.takes (counts_at_name limits k x.us [] _ (none limits k x.us) x.names.short) (t_wants y.2 (none limits k vs) (t_wants z.2 (none limits k ws) (t_wants v.2 (none limits k xs)
    (t_wants n.takes (counts_at_name limits k ys [] _ (none limits k ys) n.short) (t_wants i.2 (none limits k zs)
    (t_calls (reads_expression limits k [] s (none limits k os) (ends_at 6 o.2 (lit< tt))) (t_wants o.2 (none limits k ps) t_gives)))))))))))))
reads_library_call limits k cs (phrase.a_join {us = us} {vs} {ws} {xs} w s x y z) e c =
    let t = w.word.2 in
    placed limits k cs (same_place t e)
    (t_passes (lacks_at (The_word (codes "pthread_mutex_lock")) _ t t.fits refl) (t_passes (lacks_at (The_word (codes "pthread_mutex_unlock")) _ t t.fits refl) (t_passes (lacks_at (The_word (codes "pthread_create")) _ t t.fits refl)
    (t_takes t c tt (t_wants w.paren.2 (none limits k w.us) (t_calls (reads_expression limits k [] s (none limits k us) (ends_at 6 x.2 (lit< tt)))
    (t_wants x.2 (none limits k vs) (t_wants y.2 (none limits k ws) (t_wants z.2 (none limits k xs) t_gives)))))))))
reads_library_call limits k cs (phrase.a_free {us = us} {vs} w s z) e c =
    let t = w.word.2 in
    placed limits k cs (same_place t e)
    (t_passes (lacks_at (The_word (codes "pthread_mutex_lock")) _ t t.fits refl) (t_passes (lacks_at (The_word (codes "pthread_mutex_unlock")) _ t t.fits refl) (t_passes (lacks_at (The_word (codes "pthread_create")) _ t t.fits refl)
    (t_passes (lacks_at (The_word (codes "pthread_join")) _ t t.fits refl)
    (t_takes t c tt (t_wants w.paren.2 (none limits k w.us) (t_calls (reads_expression limits k [] s (none limits k us) (ends_at 6 z.2 (lit< tt))) (t_wants z.2 (none limits k vs) t_gives))))))))
reads_library_call limits k cs (phrase.an_assert {us = us} {vs} w s z) e c =
    let t = w.word.2 in
    placed limits k cs (same_place t e)
    (t_passes (lacks_at (The_word (codes "pthread_mutex_lock")) _ t t.fits refl) (t_passes (lacks_at (The_word (codes "pthread_mutex_unlock")) _ t t.fits refl) (t_passes (lacks_at (The_word (codes "pthread_create")) _ t t.fits refl)
    (t_passes (lacks_at (The_word (codes "pthread_join")) _ t t.fits refl) (t_passes (lacks_at (The_word (codes "free")) _ t t.fits refl)
    (t_takes t c tt (t_wants w.paren.2 (none limits k w.us) (t_calls (reads_expression limits k [] s (none limits k us) (ends_at 6 z.2 (lit< tt))) (t_wants z.2 (none limits k vs) t_gives)))))))))
reads_library_call limits k cs (phrase.a_print {t = x} {us = us} w y n s) e c =
    let t = w.word.2 in
    placed limits k cs (same_place t e)
    (t_passes (lacks_at (The_word (codes "pthread_mutex_lock")) _ t t.fits refl) (t_passes (lacks_at (The_word (codes "pthread_mutex_unlock")) _ t t.fits refl) (t_passes (lacks_at (The_word (codes "pthread_create")) _ t t.fits refl)
    (t_passes (lacks_at (The_word (codes "pthread_join")) _ t t.fits refl) (t_passes (lacks_at (The_word (codes "free")) _ t t.fits refl) (t_passes (lacks_at (The_word (codes "assert")) _ t t.fits refl)
    (t_takes t c tt (t_wants w.paren.2 (none limits k w.us)
    (t_wants y (one_counted limits k (counted StringBytes (length x)) us n) (t_calls (reads_print_arguments limits k 0 s) t_gives))))))))))

pub reads_simple : (limits : Limits) (k : ℕ) (cs : List Count) {s : Simple} {p : Pos} {ts us : List Token} → phrase.Spells (kept limits k) phrase.A_simple s ts us → place ts ≡ Some p → Counts limits k cs ts → 6 < binds_at us
    → Through limits k (Simple_at cs) (plan (Simple_at cs)) (record { pos = p; what = s }) ts us
reads_simple limits k cs (phrase.a_set {us = us} x t s) e c n =
    target limits k cs x.unary x.no_call e c (ends_at 0 t.2 (lit< tt)) (lacks_at open_paren _ t.2 t.2.fits refl)
    (t_takes t.2 (none limits k us) tt (t_calls (reads_right limits k s n) t_gives))
reads_simple limits k cs (phrase.an_update {us = us} {vs = vs} x t s) e c n =
    target limits k cs x.unary x.no_call e c (subst (λ l. 0 < l) (sym (ap binds_at t.parts)) (update_binds t.first (ap is_some t.fits))) (update_lacks mark.OpenParen t refl)
    (t_passes (update_lacks mark.Assign t refl) (t_takes t (none limits k us) tt (t_calls (reads_expression limits k [] s (none limits k vs) n) t_gives)))
reads_simple limits k cs (phrase.a_step_behind {us = us} x t) e c n =
    target limits k cs x.unary x.no_call e c (subst (λ l. 0 < l) (sym (ap binds_at t.parts)) (step_binds t.first (ap is_some t.fits))) (step_lacks mark.OpenParen t refl)
    (t_passes (step_lacks mark.Assign t refl) (t_passes (step_lacks_update t) (t_wants t (none limits k us) t_gives)))
reads_simple limits k cs (phrase.a_step_before {us = us} t s) e c n =
    placed limits k cs (same_place t e)
    (past_library limits k cs (no_library _ t refl (step_is_no_call t.first (ap is_some t.fits)))
    (t_takes t c tt (t_calls (reads_unary limits k [] s (none limits k us) (omega (arith, n))) t_gives)))
reads_simple limits k cs {ts = ts} (phrase.a_called (phrase.a_call {t = x} {us = us} t i o s)) e c n =
    placed limits k cs (same_place t e)
    (past_library limits k cs (no_library _ t t.fits.0 t.fits.2)
    (t_passes (lacks_at A_step_operator _ t t.fits.0 refl) (t_takes t (counts_at_name limits k ts cs x c i) tt (t_takes o.2 (none limits k us) tt (t_calls (reads_arguments limits k s) t_gives)))))
reads_simple limits k cs (phrase.a_library_called s) e c n = reads_library_call limits k cs s e c

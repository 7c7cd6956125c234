-- Steps of readings that are spelled, one for each constructor of what a plan comes to; and which tokens a class lacks.
use Rattle.std.proofs.Common.{◌≡◌, ◌⊎◌, inl, inr, ℕ, ◌<◌, Bool, true, false, ◌||◌, List, [], ◌∷◌, ◌++◌, All, length, Option, Some, None, if◌then◌else◌, nat_lt, codes, arith, refl, sym, ap, subst, ◌∙◌}
use Rattle.std.specs.Str.{bytes_eq}
use Rattle.std.specs.Option.{is_some}
use Rattle.std.proofs.lemmas.Bool.{lt-ltb, ltb-true}
use Rattle.std.proofs.lemmas.Slice.Eq.{bytes_eq-Decides}
use Rattle.std.proofs.lemmas.List.Elements.{All-nil, All-cons, All-head, All-tail}
use Rattle.ca_tree.specs.declared.text.Pos.{Pos}
use Rattle.ca_tree.specs.declared.token.Token.{Token}
use Rattle.ca_tree.specs.declared.token.Word.{Word}
use Rattle.ca_tree.specs.declared.token.Word.TheVariants as word
use Rattle.ca_tree.specs.declared.token.Mark.{Mark}
use Rattle.ca_tree.specs.declared.token.Mark.TheVariants as mark
use Rattle.ca_tree.specs.declared.tree.BinaryOp.{BinaryOp}
use Rattle.ca_tree.specs.Lexed.{token}
use Rattle.ca_tree.specs.Tokens.{spelling}
use Rattle.ca_grammar.specs.declared.faults.Count.{Count}
use Rattle.ca_tree.specs.declared.counted.Counted.TheVariants.{NameBytes}
use Rattle.ca_tree.specs.Names.{is_reserved, is_left_out}
use Rattle.ca_grammar.specs.Words.{Class, The_mark, The_word, A_number, A_string, A_name, A_name_of_the_source, A_unary_operator, A_binary_operator, An_update_operator, A_step_operator, The_end, Of, Is, Takes, Lacks, unary_operator, binary_operator, level, update_operator, step_operator, null_word}
use Rattle.ca_grammar.specs.Limits.{Rule, Limit, Limits, within, kept, Firm}
use Rattle.ca_grammar.specs.Expressions.{Part, Spells}
use Rattle.ca_grammar.specs.Expressions as g
use Rattle.ca_grammar.specs.Goals.{Goal, Tree}
use Rattle.ca_grammar.specs.Plan.{Plan, give, take, want, call, and_name, bytes_of_name}
use Rattle.ca_grammar.specs.Reads.{plan, first_exceeded, firm_exceeded, or_else, exceeded, gives, takes, overs, passes, wants, exceeds, calls, fails}
use Rattle.ca_grammar.proofs.Loose.{Counts, Shallow, Through}

pub All_front : {X : Type 0} (P : X → Type 0) (xs ys : List X) → All P (xs ++ ys) → All P xs
All_front P [] ys h = All-nil P
All_front P (x ∷ xs) ys h = All-cons P x xs (All-head P x (xs ++ ys) h) (All_front P xs ys (All-tail P x (xs ++ ys) h))

pub All_back : {X : Type 0} (P : X → Type 0) (xs ys : List X) → All P (xs ++ ys) → All P ys
All_back P [] ys h = h
All_back P (x ∷ xs) ys h = All_back P xs ys (All-tail P x (xs ++ ys) h)

-- the counts at a name: those before, and its own
pub counts_before : (limits : Limits) (k : ℕ) (ts : List Token) (cs : List Count) (t : List ℕ) → Counts limits k (and_name cs t) ts → Counts limits k cs ts
counts_before limits k ts cs t h = All_front (λ c. kept limits k (Limit c.of) c.number ts ≡ true) cs (bytes_of_name t ∷ []) h

pub count_of_name : (limits : Limits) (k : ℕ) (ts : List Token) (cs : List Count) (t : List ℕ) → Counts limits k (and_name cs t) ts → kept limits k (Limit NameBytes) (length t) ts ≡ true
count_of_name limits k ts cs t h =
    All-head (λ c. kept limits k (Limit c.of) c.number ts ≡ true) (bytes_of_name t) [] (All_back (λ c. kept limits k (Limit c.of) c.number ts ≡ true) cs (bytes_of_name t ∷ []) h)

-- where fewer than k tokens are left, whatever is counted is allowed
pub counts_past : (limits : Limits) (k : ℕ) (cs : List Count) (ts : List Token) → length ts < k → Counts limits k cs ts
counts_past limits k [] ts h = All-nil (λ c. kept limits k (Limit c.of) c.number ts ≡ true)
counts_past limits k (c ∷ cs) ts h =
    All-cons (λ c. kept limits k (Limit c.of) c.number ts ≡ true) c cs (ap (λ b. b || within (limits (Limit c.of)) c.number) (lt-ltb (length ts) k h)) (counts_past limits k cs ts h)

-- no rule is broken, or one where P holds
abbrev pub NoneOr : Option Rule → Type 0 → Type 0
NoneOr o P = (o ≡ None) ⊎ ((r : Rule) × (o ≡ Some r) × P)

pub if_fine : (here b : Bool) (r : Rule) (o : Option Rule) (P : Type 0) → (here || b) ≡ true → (here ≡ true → P) → NoneOr o P → NoneOr (if b then o else Some r) P
if_fine here true r o P h t f = f
if_fine true false r o P h t f = inr (r, refl, t refl)
if_fine false false r o P h t f = absurd cc

pub counts_fine : (limits : Limits) (k : ℕ) (cs : List Count) (ts : List Token) → Counts limits k cs ts → NoneOr (first_exceeded limits cs) (length ts < k)
counts_fine limits k [] ts h = inl refl
counts_fine limits k (c ∷ cs) ts h =
    let P = λ (x : Count). kept limits k (Limit x.of) x.number ts ≡ true in
    if_fine (nat_lt (length ts) k) (within (limits (Limit c.of)) c.number) (Limit c.of) (first_exceeded limits cs) (length ts < k) (All-head P c cs h) (ltb-true (length ts) k)
    (counts_fine limits k cs ts (All-tail P c cs h))

pub not_deep : (limits : Limits) (firm : Option Firm) → Shallow limits firm → firm_exceeded limits firm ≡ None
not_deep limits None h = refl
not_deep limits (Some f) h = ap (λ b. if b then None else Some f.0) h

-- what may be counted and stand there breaks no rule, or one where fewer than k tokens are left
pub fine : (limits : Limits) (k : ℕ) (cs : List Count) (firm : Option Firm) (ts : List Token) → Counts limits k cs ts → Shallow limits firm → NoneOr (exceeded limits cs firm) (length ts < k)
fine limits k cs firm ts h d = subst (λ o. NoneOr (or_else o (first_exceeded limits cs)) (length ts < k)) (sym (not_deep limits firm d)) (counts_fine limits k cs ts h)

pub t_gives : {limits : Limits} {k : ℕ} {g : Goal} {a : Tree g} {us : List Token} → Through limits k g (give a) a us us
t_gives = inl gives

pub t_takes : {limits : Limits} {k : ℕ} {g : Goal} {c : Class} {firm : Option Firm} {counts : Of c → List Count} {on : Pos → Of c → Plan g} {otherwise : Plan g} {p : Pos} {x : Of c} {a : Tree g} {ts us vs : List Token}
    → Takes c ts p x us → Counts limits k (counts x) ts → Shallow limits firm → Through limits k g (on p x) a us vs → Through limits k g (take c firm counts on otherwise) a ts vs
t_takes {limits} {k} {firm = n_deep} {counts = counts} {x = x} {ts = ts} t n d r =
    elim (fine limits k (counts x) n_deep ts n d) [
      | inl i ↦ elim r [ inl y ↦ inl (takes t i y) | inr b ↦ inr (b.0, b.1, takes t i b.2, b.3) ]
      | inr o ↦ inr (o.0, ts, overs t o.1, o.2)
    ]

pub t_wants : {limits : Limits} {k : ℕ} {g : Goal} {c : Class} {counts : Of c → List Count} {on : Pos → Of c → Plan g} {p : Pos} {x : Of c} {a : Tree g} {ts us vs : List Token}
    → Takes c ts p x us → Counts limits k (counts x) ts → Through limits k g (on p x) a us vs → Through limits k g (want c counts on) a ts vs
t_wants {limits} {k} {counts = counts} {x = x} {ts = ts} t n r =
    elim (fine limits k (counts x) None ts n tt) [
      | inl i ↦ elim r [ inl y ↦ inl (wants t i y) | inr b ↦ inr (b.0, b.1, wants t i b.2, b.3) ]
      | inr o ↦ inr (o.0, ts, exceeds t o.1, o.2)
    ]

pub t_passes : {limits : Limits} {k : ℕ} {g : Goal} {c : Class} {firm : Option Firm} {counts : Of c → List Count} {on : Pos → Of c → Plan g} {otherwise : Plan g} {a : Tree g} {ts us : List Token}
    → Lacks c ts → Through limits k g otherwise a ts us → Through limits k g (take c firm counts on otherwise) a ts us
t_passes n (inl y) = inl (passes n y)
t_passes n (inr b) = inr (b.0, b.1, passes n b.2, b.3)

pub t_calls : {limits : Limits} {k : ℕ} {g q : Goal} {on : Tree q → Plan g} {b : Tree q} {a : Tree g} {ts us vs : List Token}
    → Through limits k q (plan q) b ts us → Through limits k g (on b) a us vs → Through limits k g (call q on) a ts vs
t_calls (inl y) (inl z) = inl (calls y z)
t_calls (inl y) (inr b) = inr (b.0, b.1, calls y b.2, b.3)
t_calls (inr b) r = inr (b.0, b.1, fails b.2, b.3)

-- whether a word may be of a class
abbrev pub can_be : Class → Word → Bool
can_be (The_mark m) (word.Mark n) = bytes_eq (spelling m) (spelling n)
can_be (The_word t) (word.Name u) = bytes_eq t u
can_be A_number (word.Number n) = true
can_be A_string (word.Str t) = true
can_be A_name (word.Name t) = true
can_be A_name_of_the_source (word.Name t) = true
can_be A_unary_operator w = is_some (unary_operator w)
can_be (A_binary_operator l) w = is_some (binary_operator w)
can_be An_update_operator w = is_some (update_operator w)
can_be A_step_operator w = is_some (step_operator w)
can_be The_end word.End = true
can_be c w = false

pub is_can_be : (c : Class) (w : Word) (x : Of c) → Is c w x → can_be c w ≡ true
is_can_be (The_mark m) w x i = subst (λ v. can_be (The_mark m) v ≡ true) (sym i) ((bytes_eq-Decides (spelling m) (spelling m)).1 refl)
is_can_be (The_word t) w x i = subst (λ v. can_be (The_word t) v ≡ true) (sym i) ((bytes_eq-Decides t t).1 refl)
is_can_be A_number w x i = subst (λ v. can_be A_number v ≡ true) (sym i.0) refl
is_can_be A_string w x i = subst (λ v. can_be A_string v ≡ true) (sym i) refl
is_can_be A_name w x i = subst (λ v. can_be A_name v ≡ true) (sym i.0) refl
is_can_be A_name_of_the_source w x i = subst (λ v. can_be A_name_of_the_source v ≡ true) (sym i.0) refl
is_can_be A_unary_operator w x i = ap is_some i
is_can_be (A_binary_operator l) w x i = ap is_some i.0
is_can_be An_update_operator w x i = ap is_some i
is_can_be A_step_operator w x i = ap is_some i
is_can_be The_end w x i = subst (λ v. can_be The_end v ≡ true) (sym i) refl

-- tokens that begin with this word begin with none of a class that it can't be of
pub lacks_at : {d : Class} {p : Pos} {x : Of d} {ts us : List Token} (c : Class) (w : Word) (t : Takes d ts p x us) → t.first ≡ w → can_be c w ≡ false → Lacks c ts
lacks_at {p = p} {ts = ts} {us = us} c w t e n q y vs s =
    let same : token p t.first ∷ us ≡ token q s.first ∷ vs = sym t.parts ∙ s.parts in
    let heads : token p t.first ≡ token q s.first = cc in
    let first : s.first ≡ w = sym (ap (λ (x : Token). x.word) heads) ∙ e in
    let can : can_be c w ≡ true = subst (λ v. can_be c v ≡ true) first (is_can_be c s.first y s.fits) in
    absurd cc

pub null_is_reserved : is_reserved (codes "NULL") ≡ true
unfolding is_reserved is_left_out
null_is_reserved = refl

-- a name isn't the word `NULL`
pub not_null : {p : Pos} {t : List ℕ} {ts us : List Token} → Takes A_name ts p t us → Lacks null_word ts
not_null {p} {t} {ts} {us} n q y vs s =
    let same : token p n.first ∷ us ≡ token q s.first ∷ vs = sym n.parts ∙ s.parts in
    let heads : token p n.first ≡ token q s.first = cc in
    let names : word.Name t ≡ word.Name (codes "NULL") = sym n.fits.0 ∙ (ap (λ (x : Token). x.word) heads ∙ s.fits) in
    let texts : t ≡ codes "NULL" = cc in
    let reserved : is_reserved t ≡ true = ap is_reserved texts ∙ null_is_reserved in
    let free : is_reserved t ≡ false = n.fits.1 in
    absurd cc

abbrev pub level_or_nine : Option BinaryOp → ℕ
level_or_nine None = 9
level_or_nine (Some o) = level o

-- how tightly a word binds to an expression before it
abbrev pub binds : Word → ℕ
binds (word.Mark mark.OpenBracket) = 0
binds (word.Mark mark.OpenParen) = 0
binds (word.Mark mark.Dot) = 0
binds (word.Mark mark.Arrow) = 0
binds w = level_or_nine (binary_operator w)

abbrev pub binds_at : List Token → ℕ
binds_at [] = 9
binds_at (t ∷ ts) = binds t.word

pub operator_binds : (w : Word) (o : BinaryOp) → binary_operator w ≡ Some o → binds w ≡ level o
operator_binds (word.Mark mark.OpenBracket) o h = absurd cc
operator_binds (word.Mark mark.OpenParen) o h = absurd cc
operator_binds (word.Mark mark.Dot) o h = absurd cc
operator_binds (word.Mark mark.Arrow) o h = absurd cc
operator_binds w o h = ap level_or_nine h

pub mark_binds : {m : Mark} {p : Pos} {ts us : List Token} → Takes (The_mark m) ts p tt us → binds_at ts ≡ binds (word.Mark m)
mark_binds t = ap binds_at t.parts ∙ ap binds t.fits

pub operator_binds_at : {l : ℕ} {p : Pos} {o : BinaryOp} {ts us : List Token} → Takes (A_binary_operator l) ts p o us → binds_at ts ≡ l
operator_binds_at {o = o} t = ap binds_at t.parts ∙ (operator_binds t.first o t.fits.0 ∙ t.fits.1)

-- the next token doesn't go on with a part
abbrev pub Ends : Part → List Token → Type 0
Ends g.Primary us = Unit {0}
Ends (g.Postfixes a) us = 0 < binds_at us
Ends g.Postfix us = 0 < binds_at us
Ends (g.Level l) us = l < binds_at us
Ends (g.Operators l a) us = l < binds_at us
Ends g.Unary us = 0 < binds_at us
Ends g.Expression us = 6 < binds_at us

pub no_mark : (m : Mark) (us : List Token) → binds (word.Mark m) < binds_at us → Lacks (The_mark m) us
no_mark m us h p x vs t = absurd (omega (arith, mark_binds t))

pub no_binary : (l : ℕ) (us : List Token) → l < binds_at us → Lacks (A_binary_operator l) us
no_binary l us h p x vs t = absurd (omega (arith, operator_binds_at t))

pub ends_at : {m : Mark} {p : Pos} {ts us : List Token} (l : ℕ) → Takes (The_mark m) ts p tt us → l < binds (word.Mark m) → l < binds_at ts
ends_at l t h = subst (λ n. l < n) (sym (mark_binds t)) h

-- A plan comes to one outcome.
use Rattle.std.proofs.Common.{◌≡◌, List, ◌∷◌, Option, Some, None, refl, sym, ap, subst, ◌∙◌}
use Rattle.ca_tree.specs.declared.text.Pos.{Pos}
use Rattle.ca_tree.specs.declared.token.Token.{Token}
use Rattle.ca_tree.specs.declared.token.Word.{Word}
use Rattle.ca_tree.specs.Lexed.{token}
use Rattle.ca_grammar.specs.declared.faults.Count.{Count}
use Rattle.ca_grammar.specs.Words.{Class, The_mark, The_word, A_number, A_string, A_name, A_name_of_the_source, A_unary_operator, A_binary_operator, An_update_operator, A_step_operator, The_end, Of, Is, Takes}
use Rattle.ca_grammar.specs.Limits.{Rule, Limits, Firm}
use Rattle.ca_grammar.specs.Goals.{Goal, Tree}
use Rattle.ca_grammar.specs.Plan.{Plan}
use Rattle.ca_grammar.specs.Reads.{exceeded, Outcome, Yes, No, Reads, gives, takes, overs, passes, wants, exceeds, misses, calls, fails}

-- a word is of a class in one way
pub is_same : (c : Class) (w : Word) (x y : Of c) → Is c w x → Is c w y → x ≡ y
is_same (The_mark m) w x y h i = refl
is_same (The_word t) w x y h i = refl
is_same A_number w x y h i = cc
is_same A_string w x y h i = cc
is_same A_name w x y h i = cc
is_same A_name_of_the_source w x y h i = cc
is_same A_unary_operator w x y h i = cc
is_same (A_binary_operator l) w x y h i = cc
is_same An_update_operator w x y h i = cc
is_same A_step_operator w x y h i = cc
is_same The_end w x y h i = refl

-- and so are tokens
same_parts : {p q : Pos} {w v : Word} {us vs : List Token} → token p w ∷ us ≡ token q v ∷ vs → (p ≡ q) × (w ≡ v) × (us ≡ vs)
same_parts {p} {q} {w} {v} h =
    let e : token p w ≡ token q v = cc in
    (ap (λ (u : Token). u.pos) e, ap (λ (u : Token). u.word) e, cc)

same_take : {c : Class} {p q : Pos} {x y : Of c} {ts us vs ws : List Token} → Takes c ts p x us → Takes c vs q y ws → ts ≡ vs → (p ≡ q) × (x ≡ y) × (us ≡ ws)
same_take {c} {x = x} {y = y} t s h =
    let e = same_parts (sym t.parts ∙ h ∙ s.parts) in
    (e.0, is_same c t.first x y t.fits (subst (λ w. Is c w y) (sym e.1) s.fits), e.2)

take_on : {c : Class} {p : Pos} {x : Of c} {ts us vs : List Token} → ts ≡ us → Takes c ts p x vs → Takes c us p x vs
take_on {c} {p} {x} {vs = vs} h t = subst (λ ws. Takes c ws p x vs) h t

abbrev pub is_yes : {g : Goal} → Outcome g → Type 0
is_yes (Yes a us) = Unit {0}
is_yes (No r us) = ⊥

-- the tokens that an outcome leaves
abbrev pub rest : {g : Goal} → Outcome g → List Token
rest (Yes a us) = us
rest (No r us) = us

abbrev pub tree_or : {g : Goal} → Tree g → Outcome g → Tree g
tree_or b (Yes a us) = a
tree_or b (No r us) = b

-- the rule that is broken
abbrev pub why : {g : Goal} → Outcome g → Option Rule
why (Yes a us) = None
why (No r us) = r

pub yes_is : {g : Goal} (a b : Tree g) (us vs : List Token) → ◌≡◌ {A = Outcome g} (Yes a us) (Yes b vs) → (a ≡ b) × (us ≡ vs)
yes_is a b us vs h = (ap (λ o. tree_or a o) h, ap (λ o. rest o) h)

pub yes_no : {g : Goal} (a : Tree g) (r : Option Rule) (us vs : List Token) → ◌≡◌ {A = Outcome g} (Yes a us) (No r vs) → ⊥
yes_no a r us vs h = subst (λ o. is_yes o) h tt

no_is : {g q : Goal} (r s : Option Rule) (us vs : List Token) → ◌≡◌ {A = Outcome q} (No r us) (No s vs) → ◌≡◌ {A = Outcome g} (No r us) (No s vs)
no_is {g} r s us vs h = ap (λ o. let y : Outcome g = No (why o) (rest o) in y) h

-- a step is allowed or breaks one rule
same_rule : (limits : Limits) (c : Class) (firm : Option Firm) (counts : Of c → List Count) {x y : Of c} {r s : Option Rule} → x ≡ y → exceeded limits (counts x) firm ≡ r → exceeded limits (counts y) firm ≡ s → r ≡ s
same_rule limits c firm counts e h i = sym h ∙ ap (λ z. exceeded limits (counts z) firm) e ∙ i

none_some : {r : Rule} → ◌≡◌ {A = Option Rule} None (Some r) → ⊥
none_some h = absurd cc

pub broken : {g : Goal} {r s : Rule} {ts us : List Token} → ◌≡◌ {A = Option Rule} (Some r) (Some s) → ts ≡ us → ◌≡◌ {A = Outcome g} (No (Some r) ts) (No (Some s) us)
broken {g} {s = s} {ts = ts} h i = ap (λ q. let y : Outcome g = No q ts in y) h ∙ ap (λ (w : List Token). let y : Outcome g = No (Some s) w in y) i

-- A plan comes to one outcome.
pub same_outcome : {limits : Limits} {g : Goal} {f : Plan g} {ts us : List Token} {o x : Outcome g} → Reads limits g f ts o → Reads limits g f us x → ts ≡ us → o ≡ x
same_outcome {g = g} (gives {a = a}) gives h = ap (λ (w : List Token). let y : Outcome g = Yes a w in y) h
same_outcome {limits} {g} {x = o} (takes {on = on} {p = p} {x = x} t e d) (takes {p = q} {x = y} {us = vs} s i c) h =
    let same = same_take t s h in
    same_outcome d (subst (λ z. Reads limits g (on p z) vs o) (sym same.1) (subst (λ z. Reads limits g (on z y) vs o) (sym same.0) c)) same.2
same_outcome {limits} (takes {firm = firm} {counts = counts} t e d) (overs s i) h = absurd (none_some (same_rule limits _ firm counts (same_take t s h).1 e i))
same_outcome (takes {p = p} {x = x} {us = us} t e d) (passes l c) h = absurd (l p x us (take_on h t))
same_outcome {limits} (overs {firm = firm} {counts = counts} t e) (takes s i c) h = absurd (none_some (sym (same_rule limits _ firm counts (same_take t s h).1 e i)))
same_outcome {limits} (overs {firm = firm} {counts = counts} t e) (overs s i) h = broken (same_rule limits _ firm counts (same_take t s h).1 e i) h
same_outcome (overs {p = p} {x = x} {us = us} t e) (passes l c) h = absurd (l p x us (take_on h t))
same_outcome (passes l d) (takes {p = p} {x = x} {us = us} s i c) h = absurd (l p x us (take_on (sym h) s))
same_outcome (passes l d) (overs {p = p} {x = x} {us = us} s i) h = absurd (l p x us (take_on (sym h) s))
same_outcome (passes l d) (passes m c) h = same_outcome d c h
same_outcome {limits} {g} {x = o} (wants {on = on} {p = p} {x = x} t e d) (wants {p = q} {x = y} {us = vs} s i c) h =
    let same = same_take t s h in
    same_outcome d (subst (λ z. Reads limits g (on p z) vs o) (sym same.1) (subst (λ z. Reads limits g (on z y) vs o) (sym same.0) c)) same.2
same_outcome {limits} (wants {counts = counts} t e d) (exceeds s i) h = absurd (none_some (same_rule limits _ None counts (same_take t s h).1 e i))
same_outcome (wants {p = p} {x = x} {us = us} t e d) (misses l) h = absurd (l p x us (take_on h t))
same_outcome {limits} (exceeds {counts = counts} t e) (wants s i c) h = absurd (none_some (sym (same_rule limits _ None counts (same_take t s h).1 e i)))
same_outcome {limits} (exceeds {counts = counts} t e) (exceeds s i) h = broken (same_rule limits _ None counts (same_take t s h).1 e i) h
same_outcome (exceeds {p = p} {x = x} {us = us} t e) (misses l) h = absurd (l p x us (take_on h t))
same_outcome (misses l) (wants {p = p} {x = x} {us = us} s i c) h = absurd (l p x us (take_on (sym h) s))
same_outcome (misses l) (exceeds {p = p} {x = x} {us = us} s i) h = absurd (l p x us (take_on (sym h) s))
same_outcome {g = g} (misses l) (misses m) h = ap (λ (w : List Token). let y : Outcome g = No None w in y) h
same_outcome {limits} {g} {x = o} (calls {q = q} {on} {a = a} {us = us} d c) (calls {a = b} {us = vs} e i) h =
    let same = yes_is a b us vs (same_outcome d e h) in
    same_outcome c (subst (λ w. Reads limits g (on w) vs o) (sym same.0) i) same.1
same_outcome (calls d c) (fails e) h = absurd (yes_no _ _ _ _ (same_outcome d e h))
same_outcome (fails e) (calls d c) h = absurd (yes_no _ _ _ _ (sym (same_outcome e d h)))
same_outcome (fails d) (fails e) h = no_is _ _ _ _ (same_outcome d e h)

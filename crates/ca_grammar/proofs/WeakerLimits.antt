-- Under weaker limits a plan comes to the same outcome, where the rule that is broken stays.
use Rattle.std.proofs.Common.{◌≡◌, ℕ, Bool, true, false, List, [], ◌∷◌, Option, Some, None, if◌then◌else◌, refl, sym, ap, subst, ◌∙◌, ◌==◌, true≢false}
use Rattle.ca_tree.specs.declared.token.Token.{Token}
use Rattle.ca_grammar.specs.declared.faults.Count.{Count}
use Rattle.ca_grammar.specs.Limits.{Rule, Limit, Limits, no_rules, only, order, the_limits, within, Firm}
use Rattle.ca_grammar.specs.Goals.{Goal, Tree}
use Rattle.ca_grammar.specs.Plan.{Plan}
use Rattle.ca_grammar.specs.Reads.{first_exceeded, or_else, exceeded, Outcome, Yes, No, Reads, gives, takes, overs, passes, wants, exceeds, misses, calls, fails}
use Rattle.ca_grammar.proofs.OneOutcome.{why}

-- what is within the ones is within the others
abbrev pub Weaker : Limits → Limits → Type 0
Weaker limits more = (r : Rule) (n : ℕ) → within (limits r) n ≡ true → within (more r) n ≡ true

pub weaker_none : (limits : Limits) → Weaker limits no_rules
weaker_none limits r n h = refl

pub weaker_only : (s : Rule) → Weaker the_limits (only s)
weaker_only s r n h = one_or_none (order r == order s) (the_limits r) h
  where
    one_or_none : (b : Bool) (limit : Option ℕ) → within limit n ≡ true → within (if b then limit else None) n ≡ true
    one_or_none true limit h = h
    one_or_none false limit h = refl

-- the rule that is broken, if one is, is the same in both
abbrev pub Keeps : Limits → Limits → Option Rule → Type 0
Keeps limits more None = Unit {0}
Keeps limits more (Some r) = more r ≡ limits r

chosen : (b d : Bool) (q : Rule) (s t r : Option Rule) → (b ≡ true → d ≡ true) → (r ≡ Some q → d ≡ b) → (s ≡ r → t ≡ r) → (if b then s else Some q) ≡ r → (if d then t else Some q) ≡ r
chosen true true q s t r h i f e = f e
chosen true false q s t r h i f e = absurd (true≢false (sym (h refl)))
chosen false true q s t r h i f e = absurd (true≢false (i (sym e)))
chosen false false q s t r h i f e = e

keeps_at : (limits more : Limits) (q : Rule) (r : Option Rule) (n : ℕ) → Keeps limits more r → r ≡ Some q → within (more q) n ≡ within (limits q) n
keeps_at limits more q r n k e = ap (λ m. within m n) (subst (λ x. Keeps limits more x) e k)

first_more : (limits more : Limits) → Weaker limits more → (cs : List Count) (r : Option Rule) → Keeps limits more r → first_exceeded limits cs ≡ r → first_exceeded more cs ≡ r
first_more limits more w [] r k e = e
first_more limits more w (c ∷ cs) r k e =
    chosen (within (limits (Limit c.of)) c.number) (within (more (Limit c.of)) c.number) (Limit c.of) (first_exceeded limits cs) (first_exceeded more cs) r
    (w (Limit c.of) c.number) (keeps_at limits more (Limit c.of) r c.number k) (first_more limits more w cs r k) e

-- a step breaks the same rule, or none
pub exceeded_more : (limits more : Limits) → Weaker limits more → (cs : List Count) (firm : Option Firm) (r : Option Rule) → Keeps limits more r → exceeded limits cs firm ≡ r → exceeded more cs firm ≡ r
exceeded_more limits more w cs None r k e = first_more limits more w cs r k e
exceeded_more limits more w cs (Some f) r k e =
    chooses _ (first_exceeded more cs)
    ∙ chosen (within (limits f.0) f.1) (within (more f.0) f.1) f.0 (first_exceeded limits cs) (first_exceeded more cs) r
    (w f.0 f.1) (keeps_at limits more f.0 r f.1 k) (first_more limits more w cs r k) (sym (chooses _ (first_exceeded limits cs)) ∙ e)
  where
    chooses : (b : Bool) (s : Option Rule) → or_else (if b then None else Some f.0) s ≡ (if b then s else Some f.0)
    chooses true s = refl
    chooses false s = refl

-- what comes to an outcome comes to it under weaker limits, where the rule that is broken stays
weaker : {limits more : Limits} {g : Goal} {f : Plan g} {ts : List Token} {o : Outcome g} → Weaker limits more → Keeps limits more (why o) → Reads limits g f ts o → Reads more g f ts o
weaker w k gives = gives
weaker w k (takes {firm = firm} {counts = counts} {x = x} t e d) = takes t (exceeded_more _ _ w (counts x) firm None tt e) (weaker w k d)
weaker w k (overs {firm = firm} {counts = counts} {x = x} {r = r} t e) = overs t (exceeded_more _ _ w (counts x) firm (Some r) k e)
weaker w k (passes l d) = passes l (weaker w k d)
weaker w k (wants {counts = counts} {x = x} t e d) = wants t (exceeded_more _ _ w (counts x) None None tt e) (weaker w k d)
weaker w k (exceeds {counts = counts} {x = x} {r = r} t e) = exceeds t (exceeded_more _ _ w (counts x) None (Some r) k e)
weaker w k (misses l) = misses l
weaker w k (calls d c) = calls (weaker w tt d) (weaker w k c)
weaker w k (fails d) = fails (weaker w k d)

pub weaker_yes : {limits more : Limits} {g : Goal} {f : Plan g} {a : Tree g} {ts us : List Token} → Weaker limits more → Reads limits g f ts (Yes a us) → Reads more g f ts (Yes a us)
weaker_yes w d = weaker w tt d

pub weaker_misses : {limits more : Limits} {g : Goal} {f : Plan g} {ts us : List Token} → Weaker limits more → Reads limits g f ts (No None us) → Reads more g f ts (No None us)
weaker_misses w d = weaker w tt d

pub weaker_breaks : {limits more : Limits} {g : Goal} {f : Plan g} {r : Rule} {ts us : List Token} → Weaker limits more → more r ≡ limits r → Reads limits g f ts (No (Some r) us) → Reads more g f ts (No (Some r) us)
weaker_breaks w h d = weaker w h d

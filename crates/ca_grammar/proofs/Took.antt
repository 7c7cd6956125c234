-- What was read is spelled so.
use Rattle.std.proofs.Common.{◌≡◌, ℕ, Bool, true, false, ◌||◌, nat_lt, List, [], ◌∷◌, ◌++◌, length, Option, Some, None, if◌then◌else◌, refl, sym, ap, subst, ◌∙◌, append_assoc}
use Rattle.std.proofs.lemmas.List.Elements.{All-nil, All-cons}
use Rattle.ca_tree.specs.declared.text.Pos.{Pos}
use Rattle.ca_tree.specs.declared.token.Token.{Token}
use Rattle.ca_tree.specs.Lexed.{token}
use Rattle.ca_grammar.specs.declared.faults.Count.{Count}
use Rattle.ca_tree.specs.declared.counted.Counted.{Counted}
use Rattle.ca_grammar.specs.Words.{Class, Of, Takes}
use Rattle.ca_grammar.specs.Limits.{Rule, Limit, Limits, within, kept, Firm}
use Rattle.ca_grammar.specs.Goals.{Goal, Tree}
use Rattle.ca_grammar.specs.Plan.{Plan, take, want, call}
use Rattle.ca_grammar.specs.Reads.{plan, first_exceeded, firm_exceeded, or_else, exceeded, Outcome, Yes, No, Reads, gives, takes, passes, wants, calls}
use Rattle.ca_grammar.proofs.Loose.{Counts, Shallow, Roomy, Spelled, Loose, l_give, l_take, l_pass, l_want, l_call}
use Rattle.ca_grammar.proofs.LocalReading.{with_behind}

nothing_else : (r s : Option Rule) → or_else r s ≡ None → (r ≡ None) × (s ≡ None)
nothing_else None s h = (refl, h)
nothing_else (Some r) s h = absurd cc

nothing_chosen : (b : Bool) (r : Rule) (s : Option Rule) → (if b then s else Some r) ≡ None → (b ≡ true) × (s ≡ None)
nothing_chosen true r s h = (refl, h)
nothing_chosen false r s h = absurd cc

kept_at : (limits : Limits) (k : ℕ) (of : Counted) (n : ℕ) (ts : List Token) → within (limits (Limit of)) n ≡ true → kept limits k (Limit of) n ts ≡ true
kept_at limits k of n ts h = either (nat_lt (length ts) k) h
  where
    either : (a : Bool) {b : Bool} → b ≡ true → (a || b) ≡ true
    either true h = refl
    either false h = h

-- where no rule is broken all is allowed
pub counts_of : (limits : Limits) (k : ℕ) (cs : List Count) (ts : List Token) → first_exceeded limits cs ≡ None → Counts limits k cs ts
counts_of limits k [] ts h = All-nil _
counts_of limits k (c ∷ cs) ts h = let i = nothing_chosen _ _ _ h in All-cons (λ x. kept limits k (Limit x.of) x.number ts ≡ true) c cs (kept_at limits k c.of c.number ts i.0) (counts_of limits k cs ts i.1)

pub shallow_of : (limits : Limits) (firm : Option Firm) → firm_exceeded limits firm ≡ None → Shallow limits firm
shallow_of limits None h = tt
shallow_of limits (Some n) h = (nothing_chosen _ _ _ h).0

pub allowed_counts : (limits : Limits) (k : ℕ) (cs : List Count) (firm : Option Firm) (ts : List Token) → exceeded limits cs firm ≡ None → Counts limits k cs ts
allowed_counts limits k cs firm ts h = counts_of limits k cs ts (nothing_else _ _ h).1

pub allowed_deep : (limits : Limits) (cs : List Count) (firm : Option Firm) → exceeded limits cs firm ≡ None → Shallow limits firm
allowed_deep limits cs firm h = shallow_of limits firm (nothing_else _ _ h).0

-- the step over a token that breaks no rule, whatever follows
pub loose_take : {limits : Limits} {k : ℕ} {g : Goal} {c : Class} {firm : Option Firm} {counts : Of c → List Count} {on : Pos → Of c → Plan g} {otherwise : Plan g} {p : Pos} {x : Of c} {a : Tree g} {ts us vs ws : List Token}
    (t : Takes c ts p x us) → exceeded limits (counts x) firm ≡ None → Loose limits k g (on p x) a vs ws → Loose limits k g (take c firm counts on otherwise) a (token p t.first ∷ vs) ws
loose_take {limits} {k} {firm = firm} {counts = counts} {p = p} {x = x} {vs = vs} t e d =
    l_take (with_behind t vs) (allowed_counts limits k (counts x) firm (token p t.first ∷ vs) e) (allowed_deep limits (counts x) firm e) d

pub loose_want : {limits : Limits} {k : ℕ} {g : Goal} {c : Class} {counts : Of c → List Count} {on : Pos → Of c → Plan g} {p : Pos} {x : Of c} {a : Tree g} {ts us vs ws : List Token}
    (t : Takes c ts p x us) → exceeded limits (counts x) None ≡ None → Loose limits k g (on p x) a vs ws → Loose limits k g (want c counts on) a (token p t.first ∷ vs) ws
loose_want {limits} {k} {counts = counts} {p = p} {x = x} {vs = vs} t e d = l_want (with_behind t vs) (allowed_counts limits k (counts x) None (token p t.first ∷ vs) e) d

-- What is read is spelled by the tokens that it took, whatever follows them.
pub record Took (limits : Limits) (g : Goal) (f : Plan g) (ts : List Token) (a : Tree g) (us : List Token) : Type 0 where
  pub front : List Token
  pub parts : ts ≡ front ++ us
  pub loose : (k : ℕ) (vs : List Token) → Loose limits k g f a (front ++ vs) vs

abbrev pub TookIf : (limits : Limits) (g : Goal) → Plan g → List Token → Outcome g → Type 0
TookIf limits g f ts (Yes a us) = Took limits g f ts a us
TookIf limits g f ts (No r us) = Unit {0}

-- what may be read is spelled so
abbrev pub Back : Type 0
Back = (limits : Limits) (k : ℕ) (g : Goal) (a : Tree g) (ts us : List Token) → Roomy limits g → Loose limits k g (plan g) a ts us → Spelled limits k g a ts us

module _ (back : Back) where
  took_if : {limits : Limits} {g : Goal} {f : Plan g} {ts : List Token} (o : Outcome g) → Reads limits g f ts o → TookIf limits g f ts o
  took_if _ gives = record { front = []; parts = refl; loose = λ k vs. l_give refl }
  took_if (Yes a us) (takes {p = p} t e d) =
      let l = took_if (Yes a us) d in
      record { front = token p t.first ∷ l.front; parts = t.parts ∙ ap (λ (w : List Token). token p t.first ∷ w) l.parts; loose = λ k vs. loose_take t e (l.loose k vs) }
  took_if (Yes a us) (passes m d) = let l = took_if (Yes a us) d in record { front = l.front; parts = l.parts; loose = λ k vs. l_pass (l.loose k vs) }
  took_if (Yes a us) (wants {p = p} t e d) =
      let l = took_if (Yes a us) d in
      record { front = token p t.first ∷ l.front; parts = t.parts ∙ ap (λ (w : List Token). token p t.first ∷ w) l.parts; loose = λ k vs. loose_want t e (l.loose k vs) }
  took_if {limits} (Yes a vs) (calls {g} {q} {on} {a = b} {us = us} d c) =
      let l = took_if (Yes b us) d in
      let m = took_if (Yes a vs) c in
      record {
        front = l.front ++ m.front;
        parts = l.parts ∙ ap (λ (w : List Token). l.front ++ w) m.parts ∙ sym (append_assoc l.front m.front vs);
        loose = λ k ws. subst (λ w. Loose limits k g (call q on) a w ws) (sym (append_assoc l.front m.front ws)) (l_call b (λ r. back limits k q b _ _ r (l.loose k (m.front ++ ws))) (m.loose k ws));
      }
  took_if (No r us) d = tt

  pub took : {limits : Limits} {g : Goal} {f : Plan g} {a : Tree g} {ts us : List Token} → Reads limits g f ts (Yes a us) → Took limits g f ts a us
  took d = took_if _ d

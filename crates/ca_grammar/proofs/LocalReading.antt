-- What is read depends on the tokens up to the first that is left.
use Rattle.std.proofs.Common.{◌≡◌, List, [], ◌∷◌, ◌++◌, Option, Some, None, refl, sym, ap, subst, ◌∙◌, append_assoc}
use Rattle.ca_tree.specs.declared.text.Pos.{Pos}
use Rattle.ca_tree.specs.declared.token.Token.{Token}
use Rattle.ca_tree.specs.Lexed.{token}
use Rattle.ca_grammar.specs.Words.{Class, Of, Takes, Lacks}
use Rattle.ca_grammar.specs.Limits.{Limits}
use Rattle.ca_grammar.specs.Faults.{first}
use Rattle.ca_grammar.specs.Goals.{Goal}
use Rattle.ca_grammar.specs.Plan.{Plan, call}
use Rattle.ca_grammar.specs.Reads.{Outcome, Yes, No, Reads, gives, takes, overs, passes, wants, exceeds, misses, calls, fails}
use Rattle.ca_grammar.proofs.OneOutcome.{rest}

abbrev pub with_rest : {g : Goal} → Outcome g → List Token → Outcome g
with_rest (Yes a us) vs = Yes a vs
with_rest (No r us) vs = No r vs

-- What is read doesn't depend on what comes behind the first token that is left.
pub record Local (limits : Limits) (g : Goal) (f : Plan g) (ts : List Token) (o : Outcome g) : Type 0 where
  pub front : List Token
  pub parts : ts ≡ front ++ rest o
  pub same : (vs : List Token) → first vs ≡ first (rest o) → Reads limits g f (front ++ vs) (with_rest o vs)

pub first_append : (front us vs : List Token) → first vs ≡ first us → first (front ++ vs) ≡ first (front ++ us)
first_append [] us vs h = h
first_append (u ∷ front) us vs h = refl

abbrev pub behind : List Token → List Token
behind [] = []
behind (u ∷ us) = us

-- whether a class is met is told by the first token
pub takes_as : {c : Class} {p : Pos} {x : Of c} {ts us : List Token} (vs : List Token) → first vs ≡ first ts → Takes c ts p x us → Takes c vs p x (behind vs)
takes_as [] h t = absurd (none_first (h ∙ ap first t.parts))
  where
    none_first : {u : Token} → ◌≡◌ {A = Option Token} None (Some u) → ⊥
    none_first h = absurd cc
takes_as {p = p} {us = us} (v ∷ vs) h t =
    let e : ◌≡◌ {A = Option Token} (Some v) (Some (token p t.first)) = h ∙ ap first t.parts in
    let i : v ≡ token p t.first = cc in
    record { first = t.first; parts = ap (λ w. w ∷ vs) i; fits = t.fits }

lacks_as : {c : Class} {ts : List Token} (vs : List Token) → first vs ≡ first ts → Lacks c ts → Lacks c vs
lacks_as {ts = ts} vs h l p x us t = l p x (behind ts) (takes_as ts (sym h) t)

-- the token that was taken, with others behind it
pub with_behind : {c : Class} {p : Pos} {x : Of c} {ts us : List Token} (t : Takes c ts p x us) (vs : List Token) → Takes c (token p t.first ∷ vs) p x vs
with_behind t vs = record { first = t.first; parts = refl; fits = t.fits }

pub local : {limits : Limits} {g : Goal} {f : Plan g} {ts : List Token} {o : Outcome g} → Reads limits g f ts o → Local limits g f ts o
local gives = record { front = []; parts = refl; same = λ vs h. gives }
local (takes {p = p} t e d) =
    let l = local d in
    record { front = token p t.first ∷ l.front; parts = t.parts ∙ ap (λ (x : List Token). token p t.first ∷ x) l.parts; same = λ vs h. takes (with_behind t (l.front ++ vs)) e (l.same vs h) }
local (overs t e) = record { front = []; parts = refl; same = λ vs h. overs (takes_as vs h t) e }
local (passes {ts = ts} {o = o} m d) =
    let l = local d in
    record { front = l.front; parts = l.parts; same = λ vs h. passes (lacks_as (l.front ++ vs) (first_append l.front (rest o) vs h ∙ sym (ap first l.parts)) m) (l.same vs h) }
local (wants {p = p} t e d) =
    let l = local d in
    record { front = token p t.first ∷ l.front; parts = t.parts ∙ ap (λ (x : List Token). token p t.first ∷ x) l.parts; same = λ vs h. wants (with_behind t (l.front ++ vs)) e (l.same vs h) }
local (exceeds t e) = record { front = []; parts = refl; same = λ vs h. exceeds (takes_as vs h t) e }
local (misses m) = record { front = []; parts = refl; same = λ vs h. misses (lacks_as vs h m) }
local {limits} (calls {g} {q} {on} {o = o} d c) =
    let a = local d in
    let b = local c in
    record {
      front = a.front ++ b.front;
      parts = a.parts ∙ ap (λ (x : List Token). a.front ++ x) b.parts ∙ sym (append_assoc a.front b.front (rest o));
      same = λ vs h. subst (λ x. Reads limits g (call q on) x (with_rest o vs)) (sym (append_assoc a.front b.front vs))
          (calls (a.same (b.front ++ vs) (first_append b.front (rest o) vs h ∙ sym (ap first b.parts))) (b.same vs h));
    }
local (fails d) = let l = local d in record { front = l.front; parts = l.parts; same = λ vs h. fails (l.same vs h) }

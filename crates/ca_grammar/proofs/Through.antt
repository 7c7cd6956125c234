-- The text goes on with the token at which a rule was broken, where that rule isn't asked for.
use Rattle.std.proofs.Common.{◌≡◌, ℕ, ◌<◌, ◌≤◌, List, [], ◌∷◌, ◌++◌, length, Option, Some, None, refl, sym, ap, subst, ◌∙◌, append_assoc, length-append, arith}
use Rattle.ca_tree.specs.declared.token.Token.{Token}
use Rattle.ca_tree.specs.Lexed.{token}
use Rattle.ca_grammar.specs.declared.faults.Count.{Count}
use Rattle.ca_grammar.specs.Words.{Class}
use Rattle.ca_grammar.specs.Limits.{Rule, Limits, Firm}
use Rattle.ca_grammar.specs.Faults.{first}
use Rattle.ca_grammar.specs.Goals.{Goal, Tree}
use Rattle.ca_grammar.specs.Plan.{Plan, call}
use Rattle.ca_grammar.specs.Reads.{exceeded, No, Reads, takes, overs, passes, wants, exceeds, calls, fails}
use Rattle.ca_grammar.proofs.Loose.{Loose, l_take, l_pass, l_want, l_call}
use Rattle.ca_grammar.proofs.LocalReading.{with_behind}
use Rattle.ca_grammar.proofs.Took.{Back, took, loose_take, loose_want, allowed_counts, allowed_deep}
use Rattle.ca_grammar.proofs.WeakerLimits.{Weaker, weaker_yes, exceeded_more}
use Rattle.ca_grammar.proofs.Open.{Samples, completed}
use Rattle.ca_grammar.proofs.Steps.{IsWord, Tidy, Steps, steps}

-- a step that breaks the rule r breaks none of the weaker limits
abbrev pub Spares : (limits weak : Limits) (r : Rule) → Class → List Count → Option Firm → Type 0
Spares limits weak r c cs firm = exceeded limits cs firm ≡ Some r → exceeded weak cs firm ≡ None

-- what was read begins a spelling that goes on with the very token at which a rule was broken
pub record OpensThrough (limits : Limits) (g : Goal) (f : Plan g) (ts us : List Token) : Type 0 where
  pub front : List Token
  pub parts : ts ≡ front ++ us
  pub tree : Tree g
  pub more : List Token
  pub loose : (k : ℕ) (vs : List Token) → length (more ++ vs) ≤ k → Loose limits k g f tree (front ++ (more ++ vs)) vs
  pub next : (vs : List Token) → first (more ++ vs) ≡ first us
  pub some : 0 < length more

-- lists joined in another way
rejoined : (ms ns vs : List Token) (k : ℕ) → length ((ms ++ ns) ++ vs) ≤ k → 0 < length ms → (length (ms ++ (ns ++ vs)) ≤ k) × (length (ns ++ vs) < k)
rejoined ms ns vs k h some =
    let i : length (ms ++ (ns ++ vs)) ≤ k = subst (λ w. length w ≤ k) (append_assoc ms ns vs) h in
    (i, omega (arith, i, some, length-append ms (ns ++ vs)))

module _ (back : Back) (sample : Samples) (limits weak : Limits) (r : Rule) (each : (c : Class) (cs : List Count) (firm : Option Firm) → IsWord c → Tidy firm cs → Spares limits weak r c cs firm) where
  pub opens_through : {g : Goal} {f : Plan g} {ts us : List Token} → Weaker limits weak → Reads limits g f ts (No (Some r) us) → Steps (Spares limits weak r) f → OpensThrough weak g f ts us
  opens_through w (takes {firm = firm} {counts = counts} {p = p} {x = x} t e d) s =
      let o = opens_through w d (s.1 p x) in
      record {
        front = token p t.first ∷ o.front;
        parts = t.parts ∙ ap (λ (v : List Token). token p t.first ∷ v) o.parts;
        tree = o.tree;
        more = o.more;
        loose = λ k vs i. loose_take t (exceeded_more _ _ w (counts x) firm None tt e) (o.loose k vs i);
        next = o.next;
        some = o.some;
      }
  opens_through w (overs {firm = firm} {counts = counts} {on = on} {p = p} {x = x} t e) s =
      let m = completed sample (Spares limits weak r) weak (on p x) (s.1 p x) in
      let u = token p t.first in
      record {
        front = [];
        parts = refl;
        tree = m.tree;
        more = u ∷ m.more;
        loose = λ k vs i. l_take (with_behind t (m.more ++ vs)) (allowed_counts weak k (counts x) firm (u ∷ (m.more ++ vs)) (s.0.holds x e)) (allowed_deep weak (counts x) firm (s.0.holds x e)) (m.loose k vs (omega (arith, i)));
        next = λ vs. sym (ap first t.parts);
        some = omega arith;
      }
  opens_through w (passes m d) s =
      let o = opens_through w d s.2 in
      record { front = o.front; parts = o.parts; tree = o.tree; more = o.more; loose = λ k vs i. l_pass (o.loose k vs i); next = o.next; some = o.some }
  opens_through w (wants {counts = counts} {p = p} {x = x} t e d) s =
      let o = opens_through w d (s.2 p x) in
      record {
        front = token p t.first ∷ o.front;
        parts = t.parts ∙ ap (λ (v : List Token). token p t.first ∷ v) o.parts;
        tree = o.tree;
        more = o.more;
        loose = λ k vs i. loose_want t (exceeded_more _ _ w (counts x) None None tt e) (o.loose k vs i);
        next = o.next;
        some = o.some;
      }
  opens_through w (exceeds {counts = counts} {on = on} {p = p} {x = x} t e) s =
      let m = completed sample (Spares limits weak r) weak (on p x) (s.2 p x) in
      let u = token p t.first in
      record {
        front = [];
        parts = refl;
        tree = m.tree;
        more = u ∷ m.more;
        loose = λ k vs i. l_want (with_behind t (m.more ++ vs)) (allowed_counts weak k (counts x) None (u ∷ (m.more ++ vs)) (s.0.holds x e)) (m.loose k vs (omega (arith, i)));
        next = λ vs. sym (ap first t.parts);
        some = omega arith;
      }
  opens_through {us = vs} w (calls {g} {q} {on} {a = b} d c) s =
      let l = took back (weaker_yes w d) in
      let o = opens_through w c (s.1 b) in
      record {
        front = l.front ++ o.front;
        parts = l.parts ∙ ap (λ (v : List Token). l.front ++ v) o.parts ∙ sym (append_assoc l.front o.front vs);
        tree = o.tree;
        more = o.more;
        loose = λ k ws i. subst (λ v. Loose weak k g (call q on) o.tree v ws) (sym (append_assoc l.front o.front (o.more ++ ws)))
            (l_call b (λ r. back weak k q b _ _ r (l.loose k (o.front ++ (o.more ++ ws)))) (o.loose k ws i));
        next = o.next;
        some = o.some;
      }
  opens_through w (fails {g} {q} {on} d) s =
      let o = opens_through w d (steps (Spares limits weak r) each q s.0) in
      let m = completed sample (Spares limits weak r) weak (on o.tree) (s.1 o.tree) in
      record {
        front = o.front;
        parts = o.parts;
        tree = m.tree;
        more = o.more ++ m.more;
        loose = λ k vs i. let j = rejoined o.more m.more vs k i o.some in subst (λ v. Loose weak k g (call q on) m.tree (o.front ++ v) vs) (sym (append_assoc o.more m.more vs))
            (l_call o.tree (λ r. back weak k q o.tree _ _ r (o.loose k (m.more ++ vs) j.0)) (m.loose k vs j.1));
        next = λ vs. ap first (append_assoc o.more m.more vs) ∙ o.next (m.more ++ vs);
        some = omega (arith, o.some, length-append o.more m.more);
      }

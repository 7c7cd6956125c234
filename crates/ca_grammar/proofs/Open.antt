-- What was read before a fault can be completed.
use Rattle.std.proofs.Common.{◌≡◌, ℕ, pos, ◌<◌, false, List, [], ◌∷◌, ◌++◌, length, Option, refl, sym, ap, subst, ◌∙◌, append_assoc, length-append, codes, arith}
use Rattle.ca_tree.specs.declared.text.Pos.{Pos}
use Rattle.ca_tree.specs.declared.token.Token.{Token}
use Rattle.ca_tree.specs.declared.token.Word.{Word}
use Rattle.ca_tree.specs.declared.token.Word.TheVariants as word
use Rattle.ca_tree.specs.declared.token.Mark.TheVariants as mark
use Rattle.ca_tree.specs.declared.tree.UnaryOp.TheVariants.{Negate}
use Rattle.ca_tree.specs.declared.tree.UpdateOp.TheVariants as update
use Rattle.ca_tree.specs.Lexed.{token}
use Rattle.ca_tree.specs.Names.{is_reserved, is_left_out, is_library_word}
use Rattle.ca_grammar.specs.declared.faults.Count.{Count}
use Rattle.ca_grammar.specs.Words.{Class, The_mark, The_word, A_number, A_string, A_name, A_name_of_the_source, A_unary_operator, A_binary_operator, An_update_operator, A_step_operator, The_end, Of, Is}
use Rattle.ca_grammar.specs.Limits.{Rule, Limits, Firm}
use Rattle.ca_grammar.specs.Goals.{Goal, Tree}
use Rattle.ca_grammar.specs.Plan.{Plan, give, take, want, call}
use Rattle.ca_grammar.specs.Reads.{No, Reads, takes, overs, passes, wants, exceeds, misses, calls, fails}
use Rattle.ca_grammar.proofs.Combinators.{counts_past}
use Rattle.ca_grammar.proofs.Loose.{Loose, l_give, l_pass, l_want, l_call, Sample}
use Rattle.ca_grammar.proofs.Steps.{CanBeWanted, IsWord, Tidy, Steps, steps}
use Rattle.ca_grammar.proofs.Took.{Back, took, loose_take, loose_want}

-- a word of a class
pub record WordOf (c : Class) : Type 0 where
  pub word_of : Word
  pub what : Of c
  pub fits : Is c word_of what

not_reserved : is_reserved (codes "x") ≡ false
unfolding is_reserved is_left_out
not_reserved = refl

not_library : is_library_word (codes "x") ≡ false
unfolding is_library_word
not_library = refl

pub a_word_of : (c : Class) → CanBeWanted c → WordOf c
a_word_of (The_mark m) h = record { word_of = word.Mark m; what = tt; fits = refl }
a_word_of (The_word t) h = record { word_of = word.Name t; what = tt; fits = refl }
a_word_of A_number h = record { word_of = word.Number (pos 0); what = pos 0; fits = (refl, refl) }
a_word_of A_string h = record { word_of = word.Str []; what = []; fits = refl }
a_word_of A_name h = record { word_of = word.Name (codes "x"); what = codes "x"; fits = (refl, not_reserved) }
a_word_of A_name_of_the_source h = record { word_of = word.Name (codes "x"); what = codes "x"; fits = (refl, not_reserved, not_library) }
a_word_of A_unary_operator h = record { word_of = word.Mark mark.Minus; what = Negate; fits = refl }
a_word_of (A_binary_operator l) h = absurd h
a_word_of An_update_operator h = record { word_of = word.Mark mark.PlusAssign; what = update.Add; fits = refl }
a_word_of A_step_operator h = record { word_of = word.Mark mark.Increment; what = update.Add; fits = refl }
a_word_of The_end h = record { word_of = word.End; what = tt; fits = refl }

pub record Completed (limits : Limits) (g : Goal) (f : Plan g) : Type 0 where
  pub tree : Tree g
  pub more : List Token
  pub loose : (k : ℕ) (vs : List Token) → length (more ++ vs) < k → Loose limits k g f tree (more ++ vs) vs

-- what stands before the fault is the front of a spelling
pub record Opens (limits : Limits) (g : Goal) (f : Plan g) (ts us : List Token) : Type 0 where
  pub front : List Token
  pub parts : ts ≡ front ++ us
  pub tree : Tree g
  pub more : List Token
  pub loose : (k : ℕ) (vs : List Token) → length (more ++ vs) < k → Loose limits k g f tree (front ++ (more ++ vs)) vs

-- a place for a token that stands nowhere
somewhere : Pos
somewhere = record { line = 1; column = 1 }

parts_of : (ms ns vs : List Token) (k : ℕ) → length ((ms ++ ns) ++ vs) < k → (length (ms ++ (ns ++ vs)) < k) × (length (ns ++ vs) < k)
parts_of ms ns vs k h =
    let i : length (ms ++ (ns ++ vs)) < k = subst (λ w. length w < k) (append_assoc ms ns vs) h in
    (i, omega (arith, i, length-append ms (ns ++ vs)))

-- what was read before the fault, where nothing was
at_once : {limits : Limits} {g : Goal} {f : Plan g} (us : List Token) → Completed limits g f → Opens limits g f us us
at_once us m = record { front = []; parts = refl; tree = m.tree; more = m.more; loose = m.loose }

-- what may be there has a sample
abbrev pub Samples : Type 0
Samples = (limits : Limits) (g : Goal) → Sample limits g

module _ (sample : Samples) where
  pub completed : (S : Class → List Count → Option Firm → Type 0) (limits : Limits) {g : Goal} (f : Plan g) → Steps S f → Completed limits g f
  completed S limits (give a) h = record { tree = a; more = []; loose = λ k vs i. l_give refl }
  completed S limits (take c firm counts on otherwise) h = let m = completed S limits otherwise h.2 in record { tree = m.tree; more = m.more; loose = λ k vs i. l_pass (m.loose k vs i) }
  completed S limits (want c counts on) h =
      let w = a_word_of c h.1 in
      let m = completed S limits (on somewhere w.what) (h.2 somewhere w.what) in
      let u = token somewhere w.word_of in
      record {
        tree = m.tree;
        more = u ∷ m.more;
        loose = λ k vs i. l_want (record { first = w.word_of; parts = refl; fits = w.fits }) (counts_past limits k (counts w.what) (u ∷ (m.more ++ vs)) i) (m.loose k vs (omega (arith, i)));
      }
  completed S limits {g} (call q on) h =
      let s = sample limits q in
      let m = completed S limits (on s.tree) (h.1 s.tree) in
      record {
        tree = m.tree;
        more = s.more ++ m.more;
        loose = λ k vs i. let j = parts_of s.more m.more vs k i in subst (λ w. Loose limits k g (call q on) m.tree w vs) (sym (append_assoc s.more m.more vs)) (l_call s.tree (s.spells k (m.more ++ vs) j.0) (m.loose k vs j.1));
      }

module _ (back : Back) (sample : Samples) (S : Class → List Count → Option Firm → Type 0) (each : (c : Class) (cs : List Count) (firm : Option Firm) → IsWord c → Tidy firm cs → S c cs firm) where
  pub opens : {limits : Limits} {g : Goal} {f : Plan g} {r : Option Rule} {ts us : List Token} → Reads limits g f ts (No r us) → Steps S f → Opens limits g f ts us
  opens (takes {p = p} {x = x} t e d) h =
      let o = opens d (h.1 p x) in
      record { front = token p t.first ∷ o.front; parts = t.parts ∙ ap (λ (w : List Token). token p t.first ∷ w) o.parts; tree = o.tree; more = o.more; loose = λ k vs i. loose_take t e (o.loose k vs i) }
  opens {limits} {us = us} (overs {c = c} {firm = firm} {counts = counts} {on = on} {otherwise = otherwise} t e) h = at_once us (completed sample S limits (take c firm counts on otherwise) h)
  opens (passes m d) h = let o = opens d h.2 in record { front = o.front; parts = o.parts; tree = o.tree; more = o.more; loose = λ k vs i. l_pass (o.loose k vs i) }
  opens (wants {p = p} {x = x} t e d) h =
      let o = opens d (h.2 p x) in
      record { front = token p t.first ∷ o.front; parts = t.parts ∙ ap (λ (w : List Token). token p t.first ∷ w) o.parts; tree = o.tree; more = o.more; loose = λ k vs i. loose_want t e (o.loose k vs i) }
  opens {limits} {us = us} (exceeds {c = c} {counts = counts} {on = on} t e) h = at_once us (completed sample S limits (want c counts on) h)
  opens {limits} {us = us} (misses {c = c} {counts = counts} {on = on} m) h = at_once us (completed sample S limits (want c counts on) h)
  opens {limits} {us = vs} (calls {g} {q} {on} {a = b} d c) h =
      let l = took back d in
      let o = opens c (h.1 b) in
      record {
        front = l.front ++ o.front;
        parts = l.parts ∙ ap (λ (w : List Token). l.front ++ w) o.parts ∙ sym (append_assoc l.front o.front vs);
        tree = o.tree;
        more = o.more;
        loose = λ k ws i. subst (λ w. Loose limits k g (call q on) o.tree w ws) (sym (append_assoc l.front o.front (o.more ++ ws)))
            (l_call b (λ r. back limits k q b _ _ r (l.loose k (o.front ++ (o.more ++ ws)))) (o.loose k ws i));
      }
  opens {limits} (fails {g} {q} {on} d) h =
      let o = opens d (steps S each q h.0) in
      let m = completed sample S limits (on o.tree) (h.1 o.tree) in
      record {
        front = o.front;
        parts = o.parts;
        tree = m.tree;
        more = o.more ++ m.more;
        loose = λ k vs i. let j = parts_of o.more m.more vs k i in subst (λ w. Loose limits k g (call q on) m.tree (o.front ++ w) vs) (sym (append_assoc o.more m.more vs))
            (l_call o.tree (λ r. back limits k q o.tree _ _ r (o.loose k (m.more ++ vs) j.0)) (m.loose k vs j.1));
      }

-- The end of tokens is neither passed nor left behind.
use Rattle.std.proofs.Common.{◌≡◌, List, [], ◌∷◌, Option, refl, subst}
use Rattle.ca_tree.specs.declared.text.Pos.{Pos}
use Rattle.ca_tree.specs.declared.token.Token.{Token}
use Rattle.ca_tree.specs.declared.token.Word.TheVariants as word
use Rattle.ca_tree.specs.Lexed.{token}
use Rattle.ca_grammar.specs.declared.faults.Count.{Count}
use Rattle.ca_grammar.specs.Words.{Class, The_mark, The_word, A_number, A_string, A_name, A_name_of_the_source, A_unary_operator, A_binary_operator, An_update_operator, A_step_operator, The_end, Of, Is, Takes}
use Rattle.ca_grammar.specs.Limits.{Limits, Firm}
use Rattle.ca_grammar.specs.Texts.{EndsOnce}
use Rattle.ca_grammar.specs.Goals.{Goal, Whole, A_program, Tree}
use Rattle.ca_grammar.specs.Plan.{no_counts, Plan, give, want, call}
use Rattle.ca_grammar.specs.Reads.{plan, Outcome, Yes, No, Reads, gives, takes, overs, passes, wants, exceeds, misses, calls, fails}
use Rattle.ca_grammar.proofs.OneOutcome.{rest}
use Rattle.ca_grammar.proofs.Steps.{IsWord, Tidy, Fine, Steps, nothing_counted, steps}

not_the_end : (c : Class) (x : Of c) → IsWord c → Is c word.End x → ⊥
not_the_end (The_mark m) x w h = cc
not_the_end (The_word t) x w h = cc
not_the_end A_number x w h = let e = h.0 in cc
not_the_end A_string x w h = cc
not_the_end A_name x w h = let e = h.0 in cc
not_the_end A_name_of_the_source x w h = let e = h.0 in cc
not_the_end A_unary_operator x w h = cc
not_the_end (A_binary_operator l) x w h = let e = h.0 in cc
not_the_end An_update_operator x w h = cc
not_the_end A_step_operator x w h = cc
not_the_end The_end x w h = w

-- behind a token that isn't the end
tail_ends : (u : Token) (us : List Token) → (u.word ≡ word.End → ⊥) → EndsOnce (u ∷ us) → EndsOnce us
tail_ends u [] h e = absurd (h e)
tail_ends u (v ∷ vs) h e = e.1

step_ends : {c : Class} {ts us : List Token} → IsWord c → (p : Pos) (x : Of c) → Takes c ts p x us → EndsOnce ts → EndsOnce us
step_ends {c} {us = us} w p x t e = tail_ends (token p t.first) us (λ h. not_the_end c x w (subst (λ v. Is c v x) h t.fits)) (subst EndsOnce t.parts e)

abbrev OfWords : Class → List Count → Option Firm → Type 0
OfWords c cs firm = IsWord c

each_of_words : (c : Class) (cs : List Count) (firm : Option Firm) → IsWord c → Tidy firm cs → OfWords c cs firm
each_of_words c cs firm w h = w

-- what is left of tokens has their end
keeps_end : {limits : Limits} {g : Goal} {f : Plan g} {ts : List Token} {o : Outcome g} → Reads limits g f ts o → Steps OfWords f → EndsOnce ts → EndsOnce (rest o)
keeps_end gives s e = e
keeps_end (takes {p = p} {x = x} t i d) s e = keeps_end d (s.1 p x) (step_ends (s.0.holds x) p x t e)
keeps_end (overs t i) s e = e
keeps_end (passes m d) s e = keeps_end d s.2 e
keeps_end (wants {p = p} {x = x} t i d) s e = keeps_end d (s.2 p x) (step_ends (s.0.holds x) p x t e)
keeps_end (exceeds t i) s e = e
keeps_end (misses m) s e = e
keeps_end (calls {q = q} {a = b} d c) s e = keeps_end c (s.1 b) (keeps_end d (steps OfWords each_of_words q s.0) e)
keeps_end (fails {q = q} d) s e = keeps_end d (steps OfWords each_of_words q s.0) e

-- nothing stands behind the end
last_end : (us : List Token) (u : Token) → u.word ≡ word.End → EndsOnce (u ∷ us) → us ≡ []
last_end [] u h e = refl
last_end (v ∷ vs) u h e = absurd (e.0 h)

abbrev pub AtEnd : {g : Goal} → Outcome g → Type 0
AtEnd (Yes a us) = us ≡ []
AtEnd (No r us) = EndsOnce us

-- a goal that others call, and then the end
called_ends : {limits : Limits} {g q : Goal} {f : Tree q → Tree g} {ts : List Token} {o : Outcome g} → Fine q → Reads limits g (call q (λ a. want The_end no_counts (λ p x. give (f a)))) ts o → EndsOnce ts → AtEnd o
called_ends {q = q} h (calls d (wants {p = p} {us = us} t i gives)) e = last_end us (token p t.first) t.fits (subst EndsOnce t.parts (keeps_end d (steps OfWords each_of_words q h) e))
called_ends {q = q} h (calls d (exceeds t i)) e = keeps_end d (steps OfWords each_of_words q h) e
called_ends {q = q} h (calls d (misses m)) e = keeps_end d (steps OfWords each_of_words q h) e
called_ends {q = q} h (fails d) e = keeps_end d (steps OfWords each_of_words q h) e

pub whole_ends : {limits : Limits} {ts : List Token} {o : Outcome Whole} → Reads limits Whole (plan Whole) ts o → EndsOnce ts → AtEnd o
whole_ends d e = called_ends nothing_counted d e

pub program_ends : {limits : Limits} {ts : List Token} {o : Outcome A_program} → Reads limits A_program (plan A_program) ts o → EndsOnce ts → AtEnd o
program_ends d e = called_ends tt d e

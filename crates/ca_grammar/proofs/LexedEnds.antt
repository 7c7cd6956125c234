-- The tokens of a text have their end last, and only there.
use Rattle.std.proofs.Common.{◌≡◌, ℕ, Bool, List, [], ◌∷◌, refl}
use Rattle.ca_tree.specs.declared.text.Pos.{Pos}
use Rattle.ca_tree.specs.declared.token.Word.{Word}
use Rattle.ca_tree.specs.declared.token.Word.TheVariants as word
use Rattle.ca_tree.specs.declared.token.Token.{Token}
use Rattle.ca_tree.specs.Tokens.{Form, A_name, A_number, A_string, A_mark}
use Rattle.ca_tree.specs.Lexed.{IsWord, Lexed, ends, skips, takes, HasTokens, token}
use Rattle.ca_grammar.specs.Texts.{EndsOnce}

not_the_end : (f : Form) (rest : List ℕ) (w : Word) → IsWord f rest w → w ≡ word.End → ⊥
not_the_end (A_name t) rest w h e = cc
not_the_end (A_number n) rest w h e = let i = h.2 in cc
not_the_end (A_string t) rest w h e = cc
not_the_end (A_mark m) rest w h e = cc

in_front : (u : Token) (ts : List Token) → (u.word ≡ word.End → ⊥) → EndsOnce ts → EndsOnce (u ∷ ts)
in_front u [] h e = absurd e
in_front u (v ∷ vs) h e = (h, e)

lexed_ends : {fresh : Bool} {p : Pos} {text : List ℕ} {ts : List Token} → Lexed fresh p text ts → EndsOnce ts
lexed_ends (ends fresh p) = refl
lexed_ends (skips fresh p text u rest ts s l) = lexed_ends l
lexed_ends (takes fresh p text u rest w ts t l) = in_front (token p w) ts (not_the_end t.form rest w t.word) (lexed_ends l)

pub ends_once : (text : List ℕ) (ts : List Token) → HasTokens text ts → EndsOnce ts
ends_once text ts h = lexed_ends h.lexed

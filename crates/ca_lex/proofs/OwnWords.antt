-- The words of a text depend neither on where it begins nor on what is skipped in it.
use Rattle.std.proofs.Common.{◌≡◌, ℕ, Bool, false, List, [], ◌∷◌, refl, sym, ap, subst, ◌∙◌}
use Rattle.std.specs.Prelude.{◌↔◌}
use Rattle.ca_tree.specs.declared.text.Pos.{Pos}
use Rattle.ca_tree.specs.declared.token.Word.{Word}
use Rattle.ca_tree.specs.declared.token.Word.TheVariants as word
use Rattle.ca_tree.specs.declared.token.Token.{Token}
use Rattle.ca_tree.specs.Places.{start, after}
use Rattle.ca_tree.specs.Lexed.{fresh_after, IsSkipped, IsToken, token, Lexed, ends, skips, takes}
use Rattle.ca_lex.specs.Words.{words, HasWords}
use Rattle.ca_lex.proofs.OneSkip.{one_skip}
use Rattle.ca_lex.proofs.OneHead.{one_token, no_empty_token, no_empty_skip, no_token}
use Rattle.ca_lex.proofs.OneLexing.{one_lexing}

-- the same words from another place on
moved : (fresh : Bool) (p q : Pos) (text : List ℕ) (ts : List Token) → Lexed fresh p text ts → (us : List Token) × Lexed fresh q text us × (words us ≡ words ts)
moved fresh p q text ts (ends f r) = (token q word.End ∷ [], ends f q, refl)
moved fresh p q text ts (skips f r t u rest vs s l) = let more = moved (fresh_after f u) (after r u) (after q u) rest vs l in (more.0, skips f q t u rest more.0 s more.1, more.2)
moved fresh p q text ts (takes f r t u rest w vs s l) = let more = moved false (after r u) (after q u) rest vs l in (token q w ∷ more.0, takes f q t u rest w more.0 s more.1, ap (λ (ws : List Word). w ∷ ws) more.2)

pub from_any_place : (fresh : Bool) (p : Pos) (text : List ℕ) (ts : List Token) → Lexed fresh p text ts → HasWords fresh text (words ts)
from_any_place fresh p text ts l = λ q. moved fresh p q text ts l

-- with these words
known : (fresh : Bool) (p : Pos) (text : List ℕ) (ts : List Token) (ws : List Word) → Lexed fresh p text ts → words ts ≡ ws → HasWords fresh text ws
known fresh p text ts ws l e = subst (λ (vs : List Word). HasWords fresh text vs) e (from_any_place fresh p text ts l)

pub one_list_of_words : (fresh : Bool) (text : List ℕ) (vs ws : List Word) → HasWords fresh text vs → HasWords fresh text ws → vs ≡ ws
one_list_of_words fresh text vs ws a b =
    let m = a start in
    let n = b start in
    sym m.2 ∙ (ap words (one_lexing fresh start text m.0 n.0 m.1 n.1) ∙ n.2)

-- behind a skipped front

behind_skip : (fresh : Bool) (p : Pos) (text u rest : List ℕ) (ts : List Token) → IsSkipped fresh text u rest → Lexed fresh p text ts → Lexed (fresh_after fresh u) (after p u) rest ts
behind_skip fresh p text u rest ts s (ends f r) = absurd (no_empty_skip f u rest s)
behind_skip fresh p text u rest ts s (skips f r t v more vs s' l) =
    let one = one_skip f t u v rest more s s' in
    subst (λ (x : List ℕ). Lexed (fresh_after f x) (after r x) rest vs) (sym one.0) (subst (λ (x : List ℕ). Lexed (fresh_after f v) (after r v) x vs) (sym one.1) l)
behind_skip fresh p text u rest ts s (takes f r t v more w vs s' l) = absurd (no_token f t w u rest v more s s')

pub words_behind_skip : (fresh : Bool) (text u rest : List ℕ) (ws : List Word) → IsSkipped fresh text u rest → (HasWords fresh text ws ↔ HasWords (fresh_after fresh u) rest ws)
words_behind_skip fresh text u rest ws s = (
  λ h. let m = h start in known (fresh_after fresh u) (after start u) rest m.0 ws (behind_skip fresh start text u rest m.0 s m.1) m.2,
  λ h p. let m = h (after p u) in (m.0, skips fresh p text u rest m.0 s m.1, m.2),
)

-- behind a token

behind_token : (fresh : Bool) (p : Pos) (text u rest : List ℕ) (w : Word) (ws : List Word) (ts : List Token) → IsToken fresh text w u rest → Lexed fresh p text ts → words ts ≡ w ∷ ws → HasWords false rest ws
behind_token fresh p text u rest w ws ts s (ends f r) e = absurd (no_empty_token f w u rest s)
behind_token fresh p text u rest w ws ts s (skips f r t v more vs s' l) e = absurd (no_token f t w v more u rest s' s)
behind_token fresh p text u rest w ws ts s (takes f r t v more w' vs s' l) e =
    let one = one_token f t w w' u v rest more s s' in
    let same : words vs ≡ ws = cc in
    known false (after r v) rest vs ws (subst (λ (x : List ℕ). Lexed false (after r v) x vs) (sym one.2) l) same

pub words_behind_token : (fresh : Bool) (text u rest : List ℕ) (w : Word) (ws : List Word) → IsToken fresh text w u rest → (HasWords fresh text (w ∷ ws) ↔ HasWords false rest ws)
words_behind_token fresh text u rest w ws s = (
  λ h. let m = h start in behind_token fresh start text u rest w ws m.0 s m.1 m.2,
  λ h p. let m = h (after p u) in (token p w ∷ m.0, takes fresh p text u rest w m.0 s m.1, ap (λ (vs : List Word). w ∷ vs) m.2),
)

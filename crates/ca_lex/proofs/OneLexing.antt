-- A text has one list of tokens or one fault, and its words depend on no place.
use Rattle.std.proofs.Common.{arith, ◌≡◌, ◌≤◌, ◌<◌, ℕ, Bool, true, false, List, ◌∷◌, length, refl, sym, ap, subst, ◌∙◌}
use Rattle.std.specs.Prelude.{take}
use Rattle.std.proofs.lemmas.Str.{utf8_valid_len-IsValidUpTo}
use Rattle.ca_tree.specs.declared.text.Pos.{Pos}
use Rattle.ca_tree.specs.declared.token.Word.{Word}
use Rattle.ca_tree.specs.declared.token.Token.{Token}
use Rattle.ca_tree.specs.declared.token.LexKind.TheVariants as kind
use Rattle.ca_tree.specs.declared.token.LexFault.{LexFault}
use Rattle.ca_tree.specs.Places.{start, after}
use Rattle.ca_tree.specs.Lexed.{fresh_after, token, Lexed, ends, skips, takes, Faulted, here, behind_skipped, behind_token, most_bytes, HasTokens, HasFault, too_long, not_utf8, wrong}
use Rattle.ca_lex.proofs.OneSkip.{one_skip}
use Rattle.ca_lex.proofs.OneHead.{fault, one_token, no_empty_token, no_empty_skip, no_token, one_wrong, no_empty_wrong, token_is_right, skip_is_right}

-- from one place on

pub one_lexing : (fresh : Bool) (p : Pos) (text : List ℕ) (ts us : List Token) → Lexed fresh p text ts → Lexed fresh p text us → ts ≡ us
one_lexing fresh p text ts us (ends f q) (ends g r) = refl
one_lexing fresh p text ts us (ends f q) (skips g r t u rest vs s l) = absurd (no_empty_skip g u rest s)
one_lexing fresh p text ts us (ends f q) (takes g r t u rest w vs s l) = absurd (no_empty_token g w u rest s)
one_lexing fresh p text ts us (skips f q t u rest vs s l) (ends g r) = absurd (no_empty_skip f u rest s)
one_lexing fresh p text ts us (skips f q t u rest vs s l) (skips g r t' v more ws s' m) =
    let one = one_skip f t u v rest more s s' in
    one_lexing (fresh_after f u) (after q u) rest vs ws l (subst (λ (x : List ℕ). Lexed (fresh_after f x) (after q x) rest ws) (sym one.0) (subst (λ (x : List ℕ). Lexed (fresh_after f v) (after q v) x ws) (sym one.1) m))
one_lexing fresh p text ts us (skips f q t u rest vs s l) (takes g r t' v more w ws s' m) = absurd (no_token f t w u rest v more s s')
one_lexing fresh p text ts us (takes f q t u rest w vs s l) (ends g r) = absurd (no_empty_token f w u rest s)
one_lexing fresh p text ts us (takes f q t u rest w vs s l) (skips g r t' v more ws s' m) = absurd (no_token f t w v more u rest s' s)
one_lexing fresh p text ts us (takes f q t u rest w vs s l) (takes g r t' v more w' ws s' m) =
    let one = one_token f t w w' u v rest more s s' in
    let same : vs ≡ ws = one_lexing false (after q u) rest vs ws l (subst (λ (x : List ℕ). Lexed false (after q x) rest ws) (sym one.1) (subst (λ (x : List ℕ). Lexed false (after q v) x ws) (sym one.2) m)) in
    ap (λ (x : Word). token q x ∷ vs) one.0 ∙ ap (λ (xs : List Token). token q w' ∷ xs) same

pub one_fault : (fresh : Bool) (p : Pos) (text : List ℕ) (f g : LexFault) → Faulted fresh p text f → Faulted fresh p text g → f ≡ g
one_fault fresh p text f g (here a q t k x) (here b r t' l y) = one_wrong q t k l x y
one_fault fresh p text f g (here a q t k x) (behind_skipped b r t' v more l s n) = absurd (skip_is_right a q t v more k s x)
one_fault fresh p text f g (here a q t k x) (behind_token b r t' v more w l s n) = absurd (token_is_right a q t w v more k s x)
one_fault fresh p text f g (behind_skipped a q t u rest k s m) (here b r t' l y) = absurd (skip_is_right a q t u rest l s y)
one_fault fresh p text f g (behind_skipped a q t u rest k s m) (behind_skipped b r t' v more l s' n) =
    let one = one_skip a t u v rest more s s' in
    one_fault (fresh_after a u) (after q u) rest k l m (subst (λ (x : List ℕ). Faulted (fresh_after a x) (after q x) rest l) (sym one.0) (subst (λ (x : List ℕ). Faulted (fresh_after a v) (after q v) x l) (sym one.1) n))
one_fault fresh p text f g (behind_skipped a q t u rest k s m) (behind_token b r t' v more w l s' n) = absurd (no_token a t w u rest v more s s')
one_fault fresh p text f g (behind_token a q t u rest w k s m) (here b r t' l y) = absurd (token_is_right a q t w u rest l s y)
one_fault fresh p text f g (behind_token a q t u rest w k s m) (behind_skipped b r t' v more l s' n) = absurd (no_token a t w v more u rest s' s)
one_fault fresh p text f g (behind_token a q t u rest w k s m) (behind_token b r t' v more w' l s' n) =
    let one = one_token a t w w' u v rest more s s' in
    one_fault false (after q u) rest k l m (subst (λ (x : List ℕ). Faulted false (after q x) rest l) (sym one.1) (subst (λ (x : List ℕ). Faulted false (after q v) x l) (sym one.2) n))

pub lexed_or_faulted : (fresh : Bool) (p : Pos) (text : List ℕ) (ts : List Token) (g : LexFault) → Lexed fresh p text ts → Faulted fresh p text g → ⊥
lexed_or_faulted fresh p text ts g (ends f q) (here b r t l y) = no_empty_wrong q l y
lexed_or_faulted fresh p text ts g (ends f q) (behind_skipped b r t v more l s n) = no_empty_skip f v more s
lexed_or_faulted fresh p text ts g (ends f q) (behind_token b r t v more w l s n) = no_empty_token f w v more s
lexed_or_faulted fresh p text ts g (skips f q t u rest vs s l) (here b r t' k y) = skip_is_right f q t u rest k s y
lexed_or_faulted fresh p text ts g (skips f q t u rest vs s l) (behind_skipped b r t' v more k s' n) =
    let one = one_skip f t u v rest more s s' in
    lexed_or_faulted (fresh_after f u) (after q u) rest vs k l (subst (λ (x : List ℕ). Faulted (fresh_after f x) (after q x) rest k) (sym one.0) (subst (λ (x : List ℕ). Faulted (fresh_after f v) (after q v) x k) (sym one.1) n))
lexed_or_faulted fresh p text ts g (skips f q t u rest vs s l) (behind_token b r t' v more w k s' n) = no_token f t w u rest v more s s'
lexed_or_faulted fresh p text ts g (takes f q t u rest w vs s l) (here b r t' k y) = token_is_right f q t w u rest k s y
lexed_or_faulted fresh p text ts g (takes f q t u rest w vs s l) (behind_skipped b r t' v more k s' n) = no_token f t w v more u rest s' s
lexed_or_faulted fresh p text ts g (takes f q t u rest w vs s l) (behind_token b r t' v more w' k s' n) =
    let one = one_token f t w w' u v rest more s s' in
    lexed_or_faulted false (after q u) rest vs k l (subst (λ (x : List ℕ). Faulted false (after q x) rest k) (sym one.1) (subst (λ (x : List ℕ). Faulted false (after q v) x k) (sym one.2) n))

-- whole texts

pub one_list : (text : List ℕ) (a b : List Token) → HasTokens text a → HasTokens text b → a ≡ b
one_list text a b s t = one_lexing true start text a b s.lexed t.lexed

too_long_or_not : (text : List ℕ) → most_bytes < length text → length text ≤ most_bytes → ⊥
too_long_or_not text a b = omega arith

pub one_first_fault : (text : List ℕ) (f g : LexFault) → HasFault text f → HasFault text g → f ≡ g
one_first_fault text f g (too_long a) (too_long b) = refl
one_first_fault text f g (too_long a) (not_utf8 n b no_text valid) = absurd (too_long_or_not text a b)
one_first_fault text f g (too_long a) (wrong l b is_text w) = absurd (too_long_or_not text a b)
one_first_fault text f g (not_utf8 m a no_text valid) (too_long b) = absurd (too_long_or_not text b a)
one_first_fault text f g (not_utf8 m a no_text valid) (not_utf8 n b no_text' valid') =
    let same : m ≡ n = sym (utf8_valid_len-IsValidUpTo text m valid) ∙ utf8_valid_len-IsValidUpTo text n valid' in
    ap (λ (k : ℕ). fault (after start (take k text)) kind.NotUtf8) same
one_first_fault text f g (not_utf8 m a no_text valid) (wrong l b is_text w) = absurd (no_text is_text)
one_first_fault text f g (wrong k a is_text v) (too_long b) = absurd (too_long_or_not text b a)
one_first_fault text f g (wrong k a is_text v) (not_utf8 n b no_text valid) = absurd (no_text is_text)
one_first_fault text f g (wrong k a is_text v) (wrong l b is_text' w) = one_fault true start text k l v w

pub tokens_or_fault : (text : List ℕ) (a : List Token) (f : LexFault) → HasTokens text a → HasFault text f → ⊥
tokens_or_fault text a f s (too_long b) = too_long_or_not text b s.size
tokens_or_fault text a f s (not_utf8 n b no_text valid) = no_text s.utf8
tokens_or_fault text a f s (wrong l b is_text w) = lexed_or_faulted true start text a l s.lexed w

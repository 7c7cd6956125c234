-- The words of any tokens may stand in a tree, and those of the tokens of a text in a tree of a text.
use Rattle.std.proofs.Common.{◌≡◌, ℕ, ◌+◌, ◌<◌, ◌^◌, Bool, true, false, ◌==◌, List, [], ◌∷◌, ◌++◌, length, get_or, Option, Some, None, IsUtf8, if◌then◌else◌, arith, refl, sym, ap, ◌∙◌, subst, append_assoc, length-append}
use Rattle.std.proofs.Math.Seq.{take-append_seam, drop-append-add, get_or-append_seam}
use Rattle.std.proofs.lemmas.Bool.{lt-ltb, eqb-true}
use Rattle.std.proofs.lemmas.List.Elements.{All-nil, All-cons}
use Rattle.std.proofs.lemmas.Str.{IsUtf8-take, IsUtf8-drop, IsUtf8-append, IsUtf8-from_ascii, IsCharBoundary-before_ascii, IsCharBoundary-after_ascii}
use Rattle.std.proofs.lemmas.Str.Ascii.{IsAscii-from_all}
use Rattle.ca_tree.specs.declared.text.Pos.{Pos}
use Rattle.ca_tree.specs.declared.token.Word.{Word}
use Rattle.ca_tree.specs.declared.token.Word.TheVariants as word
use Rattle.ca_tree.specs.declared.token.Token.{Token}
use Rattle.ca_tree.specs.Tokens.{Unit_of_string, Itself, Escape, escaped, spelled, and_value, values, IsQuoted, Form, A_name, A_number, A_string, A_mark, IsForm}
use Rattle.ca_tree.specs.Lexed.{IsWord, Lexed, ends, skips, takes, HasTokens}
use Rattle.ca_tree.specs.TreeWords.{any_words, text_words}
use Rattle.ca_shapes.proofs.TokenWords.{IsWordOf, AreWords}

any_word : (w : Word) → IsWordOf any_words w
any_word (word.Name t) = refl
any_word (word.Number n) = λ h. h
any_word (word.Str t) = tt
any_word (word.Mark m) = tt
any_word word.End = tt

pub any_are_words : (ts : List Token) → AreWords any_words ts
any_are_words [] = tt
any_are_words (u ∷ us) = (any_word u.word, any_are_words us)

-- ---- a text of whole characters may be cut before and behind a byte of ASCII

module _ (xs : List ℕ) (b : ℕ) (ys : List ℕ) (small : b < 128) (is : IsUtf8 (xs ++ b ∷ ys)) where
  within : length xs < length (xs ++ b ∷ ys)
  within = omega (arith, length-append xs (b ∷ ys))

  at : get_or (xs ++ b ∷ ys) (length xs) 0 < 128
  at = subst (λ c. c < 128) (sym (get_or-append_seam xs b ys 0)) small

  cut_before : IsUtf8 xs
  cut_before = subst IsUtf8 (take-append_seam xs (b ∷ ys)) (IsUtf8-take (xs ++ b ∷ ys) (length xs) is (IsCharBoundary-before_ascii (xs ++ b ∷ ys) (length xs) within at))

  cut_behind : IsUtf8 ys
  cut_behind = subst IsUtf8 (drop-append-add xs (b ∷ ys) 1) (IsUtf8-drop (xs ++ b ∷ ys) (length xs + 1) is (IsCharBoundary-after_ascii (xs ++ b ∷ ys) (length xs) is within at))

-- ---- strings

-- an escape is a byte of ASCII, and so is what it stands for
small_if : (x : Bool) (b n v e : ℕ) (rest : Option ℕ) → (x ≡ true → b ≡ n) → n < 128 → v < 128 → (rest ≡ Some e → (b < 128) × (e < 128)) → (if x then Some v else rest) ≡ Some e → (b < 128) × (e < 128)
small_if true b n v e rest same i j r h =
    let is : v ≡ e = cc in
    (omega (arith, same refl, i), omega (arith, j, is))
small_if false b n v e rest same i j r h = r h

small_escape : (b e : ℕ) → escaped b ≡ Some e → (b < 128) × (e < 128)
small_escape b e h =
    small_if (b == 110) b 110 10 e _ (eqb-true b 110) (omega arith) (omega arith)
    (small_if (b == 116) b 116 9 e _ (eqb-true b 116) (omega arith) (omega arith)
    (small_if (b == 92) b 92 92 e _ (eqb-true b 92) (omega arith) (omega arith)
    (small_if (b == 34) b 34 34 e _ (eqb-true b 34) (omega arith) (omega arith) (λ i. absurd cc)))) h

record Parts (v : Option ℕ) (rest : Option (List ℕ)) (t : List ℕ) : Type 0 where
  first : ℕ
  more : List ℕ
  is_first : v ≡ Some first
  is_rest : rest ≡ Some more
  is : t ≡ first ∷ more

parts : (v : Option ℕ) (rest : Option (List ℕ)) (t : List ℕ) → and_value v rest ≡ Some t → Parts v rest t
parts None rest t h = absurd cc
parts (Some b) None t h = absurd cc
parts (Some b) (Some bs) t h = record { first = b; more = bs; is_first = refl; is_rest = refl; is = let same : b ∷ bs ≡ t = cc in sym same }

-- what units stand for is of whole characters where they are, behind some bytes
values_whole : (before : List ℕ) (us : List Unit_of_string) (t : List ℕ) → IsUtf8 (before ++ spelled us) → values us ≡ Some t → IsUtf8 (before ++ t)
values_whole before [] t is h =
    let same : [] ≡ t = cc in
    subst (λ x. IsUtf8 (before ++ x)) same is
values_whole before (Itself b ∷ us) t is h =
    let x = parts (Some b) (values us) t h in
    let first : b ≡ x.first = let i = x.is_first in cc in
    let rest = values_whole (before ++ b ∷ []) us x.more (subst IsUtf8 (sym (append_assoc before (b ∷ []) (spelled us))) is) x.is_rest in
    subst (λ w. IsUtf8 (before ++ w)) (ap (λ c. c ∷ x.more) first ∙ sym x.is) (subst IsUtf8 (append_assoc before (b ∷ []) x.more) rest)
values_whole before (Escape b ∷ us) t is h =
    let x = parts (escaped b) (values us) t h in
    let small = small_escape b x.first x.is_first in
    let rest = values_whole [] us x.more (cut_behind (before ++ 92 ∷ []) b (spelled us) small.0 (subst IsUtf8 (sym (append_assoc before (92 ∷ []) (b ∷ spelled us))) is)) x.is_rest in
    let one = IsUtf8-from_ascii (x.first ∷ []) (IsAscii-from_all (x.first ∷ []) (All-cons (λ c. c < 128) x.first [] small.1 (All-nil (λ c. c < 128)))) in
    subst (λ w. IsUtf8 (before ++ w)) (sym x.is)
    (IsUtf8-append before (x.first ∷ x.more) (cut_before before 92 (b ∷ spelled us) (omega arith) is) (IsUtf8-append (x.first ∷ []) x.more one rest))

-- so is what stands between the quotes of a text
inside : (before u rest : List ℕ) (us : List Unit_of_string) → IsUtf8 (before ++ (u ++ rest)) → IsQuoted u us → IsUtf8 (spelled us)
inside before u rest us is q =
    let quoted : IsUtf8 (before ++ 34 ∷ ((spelled us ++ 34 ∷ []) ++ rest)) = subst (λ w. IsUtf8 (before ++ (w ++ rest))) q.0 is in
    let behind = cut_behind before 34 ((spelled us ++ 34 ∷ []) ++ rest) (omega arith) quoted in
    cut_before (spelled us) 34 rest (omega arith) (subst IsUtf8 (append_assoc (spelled us) (34 ∷ []) rest) behind)

-- ---- each word

text_word : (f : Form) (before u rest : List ℕ) (w : Word) → IsUtf8 (before ++ (u ++ rest)) → IsForm f u → IsWord f rest w → IsWordOf text_words w
text_word (A_name t) before u rest w is h i = subst (IsWordOf text_words) (sym i) (ap text_words.is_name h.1 ∙ h.0)
text_word (A_number n) before u rest w is h i = subst (IsWordOf text_words) (sym i.2) (λ j. lt-ltb n (2 ^ 31) i.1)
text_word (A_string t) before u rest w is h i = subst (IsWordOf text_words) (sym i) (values_whole [] h.0 t (inside before u rest h.0 is h.1) h.2)
text_word (A_mark m) before u rest w is h i = subst (IsWordOf text_words) (sym i) tt

lexed_words : {fresh : Bool} {p : Pos} {text : List ℕ} {ts : List Token} (before : List ℕ) → IsUtf8 (before ++ text) → Lexed fresh p text ts → AreWords text_words ts
lexed_words before is (ends fresh p) = (tt, tt)
lexed_words before is (skips fresh p text u rest ts s l) =
    lexed_words (before ++ u) (subst IsUtf8 (ap (λ w. before ++ w) s.0 ∙ sym (append_assoc before u rest)) is) l
lexed_words before is (takes fresh p text u rest w ts t l) =
    let joined : IsUtf8 (before ++ (u ++ rest)) = subst (λ x. IsUtf8 (before ++ x)) t.longest.joined is in
    (text_word t.form before u rest w joined t.longest.form t.word, lexed_words (before ++ u) (subst IsUtf8 (sym (append_assoc before u rest)) joined) l)

pub text_are_words : (text : List ℕ) (ts : List Token) → HasTokens text ts → AreWords text_words ts
text_are_words text ts h = lexed_words [] h.utf8 h.lexed

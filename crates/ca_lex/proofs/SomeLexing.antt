-- Every text has tokens or a fault: what comes first is found, and the rest is shorter.
use Rattle.std.proofs.Common.{◌≡◌, ◌≤◌, ◌<◌, ◌^◌, ℕ, zero, suc, pos, List, [], ◌∷◌, ◌++◌, Bool, true, false, Some, refl, sym, ap, subst, ◌∙◌, inl, inr, ◌⊎◌, arith, length, take, drop, length-drop, append_assoc}
use Rattle.std.specs.List.{list_all}
use Rattle.std.specs.Str.{IsUtf8, is_utf8, IsValidUpTo}
use Rattle.std.proofs.lemmas.Bool.{both_ways, cases_lt, cases_eq}
use Rattle.std.proofs.lemmas.Str.{IsUtf8-nil, IsUtf8-from_is_utf8, is_utf8-from_IsUtf8}
use Rattle.std.proofs.lemmas.List.{take-append-drop, take_all}
use Rattle.ca_tree.specs.declared.text.Pos.{Pos}
use Rattle.ca_tree.specs.declared.token.Word.{Word}
use Rattle.ca_tree.specs.declared.token.Word.TheVariants as word
use Rattle.ca_tree.specs.declared.token.Token.{Token}
use Rattle.ca_tree.specs.declared.token.LexFault.{LexFault}
use Rattle.ca_tree.specs.Places.{start, after}
use Rattle.ca_tree.specs.Tokens.{is_blank, Unit_of_string, is_unit, spelled, values, Form, A_name, A_number, A_string, A_mark, IsLongest}
use Rattle.ca_tree.specs.Lexed.{BeginsComment, IsSkipped, fresh_after, IsDropped, is_apart, IsWord, IsToken, Lexed, ends, skips, takes, IsFirstBad, IsWrong, open_comment, open_string, bad_escape, number_form, number_too_large, bad_char, Faulted, here, behind_skipped, behind_token, most_bytes, HasTokens, HasFault, too_long, not_utf8, wrong}
use Rattle.ca_lex.specs.declared.skipped.Comment.{Comment}
use Rattle.ca_lex.specs.declared.skipped.Comment.TheVariants as comment
use Rattle.ca_lex.specs.Strings.{NoClose}
use Rattle.ca_lex.specs.Skipped.{CommentAt, NoInclude}
use Rattle.ca_lex.proofs.Cuts.{cut_len}
use Rattle.ca_lex.proofs.SomeForm.{Closes, close, values_or_bad, Found, Formless, longest_or_none, rest_shorter}
use Rattle.ca_lex.proofs.SomeSkip.{comment_of, Dropped, include_of}

-- what comes first in a text

abbrev Skip : Bool → List ℕ → Type 0
Skip fresh text = (u : List ℕ) × (rest : List ℕ) × IsSkipped fresh text u rest × (length rest < length text)

abbrev Taken : Bool → List ℕ → Type 0
Taken fresh text = (w : Word) × (u : List ℕ) × (rest : List ℕ) × IsToken fresh text w u rest × (length rest < length text)

abbrev Wrong : Pos → List ℕ → Type 0
Wrong p text = (f : LexFault) × IsWrong p text f

abbrev Head : Bool → Pos → List ℕ → Type 0
Head fresh p text = Skip fresh text ⊎ (Taken fresh text ⊎ Wrong p text)

-- the longest form, or what is wrong

token_of : (fresh : Bool) (p : Pos) (text u rest : List ℕ) (f : Form) (w : Word) → (BeginsComment text → ⊥) → (IsDropped fresh text → ⊥) → IsLongest text f u rest → IsWord f rest w → Head fresh p text
token_of fresh p text u rest f w comments lines l is = inr (inl (w, u, rest, record { form = f; no_comment = comments; not_dropped = lines; longest = l; word = is }, rest_shorter text u rest f l))

number_of : (fresh : Bool) (p : Pos) (text u rest : List ℕ) (n : ℕ) → (BeginsComment text → ⊥) → (IsDropped fresh text → ⊥) → IsLongest text (A_number n) u rest → (t : Bool) → is_apart rest ≡ t → (n < 2 ^ 31) ⊎ (2 ^ 31 ≤ n) → Head fresh p text
number_of fresh p text u rest n comments lines l false e size = inr (inr (_, number_form n u rest l e))
number_of fresh p text u rest n comments lines l true e (inl lt) = token_of fresh p text u rest (A_number n) (word.Number (pos n)) comments lines l (e, lt, refl)
number_of fresh p text u rest n comments lines l true e (inr le) = inr (inr (_, number_too_large n u rest l e le))

form_of : (fresh : Bool) (p : Pos) (text u rest : List ℕ) (f : Form) → (BeginsComment text → ⊥) → (IsDropped fresh text → ⊥) → IsLongest text f u rest → Head fresh p text
form_of fresh p text u rest (A_name t) comments lines l = token_of fresh p text u rest (A_name t) (word.Name t) comments lines l refl
form_of fresh p text u rest (A_number n) comments lines l = number_of fresh p text u rest n comments lines l (is_apart rest) refl (cases_lt n (2 ^ 31))
form_of fresh p text u rest (A_string t) comments lines l = token_of fresh p text u rest (A_string t) (word.Str t) comments lines l refl
form_of fresh p text u rest (A_mark m) comments lines l = token_of fresh p text u rest (A_mark m) (word.Mark m) comments lines l refl

closed_of : (p : Pos) (text end : List ℕ) (us : List Unit_of_string) → text ≡ 34 ∷ (spelled us ++ 34 ∷ end) → list_all is_unit us ≡ true → Formless text → ((t : List ℕ) × (values us ≡ Some t)) ⊎ ((good : List Unit_of_string) × IsFirstBad us good) → Wrong p text
closed_of p text end us e all none (inl t) =
    let cut : text ≡ (34 ∷ (spelled us ++ 34 ∷ [])) ++ end = e ∙ ap (λ (s : List ℕ). 34 ∷ s) (sym (append_assoc (spelled us) (34 ∷ []) end)) in
    absurd (none (A_string t.0) (34 ∷ (spelled us ++ 34 ∷ [])) end cut (us, (refl, all), t.1))
closed_of p text end us e all none (inr bad) = (_, bad_escape us bad.0 (end, e, all) bad.1)

string_of : (p : Pos) (more : List ℕ) → Formless (34 ∷ more) → Closes more ⊎ NoClose more → Wrong p (34 ∷ more)
string_of p more none (inl c) = closed_of p (34 ∷ more) c.0 c.1.0 (ap (λ (s : List ℕ). 34 ∷ s) c.1.1) c.1.2 none (values_or_bad c.1.0)
string_of p more none (inr open') = (_, open_string more refl (λ us c. let e = c.1 in let tails : more ≡ spelled us ++ 34 ∷ c.0 = cc in open' us c.0 tails c.2))

formless_of : (p : Pos) (b : ℕ) (more : List ℕ) → is_blank b ≡ false → Formless (b ∷ more) → (b ≡ 34) ⊎ (b ≡ 34 → ⊥) → Wrong p (b ∷ more)
formless_of p b more blank none (inl q) = subst (λ (x : ℕ). Wrong p (x ∷ more)) (sym q) (string_of p more (subst (λ (x : ℕ). Formless (x ∷ more)) q none) (close more))
formless_of p b more blank none (inr q) = (_, bad_char b more refl blank q none)

unskipped : (fresh : Bool) (p : Pos) (b : ℕ) (more : List ℕ) → is_blank b ≡ false → (BeginsComment (b ∷ more) → ⊥) → (IsDropped fresh (b ∷ more) → ⊥) → Found (b ∷ more) ⊎ Formless (b ∷ more) → Head fresh p (b ∷ more)
unskipped fresh p b more blank comments lines (inl f) = form_of fresh p (b ∷ more) f.1 f.2 f.0 comments lines f.3
unskipped fresh p b more blank comments lines (inr none) = inr (inr (formless_of p b more blank none (cases_eq b 34)))

-- what is skipped, or else

dropped_of : (p : Pos) (b : ℕ) (more : List ℕ) → is_blank b ≡ false → (BeginsComment (b ∷ more) → ⊥) → Dropped (b ∷ more) ⊎ NoInclude (b ∷ more) → Head true p (b ∷ more)
dropped_of p b more blank comments (inl d) = inl (d.0, d.1, (d.2, inr (inr (refl, d.3))), omega (arith, cut_len (b ∷ more) d.0 d.1 d.2, ap (length {A = ℕ}) d.3.line))
dropped_of p b more blank comments (inr none) = unskipped true p b more blank comments (λ d. none d.1.0 d.1.1 d.1.2 d.1.3) (longest_or_none (b ∷ more))

uncommented : (fresh : Bool) (p : Pos) (b : ℕ) (more : List ℕ) → is_blank b ≡ false → (BeginsComment (b ∷ more) → ⊥) → Head fresh p (b ∷ more)
uncommented true p b more blank comments = dropped_of p b more blank comments (include_of (b ∷ more))
uncommented false p b more blank comments = unskipped false p b more blank comments (λ d. let e = d.0 in absurd cc) (longest_or_none (b ∷ more))

commented : (fresh : Bool) (p : Pos) (b : ℕ) (more : List ℕ) → is_blank b ≡ false → (c : Comment) → CommentAt (b ∷ more) c → Head fresh p (b ∷ more)
commented fresh p b more blank comment.Absent at = uncommented fresh p b more blank at
commented fresh p b more blank comment.Open at = inr (inr (_, open_comment at.0 at.1 at.2))
commented fresh p b more blank (comment.Ends len) at =
    inl (take len (b ∷ more), drop len (b ∷ more), (sym (take-append-drop len (b ∷ more)), inr (inl at.0)), omega (arith, length-drop len (b ∷ more), at.1, at.2))

head_by : (fresh : Bool) (p : Pos) (b : ℕ) (more : List ℕ) (t : Bool) → is_blank b ≡ t → (c : Comment) × CommentAt (b ∷ more) c → Head fresh p (b ∷ more)
head_by fresh p b more true blank c = inl (b ∷ [], more, (refl, inl (b, refl, blank)), omega arith)
head_by fresh p b more false blank c = commented fresh p b more blank c.0 c.1

head_of : (fresh : Bool) (p : Pos) (b : ℕ) (more : List ℕ) → Head fresh p (b ∷ more)
head_of fresh p b more = head_by fresh p b more (is_blank b) refl (comment_of (b ∷ more))

-- the whole text

abbrev Outcome : Bool → Pos → List ℕ → Type 0
Outcome fresh p text = ((ts : List Token) × Lexed fresh p text ts) ⊎ ((f : LexFault) × Faulted fresh p text f)

behind_skip : (fresh : Bool) (p : Pos) (text u rest : List ℕ) → IsSkipped fresh text u rest → Outcome (fresh_after fresh u) (after p u) rest → Outcome fresh p text
behind_skip fresh p text u rest is (inl o) = inl (o.0, skips fresh p text u rest o.0 is o.1)
behind_skip fresh p text u rest is (inr o) = inr (o.0, behind_skipped fresh p text u rest o.0 is o.1)

behind_taken : (fresh : Bool) (p : Pos) (text u rest : List ℕ) (w : Word) → IsToken fresh text w u rest → Outcome false (after p u) rest → Outcome fresh p text
behind_taken fresh p text u rest w is (inl o) = inl (_, takes fresh p text u rest w o.0 is o.1)
behind_taken fresh p text u rest w is (inr o) = inr (o.0, behind_token fresh p text u rest w o.0 is o.1)

behind_head : (n : ℕ) (fresh : Bool) (p : Pos) (text : List ℕ) → length text ≤ suc n → Head fresh p text → ((g : Bool) (q : Pos) (rest : List ℕ) → length rest ≤ n → Outcome g q rest) → Outcome fresh p text
behind_head n fresh p text h (inl s) ih = behind_skip fresh p text s.0 s.1 s.2 (ih _ _ s.1 (omega (arith, h, s.3)))
behind_head n fresh p text h (inr (inl t)) ih = behind_taken fresh p text t.1 t.2 t.0 t.3 (ih _ _ t.2 (omega (arith, h, t.4)))
behind_head n fresh p text h (inr (inr w)) ih = inr (w.0, here fresh p text w.0 w.1)

outcome : (n : ℕ) (fresh : Bool) (p : Pos) (text : List ℕ) → length text ≤ n → Outcome fresh p text
outcome zero fresh p [] h = inl (_, ends fresh p)
outcome zero fresh p (b ∷ more) h = absurd (omega (arith, h))
outcome (suc n) fresh p [] h = inl (_, ends fresh p)
outcome (suc n) fresh p (b ∷ more) h = behind_head n fresh p (b ∷ more) h (head_of fresh p b more) (outcome n)

-- the longest front that is UTF-8

abbrev NoneFrom : ℕ → List ℕ → Type 0
NoneFrom n text = (m : ℕ) → n ≤ m → IsUtf8 (take m text) → ⊥

none_from_less : (n : ℕ) (text : List ℕ) → is_utf8 (take n text) ≡ false → NoneFrom (suc n) text → NoneFrom n text
none_from_less n text none more m h is = at_or_above (cases_lt n m)
  where
    at_or_above : (n < m) ⊎ (m ≤ n) → ⊥
    at_or_above (inl lt) = more m (omega (arith, lt)) is
    at_or_above (inr le) = let same : m ≡ n = omega (arith, le, h) in both_ways _ none (is_utf8-from_IsUtf8 _ (subst (λ (k : ℕ). IsUtf8 (take k text)) same is))

valid_step : (n : ℕ) (text : List ℕ) → suc n ≤ length text → NoneFrom (suc n) text → (t : Bool) → is_utf8 (take n text) ≡ t → (NoneFrom n text → (k : ℕ) × IsValidUpTo text k) → (k : ℕ) × IsValidUpTo text k
valid_step n text within none true e ih = (n, record { short = omega (arith, within); front = IsUtf8-from_is_utf8 _ e; longest = λ m lt is. none m (omega (arith, lt)) is })
valid_step n text within none false e ih = ih (none_from_less n text e none)

valid_from : (n : ℕ) (text : List ℕ) → n ≤ length text → NoneFrom n text → (k : ℕ) × IsValidUpTo text k
valid_from zero text within none = absurd (none 0 (omega arith) IsUtf8-nil)
valid_from (suc n) text within none = valid_step n text within none (is_utf8 (take n text)) refl (valid_from n text (omega (arith, within)))

-- the size, then the characters, then the tokens

abbrev TokensOrFault : List ℕ → Type 0
TokensOrFault text = ((ts : List Token) × HasTokens text ts) ⊎ ((f : LexFault) × HasFault text f)

of_outcome : (text : List ℕ) → length text ≤ most_bytes → IsUtf8 text → Outcome true start text → TokensOrFault text
of_outcome text size utf8 (inl o) = inl (o.0, record { size = size; utf8 = utf8; lexed = o.1 })
of_outcome text size utf8 (inr o) = inr (o.0, wrong o.0 size utf8 o.1)

by_utf8 : (text : List ℕ) → length text ≤ most_bytes → (t : Bool) → is_utf8 text ≡ t → TokensOrFault text
by_utf8 text size true e = of_outcome text size (IsUtf8-from_is_utf8 text e) (outcome (length text) true start text (omega arith))
by_utf8 text size false e =
    let none : IsUtf8 text → ⊥ = λ is. both_ways (is_utf8 text) e (is_utf8-from_IsUtf8 text is) in
    let found = valid_from (length text) text (omega arith) (λ m h is. none (subst IsUtf8 (take_all m text h) is)) in
    inr (_, not_utf8 found.0 size none found.1)

by_size : (text : List ℕ) → (most_bytes < length text) ⊎ (length text ≤ most_bytes) → TokensOrFault text
by_size text (inl long) = inr (_, too_long long)
by_size text (inr size) = by_utf8 text size (is_utf8 text) refl

pub some_outcome : (text : List ℕ) → ((ts : List Token) × HasTokens text ts) ⊎ ((f : LexFault) × HasFault text f)
some_outcome text = by_size text (cases_lt most_bytes (length text))

-- The first byte tells the kind of a form, so the longest front of that kind is the longest form.
use Rattle.std.proofs.Common.{◌≡◌, ◌≢◌, ◌<◌, ◌≤◌, ℕ, suc, List, [], ◌∷◌, ◌++◌, length, take, drop, Bool, true, false, not, ◌&&◌, ◌||◌, ◌==◌, Some, refl, sym, ap, ◌∙◌, subst, arith, slice_index, inl, inr, ◌-◌, zero}
use Rattle.std.proofs.lemmas.List.{take-append-drop, length-take-le}
use Rattle.std.specs.List.{list_all}
use Rattle.std.proofs.lemmas.Bool.{and_parts, or_cases, eqb-true, eq-eqb}
use Rattle.std.proofs.lemmas.Bool.Decides.{nat_tests}
use Rattle.ca_tree.specs.declared.token.Mark.{Mark}
use Rattle.ca_tree.specs.declared.token.Mark.TheVariants as mark
use Rattle.ca_tree.specs.Tokens.{begins_name, goes_on_name, is_name, is_digit, is_hex_digit, is_decimal, is_hexadecimal, value_from, value_of, spelling, Form, A_name, A_number, A_string, A_mark, IsForm, IsLongest}
use Rattle.ca_lex.specs.Fronts.{IsLongestThat, HasNone, IsLongestMark}

-- which byte a form begins with
begins : Form → ℕ → Bool
begins (A_name t) b = begins_name b
begins (A_number n) b = is_digit b
begins (A_string t) b = b == 34
begins (A_mark m) b = not (begins_name b) && (not (is_digit b) && not (b == 34))

mark_begins : List ℕ → Bool
mark_begins [] = false
mark_begins (b ∷ bs) = not (begins_name b) && (not (is_digit b) && not (b == 34))

marks_begin : (m : Mark) → mark_begins (spelling m) ≡ true
unfolding mark_begins
marks_begin mark.OpenParen = refl
marks_begin _ = refl

decimal_begins : (b : ℕ) (bs : List ℕ) → is_decimal (b ∷ bs) ≡ true → is_digit b ≡ true
decimal_begins b [] h = h
decimal_begins b (d ∷ ds) h = (and_parts (is_digit b) (not (b == 48) && list_all is_digit (d ∷ ds)) h).0

hexadecimal_begins : (b : ℕ) (bs : List ℕ) → is_hexadecimal (b ∷ bs) ≡ true → b ≡ 48
hexadecimal_begins b [] h = absurd cc
hexadecimal_begins b (x ∷ []) h = absurd cc
hexadecimal_begins b (x ∷ d ∷ ds) h = eqb-true b 48 (and_parts (b == 48) (((x == 120) || (x == 88)) && list_all is_hex_digit (d ∷ ds)) h).0

digit_zero : (b : ℕ) → b ≡ 48 → is_digit b ≡ true
digit_zero b h = rw h refl

number_begins : (b : ℕ) (bs : List ℕ) → (is_decimal (b ∷ bs) || is_hexadecimal (b ∷ bs)) ≡ true → is_digit b ≡ true
number_begins b bs h = elim (or_cases (is_decimal (b ∷ bs)) (is_hexadecimal (b ∷ bs)) h) [ inl d ↦ decimal_begins b bs d | inr x ↦ digit_zero b (hexadecimal_begins b bs x) ]

form_begins : (f : Form) (b : ℕ) (bs : List ℕ) → IsForm f (b ∷ bs) → begins f b ≡ true
unfolding begins mark_begins
form_begins (A_name t) b bs h = (and_parts (begins_name b) (list_all goes_on_name bs) h.0).0
form_begins (A_number n) b bs h = number_begins b bs h.0
form_begins (A_string t) b bs h = let is : b ≡ 34 = cc (h.1.0) in eq-eqb b 34 is
form_begins (A_mark m) b bs h = subst (λ (u : List ℕ). mark_begins u ≡ true) (sym h) (marks_begin m)

no_digit : (b : ℕ) → begins_name b ≡ true → is_digit b ≡ false
no_digit b h = grind (arith, nat_tests)

no_quote : (b : ℕ) → begins_name b ≡ true → (b == 34) ≡ false
no_quote b h = grind (arith, nat_tests)

digit_no_name : (b : ℕ) → is_digit b ≡ true → begins_name b ≡ false
digit_no_name b h = grind (arith, nat_tests)

digit_no_quote : (b : ℕ) → is_digit b ≡ true → (b == 34) ≡ false
digit_no_quote b h = grind (arith, nat_tests)

only_names : (g : Form) (b : ℕ) (bs : List ℕ) → begins_name b ≡ true → IsForm g (b ∷ bs) → is_name (b ∷ bs) ≡ true
unfolding begins
only_names (A_name t) b bs h is = is.0
only_names (A_number n) b bs h is = absurd (let d = form_begins (A_number n) b bs is in let no' = no_digit b h in cc)
only_names (A_string t) b bs h is = absurd (let d = form_begins (A_string t) b bs is in let no' = no_quote b h in cc)
only_names (A_mark m) b bs h is = absurd (let d = rw h at (form_begins (A_mark m) b bs is) in cc)

only_numbers : (g : Form) (b : ℕ) (bs : List ℕ) → is_digit b ≡ true → IsForm g (b ∷ bs) → (is_decimal (b ∷ bs) || is_hexadecimal (b ∷ bs)) ≡ true
unfolding begins
only_numbers (A_name t) b bs h is = absurd (let d = form_begins (A_name t) b bs is in let no' = digit_no_name b h in cc)
only_numbers (A_number n) b bs h is = is.0
only_numbers (A_string t) b bs h is = absurd (let d = form_begins (A_string t) b bs is in let no' = digit_no_quote b h in cc)
only_numbers (A_mark m) b bs h is = absurd (let d = rw (digit_no_name b h, h) at (form_begins (A_mark m) b bs is) in cc)

only_marks : (g : Form) (b : ℕ) (bs : List ℕ) → begins_name b ≡ false → is_digit b ≡ false → b ≢ 34 → IsForm g (b ∷ bs) → (m : Mark) × (b ∷ bs ≡ spelling m)
unfolding begins
only_marks (A_name t) b bs h d q is = absurd (let x = form_begins (A_name t) b bs is in cc)
only_marks (A_number n) b bs h d q is = absurd (let x = form_begins (A_number n) b bs is in cc)
only_marks (A_string t) b bs h d q is = absurd (q (eqb-true b 34 (form_begins (A_string t) b bs is)))
only_marks (A_mark m) b bs h d q is = (m, is)

-- names

name_bound : (text : List ℕ) (n : ℕ) → begins_name (slice_index text 0) ≡ true → IsLongestThat is_name text n → (g : Form) (v more : List ℕ) → text ≡ v ++ more → IsForm g v → length v ≤ n
name_bound text n b h g [] more e is = omega arith
name_bound [] n b h g (d ∷ ds) more e is = absurd cc
name_bound (c ∷ cs) n b h g (d ∷ ds) more e is =
    let same : c ≡ d = cc in
    let first : begins_name d ≡ true = subst (λ (x : ℕ). begins_name x ≡ true) same b in
    h.longest (d ∷ ds) more e (only_names g d ds first is)

pub name_front : (text : List ℕ) (n : ℕ) → begins_name (slice_index text 0) ≡ true → IsLongestThat is_name text n → IsLongest text (A_name (take n text)) (take n text) (drop n text)
name_front text n b h = record {
  joined = sym (take-append-drop n text);
  form = (h.passes, refl);
  longest = λ g v more e is. rw (length-take-le n text h.within) (name_bound text n b h g v more e is);
}

-- marks

mark_bound : (text : List ℕ) (n : ℕ) → begins_name (slice_index text 0) ≡ false → is_digit (slice_index text 0) ≡ false → slice_index text 0 ≢ 34 → ((m : Mark) (more : List ℕ) → text ≡ spelling m ++ more → length (spelling m) ≤ n)
    → (g : Form) (v more : List ℕ) → text ≡ v ++ more → IsForm g v → length v ≤ n
mark_bound text n b d q h g [] more e is = omega arith
mark_bound [] n b d q h g (x ∷ xs) more e is = absurd cc
mark_bound (c ∷ cs) n b d q h g (x ∷ xs) more e is =
    let same : c ≡ x = cc in
    let form = subst (λ (y : ℕ). IsForm g (y ∷ xs)) (sym same) is in
    let found = only_marks g c xs b d q form in
    let whole : c ∷ cs ≡ spelling found.0 ++ more = e ∙ ap (λ (u : List ℕ). u ++ more) (ap (λ (y : ℕ). y ∷ xs) (sym same) ∙ found.1) in
    let size : length (x ∷ xs) ≡ length (spelling found.0) = ap (length {A = ℕ}) (ap (λ (y : ℕ). y ∷ xs) (sym same) ∙ found.1) in
    rw size (h found.0 more whole)

pub mark_front : (text : List ℕ) (m : Mark) (n : ℕ) → begins_name (slice_index text 0) ≡ false → is_digit (slice_index text 0) ≡ false → slice_index text 0 ≢ 34 → IsLongestMark text (Some (m, n)) → IsLongest text (A_mark m) (take n text) (drop n text)
mark_front text m n b d q h = record {
  joined = sym (take-append-drop n text);
  form = h.1;
  longest = λ g v more e is. rw (length-take-le n text h.0) (mark_bound text n b d q h.2 g v more e is);
}

-- numbers

abbrev IsNumber : List ℕ → Type 0
IsNumber v = (is_decimal v || is_hexadecimal v) ≡ true

number_bound : (text : List ℕ) (n : ℕ) → is_digit (slice_index text 0) ≡ true → ((v more : List ℕ) → text ≡ v ++ more → IsNumber v → length v ≤ n)
    → (g : Form) (v more : List ℕ) → text ≡ v ++ more → IsForm g v → length v ≤ n
number_bound text n b h g [] more e is = omega arith
number_bound [] n b h g (d ∷ ds) more e is = absurd cc
number_bound (c ∷ cs) n b h g (d ∷ ds) more e is =
    let same : c ≡ d = cc in
    let first : is_digit d ≡ true = subst (λ (x : ℕ). is_digit x ≡ true) same b in
    h (d ∷ ds) more e (only_numbers g d ds first is)

number_front : (text : List ℕ) (n k : ℕ) → is_digit (slice_index text 0) ≡ true → n ≤ length text → IsNumber (take n text) → k ≡ value_of (take n text) → ((v more : List ℕ) → text ≡ v ++ more → IsNumber v → length v ≤ n) → IsLongest text (A_number k) (take n text) (drop n text)
number_front text n k b within is value h = record {
  joined = sym (take-append-drop n text);
  form = (is, value);
  longest = λ g v more e form. rw (length-take-le n text within) (number_bound text n b h g v more e form);
}

behind_zero : (v : List ℕ) → slice_index v 0 ≡ 48 → is_decimal v ≡ true → length v ≤ 1
behind_zero [] z h = omega arith
behind_zero (c ∷ []) z h = omega arith
behind_zero (c ∷ d ∷ ds) z h = absurd (let t = rw (z) at h in cc)

same_first : (text v more : List ℕ) → text ≡ v ++ more → 0 < length v → slice_index text 0 ≡ slice_index v 0
same_first text [] more e h = absurd (omega arith)
same_first [] (b ∷ bs) more e h = absurd cc
same_first (c ∷ cs) (b ∷ bs) more e h = cc

hexadecimal_bound : (text : List ℕ) (n : ℕ) → 2 < n → slice_index text 0 ≡ 48 → IsLongestThat is_hexadecimal text n → (v more : List ℕ) → text ≡ v ++ more → IsNumber v → length v ≤ n
hexadecimal_bound text n some z h [] more e is = omega arith
hexadecimal_bound text n some z h (b ∷ bs) more e is =
    let first : slice_index (b ∷ bs) 0 ≡ 48 = sym (same_first text (b ∷ bs) more e (omega arith)) ∙ z in
    elim (or_cases (is_decimal (b ∷ bs)) (is_hexadecimal (b ∷ bs)) is) [ inl d ↦ omega (arith, behind_zero (b ∷ bs) first d) | inr x ↦ h.longest (b ∷ bs) more e x ]

hexadecimal_value : (text : List ℕ) (n : ℕ) → is_hexadecimal (take n text) ≡ true → (value_from 16 0 (take (n - 2) (drop 2 text)) ≡ value_of (take n text)) × (slice_index text 0 ≡ 48)
hexadecimal_value text zero h = absurd cc
hexadecimal_value [] (suc n) h = absurd cc
hexadecimal_value (z ∷ zs) (suc zero) h = absurd cc
hexadecimal_value (z ∷ []) (suc (suc n)) h = absurd cc
hexadecimal_value (z ∷ x ∷ ds) (suc (suc n)) h =
    let e : suc (suc n) - 2 ≡ n = omega arith in
    (rw (e, h) refl, hexadecimal_begins z (x ∷ take n ds) h)

or_second : (a b : Bool) → b ≡ true → (a || b) ≡ true
or_second true b h = refl
or_second false b h = h

pub hexadecimal_front : (text : List ℕ) (n : ℕ) → 2 < n → is_digit (slice_index text 0) ≡ true → IsLongestThat is_hexadecimal text n → IsLongest text (A_number (value_from 16 0 (take (n - 2) (drop 2 text)))) (take n text) (drop n text)
hexadecimal_front text n some b h =
    let value = hexadecimal_value text n h.passes in
    number_front text n _ b h.within (or_second (is_decimal (take n text)) (is_hexadecimal (take n text)) h.passes) value.0 (hexadecimal_bound text n some value.1 h)

decimal_bound : (text : List ℕ) (n : ℕ) → HasNone is_hexadecimal text → IsLongestThat is_decimal text n → (v more : List ℕ) → text ≡ v ++ more → IsNumber v → length v ≤ n
decimal_bound text n no' h v more e is =
    elim (or_cases (is_decimal v) (is_hexadecimal v) is) [ inl d ↦ h.longest v more e d | inr x ↦ absurd (no' v more e x) ]

decimal_value : (u : List ℕ) (b : Bool) → is_hexadecimal u ≡ b → (is_hexadecimal u ≡ true → ⊥) → value_from 10 0 u ≡ value_of u
decimal_value u true e no' = absurd (no' e)
decimal_value [] false e no' = refl
decimal_value (c ∷ []) false e no' = refl
decimal_value (c ∷ d ∷ ds) false e no' = rw e refl

pub decimal_front : (text : List ℕ) (n : ℕ) → is_digit (slice_index text 0) ≡ true → HasNone is_hexadecimal text → IsLongestThat is_decimal text n → IsLongest text (A_number (value_from 10 0 (take n text))) (take n text) (drop n text)
decimal_front text n b no' h =
    let value = decimal_value (take n text) (is_hexadecimal (take n text)) refl (no' (take n text) (drop n text) (sym (take-append-drop n text))) in
    number_front text n _ b h.within (rw h.passes refl) value (decimal_bound text n no' h)

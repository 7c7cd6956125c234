-- The longest form at the front of a text is one form, one front and one rest.
use Rattle.std.proofs.Common.{arith, ◌≡◌, ℕ, ◌+◌, ◌*◌, true, false, not, ◌&&◌, ◌||◌, ◌==◌, List, [], ◌∷◌, ◌++◌, length, Some, refl, sym, ap, subst, ◌∙◌, if◌then◌else◌, inl, inr}
use Rattle.std.specs.List.{list_all}
use Rattle.std.proofs.lemmas.Bool.{and_parts, or_cases, eqb-true}
use Rattle.std.proofs.lemmas.Bool.Decides.{nat_tests}
use Rattle.ca_tree.specs.declared.token.Mark.{Mark}
use Rattle.ca_tree.specs.declared.token.Mark.TheVariants as mark
use Rattle.ca_tree.specs.Tokens.{is_blank, is_digit, is_hex_digit, goes_on_name, begins_name, is_decimal, is_hexadecimal, Unit_of_string, Itself, Escape, is_unit, spelled, values, spelling, Form, A_name, A_number, A_string, A_mark, IsForm, IsLongest}

-- two fronts of one text that are equally long
pub same_front : (u v r s : List ℕ) → length u ≡ length v → u ++ r ≡ v ++ s → (u ≡ v) × (r ≡ s)
same_front [] [] r s n h = (refl, h)
same_front [] (y ∷ ys) r s n h = absurd (omega arith)
same_front (x ∷ xs) [] r s n h = absurd (omega arith)
same_front (x ∷ xs) (y ∷ ys) r s n h =
    let heads : x ≡ y = cc in
    let tails : xs ++ r ≡ ys ++ s = cc in
    let m : length xs ≡ length ys = omega arith in
    let more = same_front xs ys r s m tails in
    let whole : xs ≡ ys = more.0 in
    (cc, more.1)

-- what a form begins with
pub data Beginning : Type 0 where
  Of_name Of_number Of_string Of_mark : Beginning

abbrev pub beginning : ℕ → Beginning
beginning b = if begins_name b then Of_name else (if is_digit b then Of_number else (if b == 34 then Of_string else Of_mark))

abbrev pub beginning_of : Form → Beginning
beginning_of (A_name t) = Of_name
beginning_of (A_number n) = Of_number
beginning_of (A_string t) = Of_string
beginning_of (A_mark m) = Of_mark

abbrev pub first : List ℕ → ℕ
first [] = 0
first (b ∷ bs) = b

letter_no_blank : (b : ℕ) → begins_name b ≡ true → is_blank b ≡ false
letter_no_blank b h = grind (arith, nat_tests)

digit_no_blank : (b : ℕ) → is_digit b ≡ true → is_blank b ≡ false
digit_no_blank b h = grind (arith, nat_tests)

digit_no_letter : (b : ℕ) → is_digit b ≡ true → begins_name b ≡ false
digit_no_letter b h = grind (arith, nat_tests)

first_digit : (b : ℕ) (bs : List ℕ) → (is_decimal (b ∷ bs) || is_hexadecimal (b ∷ bs)) ≡ true → is_digit b ≡ true
first_digit b [] h = elim (or_cases (is_digit b) false h) [ inl d ↦ d | inr e ↦ absurd cc ]
first_digit b (c ∷ []) h = elim (or_cases (is_decimal (b ∷ c ∷ [])) false h) [ inl d ↦ (and_parts (is_digit b) (not (b == 48) && list_all is_digit (c ∷ [])) d).0 | inr e ↦ absurd cc ]
first_digit b (c ∷ d ∷ ds) h = elim (or_cases (is_decimal (b ∷ c ∷ d ∷ ds)) (is_hexadecimal (b ∷ c ∷ d ∷ ds)) h) [
  | inl l ↦ (and_parts (is_digit b) (not (b == 48) && list_all is_digit (c ∷ d ∷ ds)) l).0
  | inr r ↦ ap is_digit (eqb-true b 48 (and_parts (b == 48) (((c == 120) || (c == 88)) && list_all is_hex_digit (d ∷ ds)) r).0)
]

mark_begins : (m : Mark) → (beginning (first (spelling m)) ≡ Of_mark) × (is_blank (first (spelling m)) ≡ false)
mark_begins mark.OpenParen = (refl, refl)
mark_begins m = (refl, refl)

mark_is_something : (m : Mark) → [] ≡ spelling m → ⊥
mark_is_something mark.OpenParen h = absurd cc
mark_is_something m h = absurd cc

-- a form has a first byte, that is no blank and tells what it is
pub no_empty_form : (f : Form) → IsForm f [] → ⊥
no_empty_form (A_name t) is = absurd (let e = is.0 in cc)
no_empty_form (A_number n) is = absurd (let e = is.0 in cc)
no_empty_form (A_string t) is = absurd (let e = is.1.0 in cc)
no_empty_form (A_mark m) is = mark_is_something m is

pub form_begins : (f : Form) (b : ℕ) (bs : List ℕ) → IsForm f (b ∷ bs) → (beginning b ≡ beginning_of f) × (is_blank b ≡ false)
form_begins (A_name t) b bs is = let e = (and_parts (begins_name b) (list_all goes_on_name bs) is.0).0 in (rw e refl, letter_no_blank b e)
form_begins (A_number n) b bs is = let e = first_digit b bs is.0 in (rw (digit_no_letter b e, e) refl, digit_no_blank b e)
form_begins (A_string t) b bs is = let e : b ≡ 34 = ap first is.1.0 in (ap beginning e, ap is_blank e)
form_begins (A_mark m) b bs is = let e : b ≡ first (spelling m) = ap first is in let k = mark_begins m in (ap beginning e ∙ k.0, ap is_blank e ∙ k.1)

-- the units of a string, up to the first `"` that is no part of an escape

itself_is_plain : (b : ℕ) → is_unit (Itself b) ≡ true → (b ≡ 34 → ⊥) × (b ≡ 92 → ⊥)
itself_is_plain b h = (λ e. let h' = subst (λ (x : ℕ). is_unit (Itself x) ≡ true) e h in absurd cc, λ e. let h' = subst (λ (x : ℕ). is_unit (Itself x) ≡ true) e h in absurd cc)

first_unit : (u : Unit_of_string) (us : List Unit_of_string) → list_all is_unit (u ∷ us) ≡ true → (is_unit u ≡ true) × (list_all is_unit us ≡ true)
first_unit u us h = and_parts (is_unit u) (list_all is_unit us) h

pub one_units : (us vs : List Unit_of_string) (r s : List ℕ) → list_all is_unit us ≡ true → list_all is_unit vs ≡ true → spelled us ++ 34 ∷ r ≡ spelled vs ++ 34 ∷ s → us ≡ vs
one_units [] [] r s a b h = refl
one_units [] (Itself c ∷ vs) r s a b h = absurd ((itself_is_plain c (first_unit (Itself c) vs b).0).0 cc)
one_units [] (Escape c ∷ vs) r s a b h = let e : ◌≡◌ {A = ℕ} 34 92 = ap first h in absurd (omega arith)
one_units (Itself c ∷ us) [] r s a b h = absurd ((itself_is_plain c (first_unit (Itself c) us a).0).0 cc)
one_units (Escape c ∷ us) [] r s a b h = let e : ◌≡◌ {A = ℕ} 92 34 = ap first h in absurd (omega arith)
one_units (Itself c ∷ us) (Itself d ∷ vs) r s a b h =
    let same : c ≡ d = cc in
    let more : spelled us ++ 34 ∷ r ≡ spelled vs ++ 34 ∷ s = cc in
    let rest = one_units us vs r s (first_unit (Itself c) us a).1 (first_unit (Itself d) vs b).1 more in
    cc
one_units (Itself c ∷ us) (Escape d ∷ vs) r s a b h = absurd ((itself_is_plain c (first_unit (Itself c) us a).0).1 cc)
one_units (Escape c ∷ us) (Itself d ∷ vs) r s a b h = absurd ((itself_is_plain d (first_unit (Itself d) vs b).0).1 cc)
one_units (Escape c ∷ us) (Escape d ∷ vs) r s a b h =
    let same : c ≡ d = cc in
    let more : spelled us ++ 34 ∷ r ≡ spelled vs ++ 34 ∷ s = cc in
    let rest = one_units us vs r s (first_unit (Escape c) us a).1 (first_unit (Escape d) vs b).1 more in
    cc

-- a mark by its spelling

abbrev spelled_number : List ℕ → ℕ
spelled_number [] = 0
spelled_number (b ∷ bs) = b + 128 * spelled_number bs

-- the mark with this number
abbrev mark_of : ℕ → Mark
mark_of n = if n == 40 then mark.OpenParen else (if n == 41 then mark.CloseParen else (if n == 91 then mark.OpenBracket else (if n == 93 then mark.CloseBracket else (if n == 123 then mark.OpenBrace else (if n == 125 then mark.CloseBrace else (if n == 59 then mark.Semicolon else (if n == 44 then mark.Comma else (if n == 61 then mark.Assign else (if n == 43 then mark.Plus else (if n == 45 then mark.Minus else (if n == 42 then mark.Star else (if n == 47 then mark.Slash else (if n == 37 then mark.Percent else (if n == 60 then mark.Less else (if n == 62 then mark.More else (if n == 7868 then mark.LessSame else (if n == 7870 then mark.MoreSame else (if n == 7869 then mark.Same else (if n == 7841 then mark.Differs else (if n == 4902 then mark.And else (if n == 15996 then mark.Or else (if n == 33 then mark.Not else (if n == 38 then mark.Ampersand else (if n == 46 then mark.Dot else (if n == 7981 then mark.Arrow else (if n == 5547 then mark.Increment else (if n == 5805 then mark.Decrement else (if n == 7851 then mark.PlusAssign else (if n == 7853 then mark.MinusAssign else (if n == 7850 then mark.StarAssign else (if n == 7855 then mark.SlashAssign else (if n == 7845 then mark.PercentAssign else (if n == 124 then mark.Pipe else (if n == 94 then mark.Caret else (if n == 126 then mark.Tilde else (if n == 7740 then mark.ShiftLeft else (if n == 7998 then mark.ShiftRight else (if n == 63 then mark.Question else (if n == 58 then mark.Colon else (if n == 1007164 then mark.ShiftLeftAssign else (if n == 1007422 then mark.ShiftRightAssign else (if n == 7846 then mark.AmpersandAssign else (if n == 7932 then mark.PipeAssign else (if n == 7902 then mark.CaretAssign else (if n == 759598 then mark.Ellipsis else mark.Hash)))))))))))))))))))))))))))))))))))))))))))))

mark_is_found : (m : Mark) → mark_of (spelled_number (spelling m)) ≡ m
mark_is_found mark.OpenParen = refl
mark_is_found m = refl

-- the mark that bytes spell, if they spell one
pub named : List ℕ → Mark
named u = mark_of (spelled_number u)

pub named_is : (m : Mark) → named (spelling m) ≡ m
unfolding named
named_is m = mark_is_found m

one_mark : (m n : Mark) → spelling m ≡ spelling n → m ≡ n
one_mark m n h = sym (mark_is_found m) ∙ (ap (λ (s : List ℕ). mark_of (spelled_number s)) h ∙ mark_is_found n)

pub some_is_one : (s t : List ℕ) → Some s ≡ Some t → s ≡ t
some_is_one s t h = cc

one_string : (s t u : List ℕ) → IsForm (A_string s) u → IsForm (A_string t) u → s ≡ t
one_string s t u a b =
    let both : 34 ∷ (spelled a.0 ++ 34 ∷ []) ≡ 34 ∷ (spelled b.0 ++ 34 ∷ []) = sym a.1.0 ∙ b.1.0 in
    let units = one_units a.0 b.0 [] [] a.1.1 b.1.1 cc in
    some_is_one s t (sym a.2 ∙ (ap values units ∙ b.2))

-- a front has one form
pub one_form : (f g : Form) (u : List ℕ) → IsForm f u → IsForm g u → f ≡ g
one_form f g [] a b = absurd (no_empty_form f a)
one_form (A_name s) (A_name t) (c ∷ cs) a b = ap A_name (a.1 ∙ sym b.1)
one_form (A_number m) (A_number n) (c ∷ cs) a b = ap A_number (a.1 ∙ sym b.1)
one_form (A_string s) (A_string t) (c ∷ cs) a b = ap A_string (one_string s t (c ∷ cs) a b)
one_form (A_mark m) (A_mark n) (c ∷ cs) a b = ap A_mark (one_mark m n (sym a ∙ b))
one_form f g (c ∷ cs) a b = let e : beginning_of f ≡ beginning_of g = sym (form_begins f c cs a).0 ∙ (form_begins g c cs b).0 in absurd cc

-- a text has one longest front with a form
pub one_longest : (text : List ℕ) (f g : Form) (u v rest more : List ℕ) → IsLongest text f u rest → IsLongest text g v more → (f ≡ g) × (u ≡ v) × (rest ≡ more)
one_longest text f g u v rest more a b =
    let far = a.longest g v more b.joined b.form in
    let near = b.longest f u rest a.joined a.form in
    let n : length u ≡ length v = omega arith in
    let e = same_front u v rest more n (sym a.joined ∙ b.joined) in
    (one_form f g v (subst (IsForm f) e.0 a.form) b.form, e.0, e.1)

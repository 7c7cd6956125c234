-- Whether bytes have a form, and whether a front of a text has one: then the longest.
use Rattle.std.proofs.Common.{◌≡◌, ◌≤◌, ◌<◌, ℕ, zero, suc, List, [], ◌∷◌, ◌++◌, Bool, true, false, ◌||◌, Option, Some, None, refl, sym, ap, subst, ◌∙◌, inl, inr, ◌⊎◌, arith, length, take, drop, append_assoc}
use Rattle.std.specs.List.{list_all}
use Rattle.std.specs.Str.{bytes_eq}
use Rattle.std.proofs.lemmas.Bool.{both_ways, cases_lt, cases_eq}
use Rattle.std.proofs.lemmas.Slice.Eq.{bytes_eq-Decides}
use Rattle.std.proofs.lemmas.List.{take-append-drop, length-take-le}
use Rattle.std.proofs.lemmas.List.Folds.{list_all-append}
use Rattle.std.proofs.lemmas.Grind.{flat_map-append}
use Rattle.ca_tree.specs.declared.token.Mark.{Mark}
use Rattle.ca_tree.specs.Tokens.{Unit_of_string, Itself, Escape, unit_bytes, is_unit, unit_value, spelled, values, is_name, is_decimal, is_hexadecimal, value_of, spelling, Form, A_name, A_number, A_string, A_mark, IsForm, IsLongest}
use Rattle.ca_tree.specs.Lexed.{IsFirstBad}
use Rattle.ca_lex.specs.Strings.{NoClose}
use Rattle.ca_lex.proofs.Cuts.{cut_len, cut_take}
use Rattle.ca_lex.proofs.Units.{Passed, passed_itself, passed_escape, none_behind, none_at_end, none_at_feed, none_escape_end, none_escape_feed}
use Rattle.ca_lex.proofs.OneForm.{named, named_is, no_empty_form, one_units, first}
use Rattle.ca_lex.proofs.OneHead.{no_first_bad}

-- units up to the first `"` that is no part of an escape

abbrev pub Closes : List ℕ → Type 0
Closes text = (end : List ℕ) × Passed text (34 ∷ end)

abbrev CloseOrNot : List ℕ → Type 0
CloseOrNot text = Closes text ⊎ NoClose text

nothing_passed : (text : List ℕ) → Passed text text
nothing_passed text = ([], refl, refl)

passed_on : (text rest end : List ℕ) → Passed text rest → Passed rest end → Passed text end
passed_on text rest end p q =
    let e : spelled (p.0 ++ q.0) ≡ spelled p.0 ++ spelled q.0 = flat_map-append unit_bytes p.0 q.0 in
    let f : spelled p.0 ++ (spelled q.0 ++ end) ≡ spelled (p.0 ++ q.0) ++ end = sym (ap (λ (t : List ℕ). t ++ end) e ∙ append_assoc (spelled p.0) (spelled q.0) end) in
    (p.0 ++ q.0, p.1 ∙ (ap (λ (t : List ℕ). spelled p.0 ++ t) q.1 ∙ f), list_all-append is_unit p.0 q.0 ∙ rw (p.2, q.2) refl)

ahead : (text rest : List ℕ) → Passed text rest → CloseOrNot rest → CloseOrNot text
ahead text rest p (inl c) = inl (c.0, passed_on text rest (34 ∷ c.0) p c.1)
ahead text rest p (inr none) = inr (none_behind text rest p none)

close_one : (b : ℕ) (bs : List ℕ) → (b ≡ 34) ⊎ (b ≡ 34 → ⊥) → (b ≡ 10) ⊎ (b ≡ 10 → ⊥) → (b ≡ 92) ⊎ (b ≡ 92 → ⊥) → CloseOrNot bs → (b ≡ 92 → CloseOrNot (b ∷ bs)) → CloseOrNot (b ∷ bs)
close_one b bs (inl q) f s ih esc = inl (bs, ([], ap (λ (x : ℕ). x ∷ bs) q, refl))
close_one b bs (inr q) (inl f) s ih esc = inr (none_at_feed (b ∷ bs) bs b refl f)
close_one b bs (inr q) (inr f) (inl s) ih esc = esc s
close_one b bs (inr q) (inr f) (inr s) ih esc = ahead (b ∷ bs) bs (passed_itself (b ∷ bs) (b ∷ bs) bs b (nothing_passed (b ∷ bs)) refl f q s) ih

close_escape : (b c : ℕ) (cs : List ℕ) → b ≡ 92 → (c ≡ 10) ⊎ (c ≡ 10 → ⊥) → CloseOrNot cs → CloseOrNot (b ∷ c ∷ cs)
close_escape b c cs s (inl f) ih = inr (none_escape_feed (b ∷ c ∷ cs) (c ∷ cs) cs b c refl s refl f)
close_escape b c cs s (inr f) ih = ahead (b ∷ c ∷ cs) cs (passed_escape (b ∷ c ∷ cs) (b ∷ c ∷ cs) (c ∷ cs) cs b c (nothing_passed (b ∷ c ∷ cs)) refl s refl f) ih

pub close : (text : List ℕ) → Closes text ⊎ NoClose text
close [] = inr (none_at_end [] refl)
close (b ∷ []) = close_one b [] (cases_eq b 34) (cases_eq b 10) (cases_eq b 92) (inr (none_at_end [] refl)) (λ s. inr (none_escape_end (b ∷ []) [] b refl s refl))
close (b ∷ c ∷ cs) = close_one b (c ∷ cs) (cases_eq b 34) (cases_eq b 10) (cases_eq b 92) (close (c ∷ cs)) (λ s. close_escape b c cs s (cases_eq c 10) (close cs))

-- what units stand for, or the first escape that is none

abbrev ValuesOrBad : List Unit_of_string → Type 0
ValuesOrBad us = ((t : List ℕ) × (values us ≡ Some t)) ⊎ ((good : List Unit_of_string) × IsFirstBad us good)

value_step : (u : Unit_of_string) (us : List Unit_of_string) (o : Option ℕ) → unit_value u ≡ o → ValuesOrBad us → ValuesOrBad (u ∷ us)
value_step u us (Some x) e (inl t) = inl (x ∷ t.0, rw (e, t.1) refl)
value_step u us (Some x) e (inr bad) = inr (u ∷ bad.0, (bad.1.0, bad.1.1, x ∷ bad.1.2, ap (λ (vs : List Unit_of_string). u ∷ vs) bad.1.3, rw (e, bad.1.4) refl, bad.1.5))
value_step (Itself b) us None e ih = absurd cc
value_step (Escape b) us None e ih = inr ([], (b, us, [], refl, refl, e))

pub values_or_bad : (us : List Unit_of_string) → ((t : List ℕ) × (values us ≡ Some t)) ⊎ ((good : List Unit_of_string) × IsFirstBad us good)
values_or_bad [] = inl ([], refl)
values_or_bad (u ∷ us) = value_step u us (unit_value u) refl (values_or_bad us)

-- marks

abbrev MarkOrNot : List ℕ → Type 0
MarkOrNot u = ((m : Mark) × (u ≡ spelling m)) ⊎ ((m : Mark) → u ≡ spelling m → ⊥)

mark_by : (u : List ℕ) (b : Bool) → bytes_eq u (spelling (named u)) ≡ b → MarkOrNot u
mark_by u true e = inl (named u, (bytes_eq-Decides u (spelling (named u))).0 e)
mark_by u false e = inr (λ m is.
    let same : named u ≡ m = ap named is ∙ named_is m in
    both_ways _ e ((bytes_eq-Decides u (spelling (named u))).1 (is ∙ ap spelling (sym same))))

-- strings

abbrev StringOrNot : List ℕ → Type 0
StringOrNot u = ((t : List ℕ) × IsForm (A_string t) u) ⊎ ((t : List ℕ) → IsForm (A_string t) u → ⊥)

same_units : (us vs : List Unit_of_string) (end : List ℕ) → list_all is_unit us ≡ true → list_all is_unit vs ≡ true → spelled us ++ 34 ∷ end ≡ spelled vs ++ 34 ∷ [] → (us ≡ vs) × (length end ≡ 0)
same_units us vs end a b e =
    let same = one_units us vs end [] a b e in
    let one = cut_len (spelled us ++ 34 ∷ end) (spelled us) (34 ∷ end) refl in
    let two = cut_len (spelled us ++ 34 ∷ end) (spelled vs) (34 ∷ []) e in
    let size : length (spelled us) ≡ length (spelled vs) = ap (λ (ws : List Unit_of_string). length (spelled ws)) same in
    (same, omega (arith, one, two, size))

string_closed : (us : List Unit_of_string) (end : List ℕ) → list_all is_unit us ≡ true → ValuesOrBad us → StringOrNot (34 ∷ (spelled us ++ 34 ∷ end))
string_closed us [] all (inl t) = inl (t.0, (us, (refl, all), t.1))
string_closed us [] all (inr bad) = inr (λ t is.
    let tails : spelled us ++ 34 ∷ [] ≡ spelled is.0 ++ 34 ∷ [] = let e = is.1.0 in cc in
    let same = (same_units us is.0 [] all is.1.1 tails).0 in
    no_first_bad us bad.0 t bad.1 (ap values same ∙ is.2))
string_closed us (c ∷ cs) all v = inr (λ t is.
    let tails : spelled us ++ 34 ∷ c ∷ cs ≡ spelled is.0 ++ 34 ∷ [] = let e = is.1.0 in cc in
    let none = (same_units us is.0 (c ∷ cs) all is.1.1 tails).1 in
    omega (arith, none))

string_at : (more : List ℕ) → Closes more ⊎ NoClose more → StringOrNot (34 ∷ more)
string_at more (inl c) = subst (λ (t : List ℕ). StringOrNot (34 ∷ t)) (sym c.1.1) (string_closed c.1.0 c.0 c.1.2 (values_or_bad c.1.0))
string_at more (inr none) = inr (λ t is. let e = is.1.0 in let tails : more ≡ spelled is.0 ++ 34 ∷ [] = cc in none is.0 [] tails is.1.1)

string_by : (b : ℕ) (more : List ℕ) → (b ≡ 34) ⊎ (b ≡ 34 → ⊥) → StringOrNot (b ∷ more)
string_by b more (inl q) = subst (λ (x : ℕ). StringOrNot (x ∷ more)) (sym q) (string_at more (close more))
string_by b more (inr q) = inr (λ t is. q (ap first is.1.0))

string_or_not : (u : List ℕ) → StringOrNot u
string_or_not [] = inr (λ t is. no_empty_form (A_string t) is)
string_or_not (b ∷ more) = string_by b more (cases_eq b 34)

-- forms

abbrev FormOrNot : List ℕ → Type 0
FormOrNot u = ((f : Form) × IsForm f u) ⊎ ((f : Form) → IsForm f u → ⊥)

no_form : (u : List ℕ) → is_name u ≡ false → (is_decimal u || is_hexadecimal u) ≡ false → ((m : Mark) → u ≡ spelling m → ⊥) → ((t : List ℕ) → IsForm (A_string t) u → ⊥) → (f : Form) → IsForm f u → ⊥
no_form u name number mark string (A_name t) is = both_ways _ name is.0
no_form u name number mark string (A_number n) is = both_ways _ number is.0
no_form u name number mark string (A_string t) is = string t is
no_form u name number mark string (A_mark m) is = mark m is

form_by : (u : List ℕ) (a b : Bool) → is_name u ≡ a → (is_decimal u || is_hexadecimal u) ≡ b → MarkOrNot u → StringOrNot u → FormOrNot u
form_by u true b e d m s = inl (A_name u, (e, refl))
form_by u false true e d m s = inl (A_number (value_of u), (d, refl))
form_by u false false e d (inl m) s = inl (A_mark m.0, m.1)
form_by u false false e d (inr m) (inl s) = inl (A_string s.0, s.1)
form_by u false false e d (inr m) (inr s) = inr (no_form u e d m s)

form_or_not : (u : List ℕ) → FormOrNot u
form_or_not u = form_by u (is_name u) (is_decimal u || is_hexadecimal u) refl refl (mark_by u (bytes_eq u (spelling (named u))) refl) (string_or_not u)

-- the longest front that has a form, or none

abbrev pub Found : List ℕ → Type 0
Found text = (f : Form) × (u : List ℕ) × (rest : List ℕ) × IsLongest text f u rest

abbrev pub Formless : List ℕ → Type 0
Formless text = (f : Form) (u rest : List ℕ) → text ≡ u ++ rest → IsForm f u → ⊥

abbrev NoLonger : ℕ → List ℕ → Type 0
NoLonger n text = (g : Form) (v more : List ℕ) → text ≡ v ++ more → IsForm g v → length v ≤ n

some_bytes : (f : Form) (u : List ℕ) → IsForm f u → 0 < length u
some_bytes f [] is = absurd (no_empty_form f is)
some_bytes f (b ∷ bs) is = omega arith

one_less : (n : ℕ) (text : List ℕ) → ((f : Form) → IsForm f (take (suc n) text) → ⊥) → NoLonger (suc n) text → NoLonger n text
one_less n text none bound g v more e is = less (cases_lt n (length v))
  where
    less : (n < length v) ⊎ (length v ≤ n) → length v ≤ n
    less (inr le) = le
    less (inl lt) =
        let within = bound g v more e is in
        let front = cut_take text v more (suc n) e (omega (arith, within)) in
        absurd (none g (subst (λ (t : List ℕ). IsForm g t) (sym front) is))

longest_step : (n : ℕ) (text : List ℕ) → suc n ≤ length text → NoLonger (suc n) text → FormOrNot (take (suc n) text) → (NoLonger n text → Found text ⊎ Formless text) → Found text ⊎ Formless text
longest_step n text within bound (inl f) ih = inl (
  f.0,
  take (suc n) text,
  drop (suc n) text,
  record {
    joined = sym (take-append-drop (suc n) text);
    form = f.1;
    longest = λ g v more e is. rw (length-take-le (suc n) text within) (bound g v more e is);
  },
)
longest_step n text within bound (inr none) ih = ih (one_less n text none bound)

longest_from : (n : ℕ) (text : List ℕ) → n ≤ length text → NoLonger n text → Found text ⊎ Formless text
longest_from zero text within bound = inr (λ f u rest e is. let some = some_bytes f u is in let none = bound f u rest e is in omega (arith, some, none))
longest_from (suc n) text within bound = longest_step n text within bound (form_or_not (take (suc n) text)) (λ less. longest_from n text (omega (arith, within)) less)

pub longest_or_none : (text : List ℕ) → Found text ⊎ Formless text
longest_or_none text = longest_from (length text) text (omega arith) (λ g v more e is. omega (arith, cut_len text v more e))

-- the rest is shorter than the text
pub rest_shorter : (text u rest : List ℕ) (f : Form) → IsLongest text f u rest → length rest < length text
rest_shorter text u rest f l = let some = some_bytes f u l.form in omega (arith, cut_len text u rest l.joined, some)

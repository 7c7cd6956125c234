-- A text that begins with `"` has no longest form but a string, and one string at most.
use Rattle.std.proofs.Common.{not, ◌≡◌, ◌≤◌, ◌+◌, ℕ, List, [], ◌∷◌, ◌++◌, Bool, true, false, ◌==◌, ◌||◌, Some, refl, sym, ap, subst, ◌∙◌, arith, length, take, drop, append_assoc, get_or}
use Rattle.std.proofs.lemmas.List.{take-append-drop}
use Rattle.std.specs.List.{list_all}
use Rattle.std.proofs.lemmas.Grind.{flat_map-append}
use Rattle.ca_tree.specs.declared.token.Mark.{Mark}
use Rattle.ca_tree.specs.declared.token.Mark.TheVariants as mark
use Rattle.ca_tree.specs.Tokens.{Unit_of_string, Escape, unit_bytes, is_unit, spelled, values, is_name, is_decimal, is_hexadecimal, spelling, Form, A_name, A_number, A_string, A_mark, IsForm, IsLongest}
use Rattle.ca_tree.specs.Lexed.{IsFirstBad}
use Rattle.ca_lex.specs.declared.strings.Quoted.{Quoted}
use Rattle.ca_lex.specs.declared.strings.Quoted.TheVariants as quoted
use Rattle.ca_lex.specs.Strings.{StringAt, ClosesAt, UnitsGive}
use Rattle.ca_lex.proofs.Cuts.{cut_len, cut_take, cut_drop}
use Rattle.ca_lex.proofs.Units.{goes_through}

no_name : (v more rest : List ℕ) → 34 ∷ rest ≡ v ++ more → is_name v ≡ true → ⊥
no_name [] more rest e h = absurd cc
no_name (b ∷ bs) more rest e h = let same : b ≡ 34 = cc in let g = subst (λ (x : ℕ). is_name (x ∷ bs) ≡ true) same h in absurd cc

no_number : (v more rest : List ℕ) → 34 ∷ rest ≡ v ++ more → (is_decimal v || is_hexadecimal v) ≡ true → ⊥
no_number [] more rest e h = absurd cc
no_number (b ∷ []) more rest e h = let same : b ≡ 34 = cc in let g = subst (λ (x : ℕ). (is_decimal (x ∷ []) || is_hexadecimal (x ∷ [])) ≡ true) same h in absurd cc
no_number (b ∷ c ∷ []) more rest e h = let same : b ≡ 34 = cc in let g = subst (λ (x : ℕ). (is_decimal (x ∷ c ∷ []) || is_hexadecimal (x ∷ c ∷ [])) ≡ true) same h in absurd cc
no_number (b ∷ c ∷ d ∷ ds) more rest e h = let same : b ≡ 34 = cc in let g = subst (λ (x : ℕ). (is_decimal (x ∷ c ∷ d ∷ ds) || is_hexadecimal (x ∷ c ∷ d ∷ ds)) ≡ true) same h in absurd cc

other_first : List ℕ → Bool
other_first [] = false
other_first (b ∷ bs) = not (b == 34)

mark_first : (m : Mark) → other_first (spelling m) ≡ true
unfolding other_first
mark_first mark.OpenParen = refl
mark_first m = refl

not_quote : (s more rest : List ℕ) → other_first s ≡ true → 34 ∷ rest ≡ s ++ more → ⊥
unfolding other_first
not_quote [] more rest h e = absurd cc
not_quote (b ∷ bs) more rest h e = let same : b ≡ 34 = cc in let g = subst (λ (x : ℕ). not (x == 34) ≡ true) same h in absurd cc

no_mark : (m : Mark) (more rest : List ℕ) → 34 ∷ rest ≡ spelling m ++ more → ⊥
no_mark m more rest e = not_quote (spelling m) more rest (mark_first m) e

whole_of : (us : List Unit_of_string) (rest : List ℕ) → 34 ∷ (spelled us ++ 34 ∷ rest) ≡ (34 ∷ (spelled us ++ 34 ∷ [])) ++ rest
whole_of us rest = ap (λ (t : List ℕ). 34 ∷ t) (sym (append_assoc (spelled us) (34 ∷ []) rest))

-- no other form at the head is longer
longest : (us : List Unit_of_string) (rest : List ℕ) → list_all is_unit us ≡ true → (g : Form) (v more : List ℕ) → 34 ∷ (spelled us ++ 34 ∷ rest) ≡ v ++ more → IsForm g v → length v ≤ length (34 ∷ (spelled us ++ 34 ∷ []))
longest us rest all (A_name t) v more e is = absurd (no_name v more (spelled us ++ 34 ∷ rest) e is.0)
longest us rest all (A_number n) v more e is = absurd (no_number v more (spelled us ++ 34 ∷ rest) e is.0)
longest us rest all (A_mark m) v more e is = absurd (no_mark m more (spelled us ++ 34 ∷ rest) (e ∙ ap (λ (t : List ℕ). t ++ more) is))
longest us rest all (A_string t) v more e is =
    let other : 34 ∷ (spelled us ++ 34 ∷ rest) ≡ 34 ∷ (spelled is.0 ++ 34 ∷ more) = e ∙ (ap (λ (s : List ℕ). s ++ more) is.1.0 ∙ sym (whole_of is.0 more)) in
    let tails : spelled is.0 ++ 34 ∷ more ≡ spelled us ++ 34 ∷ rest = cc in
    let left = goes_through is.0 us (34 ∷ more) rest is.1.1 all tails in
    let behind = cut_len (34 ∷ more) (spelled left.0) (34 ∷ rest) left.1 in
    let one = cut_len (34 ∷ (spelled us ++ 34 ∷ rest)) v more e in
    let two = cut_len (34 ∷ (spelled us ++ 34 ∷ rest)) (34 ∷ (spelled us ++ 34 ∷ [])) rest (whole_of us rest) in
    omega (arith, behind, one, two)

string_len : (us : List Unit_of_string) → length (34 ∷ (spelled us ++ 34 ∷ [])) ≡ length (spelled us) + 2
string_len us = let e = cut_len (spelled us ++ 34 ∷ []) (spelled us) (34 ∷ []) refl in omega (arith, e)

string_longest : (us : List Unit_of_string) (rest bytes : List ℕ) → list_all is_unit us ≡ true → values us ≡ Some bytes → IsLongest (34 ∷ (spelled us ++ 34 ∷ rest)) (A_string bytes) (34 ∷ (spelled us ++ 34 ∷ [])) rest
string_longest us rest bytes all is = record { joined = whole_of us rest; form = (us, (refl, all), is); longest = longest us rest all }

closed : (text : List ℕ) (us : List Unit_of_string) (rest bytes : List ℕ) (len : ℕ) → text ≡ 34 ∷ (spelled us ++ 34 ∷ rest) → list_all is_unit us ≡ true → values us ≡ Some bytes → len ≡ length (spelled us) + 2 → StringAt text (quoted.Closed len bytes)
closed text us rest bytes len e all is size =
    let u : List ℕ = 34 ∷ (spelled us ++ 34 ∷ []) in
    let cut : text ≡ u ++ rest = e ∙ whole_of us rest in
    let long = string_len us in
    let same : len ≡ length u = size ∙ sym long in
    let front = cut_take text u rest len cut same in
    let behind = cut_drop text u rest len cut same in
    let is_longest = subst (λ (t : List ℕ). IsLongest t (A_string bytes) u rest) (sym e) (string_longest us rest bytes all is) in (
      subst (λ (t : List ℕ). IsLongest text (A_string bytes) t (drop len text)) (sym front) (subst (λ (t : List ℕ). IsLongest text (A_string bytes) u t) (sym behind) is_longest),
      omega (arith, size),
      omega (arith, cut_len text u rest cut, same),
    )

bad : (text : List ℕ) (us good : List Unit_of_string) (rest : List ℕ) (place : ℕ) → text ≡ 34 ∷ (spelled us ++ 34 ∷ rest) → list_all is_unit us ≡ true → IsFirstBad us good → place ≡ length (spelled good) + 1 → StringAt text (quoted.Bad place)
bad text us good rest place e all first is =
    let tail : List ℕ = 92 ∷ first.0 ∷ spelled first.1 in
    let split : spelled us ≡ spelled good ++ tail = ap spelled first.3 ∙ flat_map-append unit_bytes good (Escape first.0 ∷ first.1) in
    let cut : text ≡ (34 ∷ spelled good) ++ (tail ++ 34 ∷ rest) = e ∙ ap (λ (t : List ℕ). 34 ∷ t) (ap (λ (t : List ℕ). t ++ 34 ∷ rest) split ∙ append_assoc (spelled good) tail (34 ∷ rest)) in
    let len = cut_len text (34 ∷ spelled good) (tail ++ 34 ∷ rest) cut in
    (us, good, (rest, e, all), first, cut_take text (34 ∷ spelled good) (tail ++ 34 ∷ rest) place cut (omega (arith, is)), omega (arith, len, is))

whole_text : (text more units : List ℕ) (n : ℕ) (us : List Unit_of_string) (rest : List ℕ) → text ≡ 34 ∷ more → drop n more ≡ 34 ∷ rest → units ≡ take n more → units ≡ spelled us → text ≡ 34 ∷ (spelled us ++ 34 ∷ rest)
whole_text text more units n us rest e behind is spelling = let joined = take-append-drop n more in cc

-- the whole string, by what stands behind its first quote
pub string_is : (text more units : List ℕ) (n : ℕ) → text ≡ 34 ∷ more → ClosesAt more n → units ≡ take n more → (q : Quoted) → UnitsGive units q → StringAt text q
string_is text more units n e at is (quoted.Closed len bytes) g =
    closed text g.0 at.1 bytes len (whole_text text more units n g.0 at.1 e at.3 is g.1.0) g.1.1 g.2 (omega (arith, g.3, ap length g.1.0))
string_is text more units n e at is quoted.Open g = absurd g
string_is text more units n e at is (quoted.Bad place) g = bad text g.0 g.1 at.1 place (whole_text text more units n g.0 at.1 e at.3 is g.2.0) g.2.1 g.3 g.4

pub first_quote : (text more : List ℕ) (b : ℕ) → text ≡ b ∷ more → get_or text 0 0 ≡ 34 → text ≡ 34 ∷ more
first_quote text more b e is =
    let same : b ≡ 34 = subst (λ (t : List ℕ). get_or t 0 0 ≡ 34) e is in
    e ∙ ap (λ (x : ℕ). x ∷ more) same

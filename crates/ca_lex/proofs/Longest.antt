-- The longest names and numbers.
use Rattle.std.proofs.Common.{◌≡◌, ◌<◌, ◌≤◌, ◌+◌, ◌-◌, ◌*◌, ◌^◌, ℕ, suc, List, [], ◌∷◌, ◌++◌, length, take, drop, Bool, true, false, not, ◌&&◌, ◌||◌, ◌==◌, refl, sym, ap, ◌∙◌, arith, slice_index, None, drop-cons}
use Rattle.std.specs.Char.{digit_value}
use Rattle.std.specs.List.{list_all, prefix_len}
use Rattle.std.proofs.lemmas.Bool.{and_parts}
use Rattle.std.proofs.lemmas.Bool.Decides.{nat_tests}
use Rattle.std.proofs.lemmas.List.Sums.{prefix_len-le-length}
use Rattle.std.proofs.lemmas.List.{take_all}
use Rattle.std.proofs.lemmas.List.Folds.{length-prefix_len}
use Rattle.std.proofs.Math.Nat.{mul-le-mul_left}
use Rattle.ca_tree.specs.Tokens.{begins_name, goes_on_name, is_name, is_digit, is_hex_digit, is_decimal, is_hexadecimal, value_from}
use Rattle.ca_lex.specs.Fronts.{small, IsLongestThat}

-- runs of bytes that pass a test

run_more : (p : ℕ → Bool) (c : ℕ) (cs : List ℕ) → p c ≡ true → prefix_len p (c ∷ cs) ≡ suc (prefix_len p cs)
run_more p c cs h = rw h (omega arith)

run_none : (p : ℕ → Bool) (c : ℕ) (cs : List ℕ) → p c ≡ false → prefix_len p (c ∷ cs) ≡ 0
run_none p c cs h = rw h refl

run_passes_step : (p : ℕ → Bool) (c : ℕ) (cs : List ℕ) (b : Bool) → p c ≡ b → list_all p (take (prefix_len p cs) cs) ≡ true → list_all p (take (prefix_len p (c ∷ cs)) (c ∷ cs)) ≡ true
run_passes_step p c cs true e ih = rw (run_more p c cs e, e) ih
run_passes_step p c cs false e ih = rw (run_none p c cs e) refl

run_passes : (p : ℕ → Bool) (cs : List ℕ) → list_all p (take (prefix_len p cs) cs) ≡ true
run_passes p [] = refl
run_passes p (c ∷ cs) = run_passes_step p c cs (p c) refl (run_passes p cs)

run_longest : (p : ℕ → Bool) (text v more : List ℕ) → text ≡ v ++ more → list_all p v ≡ true → length v ≤ prefix_len p text
run_longest p text [] more e h = omega arith
run_longest p [] (b ∷ bs) more e h = absurd cc
run_longest p (c ∷ cs) (b ∷ bs) more e h =
    let t = and_parts (p b) (list_all p bs) h in
    let same : c ≡ b = cc in
    let left : cs ≡ bs ++ more = cc in
    let passes : p c ≡ true = rw same t.0 in
    omega (arith, run_more p c cs passes, run_longest p cs bs more left t.1)

-- names

begun_goes_on : (c : ℕ) → begins_name c ≡ true → goes_on_name c ≡ true
begun_goes_on c h = grind (arith, nat_tests)

name_goes_on : (v : List ℕ) → is_name v ≡ true → list_all goes_on_name v ≡ true
name_goes_on [] h = absurd cc
name_goes_on (c ∷ cs) h =
    let t = and_parts (begins_name c) (list_all goes_on_name cs) h in
    rw (begun_goes_on c t.0) t.1

pub name_longest : (text : List ℕ) → begins_name (slice_index text 0) ≡ true → IsLongestThat is_name text (prefix_len goes_on_name text)
name_longest [] h = absurd cc
name_longest (c ∷ cs) h = record {
  within = prefix_len-le-length goes_on_name (c ∷ cs);
  passes = rw (run_more goes_on_name c cs (begun_goes_on c h), h) (run_passes goes_on_name cs);
  longest = λ v more e is. run_longest goes_on_name (c ∷ cs) v more e (name_goes_on v is);
}

-- decimal numbers

decimal_digits : (v : List ℕ) → is_decimal v ≡ true → list_all is_digit v ≡ true
decimal_digits [] h = absurd cc
decimal_digits (c ∷ []) h = rw h refl
decimal_digits (c ∷ d ∷ ds) h =
    let t = and_parts (is_digit c) (not (c == 48) && list_all is_digit (d ∷ ds)) h in
    let u = and_parts (not (c == 48)) (list_all is_digit (d ∷ ds)) t.1 in
    rw t.0 u.1

digits_decimal : (c : ℕ) (ds : List ℕ) → is_digit c ≡ true → (c == 48) ≡ false → list_all is_digit ds ≡ true → is_decimal (c ∷ ds) ≡ true
digits_decimal c [] h z all = h
digits_decimal c (d ∷ ds) h z all = rw (h, z) all

pub decimal_longest : (text : List ℕ) → is_digit (slice_index text 0) ≡ true → (slice_index text 0 == 48) ≡ false → IsLongestThat is_decimal text (prefix_len is_digit text)
decimal_longest [] h z = absurd cc
decimal_longest (c ∷ cs) h z = record {
  within = prefix_len-le-length is_digit (c ∷ cs);
  passes = rw (run_more is_digit c cs h) (digits_decimal c (take (prefix_len is_digit cs) cs) h z (run_passes is_digit cs));
  longest = λ v more e is. run_longest is_digit (c ∷ cs) v more e (decimal_digits v is);
}

-- hexadecimal numbers

hexadecimal_made : (x : ℕ) (ds : List ℕ) → ((x == 120) || (x == 88)) ≡ true → 0 < length ds → list_all is_hex_digit ds ≡ true → is_hexadecimal (48 ∷ x ∷ ds) ≡ true
hexadecimal_made x [] h some all = absurd (omega arith)
hexadecimal_made x (d ∷ ds) h some all = rw h all

hexadecimal_goes : (x : ℕ) (ds v more : List ℕ) → 48 ∷ x ∷ ds ≡ v ++ more → is_hexadecimal v ≡ true → length v ≤ prefix_len is_hex_digit ds + 2
hexadecimal_goes x ds [] more e h = omega arith
hexadecimal_goes x ds (z ∷ []) more e h = omega arith
hexadecimal_goes x ds (z ∷ y ∷ []) more e h = omega arith
hexadecimal_goes x ds (z ∷ y ∷ b ∷ bs) more e h =
    let t = and_parts (z == 48) (((y == 120) || (y == 88)) && list_all is_hex_digit (b ∷ bs)) h in
    let u = and_parts ((y == 120) || (y == 88)) (list_all is_hex_digit (b ∷ bs)) t.1 in
    let left : ds ≡ (b ∷ bs) ++ more = cc in
    omega (arith, run_longest is_hex_digit ds (b ∷ bs) more left u.1)

hexadecimal_passes : (x : ℕ) (ds : List ℕ) (n : ℕ) → n ≡ prefix_len is_hex_digit ds → ((x == 120) || (x == 88)) ≡ true → 0 < n → is_hexadecimal (take (n + 2) (48 ∷ x ∷ ds)) ≡ true
hexadecimal_passes x ds n is h some =
    let two : n + 2 ≡ suc (suc n) = omega arith in
    let size : length (take n ds) ≡ n = rw is (length-prefix_len is_hex_digit ds) in
    let all : list_all is_hex_digit (take n ds) ≡ true = rw is (run_passes is_hex_digit ds) in
    rw two (hexadecimal_made x (take n ds) h (omega (arith, size)) all)

hexadecimal_longest : (text ds : List ℕ) (x n : ℕ) → text ≡ 48 ∷ x ∷ ds → ((x == 120) || (x == 88)) ≡ true → n ≡ prefix_len is_hex_digit ds → 0 < n → IsLongestThat is_hexadecimal text (n + 2)
hexadecimal_longest text ds x n e h is some = rw e record {
  within = omega (arith, prefix_len-le-length is_hex_digit ds);
  passes = hexadecimal_passes x ds n is h some;
  longest = rw is (hexadecimal_goes x ds);
}

pub hexadecimal_at : (text : List ℕ) (n : ℕ) → 2 ≤ length text → slice_index text 0 ≡ 48 → ((slice_index text 1 == 120) || (slice_index text 1 == 88)) ≡ true → n ≡ prefix_len is_hex_digit (take (length text - 2) (drop 2 text)) → 0 < n → IsLongestThat is_hexadecimal text (n + 2)
hexadecimal_at [] n two z x is some = absurd (omega arith)
hexadecimal_at (c ∷ []) n two z x is some = absurd (omega arith)
hexadecimal_at (c ∷ d ∷ ds) n two z x is some =
    let all : take (length (c ∷ d ∷ ds) - 2) ds ≡ ds = take_all (length (c ∷ d ∷ ds) - 2) ds (omega arith) in
    hexadecimal_longest (c ∷ d ∷ ds) ds d n (ap (λ (y : ℕ). y ∷ d ∷ ds) z) x (rw all at is) some

-- a number only grows by further digits
value_grows : (base n : ℕ) (ds : List ℕ) → 1 ≤ base → n ≤ value_from base n ds
value_grows base n [] h = omega arith
value_grows base n (d ∷ ds) h = omega (arith, mul-le-mul_left n h, value_grows base (n * base + digit_value d) ds h)

pub too_large : (base n d i : ℕ) (ds : List ℕ) → 1 ≤ base → i < length ds → value_from base 0 ds ≡ value_from base n (drop i ds) → d ≡ digit_value (slice_index ds i) → 2 ^ 31 ≤ n * base + d → None ≡ small (value_from base 0 ds)
too_large base n d i ds some within e is large =
    let next : value_from base 0 ds ≡ value_from base (n * base + d) (drop (suc i) ds) = e ∙ (ap (value_from base n) (drop-cons ds i 0 within) ∙ ap (λ (k : ℕ). value_from base (n * base + k) (drop (suc i) ds)) (sym is)) in
    not_small (value_from base 0 ds) (omega (arith, value_grows base (n * base + d) (drop (suc i) ds) some))
  where
    not_small : (m : ℕ) → 2 ^ 31 ≤ m → None ≡ small m
    not_small m h = grind (arith, nat_tests)

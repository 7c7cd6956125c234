-- Which names, numbers and strings may stand in a tree: those of any tokens, or those of the tokens of a text.
use Rattle.std.specs.Prelude.{ℕ, ℤ, pos, negsuc, ◌^◌, Bool, true, false, nat_lt, List}
use Rattle.std.specs.Str.{IsUtf8}
use Rattle.ca_tree.specs.Tokens as tokens

pub record Words : Type 1 where
  pub is_name : List ℕ → Bool
  -- in an expression, as a length, or as a constant with a `-` before it or without
  pub is_number : ℤ → Bool
  pub IsString : List ℕ → Type 0

-- a number has no sign
abbrev pub is_natural : ℤ → Bool
is_natural (pos n) = true
is_natural (negsuc n) = false

abbrev pub any_words : Words
any_words = record { is_name = λ t. true; is_number = is_natural; IsString = λ t. Unit {0} }

-- up to 2147483647
abbrev pub is_small : ℤ → Bool
is_small (pos n) = nat_lt n (2 ^ 31)
is_small (negsuc n) = false

-- letters, digits and `_`; what fits 31 bits; whole characters
abbrev pub text_words : Words
text_words = record { is_name = tokens.is_name; is_number = is_small; IsString = IsUtf8 }

-- The tokens of a text with their places, by longest match; and the fault of a text that has none.
use Rattle.std.specs.Prelude.{◌≡◌, ◌≤◌, ℕ, ◌+◌, ◌*◌, Bool, true, false, not, ◌&&◌, ◌||◌, ◌==◌, nat_le, List, [], ◌∷◌, ◌++◌, length, Option, Some, None, codes, if◌then◌else◌}
use Rattle.std.specs.List.{list_all, flat_map}
use Rattle.std.specs.Char.{digit_value}
use Rattle.ca_tree.specs.declared.token.Mark.{Mark}
use Rattle.ca_tree.specs.declared.token.Mark.TheVariants as mark

-- space, tab, line feed, vertical tab, form feed, carriage return (C11 6.4)
abbrev pub is_blank : ℕ → Bool
is_blank b = (b == 32) || (nat_le 9 b && nat_le b 13)

abbrev pub is_letter : ℕ → Bool
is_letter b = (nat_le 97 b && nat_le b 122) || (nat_le 65 b && nat_le b 90)

abbrev pub is_digit : ℕ → Bool
is_digit b = nat_le 48 b && nat_le b 57

abbrev pub is_hex_digit : ℕ → Bool
is_hex_digit b = is_digit b || ((nat_le 97 b && nat_le b 102) || (nat_le 65 b && nat_le b 70))

-- what a name goes on with; a name begins so, but with no digit (C11 6.4.2.1)
abbrev pub goes_on_name : ℕ → Bool
goes_on_name b = is_letter b || (is_digit b || (b == 95))

abbrev pub begins_name : ℕ → Bool
begins_name b = is_letter b || (b == 95)

abbrev pub is_name : List ℕ → Bool
is_name [] = false
is_name (b ∷ bs) = begins_name b && list_all goes_on_name bs

-- `0`, or a digit 1 to 9 and digits (C11 6.4.4.1)
abbrev pub is_decimal : List ℕ → Bool
is_decimal [] = false
is_decimal (b ∷ []) = is_digit b
is_decimal (b ∷ bs) = is_digit b && (not (b == 48) && list_all is_digit bs)

-- `0x` or `0X` and hexadecimal digits
abbrev pub is_hexadecimal : List ℕ → Bool
is_hexadecimal (z ∷ x ∷ d ∷ ds) = (z == 48) && (((x == 120) || (x == 88)) && list_all is_hex_digit (d ∷ ds))
is_hexadecimal _ = false

-- the value of digits to a base, behind the value of those before
abbrev pub value_from : ℕ → ℕ → List ℕ → ℕ
value_from base n [] = n
value_from base n (b ∷ bs) = value_from base (n * base + digit_value b) bs

abbrev pub value_of : List ℕ → ℕ
value_of (z ∷ x ∷ ds) = if is_hexadecimal (z ∷ x ∷ ds) then value_from 16 0 ds else value_from 10 0 (z ∷ x ∷ ds)
value_of bs = value_from 10 0 bs

-- what stands in a string: a character of its own, or a `\` and a character (C11 6.4.5)
pub data Unit_of_string : Type 0 where
  Itself : (b : ℕ) → Unit_of_string
  Escape : (b : ℕ) → Unit_of_string

abbrev pub unit_bytes : Unit_of_string → List ℕ
unit_bytes (Itself b) = b ∷ []
unit_bytes (Escape b) = 92 ∷ b ∷ []

-- a character but a line feed, and by itself neither `"` nor `\`
abbrev pub is_unit : Unit_of_string → Bool
is_unit (Itself b) = not (b == 10) && (not (b == 34) && not (b == 92))
is_unit (Escape b) = not (b == 10)

-- `\n`, `\t`, `\\`, `\"` (C11 6.4.4.4)
abbrev pub escaped : ℕ → Option ℕ
escaped b = if b == 110 then Some 10 else (if b == 116 then Some 9 else (if b == 92 then Some 92 else (if b == 34 then Some 34 else None)))

abbrev pub unit_value : Unit_of_string → Option ℕ
unit_value (Itself b) = Some b
unit_value (Escape b) = escaped b

abbrev pub spelled : List Unit_of_string → List ℕ
spelled us = flat_map unit_bytes us

abbrev pub and_value : Option ℕ → Option (List ℕ) → Option (List ℕ)
and_value None rest = None
and_value (Some b) None = None
and_value (Some b) (Some bs) = Some (b ∷ bs)

-- the bytes that they stand for, where each escape is one
abbrev pub values : List Unit_of_string → Option (List ℕ)
values [] = Some []
values (u ∷ us) = and_value (unit_value u) (values us)

-- a `"`, units, and a `"`
abbrev pub IsQuoted : List ℕ → List Unit_of_string → Type 0
IsQuoted text us = (text ≡ 34 ∷ (spelled us ++ 34 ∷ [])) × (list_all is_unit us ≡ true)

abbrev pub spelling : Mark → List ℕ
spelling mark.OpenParen = codes "("
spelling mark.CloseParen = codes ")"
spelling mark.OpenBracket = codes "["
spelling mark.CloseBracket = codes "]"
spelling mark.OpenBrace = codes "{"
spelling mark.CloseBrace = codes "}"
spelling mark.Semicolon = codes ";"
spelling mark.Comma = codes ","
spelling mark.Assign = codes "="
spelling mark.Plus = codes "+"
spelling mark.Minus = codes "-"
spelling mark.Star = codes "*"
spelling mark.Slash = codes "/"
spelling mark.Percent = codes "%"
spelling mark.Less = codes "<"
spelling mark.More = codes ">"
spelling mark.LessSame = codes "<="
spelling mark.MoreSame = codes ">="
spelling mark.Same = codes "=="
spelling mark.Differs = codes "!="
spelling mark.And = codes "&&"
spelling mark.Or = codes "||"
spelling mark.Not = codes "!"
spelling mark.Ampersand = codes "&"
spelling mark.Dot = codes "."
spelling mark.Arrow = codes "->"
spelling mark.Increment = codes "++"
spelling mark.Decrement = codes "--"
spelling mark.PlusAssign = codes "+="
spelling mark.MinusAssign = codes "-="
spelling mark.StarAssign = codes "*="
spelling mark.SlashAssign = codes "/="
spelling mark.PercentAssign = codes "%="
spelling mark.Pipe = codes "|"
spelling mark.Caret = codes "^"
spelling mark.Tilde = codes "~"
spelling mark.ShiftLeft = codes "<<"
spelling mark.ShiftRight = codes ">>"
spelling mark.Question = codes "?"
spelling mark.Colon = codes ":"
spelling mark.ShiftLeftAssign = codes "<<="
spelling mark.ShiftRightAssign = codes ">>="
spelling mark.AmpersandAssign = codes "&="
spelling mark.PipeAssign = codes "|="
spelling mark.CaretAssign = codes "^="
spelling mark.Ellipsis = codes "..."
spelling mark.Hash = codes "#"

-- what a front of a text may be, whatever follows it; a number of any size
pub data Form : Type 0 where
  A_name : (text : List ℕ) → Form
  A_number : (n : ℕ) → Form
  A_string : (text : List ℕ) → Form
  A_mark : (m : Mark) → Form

abbrev pub IsForm : Form → List ℕ → Type 0
IsForm (A_name t) u = (is_name u ≡ true) × (t ≡ u)
IsForm (A_number n) u = ((is_decimal u || is_hexadecimal u) ≡ true) × (n ≡ value_of u)
IsForm (A_string t) u = (us : List Unit_of_string) × IsQuoted u us × (values us ≡ Some t)
IsForm (A_mark m) u = u ≡ spelling m

-- the longest front of a text that has a form
pub record IsLongest (text : List ℕ) (f : Form) (u rest : List ℕ) : Type 0 where
  pub joined : text ≡ u ++ rest
  pub form : IsForm f u
  pub longest : (g : Form) (v more : List ℕ) → text ≡ v ++ more → IsForm g v → length v ≤ length u

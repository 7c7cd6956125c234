-- The longest form at the head of a text.
use Rattle.std.specs.Prelude.{◌≡◌, ◌≤◌, ℕ, ◌^◌, nat_lt, Bool, true, List, ◌++◌, length, take, drop, Option, Some, None, if◌then◌else◌}
use Rattle.ca_tree.specs.declared.token.Mark.{Mark}
use Rattle.ca_tree.specs.Tokens.{spelling, A_name, A_number, A_mark, IsLongest}
use Rattle.ca_lex.specs.declared.front.Front.{Front}
use Rattle.ca_lex.specs.declared.front.Front.TheVariants as front

-- a number that a token may have
abbrev pub small : ℕ → Option ℕ
small n = if nat_lt n (2 ^ 31) then Some n else None

abbrev pub IsFront : List ℕ → Front → Type 0
IsFront text (front.Name len) = IsLongest text (A_name (take len text)) (take len text) (drop len text)
IsFront text (front.Number len value) = (n : ℕ) × IsLongest text (A_number n) (take len text) (drop len text) × (value ≡ small n)
IsFront text (front.Mark len mark) = IsLongest text (A_mark mark) (take len text) (drop len text)

abbrev pub front_len : Front → ℕ
front_len (front.Name len) = len
front_len (front.Number len value) = len
front_len (front.Mark len mark) = len

-- the longest front of a text that passes a test
pub record IsLongestThat (test : List ℕ → Bool) (text : List ℕ) (n : ℕ) : Type 0 where
  pub within : n ≤ length text
  pub passes : test (take n text) ≡ true
  pub longest : (v more : List ℕ) → text ≡ v ++ more → test v ≡ true → length v ≤ n

abbrev pub HasNone : (List ℕ → Bool) → List ℕ → Type 0
HasNone test text = (v more : List ℕ) → text ≡ v ++ more → test v ≡ true → ⊥

-- bytes that are the spelling of a mark, or of none
abbrev pub IsSpelled : List ℕ → Option Mark → Type 0
IsSpelled u (Some mark) = u ≡ spelling mark
IsSpelled u None = (m : Mark) → u ≡ spelling m → ⊥

-- the longest front of a text that is the spelling of a mark
abbrev pub IsLongestMark : List ℕ → Option (Mark × ℕ) → Type 0
IsLongestMark text (Some found) = (found.1 ≤ length text) × (take found.1 text ≡ spelling found.0) × ((m : Mark) (more : List ℕ) → text ≡ spelling m ++ more → length (spelling m) ≤ found.1)
IsLongestMark text None = (m : Mark) (more : List ℕ) → text ≡ spelling m ++ more → ⊥

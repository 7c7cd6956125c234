-- Which tokens a text has, and which fault where it has none.
use Rattle.std.specs.Prelude.{◌≡◌, ◌≢◌, ◌≤◌, ◌<◌, ℕ, ◌^◌, pos, Bool, true, false, not, ◌&&◌, ◌||◌, ◌==◌, List, [], ◌∷◌, ◌++◌, length, take, Option, Some, None, Contains, codes, ◌⊎◌, if◌then◌else◌}
use Rattle.std.specs.List.{list_all, list_any}
use Rattle.std.specs.Str.{IsUtf8, IsValidUpTo}
use Rattle.ca_tree.specs.declared.text.Pos.{Pos}
use Rattle.ca_tree.specs.declared.token.Word.{Word}
use Rattle.ca_tree.specs.declared.token.Word.TheVariants as word
use Rattle.ca_tree.specs.declared.token.Token.{Token}
use Rattle.ca_tree.specs.declared.token.LexKind.TheVariants as kind
use Rattle.ca_tree.specs.declared.token.LexFault.{LexFault}
use Rattle.ca_tree.specs.Places.{start, after}
use Rattle.ca_tree.specs.Tokens.{is_blank, goes_on_name, Unit_of_string, Escape, is_unit, escaped, spelled, values, Form, A_name, A_number, A_string, A_mark, IsForm, IsLongest}

-- the text behind the next `*/`
abbrev pub after_close : List ℕ → Option (List ℕ)
after_close [] = None
after_close (b ∷ []) = None
after_close (b ∷ c ∷ more) = if (b == 42) && (c == 47) then Some more else after_close (c ∷ more)

-- the text from the next line feed on
abbrev pub from_line_feed : List ℕ → List ℕ
from_line_feed [] = []
from_line_feed (b ∷ bs) = if b == 10 then b ∷ bs else from_line_feed bs

-- a comment, and what follows it: from `/*` to the next `*/`, or from `//` to the end of its line (C11 6.4.9)
abbrev pub BeginsBlock : List ℕ → List ℕ → Type 0
BeginsBlock text more = text ≡ 47 ∷ 42 ∷ more

abbrev pub BeginsLine : List ℕ → List ℕ → Type 0
BeginsLine text more = text ≡ 47 ∷ 47 ∷ more

abbrev pub IsComment : List ℕ → List ℕ → Type 0
IsComment text rest = (more : List ℕ) × ((BeginsBlock text more × (after_close more ≡ Some rest)) ⊎ (BeginsLine text more × (from_line_feed more ≡ rest)))

abbrev pub BeginsComment : List ℕ → Type 0
BeginsComment text = (more : List ℕ) × (BeginsBlock text more ⊎ BeginsLine text more)

abbrev pub has_line_feed : List ℕ → Bool
has_line_feed bs = list_any (λ b. b == 10) bs

-- nothing but blanks and comments up to the end of the line, where a comment may go on to a later line
pub data IsBare : List ℕ → Type 0 where
  at_the_end : IsBare []
  at_line_feed : (rest : List ℕ) → IsBare (10 ∷ rest)
  behind_blank : (b : ℕ) (rest : List ℕ) → is_blank b ≡ true → IsBare rest → IsBare (b ∷ rest)
  behind_comment : (text u rest : List ℕ) → text ≡ u ++ rest → IsComment text rest → IsBare rest → IsBare text
  into_later_line : (text u rest : List ℕ) → text ≡ u ++ rest → IsComment text rest → has_line_feed u ≡ true → IsBare text

abbrev pub are_line_blanks : List ℕ → Bool
are_line_blanks bs = list_all (λ b. is_blank b && not (b == 10)) bs

abbrev pub headers : List (List ℕ)
headers = codes "<pthread.h>" ∷ codes "<stdio.h>" ∷ codes "<stdlib.h>" ∷ codes "<assert.h>" ∷ []

-- `#`, `include` and a header with blanks between, and nothing else on the line (C11 6.10.2)
pub record IsInclude (u rest : List ℕ) : Type 0 where
  pub before : List ℕ
  pub between : List ℕ
  pub header : List ℕ
  pub line : u ≡ 35 ∷ (before ++ (codes "include" ++ (between ++ header)))
  pub blanks : (are_line_blanks before && are_line_blanks between) ≡ true
  pub known : Contains headers header
  pub bare : IsBare rest

-- a blank, a comment, or a dropped line where no token stands before it on its line
abbrev pub IsSkipped : Bool → List ℕ → List ℕ → List ℕ → Type 0
IsSkipped fresh text u rest =
    (text ≡ u ++ rest)
    × (((b : ℕ) × (u ≡ b ∷ []) × (is_blank b ≡ true)) ⊎ (IsComment text rest ⊎ ((fresh ≡ true) × IsInclude u rest)))

-- whether no token stands before on the line, behind some skipped bytes
abbrev pub fresh_after : Bool → List ℕ → Bool
fresh_after fresh u = has_line_feed u || fresh

abbrev pub IsDropped : Bool → List ℕ → Type 0
IsDropped fresh text = (fresh ≡ true) × ((u : List ℕ) × (rest : List ℕ) × (text ≡ u ++ rest) × IsInclude u rest)

-- neither a letter, a digit, a `_` nor a `.` follows
abbrev pub is_apart : List ℕ → Bool
is_apart [] = true
is_apart (b ∷ bs) = not (goes_on_name b || (b == 46))

-- the word of a form, with what follows it
abbrev pub IsWord : Form → List ℕ → Word → Type 0
IsWord (A_name t) rest w = w ≡ word.Name t
IsWord (A_number n) rest w = (is_apart rest ≡ true) × (n < 2 ^ 31) × (w ≡ word.Number (pos n))
IsWord (A_string t) rest w = w ≡ word.Str t
IsWord (A_mark m) rest w = w ≡ word.Mark m

-- a token is the longest form, where no comment and no dropped line begins
pub record IsToken (fresh : Bool) (text : List ℕ) (w : Word) (u rest : List ℕ) : Type 0 where
  pub form : Form
  pub no_comment : BeginsComment text → ⊥
  pub not_dropped : IsDropped fresh text → ⊥
  pub longest : IsLongest text form u rest
  pub word : IsWord form rest w

abbrev pub token : Pos → Word → Token
token p w = record { pos = p; word = w }

-- the tokens of a text from a place on, the end last
pub data Lexed : Bool → Pos → List ℕ → List Token → Type 0 where
  ends : (fresh : Bool) (p : Pos) → Lexed fresh p [] (token p word.End ∷ [])
  skips : (fresh : Bool) (p : Pos) (text u rest : List ℕ) (ts : List Token) → IsSkipped fresh text u rest → Lexed (fresh_after fresh u) (after p u) rest ts → Lexed fresh p text ts
  takes : (fresh : Bool) (p : Pos) (text u rest : List ℕ) (w : Word) (ts : List Token) → IsToken fresh text w u rest → Lexed false (after p u) rest ts → Lexed fresh p text (token p w ∷ ts)

-- a string whose line ends it, with its units
abbrev pub IsClosed : List ℕ → List Unit_of_string → Type 0
IsClosed text us = (rest : List ℕ) × (text ≡ 34 ∷ (spelled us ++ 34 ∷ rest)) × (list_all is_unit us ≡ true)

-- the first escape that is none, behind those that are
abbrev pub IsFirstBad : List Unit_of_string → List Unit_of_string → Type 0
IsFirstBad us good = (b : ℕ) × (more : List Unit_of_string) × (t : List ℕ) × (us ≡ good ++ Escape b ∷ more) × (values good ≡ Some t) × (escaped b ≡ None)

-- what is wrong at a place
pub data IsWrong (p : Pos) (text : List ℕ) : LexFault → Type 0 where
  open_comment : (more : List ℕ) → BeginsBlock text more → after_close more ≡ None → IsWrong p text (record { pos = p; kind = kind.OpenComment })
  open_string : (more : List ℕ) → text ≡ 34 ∷ more → ((us : List Unit_of_string) → IsClosed text us → ⊥) → IsWrong p text (record { pos = p; kind = kind.OpenString })
  bad_escape : (us good : List Unit_of_string) → IsClosed text us → IsFirstBad us good → IsWrong p text (record { pos = after p (34 ∷ spelled good); kind = kind.BadChar })
  number_form : (n : ℕ) (u rest : List ℕ) → IsLongest text (A_number n) u rest → is_apart rest ≡ false → IsWrong p text (record { pos = p; kind = kind.NumberForm })
  number_too_large : (n : ℕ) (u rest : List ℕ) → IsLongest text (A_number n) u rest → is_apart rest ≡ true → 2 ^ 31 ≤ n → IsWrong p text (record { pos = p; kind = kind.NumberTooLarge })
  bad_char : (b : ℕ) (more : List ℕ) → text ≡ b ∷ more → is_blank b ≡ false → b ≢ 34 → ((f : Form) (u rest : List ℕ) → text ≡ u ++ rest → IsForm f u → ⊥) → IsWrong p text (record { pos = p; kind = kind.BadChar })

-- the first thing that is wrong, in the order of the text
pub data Faulted : Bool → Pos → List ℕ → LexFault → Type 0 where
  here : (fresh : Bool) (p : Pos) (text : List ℕ) (f : LexFault) → IsWrong p text f → Faulted fresh p text f
  behind_skipped : (fresh : Bool) (p : Pos) (text u rest : List ℕ) (f : LexFault) → IsSkipped fresh text u rest → Faulted (fresh_after fresh u) (after p u) rest f → Faulted fresh p text f
  behind_token : (fresh : Bool) (p : Pos) (text u rest : List ℕ) (w : Word) (f : LexFault) → IsToken fresh text w u rest → Faulted false (after p u) rest f → Faulted fresh p text f

abbrev pub most_bytes : ℕ
most_bytes = 2 ^ 20

-- a text has these tokens
pub record HasTokens (text : List ℕ) (ts : List Token) : Type 0 where
  pub size : length text ≤ most_bytes
  pub utf8 : IsUtf8 text
  pub lexed : Lexed true start text ts

-- its first fault: its length, then its first byte that is no part of a character, then the first thing that is wrong
pub data HasFault (text : List ℕ) : LexFault → Type 0 where
  too_long : most_bytes < length text → HasFault text (record { pos = start; kind = kind.TooLong })
  not_utf8 : (n : ℕ) → length text ≤ most_bytes → (IsUtf8 text → ⊥) → IsValidUpTo text n → HasFault text (record { pos = after start (take n text); kind = kind.NotUtf8 })
  wrong : (f : LexFault) → length text ≤ most_bytes → IsUtf8 text → Faulted true start text f → HasFault text f

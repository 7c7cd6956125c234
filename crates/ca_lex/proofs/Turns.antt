-- One turn of the scanner, over plain variables.
use Rattle.std.specs.Str.{IsUtf8}
use Rattle.std.proofs.lemmas.Bool.{ltb-false}
use Rattle.ca_lex.specs.Fronts.{small}
use Rattle.std.proofs.Common.{None, Some, Option, nat_lt, refl, ◌^◌, Result, Ok, Err, MatchResult, Vec, Global, ◌≡◌, ◌≤◌, ◌<◌, ◌+◌, ℕ, Bool, true, false, List, [], ◌∷◌, ◌++◌, length, take, drop, get_or, append_assoc, length-take, length-drop, ◌-◌, arith, ◌==◌, if◌then◌else◌}
use Rattle.std.specs.Fmt.{is_char_start}
use Rattle.ca_tree.specs.declared.text.Pos.{Pos}
use Rattle.ca_tree.specs.declared.token.Word.{Word}
use Rattle.ca_tree.specs.declared.token.Word.TheVariants as word
use Rattle.ca_tree.specs.declared.token.Token.{Token}
use Rattle.ca_tree.specs.declared.token.LexFault.{LexFault}
use Rattle.ca_tree.specs.declared.token.LexKind.{LexKind}
use Rattle.ca_tree.specs.Places.{start, after, after_byte}
use Rattle.ca_tree.specs.Lexed.{HasTokens, HasFault, wrong, most_bytes, Lexed, skips, takes, ends, Faulted, here, behind_skipped, behind_token, IsSkipped, IsToken, IsWrong, fresh_after, token}

pub first_byte : (text : List ℕ) (b : ℕ) → 0 < length text → get_or text 0 0 ≡ b → text ≡ b ∷ drop 1 text
first_byte [] b h e = absurd (omega arith)
first_byte (c ∷ text) b h e = cc

pub quote_first : (text : List ℕ) → get_or text 0 0 ≡ 34 → text ≡ 34 ∷ drop 1 text
quote_first [] e = cc
quote_first (b ∷ text) e = cc

-- what lexes the rest, put behind the tokens so far, lexes the whole
abbrev pub Continues : Bool → Pos → List ℕ → List ℕ → List Token → Type 0
Continues fresh place rest text before = (ts : List Token) → Lexed fresh place rest ts → Lexed true start text (before ++ ts)

abbrev pub FaultsThrough : Bool → Pos → List ℕ → List ℕ → Type 0
FaultsThrough fresh place rest text = (f : LexFault) → Faulted fresh place rest f → Faulted true start text f

pub skipped_lexed : (fresh next : Bool) (place now : Pos) (text rest front more : List ℕ) (len : ℕ) (before : List Token) → Continues fresh place rest text before → IsSkipped fresh rest (take len rest) (drop len rest)
    → front ≡ take len rest → more ≡ drop len rest → next ≡ fresh_after fresh front → now ≡ after place front → Continues next now more text before
skipped_lexed fresh next place now text rest front more len before so_far skipped front_is more_is next_is now_is ts h =
    so_far ts (skips fresh place rest front more ts (rw (front_is, more_is) skipped) (rw (← next_is, ← now_is) h))

pub skipped_faulted : (fresh next : Bool) (place now : Pos) (text rest front more : List ℕ) (len : ℕ) → FaultsThrough fresh place rest text → IsSkipped fresh rest (take len rest) (drop len rest)
    → front ≡ take len rest → more ≡ drop len rest → next ≡ fresh_after fresh front → now ≡ after place front → FaultsThrough next now more text
skipped_faulted fresh next place now text rest front more len so_far skipped front_is more_is next_is now_is f h =
    so_far f (behind_skipped fresh place rest front more f (rw (front_is, more_is) skipped) (rw (← next_is, ← now_is) h))

pub token_lexed : (fresh : Bool) (place now : Pos) (text rest front more : List ℕ) (len : ℕ) (w : Word) (before with_it : List Token) → Continues fresh place rest text before → IsToken fresh rest w (take len rest) (drop len rest)
    → front ≡ take len rest → more ≡ drop len rest → now ≡ after place front → with_it ≡ before ++ token place w ∷ [] → Continues false now more text with_it
token_lexed fresh place now text rest front more len w before with_it so_far taken front_is more_is now_is with_it_is ts h =
    rw (with_it_is, append_assoc) (so_far (token place w ∷ ts) (takes fresh place rest front more w ts (rw (front_is, more_is) taken) (rw (← now_is) h)))

pub token_faulted : (fresh : Bool) (place now : Pos) (text rest front more : List ℕ) (len : ℕ) (w : Word) → FaultsThrough fresh place rest text → IsToken fresh rest w (take len rest) (drop len rest)
    → front ≡ take len rest → more ≡ drop len rest → now ≡ after place front → FaultsThrough false now more text
token_faulted fresh place now text rest front more len w so_far taken front_is more_is now_is f h =
    so_far f (behind_token fresh place rest front more w f (rw (front_is, more_is) taken) (rw (← now_is) h))

pub wrong_faulted : (fresh : Bool) (place now : Pos) (text rest front : List ℕ) (at : ℕ) (kind : LexKind) → FaultsThrough fresh place rest text
    → ((p : Pos) → IsWrong p rest (record { pos = after p (take at rest); kind = kind })) → front ≡ take at rest → now ≡ after place front → Faulted true start text (record { pos = now; kind = kind })
wrong_faulted fresh place now text rest front at kind so_far is_wrong front_is now_is =
    rw (now_is, front_is) (so_far _ (here fresh place rest _ (is_wrong place)))

pub ended : (fresh : Bool) (place : Pos) (text rest : List ℕ) (before : List Token) → length rest ≡ 0 → Continues fresh place rest text before → Lexed true start text (before ++ token place word.End ∷ [])
ended fresh place text [] before h so_far = so_far _ (ends fresh place)
ended fresh place text (b ∷ rest) before h so_far = absurd (omega arith)

byte_line : (p : Pos) (b : ℕ) → (after_byte p b).line ≤ p.line + 1
byte_line p b = elim (b == 10) as (λ t. (if t then record { line = p.line + 1; column = 1 } else (if is_char_start b then record { line = p.line; column = p.column + 1 } else p)).line ≤ p.line + 1)
    [ true ↦ omega arith | false ↦ elim (is_char_start b) as (λ t. (if t then record { line = p.line; column = p.column + 1 } else p).line ≤ p.line + 1) [ true ↦ omega arith | false ↦ omega arith ] ]

pub line_after : (p : Pos) (bs : List ℕ) → (after p bs).line ≤ p.line + length bs
line_after p [] = omega arith
line_after p (b ∷ bs) = omega (arith, byte_line p b, line_after (after_byte p b) bs)

byte_column : (p : Pos) (b k : ℕ) → p.column ≤ k → (after_byte p b).column ≤ k + 1
byte_column p b k h = elim (b == 10) as (λ t. (if t then record { line = p.line + 1; column = 1 } else (if is_char_start b then record { line = p.line; column = p.column + 1 } else p)).column ≤ k + 1)
    [ true ↦ omega arith | false ↦ elim (is_char_start b) as (λ t. (if t then record { line = p.line; column = p.column + 1 } else p).column ≤ k + 1) [ true ↦ omega arith | false ↦ omega arith ] ]

pub column_after : (p : Pos) (bs : List ℕ) (k : ℕ) → p.column ≤ k → (after p bs).column ≤ k + length bs
column_after p [] k h = omega arith
column_after p (b ∷ bs) k h = omega (arith, column_after (after_byte p b) bs (k + 1) (byte_column p b k h))

pub line_moved : (place now : Pos) (rest front more : List ℕ) (len all : ℕ) → place.line + length rest ≤ all → len ≤ length rest → front ≡ take len rest → more ≡ drop len rest → now ≡ after place front → now.line + length more ≤ all
line_moved place now rest front more len all h within front_is more_is now_is =
    rw (now_is, more_is, front_is) (omega (arith, line_after place (take len rest), length-take len rest, length-drop len rest))

pub column_moved : (place now : Pos) (rest front more : List ℕ) (len all : ℕ) → place.column + length rest ≤ all → len ≤ length rest → front ≡ take len rest → more ≡ drop len rest → now ≡ after place front → now.column + length more ≤ all
column_moved place now rest front more len all h within front_is more_is now_is =
    let k : place.column ≤ all - length rest = omega arith in
    rw (now_is, more_is, front_is) (omega (arith, column_after place (take len rest) (all - length rest) k, length-take len rest, length-drop len rest))

-- a text of few bytes that is UTF-8 has the tokens or the fault that the loop finds
pub of_whole : (text : List ℕ) → length text ≤ most_bytes → IsUtf8 text → (r : Result (Vec Token Global) LexFault)
    → MatchResult r (λ ts. Lexed true start text ts.items) (λ f. Faulted true start text f) → MatchResult r (λ ts. HasTokens text ts.items) (λ f. HasFault text f)
of_whole text size utf8 (Ok ts) h = record { size = size; utf8 = utf8; lexed = h }
of_whole text size utf8 (Err f) h = wrong f size utf8 h

large_of : (n : ℕ) (t : Bool) → nat_lt n (2 ^ 31) ≡ t → ◌≡◌ {A = Option ℕ} None (if t then Some n else None) → 2 ^ 31 ≤ n
large_of n true e h = cc
large_of n false e h = ltb-false n (2 ^ 31) e

pub large : (n : ℕ) → None ≡ small n → 2 ^ 31 ≤ n
large n h = large_of n (nat_lt n (2 ^ 31)) refl h

-- Tokens whose names, numbers and strings may stand in a tree, and what the limits say of them.
use Rattle.std.proofs.Common.{◌≡◌, ◌⊎◌, inl, inr, ℕ, ◌≤◌, true, false, not, ◌&&◌, List, [], ◌∷◌, length, nat_le, nat_lt, arith, subst}
use Rattle.std.proofs.lemmas.Bool.{and_from, not_from_false, or_cases, le-leb, leb-true, ltb-true}
use Rattle.ca_tree.specs.declared.counted.Counted.{Counted}
use Rattle.ca_tree.specs.declared.counted.Counted.TheVariants as counted
use Rattle.ca_tree.specs.declared.text.Pos.{Pos}
use Rattle.ca_tree.specs.declared.token.Word.{Word}
use Rattle.ca_tree.specs.declared.token.Word.TheVariants as word
use Rattle.ca_tree.specs.declared.token.Token.{Token}
use Rattle.ca_tree.specs.Counts.{most}
use Rattle.ca_tree.specs.Names.{is_reserved}
use Rattle.ca_tree.specs.TreeWords.{Words, is_natural}
use Rattle.ca_tree.specs.ExpressionTrees.{IsName}
use Rattle.ca_grammar.specs.Words.{Class, Of, A_name, Takes, Skips}
use Rattle.ca_grammar.specs.Limits.{Limit}
use Rattle.ca_grammar.specs.Expressions.{name}
use Rattle.ca_grammar.specs.Phrases.{Names}
use Rattle.ca_grammar.specs.Laws.{all_kept}

abbrev pub IsWordOf : Words → Word → Type 0
IsWordOf words (word.Name t) = words.is_name t ≡ true
IsWordOf words (word.Number n) = is_natural n ≡ true → words.is_number n ≡ true
IsWordOf words (word.Str t) = words.IsString t
IsWordOf words (word.Mark m) = Unit {0}
IsWordOf words word.End = Unit {0}

abbrev pub AreWords : Words → List Token → Type 0
AreWords words [] = Unit {0}
AreWords words (u ∷ us) = IsWordOf words u.word × AreWords words us

-- ---- steps

pub taken : (words : Words) {c : Class} {ts us : List Token} {p : Pos} {x : Of c} (t : Takes c ts p x us) → AreWords words ts → IsWordOf words t.first × AreWords words us
taken words t h = subst (AreWords words) t.parts h

pub behind : (words : Words) {c : Class} {ts us : List Token} {p : Pos} {x : Of c} → Takes c ts p x us → AreWords words ts → AreWords words us
behind words t h = (taken words t h).1

pub over : (words : Words) {c : Class} {ts us : List Token} → Skips c ts us → AreWords words ts → AreWords words us
over words s h = behind words s.2 h

-- ---- limits

pub kept_most : (of : Counted) (n : ℕ) (ts : List Token) → all_kept (Limit of) n ts ≡ true → n ≤ most of
kept_most of n ts h = at (or_cases (nat_lt (length ts) 0) (nat_le n (most of)) h) where
  at : (nat_lt (length ts) 0 ≡ true) ⊎ (nat_le n (most of) ≡ true) → n ≤ most of
  at (inl e) = absurd (omega (arith, ltb-true (length ts) 0 e))
  at (inr e) = leb-true n (most of) e

-- ---- names

pub name_from : (words : Words) (p : Pos) (t : List ℕ) (ts : List Token) → words.is_name t ≡ true → is_reserved t ≡ false → all_kept (Limit counted.NameBytes) (length t) ts ≡ true
    → IsName words (name p t)
name_from words p t ts h i n =
    and_from (words.is_name t) (not (is_reserved t) && nat_le (length t) 63) h
    (and_from (not (is_reserved t)) (nat_le (length t) 63) (not_from_false (is_reserved t) i) (le-leb (length t) 63 (kept_most counted.NameBytes (length t) ts n)))

pub taken_name : (words : Words) {ts us : List Token} {p : Pos} {t : List ℕ} → Takes A_name ts p t us → all_kept (Limit counted.NameBytes) (length t) ts ≡ true → AreWords words ts
    → IsName words (name p t)
taken_name words {ts} {p = p} {t} x n h = name_from words p t ts (subst (IsWordOf words) x.fits.0 (taken words x h).0) x.fits.1 n

pub is_name : (words : Words) {ts us : List Token} {p : Pos} {t : List ℕ} → Names all_kept ts p t us → AreWords words ts → IsName words (name p t)
is_name words n h = taken_name words n.takes n.short h

pub behind_name : (words : Words) {ts us : List Token} {p : Pos} {t : List ℕ} → Names all_kept ts p t us → AreWords words ts → AreWords words us
behind_name words n h = behind words n.takes h

-- Dropped lines: each is found by its parts, and what is found is one.
use Rattle.std.proofs.Common.{◌≡◌, ◌<◌, ◌≤◌, ◌-◌, ℕ, zero, suc, List, [], ◌∷◌, ◌++◌, Bool, true, false, Option, Some, None, refl, sym, ap, subst, ◌∙◌, arith, length, drop, codes, append_assoc, slice_index_or}
use Rattle.std.specs.Prelude.{Contains}
use Rattle.std.proofs.lemmas.Bool.{and_parts}
use Rattle.ca_tree.specs.Lexed.{IsBare, IsInclude, are_line_blanks, headers}
use Rattle.ca_lex.specs.Skipped.{◌>>=◌, or_else, IncludeOf, NoInclude, after_front, is_line_blank, after_line_blanks, after_header, after_include}
use Rattle.ca_lex.proofs.Cuts.{cut_len, cut_take, cut_drop, front_found}

bind_some : (o : Option (List ℕ)) (f : List ℕ → Option (List ℕ)) (y : List ℕ) → (o >>= f) ≡ Some y → (x : List ℕ) × (o ≡ Some x) × (f x ≡ Some y)
bind_some (Some a) f y h = (a, refl, h)
bind_some None f y h = absurd cc

blanks_cut : (text : List ℕ) → (bs : List ℕ) × (text ≡ bs ++ after_line_blanks text) × (are_line_blanks bs ≡ true)
blanks_cut [] = ([], refl, refl)
blanks_cut (b ∷ bs) = step (is_line_blank b) refl (blanks_cut bs)
  where
    step : (t : Bool) → is_line_blank b ≡ t → ((us : List ℕ) × (bs ≡ us ++ after_line_blanks bs) × (are_line_blanks us ≡ true)) → (us : List ℕ) × (b ∷ bs ≡ us ++ after_line_blanks (b ∷ bs)) × (are_line_blanks us ≡ true)
    step true e ih = (b ∷ ih.0, rw e (ap (λ (t : List ℕ). b ∷ t) ih.1), rw e ih.2)
    step false e ih = ([], rw e refl, refl)

blanks_taken : (bs : List ℕ) (b : ℕ) (rest : List ℕ) → are_line_blanks bs ≡ true → is_line_blank b ≡ false → after_line_blanks (bs ++ b ∷ rest) ≡ b ∷ rest
blanks_taken [] b rest are other = rw other refl
blanks_taken (c ∷ cs) b rest are other = let t = and_parts (is_line_blank c) (are_line_blanks cs) are in rw t.0 (blanks_taken cs b rest t.1 other)

either : (o p : Option (List ℕ)) (rest : List ℕ) (A : Type 0) → or_else o p ≡ Some rest → (o ≡ Some rest → A) → (p ≡ Some rest → A) → A
either (Some r) p rest A h first second = first h
either None p rest A h first second = second h

header_found : (text rest : List ℕ) → after_header text ≡ Some rest → (h : List ℕ) × Contains headers h × (text ≡ h ++ rest)
header_found text rest found =
    either (after_front (codes "<pthread.h>") text) (or_else (after_front (codes "<stdio.h>") text) (or_else (after_front (codes "<stdlib.h>") text) (after_front (codes "<assert.h>") text))) rest Found found
    (λ e. (codes "<pthread.h>", (0, omega arith, refl), front_found (codes "<pthread.h>") text rest e))
    (λ f. either (after_front (codes "<stdio.h>") text) (or_else (after_front (codes "<stdlib.h>") text) (after_front (codes "<assert.h>") text)) rest Found f
    (λ e. (codes "<stdio.h>", (1, omega arith, refl), front_found (codes "<stdio.h>") text rest e))
    (λ g. either (after_front (codes "<stdlib.h>") text) (after_front (codes "<assert.h>") text) rest Found g
    (λ e. (codes "<stdlib.h>", (2, omega arith, refl), front_found (codes "<stdlib.h>") text rest e))
    (λ e. (codes "<assert.h>", (3, omega arith, refl), front_found (codes "<assert.h>") text rest e))))
  where
    Found : Type 0
    Found = (h : List ℕ) × Contains headers h × (text ≡ h ++ rest)

abbrev Header : List ℕ → List ℕ → Type 0
Header h rest = (t : List ℕ) × (h ≡ 60 ∷ t) × (after_header (h ++ rest) ≡ Some rest)

header_taken : (k : ℕ) (h rest : List ℕ) → k < 4 → slice_index_or headers k h ≡ h → Header h rest
header_taken zero h rest lt is = (codes "pthread.h>", sym is, subst (λ (x : List ℕ). after_header (x ++ rest) ≡ Some rest) is refl)
header_taken (suc zero) h rest lt is = (codes "stdio.h>", sym is, subst (λ (x : List ℕ). after_header (x ++ rest) ≡ Some rest) is refl)
header_taken (suc (suc zero)) h rest lt is = (codes "stdlib.h>", sym is, subst (λ (x : List ℕ). after_header (x ++ rest) ≡ Some rest) is refl)
header_taken (suc (suc (suc zero))) h rest lt is = (codes "assert.h>", sym is, subst (λ (x : List ℕ). after_header (x ++ rest) ≡ Some rest) is refl)
header_taken (suc (suc (suc (suc k)))) h rest lt is = absurd (omega (arith, lt))

joined : (before between header rest : List ℕ) → (35 ∷ (before ++ (codes "include" ++ (between ++ header)))) ++ rest ≡ 35 ∷ (before ++ (codes "include" ++ (between ++ (header ++ rest))))
joined before between header rest = simp append_assoc

include_taken : (u rest : List ℕ) → IsInclude u rest → after_include (u ++ rest) ≡ Some rest
include_taken u rest is =
    let blanks = and_parts (are_line_blanks is.before) (are_line_blanks is.between) is.blanks in
    let header = header_taken is.known.0 is.header rest is.known.1 is.known.2 in
    let whole : u ++ rest ≡ 35 ∷ (is.before ++ (codes "include" ++ (is.between ++ (is.header ++ rest)))) = ap (λ (t : List ℕ). t ++ rest) is.line ∙ joined is.before is.between is.header rest in
    let front : is.header ++ rest ≡ 60 ∷ (header.0 ++ rest) = ap (λ (t : List ℕ). t ++ rest) header.1 in
    let second : after_line_blanks (is.between ++ (is.header ++ rest)) ≡ is.header ++ rest = ap (λ (t : List ℕ). after_line_blanks (is.between ++ t)) front ∙ (blanks_taken is.between 60 (header.0 ++ rest) blanks.1 refl ∙ sym front) in
    let first = blanks_taken is.before 105 (codes "nclude" ++ (is.between ++ (is.header ++ rest))) blanks.0 refl in
    ap after_include whole ∙ rw (first, second) header.2

pub include_found : (text rest : List ℕ) → after_include text ≡ Some rest → IsBare rest → (u : List ℕ) × (text ≡ u ++ rest) × IsInclude u rest
include_found text rest found bare =
    let three = bind_some (after_front (codes "#") text >>= (λ t. after_front (codes "include") (after_line_blanks t))) (λ t. after_header (after_line_blanks t)) rest found in
    let two = bind_some (after_front (codes "#") text) (λ t. after_front (codes "include") (after_line_blanks t)) three.0 three.1 in
    let hash = front_found (codes "#") text two.0 two.1 in
    let before = blanks_cut two.0 in
    let word = front_found (codes "include") (after_line_blanks two.0) three.0 two.2 in
    let between = blanks_cut three.0 in
    let header = header_found (after_line_blanks three.0) rest three.2 in
    let inner : three.0 ≡ between.0 ++ (header.0 ++ rest) = between.1 ∙ ap (λ (t : List ℕ). between.0 ++ t) header.2 in
    let outer : two.0 ≡ before.0 ++ (codes "include" ++ (between.0 ++ (header.0 ++ rest))) = before.1 ∙ ap (λ (t : List ℕ). before.0 ++ t) (word ∙ ap (λ (t : List ℕ). codes "include" ++ t) inner) in (
      35 ∷ (before.0 ++ (codes "include" ++ (between.0 ++ header.0))),
      hash ∙ (ap (λ (t : List ℕ). 35 ∷ t) outer ∙ sym (joined before.0 between.0 header.0 rest)),
      record { before = before.0; between = between.0; header = header.0; line = refl; blanks = rw (before.2, between.2) refl; known = header.1; bare = bare },
    )

-- the answers, by the text behind the line
pub found_len : (text rest : List ℕ) → Some rest ≡ after_include text → IsBare rest → IncludeOf text (length text - length rest)
found_len text rest found bare =
    let cut = include_found text rest (sym found) bare in
    let len = cut_len text cut.0 rest cut.1 in
    let size : length text - length rest ≡ length cut.0 = omega (arith, len) in
    let front = cut_take text cut.0 rest (length text - length rest) cut.1 size in
    let behind = cut_drop text cut.0 rest (length text - length rest) cut.1 size in
    let some : 0 < length cut.0 = omega (arith, ap length cut.2.line) in
    (subst (λ (t : List ℕ). IsInclude t (drop (length text - length rest) text)) (sym front) (subst (λ (t : List ℕ). IsInclude cut.0 t) (sym behind) cut.2), omega (arith, size, some), omega arith)

pub rest_le : (text rest : List ℕ) → Some rest ≡ after_include text → IsBare rest → length rest ≤ length text
rest_le text rest found bare = let cut = include_found text rest (sym found) bare in omega (arith, cut_len text cut.0 rest cut.1)

pub none_cut : (text : List ℕ) → None ≡ after_include text → NoInclude text
none_cut text none u rest e is = let some = include_taken u rest is in let other = ap after_include e in absurd cc

pub none_bare : (text behind : List ℕ) → Some behind ≡ after_include text → (IsBare behind → ⊥) → NoInclude text
none_bare text behind found none u rest e is =
    let some = include_taken u rest is in
    let other = ap after_include e in
    let same : behind ≡ rest = cc in
    none (subst IsBare (sym same) is.bare)

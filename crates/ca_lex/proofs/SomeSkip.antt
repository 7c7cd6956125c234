-- Whether something is skipped at the front of a text.
use Rattle.std.proofs.Common.{◌≡◌, ◌≤◌, ◌<◌, ℕ, zero, suc, List, [], ◌∷◌, ◌++◌, Bool, true, false, Option, Some, None, refl, sym, ap, subst, inl, inr, ◌⊎◌, arith, length, take, drop, length-drop, codes}
use Rattle.std.proofs.lemmas.Bool.{both_ways, cases_eq}
use Rattle.ca_tree.specs.Tokens.{is_blank}
use Rattle.ca_tree.specs.Lexed.{after_close, from_line_feed, has_line_feed, BeginsBlock, BeginsComment, IsComment, IsBare, at_the_end, at_line_feed, behind_blank, behind_comment, into_later_line, IsInclude}
use Rattle.ca_lex.specs.declared.skipped.Comment.{Comment}
use Rattle.ca_lex.specs.declared.skipped.Comment.TheVariants as comment
use Rattle.ca_lex.specs.Skipped.{CommentAt, NoInclude, after_front, after_include}
use Rattle.ca_lex.proofs.Cuts.{front_found}
use Rattle.ca_lex.proofs.Comments.{block_ends, line_ends}
use Rattle.ca_lex.proofs.Bare.{bare_behind_blank, ends_bare, ends_found, ends_needed}
use Rattle.ca_lex.proofs.Includes.{include_found, none_cut, none_bare}

-- comments

abbrev Commented : List ℕ → Type 0
Commented text = (c : Comment) × CommentAt text c

block_by : (text more : List ℕ) → after_front (codes "/*") text ≡ Some more → (o : Option (List ℕ)) → after_close more ≡ o → Commented text
block_by text more front (Some rest) e = (comment.Ends _, (block_ends text more rest (sym front) (sym e)).1)
block_by text more front None e = (comment.Open, (more, front_found (codes "/*") text more front, e))

absent : (text : List ℕ) → after_front (codes "/*") text ≡ None → after_front (codes "//") text ≡ None → BeginsComment text → ⊥
absent text block line (more, inl e) = let some : after_front (codes "/*") text ≡ Some more = ap (after_front (codes "/*")) e in absurd cc
absent text block line (more, inr e) = let some : after_front (codes "//") text ≡ Some more = ap (after_front (codes "//")) e in absurd cc

comment_by : (text : List ℕ) (o p : Option (List ℕ)) → after_front (codes "/*") text ≡ o → after_front (codes "//") text ≡ p → Commented text
comment_by text (Some more) p block line = block_by text more block (after_close more) refl
comment_by text None (Some more) block line = (comment.Ends _, (line_ends text more (from_line_feed more) (sym line) refl).1)
comment_by text None None block line = (comment.Absent, absent text block line)

pub comment_of : (text : List ℕ) → (c : Comment) × CommentAt text c
comment_of text = comment_by text (after_front (codes "/*") text) (after_front (codes "//") text) refl refl

-- lines that are bare

abbrev BareOrNot : List ℕ → Type 0
BareOrNot text = IsBare text ⊎ (IsBare text → ⊥)

not_bare : (text bs : List ℕ) (b : ℕ) → text ≡ b ∷ bs → (b ≡ 10 → ⊥) → is_blank b ≡ false → ((rest : List ℕ) → IsComment text rest → ⊥) → IsBare text → ⊥
not_bare _ bs b e feed blank none at_the_end = absurd cc
not_bare _ bs b e feed blank none (at_line_feed r) = let same : 10 ≡ b = cc in feed (sym same)
not_bare _ bs b e feed blank none (behind_blank d r are h) = let same : d ≡ b = cc in both_ways (is_blank b) blank (subst (λ (x : ℕ). is_blank x ≡ true) same are)
not_bare _ bs b e feed blank none (behind_comment text u r f is h) = none r is
not_bare _ bs b e feed blank none (into_later_line text u r f is h) = none r is

begins : (text rest : List ℕ) → IsComment text rest → BeginsComment text
begins text rest (more, inl a) = (more, inl a.0)
begins text rest (more, inr a) = (more, inr a.0)

never_ends : (text more rest : List ℕ) → BeginsBlock text more → after_close more ≡ None → IsComment text rest → ⊥
never_ends text more rest e none (other, inl a) = let f = a.0 in let same : other ≡ more = cc in let g = a.1 in let h = subst (λ (t : List ℕ). after_close t ≡ Some rest) same g in absurd cc
never_ends text more rest e none (other, inr a) = let f = a.0 in let same : ◌≡◌ {A = ℕ} 42 47 = cc in omega (arith, same)

past_comment : (text : List ℕ) (len : ℕ) → CommentAt text (comment.Ends len) → (t : Bool) → has_line_feed (take len text) ≡ t → BareOrNot (drop len text) → BareOrNot text
past_comment text len at true e ih = inl (ends_bare text len at e)
past_comment text len at false e (inl h) = inl (ends_found text len at h)
past_comment text len at false e (inr no') = inr (λ h. no' (ends_needed text len at e h))

bare_step : (b : ℕ) (bs : List ℕ) → (b ≡ 10) ⊎ (b ≡ 10 → ⊥) → (t : Bool) → is_blank b ≡ t → Commented (b ∷ bs) → BareOrNot bs → ((len : ℕ) → 0 < len → BareOrNot (drop len (b ∷ bs))) → BareOrNot (b ∷ bs)
bare_step b bs (inl feed) t blank c ih behind = inl (subst (λ (x : ℕ). IsBare (x ∷ bs)) (sym feed) (at_line_feed bs))
bare_step b bs (inr feed) true blank c (inl h) behind = inl (behind_blank b bs blank h)
bare_step b bs (inr feed) true blank c (inr no') behind = inr (λ h. no' (bare_behind_blank (b ∷ bs) h b bs refl blank feed))
bare_step b bs (inr feed) false blank (comment.Ends len, at) ih behind = past_comment (b ∷ bs) len at (has_line_feed (take len (b ∷ bs))) refl (behind len at.1)
bare_step b bs (inr feed) false blank (comment.Open, at) ih behind = inr (λ h. not_bare (b ∷ bs) bs b refl feed blank (λ rest is. never_ends (b ∷ bs) at.0 rest at.1 at.2 is) h)
bare_step b bs (inr feed) false blank (comment.Absent, at) ih behind = inr (λ h. not_bare (b ∷ bs) bs b refl feed blank (λ rest is. at (begins (b ∷ bs) rest is)) h)

bare_within : (n : ℕ) (text : List ℕ) → length text ≤ n → BareOrNot text
bare_within zero [] h = inl at_the_end
bare_within zero (b ∷ bs) h = absurd (omega (arith, h))
bare_within (suc n) [] h = inl at_the_end
bare_within (suc n) (b ∷ bs) h = bare_step b bs (cases_eq b 10) (is_blank b) refl (comment_of (b ∷ bs)) (bare_within n bs (omega (arith, h))) (λ len some. bare_within n (drop len (b ∷ bs)) (omega (arith, h, length-drop len (b ∷ bs), some)))

-- lines that are dropped

abbrev pub Dropped : List ℕ → Type 0
Dropped text = (u : List ℕ) × (rest : List ℕ) × (text ≡ u ++ rest) × IsInclude u rest

include_bare : (text rest : List ℕ) → after_include text ≡ Some rest → BareOrNot rest → Dropped text ⊎ NoInclude text
include_bare text rest e (inl bare) = let f = include_found text rest e bare in inl (f.0, rest, f.1, f.2)
include_bare text rest e (inr no') = inr (none_bare text rest (sym e) no')

include_by : (text : List ℕ) (o : Option (List ℕ)) → after_include text ≡ o → Dropped text ⊎ NoInclude text
include_by text (Some rest) e = include_bare text rest e (bare_within (length rest) rest (omega arith))
include_by text None e = inr (none_cut text (sym e))

pub include_of : (text : List ℕ) → Dropped text ⊎ NoInclude text
include_of text = include_by text (after_include text) refl

-- What stands on a line that is bare.
use Rattle.std.proofs.Common.{◌≡◌, ℕ, List, [], ◌∷◌, ◌++◌, true, false, Some, refl, sym, ap, subst, ◌∙◌, inl, inr, arith, length, take, drop, ◌⊎◌}
use Rattle.std.proofs.Math.Seq.{take-append_seam}
use Rattle.std.proofs.lemmas.List.{take-append-drop}
use Rattle.ca_tree.specs.Tokens.{is_blank}
use Rattle.ca_tree.specs.Lexed.{after_close, from_line_feed, has_line_feed, BeginsBlock, BeginsLine, IsComment, IsBare, at_the_end, at_line_feed, behind_blank, behind_comment, into_later_line}
use Rattle.ca_lex.specs.declared.skipped.Comment.TheVariants as comment
use Rattle.ca_lex.specs.Skipped.{CommentAt}
use Rattle.ca_lex.proofs.Cuts.{cut_len, cut_take}

abbrev Behind : List ℕ → List ℕ → List ℕ → Type 0
Behind text more rest = (BeginsBlock text more × (after_close more ≡ Some rest)) ⊎ (BeginsLine text more × (from_line_feed more ≡ rest))

slash : (b : ℕ) (bs more rest : List ℕ) → Behind (b ∷ bs) more rest → b ≡ 47
slash b bs more rest (inl a) = let e = a.0 in cc
slash b bs more rest (inr a) = let e = a.0 in cc

something : (more rest : List ℕ) → Behind [] more rest → ⊥
something more rest (inl a) = let e = a.0 in absurd cc
something more rest (inr a) = let e = a.0 in absurd cc

same_rest : (text m n r s : List ℕ) → Behind text m r → Behind text n s → r ≡ s
same_rest text m n r s (inl a) (inl b) = let e = a.0 in let f = b.0 in let same : m ≡ n = cc in let g = a.1 in let h = subst (λ (t : List ℕ). after_close t ≡ Some s) (sym same) b.1 in cc
same_rest text m n r s (inl a) (inr b) = let e = a.0 in let f = b.0 in let same : ◌≡◌ {A = ℕ} 42 47 = cc in absurd (omega (arith, same))
same_rest text m n r s (inr a) (inl b) = let e = a.0 in let f = b.0 in let same : ◌≡◌ {A = ℕ} 42 47 = cc in absurd (omega (arith, same))
same_rest text m n r s (inr a) (inr b) = let e = a.0 in let f = b.0 in let same : m ≡ n = cc in sym a.1 ∙ (ap from_line_feed same ∙ b.1)

pub comment_same : (text r s : List ℕ) → IsComment text r → IsComment text s → r ≡ s
comment_same text r s a b = same_rest text a.0 b.0 r s a.1 b.1

no_blank : (b : ℕ) → is_blank b ≡ true → b ≡ 47 → ⊥
no_blank b blank same = let h = subst (λ (x : ℕ). is_blank x ≡ true) same blank in absurd cc

-- behind a blank
pub bare_behind_blank : (text : List ℕ) → IsBare text → (b : ℕ) (rest : List ℕ) → text ≡ b ∷ rest → is_blank b ≡ true → (b ≡ 10 → ⊥) → IsBare rest
bare_behind_blank _ at_the_end b rest e blank other = absurd cc
bare_behind_blank _ (at_line_feed r) b rest e blank other = let same : 10 ≡ b = cc in absurd (other (sym same))
bare_behind_blank _ (behind_blank d r are h) b rest e blank other = let same : r ≡ rest = cc in subst IsBare same h
bare_behind_blank _ (behind_comment text u r f is h) b rest e blank other = absurd (no_blank b blank (slash b rest is.0 r (subst (λ (t : List ℕ). Behind t is.0 r) e is.1)))
bare_behind_blank _ (into_later_line text u r f is h) b rest e blank other = absurd (no_blank b blank (slash b rest is.0 r (subst (λ (t : List ℕ). Behind t is.0 r) e is.1)))

cancel : (u v rest : List ℕ) → u ++ rest ≡ v ++ rest → u ≡ v
cancel u v rest e =
    let lengths = cut_len (u ++ rest) v rest e in
    let own = cut_len (u ++ rest) u rest refl in
    sym (take-append_seam u rest) ∙ cut_take (u ++ rest) v rest (length u) e (omega (arith, lengths, own))

-- behind a comment that ends on the line
pub bare_behind_comment : (text : List ℕ) → IsBare text → (u rest : List ℕ) → text ≡ u ++ rest → IsComment text rest → has_line_feed u ≡ false → IsBare rest
bare_behind_comment _ at_the_end u rest e is none = absurd (something is.0 rest is.1)
bare_behind_comment _ (at_line_feed r) u rest e is none = let same = slash 10 r is.0 rest is.1 in absurd (omega (arith, same))
bare_behind_comment _ (behind_blank b r are h) u rest e is none = absurd (no_blank b are (slash b r is.0 rest is.1))
bare_behind_comment _ (behind_comment text v r f was h) u rest e is none = subst IsBare (comment_same text r rest was is) h
bare_behind_comment _ (into_later_line text v r f was h) u rest e is none =
    let same = comment_same text r rest was is in
    let fronts = cancel v u rest (ap (λ (t : List ℕ). v ++ t) (sym same) ∙ (sym f ∙ e)) in
    let feed = subst (λ (t : List ℕ). has_line_feed t ≡ true) fronts h in
    absurd cc

-- the same of the parts that a comment's length gives
pub ends_bare : (text : List ℕ) (len : ℕ) → CommentAt text (comment.Ends len) → has_line_feed (take len text) ≡ true → IsBare text
ends_bare text len at feed = into_later_line text (take len text) (drop len text) (sym (take-append-drop len text)) at.0 feed

pub ends_found : (text : List ℕ) (len : ℕ) → CommentAt text (comment.Ends len) → IsBare (drop len text) → IsBare text
ends_found text len at h = behind_comment text (take len text) (drop len text) (sym (take-append-drop len text)) at.0 h

pub ends_needed : (text : List ℕ) (len : ℕ) → CommentAt text (comment.Ends len) → has_line_feed (take len text) ≡ false → IsBare text → IsBare (drop len text)
ends_needed text len at none h = bare_behind_comment text h (take len text) (drop len text) (sym (take-append-drop len text)) at.0 none

pub nothing_bare : (text : List ℕ) → length text ≡ 0 → IsBare text
nothing_bare [] empty = at_the_end
nothing_bare (b ∷ bs) empty = absurd (omega (arith, empty))

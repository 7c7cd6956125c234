-- Comments, by the text behind them.
use Rattle.std.proofs.Common.{◌≡◌, ◌≤◌, ◌-◌, ℕ, List, [], ◌∷◌, ◌++◌, Bool, true, false, ◌==◌, ◌&&◌, Some, refl, sym, ap, subst, ◌∙◌, inl, inr, arith, length, codes}
use Rattle.ca_tree.specs.Lexed.{after_close, from_line_feed, IsComment}
use Rattle.ca_lex.specs.declared.skipped.Comment.TheVariants as comment
use Rattle.ca_lex.specs.Skipped.{after_front, CommentAt}
use Rattle.ca_lex.proofs.Cuts.{cut_len, cut_drop, front_found}

pub close_cut : (text rest : List ℕ) → after_close text ≡ Some rest → (u : List ℕ) × (text ≡ u ++ rest)
close_cut [] rest h = absurd cc
close_cut (b ∷ []) rest h = absurd cc
close_cut (b ∷ c ∷ more) rest h = step ((b == 42) && (c == 47)) refl h (close_cut (c ∷ more) rest)
  where
    step : (t : Bool) → ((b == 42) && (c == 47)) ≡ t → after_close (b ∷ c ∷ more) ≡ Some rest → (after_close (c ∷ more) ≡ Some rest → (u : List ℕ) × (c ∷ more ≡ u ++ rest)) → (u : List ℕ) × (b ∷ c ∷ more ≡ u ++ rest)
    step true e h ih = let same = rw e at h in (b ∷ c ∷ [], cc)
    step false e h ih = let found = ih (rw e at h) in (b ∷ found.0, ap (λ (t : List ℕ). b ∷ t) found.1)

pub line_cut : (text : List ℕ) → (u : List ℕ) × (text ≡ u ++ from_line_feed text)
line_cut [] = ([], refl)
line_cut (b ∷ bs) = step (b == 10) refl (line_cut bs)
  where
    step : (t : Bool) → (b == 10) ≡ t → ((u : List ℕ) × (bs ≡ u ++ from_line_feed bs)) → (u : List ℕ) × (b ∷ bs ≡ u ++ from_line_feed (b ∷ bs))
    step true e ih = ([], rw e refl)
    step false e ih = (b ∷ ih.0, rw e (ap (λ (t : List ℕ). b ∷ t) ih.1))

-- a comment of two bytes and more, by what follows it
pub comment_len : (a b : ℕ) (text more u rest : List ℕ) → text ≡ a ∷ b ∷ more → more ≡ u ++ rest → IsComment text rest → CommentAt text (comment.Ends (length text - length rest))
comment_len a b text more u rest e f is =
    let whole : text ≡ (a ∷ b ∷ u) ++ rest = e ∙ ap (λ (t : List ℕ). a ∷ b ∷ t) f in
    let len = cut_len text (a ∷ b ∷ u) rest whole in
    let behind = cut_drop text (a ∷ b ∷ u) rest (length text - length rest) whole (omega (arith, len)) in
    (subst (λ (r : List ℕ). IsComment text r) (sym behind) is, omega (arith, len), omega arith)

pub block_ends : (text more rest : List ℕ) → Some more ≡ after_front (codes "/*") text → Some rest ≡ after_close more → (length rest ≤ length text) × CommentAt text (comment.Ends (length text - length rest))
block_ends text more rest front close =
    let e = front_found (codes "/*") text more (sym front) in
    let cut = close_cut more rest (sym close) in
    (omega (arith, ap length e, cut_len more cut.0 rest cut.1), comment_len 47 42 text more cut.0 rest e cut.1 (more, inl (e, sym close)))

pub line_ends : (text more rest : List ℕ) → Some more ≡ after_front (codes "//") text → rest ≡ from_line_feed more → (length rest ≤ length text) × CommentAt text (comment.Ends (length text - length rest))
line_ends text more rest front is =
    let e = front_found (codes "//") text more (sym front) in
    let cut = line_cut more in
    let f : more ≡ cut.0 ++ rest = cut.1 ∙ ap (λ (t : List ℕ). cut.0 ++ t) (sym is) in
    (omega (arith, ap length e, cut_len more cut.0 rest f), comment_len 47 47 text more cut.0 rest e f (more, inr (e, sym is)))

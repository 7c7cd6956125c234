-- What is skipped at the head of a text, by its length.
use Rattle.std.specs.Prelude.{◌≡◌, ◌≤◌, ◌<◌, ℕ, Bool, not, ◌&&◌, ◌==◌, List, [], ◌∷◌, ◌++◌, length, take, drop, Option, Some, None, codes, if◌then◌else◌}
use Rattle.ca_tree.specs.Tokens.{is_blank}
use Rattle.ca_tree.specs.Lexed.{after_close, BeginsBlock, BeginsComment, IsComment, IsInclude}
use Rattle.ca_lex.specs.declared.skipped.Comment.{Comment}
use Rattle.ca_lex.specs.declared.skipped.Comment.TheVariants as comment

-- no comment, one that doesn't end, or one of this length
abbrev pub CommentAt : List ℕ → Comment → Type 0
CommentAt text comment.Absent = BeginsComment text → ⊥
CommentAt text comment.Open = (more : List ℕ) × BeginsBlock text more × (after_close more ≡ None)
CommentAt text (comment.Ends len) = IsComment text (drop len text) × (0 < len) × (len ≤ length text)

-- a line that is dropped, whose bytes up to the header are so many
abbrev pub IncludeOf : List ℕ → ℕ → Type 0
IncludeOf text len = IsInclude (take len text) (drop len text) × (0 < len) × (len ≤ length text)

-- no such line
abbrev pub NoInclude : List ℕ → Type 0
NoInclude text = (u rest : List ℕ) → text ≡ u ++ rest → IsInclude u rest → ⊥

-- What the loops compute, each on a list.

-- what follows a front, where the text begins with it
abbrev pub after_front : List ℕ → List ℕ → Option (List ℕ)
after_front [] text = Some text
after_front (c ∷ cs) [] = None
after_front (c ∷ cs) (d ∷ ds) = if d == c then after_front cs ds else None

abbrev pub is_line_blank : ℕ → Bool
is_line_blank b = is_blank b && not (b == 10)

-- what follows the blanks at the front, up to the end of the line
abbrev pub after_line_blanks : List ℕ → List ℕ
after_line_blanks [] = []
after_line_blanks (b ∷ bs) = if is_line_blank b then after_line_blanks bs else b ∷ bs

infixl 10 ◌>>=◌
abbrev pub ◌>>=◌ : Option (List ℕ) → (List ℕ → Option (List ℕ)) → Option (List ℕ)
(Some a) >>= f = f a
None >>= f = None

abbrev pub or_else : Option (List ℕ) → Option (List ℕ) → Option (List ℕ)
or_else (Some rest) other = Some rest
or_else None other = other

-- behind one of the four headers
abbrev pub after_header : List ℕ → Option (List ℕ)
after_header text = or_else (after_front (codes "<pthread.h>") text) (or_else (after_front (codes "<stdio.h>") text) (or_else (after_front (codes "<stdlib.h>") text) (after_front (codes "<assert.h>") text)))

-- behind `#`, `include` and a header with blanks between
abbrev pub after_include : List ℕ → Option (List ℕ)
after_include text = after_front (codes "#") text >>= (λ t. after_front (codes "include") (after_line_blanks t)) >>= (λ t. after_header (after_line_blanks t))

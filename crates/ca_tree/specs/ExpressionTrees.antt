-- Expressions by their trees alone: how deep they are, which words stand in them, and their place.
use Rattle.std.specs.Prelude.{◌≡◌, ◌≤◌, ℕ, ◌+◌, max, Bool, true, not, ◌&&◌, nat_le, length}
use Rattle.ca_tree.specs.declared.text.Pos.{Pos}
use Rattle.ca_tree.specs.declared.tree.Name.{Name}
use Rattle.ca_tree.specs.declared.tree.Exp.{Exp, fold-Exp}
use Rattle.ca_tree.specs.declared.tree.Exp.TheOpen.{Exp-F}
use Rattle.ca_tree.specs.Names.{is_reserved}
use Rattle.ca_tree.specs.TreeWords.{Words}

-- one deeper than its deepest part
abbrev pub depth_step : Exp-F ℕ → ℕ
depth_step (Exp-F.Number p n) = 1
depth_step (Exp-F.Null p) = 1
depth_step (Exp-F.Name n) = 1
depth_step (Exp-F.Unary p o a) = a + 1
depth_step (Exp-F.Binary p o a b) = max a b + 1
depth_step (Exp-F.Index p a i) = max a i + 1
depth_step (Exp-F.Field p a n) = a + 1
depth_step (Exp-F.Arrow p a n) = a + 1

abbrev pub depth : Exp → ℕ
depth = fold-Exp ℕ depth_step

-- no keyword and no reserved name, and at most 63 bytes
abbrev pub is_short_name : Words → Name → Bool
is_short_name words n = words.is_name n.text && (not (is_reserved n.text) && nat_le (length n.text) 63)

abbrev pub names_step : Words → Exp-F Bool → Bool
names_step words (Exp-F.Number p n) = words.is_number n
names_step words (Exp-F.Null p) = true
names_step words (Exp-F.Name n) = is_short_name words n
names_step words (Exp-F.Unary p o a) = a
names_step words (Exp-F.Binary p o a b) = a && b
names_step words (Exp-F.Index p a i) = a && i
names_step words (Exp-F.Field p a n) = a && is_short_name words n
names_step words (Exp-F.Arrow p a n) = a && is_short_name words n

abbrev pub has_names : Words → Exp → Bool
has_names words = fold-Exp Bool (names_step words)

-- the place of an expression
abbrev pub place_step : Exp-F Pos → Pos
place_step (Exp-F.Number p n) = p
place_step (Exp-F.Null p) = p
place_step (Exp-F.Name n) = n.pos
place_step (Exp-F.Unary p o a) = p
place_step (Exp-F.Binary p o a b) = p
place_step (Exp-F.Index p a i) = p
place_step (Exp-F.Field p a n) = p
place_step (Exp-F.Arrow p a n) = p

abbrev pub place_of : Exp → Pos
place_of = fold-Exp Pos place_step

abbrev pub IsName : Words → Name → Type 0
IsName words n = is_short_name words n ≡ true

-- an expression that stands by itself
pub record IsWhole (words : Words) (a : Exp) : Type 0 where
  pub names : has_names words a ≡ true
  pub shallow : depth a ≤ 64

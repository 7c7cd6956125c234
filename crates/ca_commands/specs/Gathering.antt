-- How the words are read one after another, as functions on lists; no public contract names them.
use Rattle.std.specs.Prelude.{◌==◌, ℕ, Bool, true, cond, not, List, [], ◌∷◌, ◌++◌, Option, Some, None, codes}
use Rattle.std.specs.List.{before_first, after_first, list_any}
use Rattle.std.specs.Str.{bytes_eq}
use Rattle.ca_commands.specs.declared.key.Key.{Key}
use Rattle.ca_commands.specs.declared.key.Key.TheVariants as key
use Rattle.ca_commands.specs.declared.pieces.Mode.{Mode}
use Rattle.ca_commands.specs.declared.pieces.Mode.TheVariants as mode
use Rattle.ca_commands.specs.declared.pieces.PieceKind.{PieceKind}
use Rattle.ca_commands.specs.declared.pieces.PieceKind.TheVariants as kind
use Rattle.ca_commands.specs.Words.{spelling, Piece, Name, Plain, Valued}

-- what was read so far, and what the next word has to be
pub record Gathered : Type 0 where
  pub mode : Mode
  pub pieces : List Piece

abbrev pub gathered_as : Mode → List Piece → Gathered
gathered_as m ps = record { mode = m; pieces = ps }

abbrev pub start : Gathered
start = gathered_as mode.Options []

abbrev pub in_mode : Gathered → Mode → Gathered
in_mode g m = gathered_as m g.pieces

abbrev pub with_piece : Gathered → Piece → Gathered
with_piece g p = gathered_as g.mode (g.pieces ++ p ∷ [])

abbrev pub if_so : List ℕ → Key → Option Key → Option Key
if_so text k other = cond (bytes_eq text (spelling k)) (Some k) other

-- the option that a text names
abbrev pub key_of : List ℕ → Option Key
key_of text =
    if_so text key.Limit (if_so text key.Depth (if_so text key.Only (if_so text key.Events (if_so text key.Patience (if_so text key.Schedule (if_so text key.Seed None))))))

abbrev pub is_equals : ℕ → Bool
is_equals c = c == 61

-- an option, with its value behind `=` or in the next word
abbrev pub with_option : Gathered → List ℕ → Option Gathered
with_option g w =
    cond (list_any is_equals w)
    (elim (key_of (before_first is_equals w)) [ None ↦ None | Some k ↦ Some (with_piece g (Valued k (after_first is_equals w))) ])
    (elim (key_of w) [ None ↦ None | Some k ↦ Some (in_mode g (mode.Value k)) ])

abbrev pub is_bare : List ℕ → Bool
is_bare [] = true
is_bare (c ∷ cs) = not (c == 45)

-- a word before `--` that is no value
abbrev pub with_word : Gathered → List ℕ → Option Gathered
with_word g w =
    cond (is_bare w) (Some (with_piece g (Name w)))
    (cond (bytes_eq w (codes "--")) (Some (in_mode g mode.Names)) (cond (bytes_eq w (codes "--plain")) (Some (with_piece g Plain)) (with_option g w)))

-- the next word, by what it has to be
abbrev pub by_mode : Gathered → List ℕ → Mode → Option Gathered
by_mode g w mode.Options = with_word g w
by_mode g w (mode.Value k) = Some (with_piece (in_mode g mode.Options) (Valued k w))
by_mode g w mode.Names = cond (bytes_eq w (codes "-")) None (Some (with_piece g (Name w)))

abbrev pub taken : Gathered → List ℕ → Option Gathered
taken g w = by_mode g w g.mode

abbrev pub gathered : Gathered → List (List ℕ) → Option Gathered
gathered g [] = Some g
gathered g (w ∷ ws) = elim (taken g w) [ None ↦ None | Some h ↦ gathered h ws ]

-- no value is still to come
abbrev pub IsDone : Mode → Type 0
IsDone (mode.Value k) = ⊥
IsDone _ = Unit {0}

-- a piece by its kind and its text
abbrev pub piece_of : PieceKind → List ℕ → Piece
piece_of kind.Name text = Name text
piece_of kind.Plain text = Plain
piece_of (kind.Value k) text = Valued k text

-- what stands there at most once, as a list
abbrev pub list_of : Option (List ℕ) → List (List ℕ)
list_of None = []
list_of (Some x) = x ∷ []

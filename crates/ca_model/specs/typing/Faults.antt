-- Faults of types, and which of them is told.
use Rattle.std.specs.Prelude.{◌≡◌, ℕ, Bool, false, ◌&&◌, ◌||◌, ◌==◌, nat_lt, List, [], ◌∷◌, Option, Some, None, Contains, if◌then◌else◌}
use Rattle.ca_tree.specs.declared.text.Pos.{Pos}
use Rattle.ca_model.specs.declared.types.TypeKind.{TypeKind}
use Rattle.ca_model.specs.declared.types.TypeKind.TheVariants as kind
use Rattle.ca_model.specs.declared.types.TypeFault.{TypeFault}

abbrev pub fault : Pos → TypeKind → TypeFault
fault p k = record { pos = p; kind = k }

-- the order of faults at one place
abbrev pub rank : TypeKind → ℕ
rank kind.Unknown = 0
rank kind.Twice = 1
rank kind.ThreadForm = 2
rank kind.NotLvalue = 3
rank kind.Directive = 4
rank kind.Mismatch = 5
rank kind.TooManyLocals = 6
rank kind.TooManyCells = 7
rank kind.NoMain = 8

-- the place of x stands before that of y, or they stand at one place, and the kind of x comes first
abbrev pub is_before : TypeFault → TypeFault → Bool
is_before x y =
    nat_lt x.pos.line y.pos.line
    || (x.pos.line == y.pos.line
    && (nat_lt x.pos.column y.pos.column || (x.pos.column == y.pos.column && nat_lt (rank x.kind) (rank y.kind))))

-- one of the faults, and none is before it
pub record IsFirst (faults : List TypeFault) (x : TypeFault) : Type 0 where
  pub is_one : Contains faults x
  pub least : (y : TypeFault) → Contains faults y → is_before y x ≡ false

-- the fault where something is not there
abbrev pub if_none : {A : Type 0} → TypeFault → Option A → List TypeFault
if_none x None = x ∷ []
if_none x (Some a) = []

-- the fault where a test fails
abbrev pub unless : Bool → TypeFault → List TypeFault
unless b x = if b then [] else x ∷ []

abbrev pub given : {A : Type 0} → Option A → (A → List TypeFault) → List TypeFault
given None f = []
given (Some x) f = f x

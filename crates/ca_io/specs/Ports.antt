-- The objects of the outside before and after a call.
use Rattle.std.specs.Prelude.{◌≡◌, ℕ, List, Option}
use Rattle.std.specs.Io.KnownBytes.{Appends}
use Rattle.ca_io.specs.Outside.{Rose, AppendsPart}

-- a sink: its bytes, where they are told, and its count of faults
pub record PutPort : Type 0 where
  pub old : Option (List ℕ)
  pub new : Option (List ℕ)
  pub before : ℕ
  pub now : ℕ

abbrev pub put_port : {S : Type 0} → (S → Option (List ℕ)) → (S → ℕ) → S → S → PutPort
put_port written faults old new = record { old = written old; new = written new; before = faults old; now = faults new }

-- the whole text was put, and no put failed
pub record Wrote (p : PutPort) (text : List ℕ) : Type 0 where
  pub whole : Appends p.old p.new text
  pub passed : p.now ≡ p.before

-- a front of the text was put
abbrev pub WrotePart : PutPort → List ℕ → Type 0
WrotePart p text = AppendsPart p.old p.new text

-- files: what each name holds, where it is told, and their count of faults
pub record LoadPort : Type 0 where
  pub holds : List ℕ → Option (List ℕ)
  pub before : ℕ
  pub now : ℕ

abbrev pub load_port : {F : Type 0} → (F → List ℕ → Option (List ℕ)) → (F → ℕ) → F → F → LoadPort
load_port holds faults old new = record { holds = holds old; before = faults old; now = faults new }

-- a put or a load failed
abbrev pub HasFailed : PutPort → Type 0
HasFailed p = Rose p.before p.now

abbrev pub HasFailedLoad : LoadPort → Type 0
HasFailedLoad p = Rose p.before p.now

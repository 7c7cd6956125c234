-- What the load of a file may give, and what a file holds by it.
use Rattle.std.specs.Prelude.{ℕ, List}

-- the most bytes that a source may have, and a trace
abbrev pub source_limit : ℕ
source_limit = 1048576

abbrev pub trace_limit : ℕ
trace_limit = 268435456

-- its bytes, at most as many as the limit; more than those; or nothing, since the load failed
pub data Load : Type 0 where
  Loaded : (bytes : List ℕ) → Load
  Exceeded : Load
  Unloaded : Load

-- `Gives limit name l` says that the load of the name under the limit gave l
abbrev pub Giving : Type 1
Giving = ℕ → List ℕ → Load → Type 0

-- a load gave bytes that are so
pub record HoldsSo (Gives : Giving) (limit : ℕ) (name : List ℕ) (IsSo : List ℕ → Type 0) : Type 0 where
  pub bytes : List ℕ
  pub loaded : Gives limit name (Loaded bytes)
  pub is_so : IsSo bytes

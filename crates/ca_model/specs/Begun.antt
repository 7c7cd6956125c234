-- The frames of a run, and the items that they begin between two answers.
use Rattle.std.specs.Prelude.{◌≡◌, ◌≢◌, ◌<◌, ℕ, zero, suc, List, [], ◌∷◌, ◌++◌, Some, slice_get}
use Rattle.ca_tree.specs.declared.numbers.FunId.{FunId}
use Rattle.ca_model.specs.declared.values.Value.{Value}
use Rattle.ca_model.specs.declared.tree.Item.{Item}
use Rattle.ca_model.specs.declared.tree.Stmt.{Stmt, out-Stmt}
use Rattle.ca_model.specs.declared.tree.Stmt.TheOpen.{Stmt-F}
use Rattle.ca_model.specs.Asks.{Want, Returns, Is, Wants, No_result}
use Rattle.ca_model.specs.Frames.{Code, Left, Begin, Run, Loop, Frame, begun, gives_way, answered, entered, frame_of}

abbrev pub IsReturn : Want → Type 0
IsReturn (Returns x) = Unit {0}
IsReturn _ = ⊥

-- a frame in progress: a function has begun, and each event has been answered. The answer to a return goes to the caller
pub data InProgress (code : Code) : Frame → Type 0 where
  starts : (f : FunId) (xs : List Value) → InProgress code (frame_of code f xs)
  goes_on : {f : Frame} {w : Want} → InProgress code f → begun code f ≡ Wants w → (IsReturn w → ⊥) → (x : Value) → InProgress code (answered code f x)

-- the item of a statement that it begins with
abbrev pub opening_item : Stmt-F Stmt → List Item
opening_item (Stmt-F.Item i) = i ∷ []
opening_item (Stmt-F.If c a b) = c ∷ []
opening_item _ = []

-- the item that is evaluated at what stands first. The condition of a loop is, once its turn has come
abbrev pub evaluated : Left → List Value → List Item
evaluated (Begin i) xs = i ∷ []
evaluated (Run s) xs = opening_item (out-Stmt s)
evaluated (Loop c body step) (x ∷ xs) = c ∷ []
evaluated _ xs = []

abbrev pub first_evaluated : List Left → List Value → List Item
first_evaluated [] xs = []
first_evaluated (x ∷ ls) xs = evaluated x xs

-- the items that a frame evaluates until it stands again, by at most n silent steps
abbrev pub evaluated_by : Code → ℕ → Frame → List Item
evaluated_by code zero f = first_evaluated f.left f.answers
evaluated_by code (suc n) f = first_evaluated f.left f.answers ++ elim (begun code f) [ Is d rest ↦ evaluated_by code n (gives_way f d rest) | Wants w ↦ [] | No_result ↦ [] ]

-- no item stands twice in a list
abbrev pub EachOnce : List Item → Type 0
EachOnce is = (j k : ℕ) (x y : Item) → j < k → slice_get is j ≡ Some x → slice_get is k ≡ Some y → x.id.0 ≢ y.id.0

-- between two answers, and from its start to the first event, a frame begins no item twice
pub record BeginsEachOnce (code : Code) : Type 0 where
  pub at_the_start : (f : FunId) (xs : List Value) (n : ℕ) → EachOnce (evaluated_by code n (entered f xs (slice_get code.functions f.0)))
  pub after_an_answer : (f : Frame) (w : Want) (x : Value) (n : ℕ) → InProgress code f → begun code f ≡ Wants w → (IsReturn w → ⊥)
      → EachOnce (evaluated_by code n (record f { answers = f.answers ++ x ∷ [] }))

-- Words for laws.
use Rattle.std.specs.Prelude.{◌≡◌, ◌<◌, List, [], ◌++◌, length}
use Rattle.ca_model.specs.declared.values.Value.{Value}
use Rattle.ca_model.specs.Asks.{Want, Got, Is, Wants, No_result, Asks}

-- what more answers change: one that is done has them over too, one that wanted an event takes some, and `arith` stays
abbrev pub Fewer : {A : Type 0} → Got A → List Value → Type 0
Fewer (Is x rest) more = length rest < length more
Fewer (Wants w) more = Unit {0}
Fewer No_result more = Unit {0}

abbrev pub Extended : {A : Type 0} → Got A → List Value → Got A → Type 0
Extended (Is x rest) more g = g ≡ Is x (rest ++ more)
Extended (Wants w) more g = Fewer g more
Extended No_result more g = g ≡ No_result

abbrev pub NoneOver : {A : Type 0} → Got A → Type 0
NoneOver (Is x rest) = rest ≡ []
NoneOver (Wants w) = Unit {0}
NoneOver No_result = Unit {0}

-- a part takes its answers in order
pub record InOrder {A : Type 0} (p : Asks A) : Type 0 where
  pub none : NoneOver (p [])
  pub more : (xs more : List Value) → Extended (p xs) more (p (xs ++ more))

-- where it wants an event after some answers, no first part of them was enough
abbrev pub WantsAll : {A : Type 0} → Asks A → Type 0
WantsAll {A} p = (xs more rest : List Value) (x : A) (w : _) → p (xs ++ more) ≡ Wants w → p xs ≡ Is x rest → ⊥

-- a frame that no silent step takes further
abbrev pub Stands : {A : Type 0} → Got A → Type 0
Stands (Is x rest) = ⊥
Stands (Wants w) = Unit {0}
Stands No_result = Unit {0}

-- a part whose wants are all of one kind
abbrev pub OnWants : {A : Type 0} → (Want → Type 0) → Got A → Type 0
OnWants P (Is x rest) = Unit {0}
OnWants P (Wants w) = P w
OnWants P No_result = Unit {0}

abbrev pub AsksOnly : {A : Type 0} → (Want → Type 0) → Asks A → Type 0
AsksOnly P p = (xs : List Value) → OnWants P (p xs)

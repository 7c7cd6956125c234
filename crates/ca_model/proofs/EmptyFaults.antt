-- What is there where nothing is wrong: the answer of a rule, and a place.
use Rattle.std.proofs.Common.{◌≡◌, Bool, true, false, List, [], ◌++◌, Option, Some, None, refl}
use Rattle.std.specs.Option.{is_some}
use Rattle.ca_tree.specs.declared.text.Pos.{Pos}
use Rattle.ca_model.specs.declared.types.TypeFault.{TypeFault}
use Rattle.ca_model.specs.declared.types.Operand.{Operand}
use Rattle.ca_model.specs.typing.Faults.{if_none, given}
use Rattle.ca_model.specs.typing.Values.{also}
use Rattle.ca_model.specs.typing.Expressions.{Judged, no_place}
use Rattle.ca_model.proofs.NoFaults.{none_left, none_right}

pub none_in : {A : Type 0} (xs ys : List A) → xs ++ ys ≡ [] → (xs ≡ []) × (ys ≡ [])
none_in xs ys h = (none_left xs ys h, none_right xs ys h)

pub there_if : {A : Type 0} (x : TypeFault) (o : Option A) → if_none x o ≡ [] → is_some o ≡ true
there_if x None h = absurd cc
there_if x (Some a) h = refl

-- a rule has an answer where its operand is there and nothing is wrong
pub rule_there : {A B : Type 0} (o : Option A) (rule : A → Option B) (wrong : A → List TypeFault) → ((x : A) → wrong x ≡ [] → is_some (rule x) ≡ true) → is_some o ≡ true → given o wrong ≡ [] → is_some (also o rule) ≡ true
rule_there None rule wrong k there h = absurd cc
rule_there (Some x) rule wrong k there h = k x h

place_by : {A : Type 0} (p : Pos) (b : Bool) (o : Option Operand) (f : Operand → Option A) → no_place (record { pos = p; is = o; faults = []; may_be_place = b }) f ≡ [] → is_some o ≡ true → is_some (also o f) ≡ true
place_by p true None f h there = absurd cc
place_by p true (Some a) f h there = there_if _ (f a) h
place_by p false o f h there = absurd cc

-- a target or an operand of `&` is a place
pub place_there : {A : Type 0} (a : Judged) (f : Operand → Option A) → no_place a f ≡ [] → is_some a.is ≡ true → is_some (also a.is f) ≡ true
place_there a f h there = place_by a.pos a.may_be_place a.is f h there

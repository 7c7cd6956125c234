-- How many locals there are behind a declarator.
use Rattle.std.proofs.Common.{◌≡◌, ◌≤◌, ◌<◌, ◌+◌, ℕ, Bool, true, false, not, List, [], Option, refl, arith}
use Rattle.std.specs.Prelude.{nat_lt, if◌then◌else◌}
use Rattle.std.proofs.lemmas.Bool.{ltb-true, lt-ltb}
use Rattle.ca_tree.specs.declared.tree.Name.{Name}
use Rattle.ca_model.specs.declared.types.ObjectType.{ObjectType}
use Rattle.ca_model.specs.declared.types.Meaning.{Meaning}
use Rattle.ca_model.specs.declared.types.TypeKind.TheVariants as wrong
use Rattle.ca_model.specs.typing.Faults.{fault, unless}
use Rattle.ca_model.specs.typing.Bodies.{Inside}
use Rattle.ca_model.specs.typing.Locals.{with_locals, is_taken, most_locals, declared, declared_faults}
use Rattle.ca_model.proofs.NoFaults.{none_right, held_by_none}

rises_by : (b : Bool) (c : Inside) (ls : List (List ℕ × Meaning)) → c.count ≤ (if b then with_locals c ls (c.count + 1) else c).count
rises_by true c ls = omega arith
rises_by false c ls = omega arith

few_by : (b : Bool) (c : Inside) (ls : List (List ℕ × Meaning)) → nat_lt c.count most_locals ≡ b → c.count ≤ 128 → (if b then with_locals c ls (c.count + 1) else c).count ≤ 128
few_by true c ls is h = let lt = ltb-true c.count 128 is in omega arith
few_by false c ls is h = h

one_by : (b : Bool) (c : Inside) (ls : List (List ℕ × Meaning)) → b ≡ true → (if b then with_locals c ls (c.count + 1) else c).count ≡ c.count + 1
one_by true c ls is = refl
one_by false c ls is = absurd cc

pub declared_rises : (c : Inside) (x : Name) (t : Option ObjectType) → c.count ≤ (declared c x t).count
declared_rises c x t = rises_by (nat_lt c.count most_locals) c _

pub declared_few : (c : Inside) (x : Name) (t : Option ObjectType) → c.count ≤ 128 → (declared c x t).count ≤ 128
declared_few c x t h = few_by (nat_lt c.count most_locals) c _ refl h

-- one more where there is room for it
pub one_more : (c : Inside) (x : Name) (t : Option ObjectType) → c.count < 128 → (declared c x t).count ≡ c.count + 1
one_more c x t room = one_by (nat_lt c.count most_locals) c _ (lt-ltb c.count 128 room)

-- and so where nothing is wrong
pub one_more_where : (c : Inside) (x : Name) (t : Option ObjectType) → declared_faults c x ≡ [] → (declared c x t).count ≡ c.count + 1
one_more_where c x t none =
    one_by (nat_lt c.count most_locals) c _ (held_by_none (nat_lt c.count most_locals) (fault x.pos wrong.TooManyLocals) (none_right (unless (not (is_taken c x.text)) (fault x.pos wrong.Twice)) _ none))

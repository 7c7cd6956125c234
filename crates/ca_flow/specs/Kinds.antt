-- What instructions want of what is shared: whether it destroys, and whether it acquires.
use Rattle.std.specs.Prelude.{◌≡◌, Bool, true, false, List, []}
use Rattle.ca_tree.specs.declared.numbers.ItemId.{ItemId}
use Rattle.ca_model.specs.declared.values.Value.{Value}
use Rattle.ca_model.specs.Asks.{Want, Locks, Mallocs, Wants}
use Rattle.ca_flow.specs.declared.instr.Instr.{Instr}
use Rattle.ca_flow.specs.declared.instr.Instr.TheVariants as instr
use Rattle.ca_flow.specs.Instructions.{instr_run}

-- a lock, and a `malloc`
abbrev pub is_acquisition : Want → Bool
is_acquisition (Locks m s i) = true
is_acquisition (Mallocs n i) = true
is_acquisition w = false

-- whatever its registers have, it begins with a want of a kind
abbrev pub AlwaysWants : (Want → Bool) → Instr → Type 0
AlwaysWants is x = (i : ItemId) (r : List Value) → (w : Want) × (instr_run x i r [] ≡ Wants w) × (is w ≡ true)

-- whatever its registers have, and whatever it is answered, no want of it is of a kind
abbrev pub NeverWants : (Want → Bool) → Instr → Type 0
NeverWants is x = (i : ItemId) (r xs : List Value) (w : Want) → instr_run x i r xs ≡ Wants w → is w ≡ false

-- ---- by the kinds of instructions

abbrev pub destroys_by_kind : Instr → Bool
destroys_by_kind (instr.Store a b index field at) = true
destroys_by_kind (instr.Unlock m) = true
destroys_by_kind (instr.Free a at) = true
destroys_by_kind (instr.Print t xs) = true
destroys_by_kind (instr.Create to f a) = true
destroys_by_kind (instr.Join a) = true
destroys_by_kind (instr.Call to f xs) = true
destroys_by_kind (instr.Return a) = true
destroys_by_kind x = false

abbrev pub acquires_by_kind : Instr → Bool
acquires_by_kind (instr.Lock m at acquiring) = true
acquires_by_kind (instr.Malloc to c n acquiring) = true
acquires_by_kind x = false

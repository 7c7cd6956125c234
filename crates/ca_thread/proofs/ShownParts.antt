-- What an instruction asks for, as the next action shows it.
use Rattle.std.proofs.Common.{◌≡◌, ℤ, Bool, true, false, List, [], Option, refl, sym, ap, ◌∙◌}
use Rattle.ca_tree.specs.declared.numbers.FunId.{FunId}
use Rattle.ca_tree.specs.declared.numbers.ItemId.{ItemId}
use Rattle.ca_tree.specs.declared.numbers.MutexId.{MutexId}
use Rattle.ca_tree.specs.declared.numbers.SiteId.{SiteId}
use Rattle.ca_model.specs.declared.tree.LoadKind.{LoadKind}
use Rattle.ca_model.specs.declared.values.Value.{Value}
use Rattle.ca_model.specs.Asks.{Want, Got, Wants, Reads, Writes, Locks, Mallocs, Frees, Calls}
use Rattle.ca_flow.specs.declared.instr.Instr.{Instr}
use Rattle.ca_flow.specs.Instructions.{instr_run}
use Rattle.ca_thread.specs.Asked.{last_or}

wanted : {v w : Want} → ◌≡◌ {A = Got (List Value × Bool)} (Wants v) (Wants w) → v ≡ w
wanted e = cc

-- an instruction that asks for v, and is no return
pub asks_as : (c x : Instr) (i : ItemId) (r : List Value) (w v : Want) (last : Bool) → c ≡ x → instr_run x i r [] ≡ Wants v → last_or last v ≡ v → instr_run c i r [] ≡ Wants w → last_or last w ≡ v
asks_as c x i r w v last is asks kept e = ap (last_or last) (wanted (sym e ∙ (ap (λ n. instr_run n i r []) is ∙ asks))) ∙ kept

pub read_kept : (last : Bool) (at : Value) (by : ℤ) (k : LoadKind) (s : Option SiteId) → last_or last (Reads at by k s) ≡ Reads at by k s
read_kept true at by k s = refl
read_kept false at by k s = refl

pub write_kept : (last : Bool) (at : Value) (by : ℤ) (x : Value) (s : Option SiteId) → last_or last (Writes at by x s) ≡ Writes at by x s
write_kept true at by x s = refl
write_kept false at by x s = refl

pub lock_kept : (last : Bool) (m : MutexId) (s : SiteId) (i : ItemId) → last_or last (Locks m s i) ≡ Locks m s i
lock_kept true m s i = refl
lock_kept false m s i = refl

pub malloc_kept : (last : Bool) (n : ℤ) (i : ItemId) → last_or last (Mallocs n i) ≡ Mallocs n i
malloc_kept true n i = refl
malloc_kept false n i = refl

pub free_kept : (last : Bool) (at : Value) (s : SiteId) → last_or last (Frees at s) ≡ Frees at s
free_kept true at s = refl
free_kept false at s = refl

pub call_kept : (last : Bool) (f : FunId) (xs : List Value) → last_or last (Calls f xs) ≡ Calls f xs
call_kept true f xs = refl
call_kept false f xs = refl

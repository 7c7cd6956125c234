-- What an instruction asks for, in the words of threads.
use Rattle.std.specs.Prelude.{◌≡◌, ℕ, Bool, true, false, List, map}
use Rattle.ca_model.specs.declared.values.Value.{Value}
use Rattle.ca_model.specs.Asks.{Want, Returns, Ends, Saves}
use Rattle.ca_model.specs.Printed.{written}
use Rattle.ca_flow.specs.declared.instr.Instr.{Instr}
use Rattle.ca_flow.specs.declared.instr.Instr.TheVariants as instr
use Rattle.ca_flow.specs.Instructions.{reg}

-- a return of a thread's last frame is its end
abbrev pub last_or : Bool → Want → Want
last_or true (Returns x) = Ends
last_or _ w = w

-- the bytes that a print writes
abbrev pub IsText : Instr → List Value → List ℕ → Type 0
IsText (instr.Print t as') r text = text ≡ written t (map (reg r) as')
IsText _ r text = Unit {0}

abbrev pub wants_save : Want → Bool
wants_save Saves = true
wants_save _ = false

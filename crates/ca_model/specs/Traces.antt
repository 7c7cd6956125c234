-- The text of a trace: a line that counts its entries, and a line for each. One space stands between words.
-- Each text groups to the right.
use Rattle.std.specs.Prelude.{ℕ, ◌/◌, ◌%◌, false, List, [], ◌∷◌, ◌++◌, map, length, codes}
use Rattle.std.specs.Fmt.{decimal, signed_decimal, digit_glyph}
use Rattle.ca_model.specs.declared.values.Addr.{Addr}
use Rattle.ca_model.specs.declared.values.Value.{Value}
use Rattle.ca_model.specs.declared.values.Value.TheVariants as v
use Rattle.ca_model.specs.declared.values.Given.{Given}
use Rattle.ca_model.specs.declared.values.Given.TheVariants as given
use Rattle.ca_model.specs.declared.values.FaultKind.{FaultKind}
use Rattle.ca_model.specs.declared.values.FaultKind.TheVariants as fault
use Rattle.ca_model.specs.declared.values.Event.{Event}
use Rattle.ca_model.specs.declared.values.EventAct.{EventAct}
use Rattle.ca_model.specs.declared.values.EventAct.TheVariants as act

-- a text and the end of its line
abbrev pub line_end : List ℕ
line_end = 10 ∷ []

-- `@<block>.<offset>`
abbrev pub address_text : Addr → List ℕ
address_text a = codes "@" ++ (decimal a.block ++ (codes "." ++ signed_decimal a.offset))

-- a number or an address; null is `0`
abbrev pub value_text : Value → List ℕ
value_text (v.Num n) = signed_decimal n
value_text (v.Addr a) = address_text a

-- two digits to the base 16 a byte, in lower case
abbrev pub hex_digits : List ℕ → List ℕ
hex_digits [] = []
hex_digits (b ∷ bs) = digit_glyph false (b / 16) ∷ digit_glyph false (b % 16) ∷ hex_digits bs

-- `-` stands for no bytes
abbrev pub hex_text : List ℕ → List ℕ
hex_text [] = codes "-"
hex_text (b ∷ bs) = hex_digits (b ∷ bs)

abbrev pub fault_text : FaultKind → List ℕ
fault_text fault.Assert = codes "assert"
fault_text fault.Pointer = codes "pointer"
fault_text fault.Mutex = codes "mutex"
fault_text fault.Arith = codes "arith"
fault_text fault.Kind = codes "kind"
fault_text fault.Thread = codes "thread"

-- a mutex, or the start of a block
abbrev pub given_text : Given → List ℕ
given_text (given.Mutex m) = codes "m" ++ decimal m.0
given_text (given.Block b) = codes "@" ++ (decimal b ++ codes ".0")

-- each thing after a space
abbrev pub gives_text : List Given → List ℕ
gives_text [] = []
gives_text (g ∷ gs) = codes " " ++ (given_text g ++ gives_text gs)

abbrev pub act_text : EventAct → List ℕ
act_text (act.Read at x) = codes "read " ++ (address_text at ++ (codes " " ++ value_text x))
act_text (act.Write at x) = codes "write " ++ (address_text at ++ (codes " " ++ value_text x))
act_text (act.Lock m) = codes "lock m" ++ decimal m.0
act_text (act.Unlock m) = codes "unlock m" ++ decimal m.0
act_text (act.Malloc cells at) = codes "malloc " ++ (signed_decimal cells ++ (codes " " ++ value_text at))
act_text (act.Free at) = codes "free " ++ value_text at
act_text (act.Print text) = codes "print " ++ hex_text text
act_text (act.Create u) = codes "create " ++ decimal u
act_text (act.Join u) = codes "join " ++ decimal u
act_text (act.Call f) = codes "call f" ++ decimal f.0
act_text (act.Return x) = codes "return " ++ value_text x
act_text act.Turn = codes "turn"
act_text act.End = codes "end"
act_text (act.Fault k) = codes "fault " ++ fault_text k
act_text act.Save = codes "save"
act_text (act.Retry site gives) = codes "retry s" ++ (decimal site.0 ++ gives_text gives)

-- `<thread> <act>`
abbrev pub event_line : Event → List ℕ
event_line e = decimal e.thread ++ (codes " " ++ (act_text e.act ++ line_end))

-- `trace <n>`, and the entries
abbrev pub trace_lines : List Event → List (List ℕ)
trace_lines events = (codes "trace " ++ (decimal (length events) ++ line_end)) ∷ map event_line events

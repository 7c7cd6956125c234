-- The text of the report of a run: its trace, its ending, for a deadlock what each thread waits for, and its output.
use Rattle.std.specs.Prelude.{ℕ, ◌+◌, List, [], ◌∷◌, ◌++◌, length, codes, cond, Option, Some, None}
use Rattle.std.specs.Fmt.{decimal, signed_decimal}
use Rattle.std.specs.List.{flat_map}
use Rattle.std.specs.FinMap as map
use Rattle.std.specs.FinSet as set
use Rattle.ca_model.specs.declared.values.Event.{Event}
use Rattle.ca_model.specs.declared.values.Ending.{Ending}
use Rattle.ca_model.specs.declared.values.Ending.TheVariants as ending
use Rattle.ca_model.specs.Asks.{Want, Locks, Joins}
use Rattle.ca_model.specs.Shared.{Shared}
use Rattle.ca_model.specs.Machine.{Rules, State}
use Rattle.ca_model.specs.Traces.{line_end, trace_lines}

abbrev pub ending_text : Ending → List ℕ
ending_text ending.Finished = codes "finished"
ending_text (ending.Fault k) = codes "fault"
ending_text ending.Deadlock = codes "deadlock"
ending_text ending.Unended = codes "unended"
ending_text ending.Events = codes "events"
ending_text ending.Frames = codes "frames"

-- the status of the program after a run that ends so
abbrev pub ending_status : Ending → ℕ
ending_status ending.Finished = 0
ending_status (ending.Fault k) = 1
ending_status ending.Deadlock = 4
ending_status _ = 5

-- `ending <word>`
abbrev pub ending_line : Ending → List ℕ
ending_line end = codes "ending " ++ (ending_text end ++ line_end)

abbrev pub owner_text : Option ℕ → List ℕ
owner_text None = []
owner_text (Some u) = codes " held " ++ decimal u

-- `lock m<k> held <u>` or `join <u>`
abbrev pub wait_text : Shared → Want → List ℕ
wait_text s (Locks m site i) = codes "lock m" ++ (decimal m.0 ++ owner_text (map.get s.owners m.0))
wait_text s (Joins n) = codes "join " ++ signed_decimal n
wait_text s _ = []

-- `waits <t> ..`
abbrev pub wait_line : Shared → ℕ → Want → List ℕ
wait_line s t w = codes "waits " ++ (decimal t ++ (codes " " ++ (wait_text s w ++ line_end)))

-- for each thread that hasn't ended, from number t on
abbrev pub waits_from : {T : Type 0} → Rules T → Shared → ℕ → List T → List (List ℕ)
waits_from r s t [] = []
waits_from r s t (x ∷ xs) = cond (set.contains s.ended t) (waits_from r s (t + 1) xs) (wait_line s t (r.want x) ∷ waits_from r s (t + 1) xs)

abbrev pub wait_lines : {T : Type 0} → Rules T → State T → Ending → List (List ℕ)
wait_lines r last ending.Deadlock = waits_from r last.shared 0 last.threads
wait_lines r last _ = []

-- `output <bytes>`
abbrev pub output_line : List ℕ → List ℕ
output_line output = codes "output " ++ (decimal (length output) ++ line_end)

-- the lines of a run, by its entries, its ending, the lines on what waits, and its output
abbrev pub lines_of : List Event → Ending → List (List ℕ) → List ℕ → List (List ℕ)
lines_of events end waits output = trace_lines events ++ (ending_line end ∷ (waits ++ (output_line output ∷ [])))

-- its lines, and the raw output
abbrev pub text_of : List Event → Ending → List (List ℕ) → List ℕ → List ℕ
text_of events end waits output = flat_map (λ text. text) (lines_of events end waits output) ++ output

-- the report of a run that has reached this state
abbrev pub report : {T : Type 0} → Rules T → State T → List Event → Ending → List ℕ
report r last events end = text_of events end (wait_lines r last end) last.shared.output

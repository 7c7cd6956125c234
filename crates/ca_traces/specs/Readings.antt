-- Which texts are read, as which entries, and which line of any other text is the first that has no reading.
use Rattle.std.specs.Prelude.{◌≡◌, ℕ, ◌+◌, ◌<◌, ◌≤◌, List, [], ◌++◌, map, length, codes, All, ◌⊎◌, Result, Ok, Err}
use Rattle.std.specs.Fmt.{decimal}
use Rattle.std.specs.List.{flat_map}
use Rattle.ca_model.specs.declared.values.Event.{Event}
use Rattle.ca_model.specs.Traces.{line_end, event_line, trace_lines}
use Rattle.ca_traces.specs.declared.reading.TraceNo.{TraceNo}
use Rattle.ca_traces.specs.declared.reading.TraceNo.TheVariants as no
use Rattle.ca_traces.specs.Writable.{IsWritable}

-- the text of these lines
abbrev pub text_of : List (List ℕ) → List ℕ
text_of lines = flat_map (λ line. line) lines

-- A text with more entries isn't read.
abbrev pub most_entries : ℕ
most_entries = 2000000

-- what may stand behind the last entry: nothing, or the rest of a report
abbrev pub MayFollow : List ℕ → Type 0
MayFollow rest = (rest ≡ []) ⊎ ((more : List ℕ) × (rest ≡ codes "ending " ++ more))

-- a text that is read, as these entries
pub record IsReading (text : List ℕ) (events : List Event) : Type 0 where
  pub behind : List ℕ
  pub spelled : text ≡ text_of (trace_lines events) ++ behind
  pub ends : MayFollow behind
  pub writable : All IsWritable events
  pub few : length events ≤ most_entries

-- the first line of a trace with so many entries
abbrev pub count_line : ℕ → List ℕ
count_line n = codes "trace " ++ (decimal n ++ line_end)

-- The first lines have a reading: they count entries, and are these, of which there are no more than was counted.
-- What is behind them is the rest.
pub record Begins (text : List ℕ) (count : ℕ) (events : List Event) (rest : List ℕ) : Type 0 where
  pub spelled : text ≡ count_line count ++ (text_of (map event_line events) ++ rest)
  pub few : count ≤ most_entries
  pub within : length events ≤ count
  pub writable : All IsWritable events

-- the first line that has no reading, counted from 1
pub data LacksReading (text : List ℕ) (line : ℕ) : Type 0 where
  -- the first one counts no entries
  no_count : line ≡ 1 → ((n : ℕ) (rest : List ℕ) → n ≤ most_entries → text ≡ count_line n ++ rest → ⊥) → LacksReading text line
  -- one more entry has to come, and none stands there
  no_entry : (count : ℕ) (events : List Event) (rest : List ℕ) → line ≡ length events + 2 → Begins text count events rest → length events < count → ((e : Event) (more : List ℕ) → IsWritable e → rest ≡ event_line e ++ more → ⊥) → LacksReading text line
  -- all entries are there, and what stands behind them may not
  no_end : (events : List Event) (rest : List ℕ) → line ≡ length events + 2 → Begins text (length events) events rest → (MayFollow rest → ⊥) → LacksReading text line

-- what a text is answered with; want of memory may come at any text
abbrev pub IsAnswer : List ℕ → Result (List Event) TraceNo → Type 0
IsAnswer text (Ok events) = IsReading text events
IsAnswer text (Err (no.Fault line)) = LacksReading text line
IsAnswer text (Err no.NoMemory) = Unit {0}

-- What the objects in memory hold.
use Rattle.std.specs.Prelude.{◌≡◌, ◌⊎◌, ℕ, List, Option, None, map, string_bytes, Contains}
use Rattle.std.specs.Option.{option_map}
use Rattle.std.specs.BTreeMap.{get_by_text}
use Rattle.ca_io.specs.declared.memory.MemoryFiles.{MemoryFiles}
use Rattle.ca_io.specs.declared.memory.MemorySink.{MemorySink}
use Rattle.ca_io.specs.Outside.{one_more}

-- the contents of a name
abbrev pub held : MemoryFiles → List ℕ → Option (List ℕ)
held m name = option_map (λ bytes. bytes.items) (get_by_text m.entries name)

abbrev pub asked_names : MemoryFiles → List (List ℕ)
asked_names m = map string_bytes m.asked.items

abbrev pub load_faults : MemoryFiles → ℕ
load_faults m = m.faults

-- how many loads had a number, and the numbers that fail
abbrev pub load_count : MemoryFiles → ℕ
load_count m = m.loads

abbrev pub failing_loads : MemoryFiles → List ℕ
failing_loads m = m.fails.items

-- the next load, of this name, is to fail: its number is one that fails, or the name holds nothing
abbrev pub FailsLoad : MemoryFiles → List ℕ → Type 0
FailsLoad m name = Contains (failing_loads m) (one_more (load_count m)) ⊎ (held m name ≡ None)

abbrev pub put_bytes : MemorySink → List ℕ
put_bytes s = s.bytes.items

abbrev pub put_faults : MemorySink → ℕ
put_faults s = s.faults

-- how many puts had a number, and the numbers that fail
abbrev pub put_count : MemorySink → ℕ
put_count s = s.puts

abbrev pub failing_puts : MemorySink → List ℕ
failing_puts s = s.fails.items

-- the next put of a piece that isn't empty is to fail
abbrev pub FailsPut : MemorySink → Type 0
FailsPut s = Contains (failing_puts s) (one_more (put_count s))

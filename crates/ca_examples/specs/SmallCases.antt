-- Small cases of picks, printed text, activations and waiting.
use Rattle.std.specs.Prelude.{◌≡◌, pos, neg_ℤ, List, [], ◌∷◌, ◌++◌, Some}
use Rattle.std.specs.Fmt.{signed_decimal}
use Rattle.rand_pcg.specs.Lcg.{Lcg, started, increment_of}
use Rattle.rand_pcg.specs.Pcg.{pcg32, multiplier_64}
use Rattle.ca_model.specs.declared.values.Value.TheVariants as v
use Rattle.ca_model.specs.declared.values.Event.{Event}
use Rattle.ca_model.specs.declared.values.EventAct.TheVariants as event
use Rattle.ca_model.specs.Printed.{written}
use Rattle.ca_model.specs.declared.values.Given.{Given}
use Rattle.ca_model.specs.declared.values.Given.TheVariants as given
use Rattle.ca_model.specs.Schedules.{Listed_numbers, Words, pick, by_seed}
use Rattle.ca_model.specs.Hardened.{latest_first}
use Rattle.ca_model.specs.Machine.{by}
use Rattle.ca_model.specs.Codes.{code_of}
use Rattle.ca_model.specs.Activations.{activations, tries_in}
use Rattle.ca_model.specs.Runner.{since_last, HasWaited}
use Rattle.ca_model.specs.SourceRuns.{no_plan}
use Rattle.ca_examples.specs.LoopPoints.{program}

abbrev pub a_mutex : Given
a_mutex = given.Mutex (record { 0 = 0 })

-- the list is used up, and 7 isn't enabled: the first one after 1
abbrev pub NextInTurn : Type 0
NextInTurn = pick (0 ∷ 1 ∷ 2 ∷ []) (Listed_numbers (7 ∷ []) (Some 1)) ≡ Some (record { thread = 2; after = Listed_numbers [] (Some 2) })

abbrev pub FirstAgain : Type 0
FirstAgain = pick (0 ∷ 1 ∷ []) (Listed_numbers [] (Some 1)) ≡ Some (record { thread = 0; after = Listed_numbers [] (Some 0) })

-- the first word of the reference generator of PCG's C code is 0xa15c02b7, which is 3 modulo 4
abbrev pub reference : Lcg
reference = started 64 multiplier_64 42 (increment_of 64 54)

abbrev pub AtTheWord : Type 0
AtTheWord = ((pcg32 reference).0 ≡ 0xa15c02b7) × (pick (0 ∷ 2 ∷ 5 ∷ 7 ∷ []) (Words reference) ≡ Some (record { thread = 7; after = Words (pcg32 reference).1 }))

-- `%d%%a` with -7
abbrev pub Prints : Type 0
Prints = written (37 ∷ 100 ∷ 37 ∷ 37 ∷ 97 ∷ []) (v.Num (neg_ℤ (pos 7)) ∷ []) ≡ signed_decimal (neg_ℤ (pos 7)) ++ (37 ∷ 97 ∷ [])

-- two activations, the first with one try
abbrev pub TwoActivations : Type 0
TwoActivations =
    (activations (event.Turn ∷ event.Save ∷ event.Retry (record { 0 = 1 }) [] ∷ event.Turn ∷ event.Save ∷ event.End ∷ [])
    ≡ (event.Retry (record { 0 = 1 }) [] ∷ event.Turn ∷ []) ∷ (event.End ∷ []) ∷ [])
    × (tries_in (record { 0 = 1 }) (event.Retry (record { 0 = 1 }) [] ∷ event.Turn ∷ []) ≡ 1)

-- two entries after the last one of thread 1
abbrev pub entries : List Event
entries = by 0 (event.Create 1) ∷ by 1 event.End ∷ by 0 (event.Join 1) ∷ by 0 event.End ∷ []

abbrev pub TwoSince : Type 0
TwoSince = since_last 0 1 entries ≡ 2

-- so a thread has waited out after two entries, and not yet after three
abbrev pub WaitsOut : Type 0
WaitsOut = HasWaited (code_of program no_plan) 0 2 entries 1 × (HasWaited (code_of program no_plan) 0 3 entries 1 → ⊥)

-- the generator of the seed 42: 42 and the increment 1, and one step (O'Neill, pcg32_srandom with the stream 0); and its first word
abbrev pub OfASeed : Type 0
OfASeed = (by_seed 42 ≡ Words (record { state = 15403440593478376592; increment = 1 })) × ((pcg32 (record { state = 15403440593478376592; increment = 1 })).0 ≡ 0x21b756ee)

-- things that were taken, the earliest first: the latest comes first, and each at its latest place
abbrev pub LatestFirst : Type 0
LatestFirst =
    (latest_first (a_mutex ∷ given.Block 3 ∷ []) ≡ given.Block 3 ∷ a_mutex ∷ [])
    × (latest_first (a_mutex ∷ given.Block 3 ∷ a_mutex ∷ []) ≡ a_mutex ∷ given.Block 3 ∷ [])

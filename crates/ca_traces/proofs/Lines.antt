-- No line feed stands within a line, so a text has one first line.
use Rattle.std.proofs.Common.{◌≡◌, ◌<◌, ◌≤◌, ◌+◌, ◌/◌, ◌%◌, ◌^◌, ℕ, List, [], ◌∷◌, ◌++◌, length, map, Bool, true, false, All, refl, sym, ap, ◌∙◌, arith, inl, codes, append_assoc, length-append, subst}
use Rattle.std.specs.Fmt.{decimal, signed_decimal, digit_glyph}
use Rattle.std.proofs.lemmas.Bool.{false≢true}
use Rattle.std.proofs.lemmas.Bool.Decides.{nat_tests}
use Rattle.std.proofs.lemmas.List.{append_cancel_right, append_cancel_left, append-nil, map-append}
use Rattle.std.proofs.lemmas.List.Elements.{All-push, All-tail, All-head}
use Rattle.std.proofs.lemmas.List.Concat.{flat_map-append}
use Rattle.std.proofs.lemmas.Fmt.{decimal_injective}
use Rattle.ca_model.specs.declared.values.Value.{Value}
use Rattle.ca_model.specs.declared.values.Value.TheVariants as v
use Rattle.ca_model.specs.declared.values.FaultKind.{FaultKind}
use Rattle.ca_model.specs.declared.values.FaultKind.TheVariants as fault
use Rattle.ca_model.specs.declared.values.Given.{Given}
use Rattle.ca_model.specs.declared.values.Event.{Event}
use Rattle.ca_model.specs.declared.values.EventAct.{EventAct}
use Rattle.ca_model.specs.declared.values.EventAct.TheVariants as act
use Rattle.ca_model.specs.Traces.{line_end, address_text, value_text, hex_digits, hex_text, fault_text, given_text, gives_text, act_text, event_line}
use Rattle.ca_traces.specs.Finding.{lacks, IsCut}
use Rattle.ca_traces.specs.Writable.{ValueFits, IsBlockStart, MayBeFreed, GivenFits, ActFits, IsWritable}
use Rattle.ca_traces.specs.Readings.{text_of, most_entries, count_line, MayFollow, Begins, LacksReading}
use Rattle.ca_traces.specs.Readings.LacksReading.{no_entry, no_end}
use Rattle.std.specs.Prelude.{IsTrue, ◌↔◌}
use Rattle.ca_traces.proofs.Cutting.{one_cut, lacks_more, lacks_append, lacks_decimal, lacks_signed}
use Rattle.ca_traces.proofs.Numerals.{wide, short, long, zero_fits}
use Rattle.ca_traces.proofs.Parts.{lacks_address, in_front}
use Rattle.ca_traces.proofs.Things.{lacks_given}

-- values

pub lacks_value : (c : ℕ) (x : Value) → c < 45 → ValueFits x → lacks c (value_text x) ≡ true
lacks_value c (v.Num n) low fits = lacks_signed c n (λ same. absurd (omega arith)) (inl (omega arith)) (short n fits)
lacks_value c (v.Addr a) low fits = lacks_address c a low fits

pub start_fits : (x : Value) → IsBlockStart x → ValueFits x
start_fits (v.Num n) is = zero_fits n is
start_fits (v.Addr a) is = (is.0, zero_fits a.offset is.1)

pub freed_fits : (x : Value) → MayBeFreed x → ValueFits x
freed_fits (v.Num n) is = zero_fits n is
freed_fits (v.Addr a) is = is

-- lists

pub high_glyph : (d : ℕ) → 48 ≤ digit_glyph false d
high_glyph d = grind (arith, nat_tests)

lacks_hex : (c : ℕ) (bs : List ℕ) → c < 45 → lacks c (hex_digits bs) ≡ true
lacks_hex c [] low = refl
lacks_hex c (b ∷ bs) low =
    let front = high_glyph (b / 16) in
    let back = high_glyph (b % 16) in
    lacks_more c (digit_glyph false (b / 16)) (digit_glyph false (b % 16) ∷ hex_digits bs) (λ same. absurd (omega arith))
    (lacks_more c (digit_glyph false (b % 16)) (hex_digits bs) (λ same. absurd (omega arith)) (lacks_hex c bs low))

lacks_output : (c : ℕ) (bs : List ℕ) → c < 45 → lacks c (hex_text bs) ≡ true
lacks_output c [] low = lacks_more c 45 [] (λ same. absurd (omega arith)) refl
lacks_output c (b ∷ bs) low = lacks_hex c (b ∷ bs) low

lacks_gives : (gs : List Given) → All GivenFits gs → lacks 10 (gives_text gs) ≡ true
lacks_gives [] fit = refl
lacks_gives (g ∷ gs) fit = lacks_append 10 (given_text g) (gives_text gs) (lacks_given 10 g (omega arith) (All-head GivenFits g gs fit)) (lacks_gives gs (All-tail GivenFits g gs fit))

-- acts

lacks_pair : (front back : List ℕ) → lacks 10 front ≡ true → lacks 10 back ≡ true → lacks 10 (front ++ 32 ∷ back) ≡ true
lacks_pair front back p q = lacks_append 10 front (32 ∷ back) p q

lacks_number : (n : ℕ) → n < 2 ^ 32 → lacks 10 (decimal n) ≡ true
lacks_number n small = lacks_decimal 10 n (inl (omega arith)) (wide n small)

lacks_fault : (k : FaultKind) → lacks 10 (fault_text k) ≡ true
lacks_fault fault.Assert = refl
lacks_fault fault.Pointer = refl
lacks_fault fault.Mutex = refl
lacks_fault fault.Arith = refl
lacks_fault fault.Kind = refl
lacks_fault fault.Thread = refl

lacks_act : (a : EventAct) → ActFits a → lacks 10 (act_text a) ≡ true
lacks_act (act.Read at x) fits = lacks_pair (address_text at) (value_text x) (lacks_address 10 at (omega arith) fits.0) (lacks_value 10 x (omega arith) fits.1)
lacks_act (act.Write at x) fits = lacks_pair (address_text at) (value_text x) (lacks_address 10 at (omega arith) fits.0) (lacks_value 10 x (omega arith) fits.1)
lacks_act (act.Lock m) fits = lacks_number m.0 fits
lacks_act (act.Unlock m) fits = lacks_number m.0 fits
lacks_act (act.Malloc cells at) fits = lacks_pair (signed_decimal cells) (value_text at) (lacks_signed 10 cells (λ same. absurd (omega arith)) (inl (omega arith)) (long cells fits.0)) (lacks_value 10 at (omega arith) (start_fits at fits.1))
lacks_act (act.Free at) fits = lacks_value 10 at (omega arith) (freed_fits at fits)
lacks_act (act.Print text) fits = lacks_output 10 text (omega arith)
lacks_act (act.Create u) fits = lacks_number u fits
lacks_act (act.Join u) fits = lacks_number u fits
lacks_act (act.Call f) fits = lacks_number f.0 fits
lacks_act (act.Return x) fits = lacks_value 10 x (omega arith) fits
lacks_act act.Turn fits = refl
lacks_act act.End fits = refl
lacks_act (act.Fault k) fits = lacks_fault k
lacks_act act.Save fits = refl
lacks_act (act.Retry site gives) fits = lacks_append 10 (decimal site.0) (gives_text gives) (lacks_number site.0 fits.0) (lacks_gives gives fits.1)

-- entries

-- a line without its end
abbrev pub words_of : Event → List ℕ
words_of e = decimal e.thread ++ 32 ∷ act_text e.act

pub line_of : (e : Event) → event_line e ≡ words_of e ++ line_end
line_of e = sym (append_assoc (decimal e.thread) (32 ∷ act_text e.act) line_end)

pub lacks_words : (e : Event) → IsWritable e → lacks 10 (words_of e) ≡ true
lacks_words e fits = lacks_pair (decimal e.thread) (act_text e.act) (lacks_number e.thread fits.0) (lacks_act e.act fits.1)

pub line_then : (e : Event) (more : List ℕ) → event_line e ++ more ≡ words_of e ++ 10 ∷ more
line_then e more = ap (λ t. t ++ more) (line_of e) ∙ append_assoc (words_of e) line_end more

own_words : (e : Event) (line : List ℕ) → event_line e ≡ line ++ line_end → words_of e ≡ line
own_words e line is = append_cancel_right (words_of e) line line_end (sym (line_of e) ∙ is)

pub never_alone : (e : Event) (line : List ℕ) → lacks 32 line ≡ true → IsWritable e × (event_line e ≡ line ++ line_end) → ⊥
never_alone e line free is = in_front (decimal e.thread) (act_text e.act) line (own_words e line is.1) free

pub entry_parts : (e : Event) (line word words : List ℕ) → IsCut 32 line word words → IsWritable e × (event_line e ≡ line ++ line_end) → (decimal e.thread ≡ word) × (act_text e.act ≡ words)
entry_parts e line word words cut is =
    one_cut 32 (decimal e.thread) word (act_text e.act) words (lacks_decimal 32 e.thread (inl (omega arith)) (wide e.thread is.0.0)) cut.0 (own_words e line is.1 ∙ cut.1)

-- what one line is, behind which a text goes on
pub first_line : (e : Event) (text line rest more : List ℕ) → IsCut 10 text line rest → IsWritable e → text ≡ event_line e ++ more → (event_line e ≡ line ++ line_end) × (more ≡ rest)
first_line e text line rest more cut fits is =
    let t = one_cut 10 (words_of e) line more rest (lacks_words e fits) cut.0 (sym (line_then e more) ∙ (sym is ∙ cut.1)) in
    (line_of e ∙ ap (λ t. t ++ line_end) t.0, t.1)

pub no_line : (e : Event) (text line rest more : List ℕ) → IsCut 10 text line rest → ((e : Event) → IsWritable e × (event_line e ≡ line ++ line_end) → ⊥) → IsWritable e → text ≡ event_line e ++ more → ⊥
no_line e text line rest more cut none fits is = none e (fits, (first_line e text line rest more cut fits is).0)

-- the first line of all

pub count_then : (n : ℕ) (rest : List ℕ) → count_line n ++ rest ≡ (codes "trace " ++ decimal n) ++ 10 ∷ rest
count_then n rest = ap (λ t. codes "trace " ++ t) (append_assoc (decimal n) line_end rest)

pub few_fit : (n : ℕ) → n ≤ most_entries → n < 2 ^ 32
few_fit n few = omega (arith, few)

pub lacks_count : (n : ℕ) → n ≤ most_entries → lacks 10 (codes "trace " ++ decimal n) ≡ true
lacks_count n few = lacks_number n (omega (arith, few))

pub count_parts : (n : ℕ) (text line rest front digits more : List ℕ) → n ≤ most_entries → text ≡ count_line n ++ more → IsCut 10 text line rest → line ≡ front ++ digits → front ≡ codes "trace " → (decimal n ≡ digits) × (more ≡ rest)
count_parts n text line rest front digits more few is cut split same =
    let t = one_cut 10 (codes "trace " ++ decimal n) line more rest (lacks_count n few) cut.0 (sym (count_then n more) ∙ (sym is ∙ cut.1)) in
    (append_cancel_left (codes "trace ") (decimal n) digits (t.0 ∙ (split ∙ ap (λ t. t ++ digits) same)), t.1)

pub counted_text : (n : ℕ) (text line rest front digits : List ℕ) → IsCut 10 text line rest → line ≡ front ++ digits → front ≡ codes "trace " → decimal n ≡ digits → text ≡ count_line n ++ rest
counted_text n text line rest front digits cut split same is =
    let whole : line ≡ codes "trace " ++ decimal n = split ∙ (ap (λ t. t ++ digits) same ∙ ap (λ t. codes "trace " ++ t) (sym is)) in
    cut.1 ∙ (ap (λ t. t ++ 10 ∷ rest) whole ∙ sym (count_then n rest))

pub too_many : (n count : ℕ) (digits : List ℕ) → n ≤ most_entries → count < 2 ^ 32 → most_entries < count → decimal n ≡ digits → decimal count ≡ digits → ⊥
too_many n count digits few small many p q =
    let same : n ≡ count = decimal_injective n count (omega (arith, few)) (omega (arith, small)) (p ∙ sym q) in
    absurd (omega arith)

-- lines one after another

pub one_more : (events longer : List Event) (e : Event) (rest : List ℕ) → longer ≡ events ++ e ∷ [] → text_of (map event_line longer) ++ rest ≡ text_of (map event_line events) ++ (event_line e ++ rest)
one_more events longer e rest is =
    ap (λ t. t ++ rest) (ap (λ (es : List Event). text_of (map event_line es)) is ∙ (ap text_of (map-append event_line events (e ∷ [])) ∙ (flat_map-append (λ line. line) (map event_line events) (event_line e ∷ []) ∙ ap (λ t. text_of (map event_line events) ++ t) (append-nil (event_line e)))))
    ∙ append_assoc (text_of (map event_line events)) (event_line e) rest

pub begins_more : (text : List ℕ) (count : ℕ) (events longer : List Event) (e : Event) (rest more : List ℕ) → Begins text count events rest → length events < count → IsWritable e × (rest ≡ event_line e ++ more) → longer ≡ events ++ e ∷ [] → Begins text count longer more
begins_more text count events longer e rest more so room entry is = record {
  spelled = so.spelled ∙ ap (λ t. count_line count ++ t) (ap (λ t. text_of (map event_line events) ++ t) entry.1 ∙ sym (one_more events longer e more is));
  few = so.few;
  within = omega (arith, room, ap length is, length-append events (e ∷ []));
  writable = rw is (All-push IsWritable events e so.writable entry.0);
}

-- the faults

pub lacks_entry : (text : List ℕ) (count k line : ℕ) (events : List Event) (rest : List ℕ) → Begins text count events rest → length events ≡ k → k < count → line ≡ k + 2 → ((e : Event) (more : List ℕ) → IsWritable e → rest ≡ event_line e ++ more → ⊥) → LacksReading text line
lacks_entry text count k line events rest so n room is none = no_entry count events rest (omega (arith, n, is)) so (omega (arith, n, room)) none

pub lacks_end : (text : List ℕ) (count line : ℕ) (events : List Event) (rest : List ℕ) → Begins text count events rest → length events ≡ count → line ≡ count + 2 → (MayFollow rest → ⊥) → LacksReading text line
lacks_end text count line events rest so all is none = no_end events rest (omega (arith, all, is)) (subst (λ (n : ℕ). Begins text n events rest) (sym all) so) none

pub refused : (P : Type 0) (r : Bool) → (IsTrue r ↔ P) → r ≡ false → P → ⊥
refused P r tells f holds = let t = tells.1 holds in false≢true (rw f at t)

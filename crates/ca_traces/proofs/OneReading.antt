-- A text has one answer, but for want of memory.
use Rattle.std.proofs.Common.{◌≡◌, ◌<◌, ◌≤◌, ℕ, List, [], ◌∷◌, ◌++◌, length, map, All, refl, sym, ap, ◌∙◌, arith, ◌⊎◌, inl, inr, codes, append_assoc, length-append, subst, Result, Ok, Err}
use Rattle.std.specs.Fmt.{decimal}
use Rattle.std.proofs.lemmas.List.{append-nil, append_cancel_left}
use Rattle.std.proofs.lemmas.List.Elements.{All-tail, All-head}
use Rattle.std.proofs.lemmas.Bool.{cases_lt}
use Rattle.std.proofs.lemmas.Fmt.{decimal_injective}
use Rattle.ca_model.specs.declared.values.Event.{Event}
use Rattle.ca_model.specs.Traces.{event_line, trace_lines}
use Rattle.ca_traces.specs.declared.reading.TraceNo.{TraceNo}
use Rattle.ca_traces.specs.declared.reading.TraceNo.TheVariants as no
use Rattle.ca_traces.specs.Writable.{IsWritable}
use Rattle.ca_traces.specs.Readings.{text_of, most_entries, count_line, MayFollow, IsReading, Begins, LacksReading, IsAnswer}
use Rattle.ca_traces.specs.Readings.LacksReading.{no_count, no_entry, no_end}
use Rattle.ca_traces.proofs.Cutting.{one_cut}
use Rattle.ca_traces.proofs.Lines.{count_then, lacks_count}
use Rattle.ca_traces.proofs.Once.{entry_once}

-- the number in the first line

count_once : (m n : ℕ) (x y : List ℕ) → m ≤ most_entries → n ≤ most_entries → count_line m ++ x ≡ count_line n ++ y → (m ≡ n) × (x ≡ y)
count_once m n x y p q is =
    let t = one_cut 10 (codes "trace " ++ decimal m) (codes "trace " ++ decimal n) x y (lacks_count m p) (lacks_count n q) (sym (count_then m x) ∙ (is ∙ count_then n y)) in
    let digits : decimal m ≡ decimal n = append_cancel_left (codes "trace ") (decimal m) (decimal n) t.0 in
    (decimal_injective m n (omega (arith, p)) (omega (arith, q)) digits, t.1)

both_begin : (text : List ℕ) (m n : ℕ) (es fs : List Event) (x y : List ℕ) → Begins text m es x → Begins text n fs y → (m ≡ n) × (text_of (map event_line es) ++ x ≡ text_of (map event_line fs) ++ y)
both_begin text m n es fs x y p q = count_once m n (text_of (map event_line es) ++ x) (text_of (map event_line fs) ++ y) p.few q.few (sym p.spelled ∙ q.spelled)

-- the entries

-- a list that goes on where the other one ends
pub record GoesOn (es fs : List Event) (x y : List ℕ) : Type 0 where
  pub more : List Event
  pub whole : fs ≡ es ++ more
  pub spelled : x ≡ text_of (map event_line more) ++ y
  pub writable : All IsWritable more

same_front : (es fs : List Event) (x y : List ℕ) → All IsWritable es → All IsWritable fs → length es ≤ length fs → text_of (map event_line es) ++ x ≡ text_of (map event_line fs) ++ y → GoesOn es fs x y
same_front [] fs x y p q n is = record { more = fs; whole = refl; spelled = is; writable = q }
same_front (e ∷ es) [] x y p q n is = absurd (omega arith)
same_front (e ∷ es) (f ∷ fs) x y p q n is =
    let xs : List ℕ = text_of (map event_line es) in
    let ys : List ℕ = text_of (map event_line fs) in
    let split : event_line e ++ (xs ++ x) ≡ event_line f ++ (ys ++ y) = sym (append_assoc (event_line e) xs x) ∙ (is ∙ append_assoc (event_line f) ys y) in
    let t = entry_once e f (xs ++ x) (ys ++ y) (All-head IsWritable e es p) (All-head IsWritable f fs q) split in
    let g = same_front es fs x y (All-tail IsWritable e es p) (All-tail IsWritable f fs q) (omega arith) t.1 in
    record {
      more = g.more;
      whole = ap (λ (h : Event). h ∷ fs) (sym t.0) ∙ ap (λ (hs : List Event). e ∷ hs) g.whole;
      spelled = g.spelled;
      writable = g.writable;
    }

goes_on : (text : List ℕ) (m n : ℕ) (es fs : List Event) (x y : List ℕ) → Begins text m es x → Begins text n fs y → length es ≤ length fs → GoesOn es fs x y
goes_on text m n es fs x y p q few = same_front es fs x y p.writable q.writable few (both_begin text m n es fs x y p q).1

none_more : (es fs gs : List Event) → fs ≡ es ++ gs → length es ≡ length fs → gs ≡ []
none_more es fs [] whole n = refl
none_more es fs (g ∷ gs) whole n =
    let m = ap length whole ∙ length-append es (g ∷ gs) in
    absurd (omega arith)

-- lists of one length are the same, and so is what is behind them
ends_alike : (text : List ℕ) (m n : ℕ) (es fs : List Event) (x y : List ℕ) → Begins text m es x → Begins text n fs y → length es ≡ length fs → (es ≡ fs) × (x ≡ y)
ends_alike text m n es fs x y p q same =
    let g = goes_on text m n es fs x y p q (omega arith) in
    let none = none_more es fs g.more g.whole same in
    (sym (g.whole ∙ (ap (λ (hs : List Event). es ++ hs) none ∙ append-nil es)), g.spelled ∙ ap (λ (hs : List Event). text_of (map event_line hs) ++ y) none)

-- where a list goes on, the next line is an entry
next_there : (es fs gs : List Event) (x y : List ℕ) → fs ≡ es ++ gs → x ≡ text_of (map event_line gs) ++ y → All IsWritable gs → length es < length fs → ((e : Event) (more : List ℕ) → IsWritable e → x ≡ event_line e ++ more → ⊥) → ⊥
next_there es fs [] x y whole is fit few none =
    let m = ap length whole ∙ length-append es [] in
    absurd (omega arith)
next_there es fs (g ∷ gs) x y whole is fit few none =
    none g (text_of (map event_line gs) ++ y) (All-head IsWritable g gs fit) (is ∙ append_assoc (event_line g) (text_of (map event_line gs)) y)

stops_early : (text : List ℕ) (m n : ℕ) (es fs : List Event) (x y : List ℕ) → Begins text m es x → Begins text n fs y → length es < length fs → ((e : Event) (more : List ℕ) → IsWritable e → x ≡ event_line e ++ more → ⊥) → ⊥
stops_early text m n es fs x y p q few none =
    let g = goes_on text m n es fs x y p q (omega arith) in
    next_there es fs g.more x y g.whole g.spelled g.writable few none

-- readings

begun : (text : List ℕ) (es : List Event) (r : IsReading text es) → Begins text (length es) es r.behind
begun text es r = record {
  spelled = r.spelled ∙ append_assoc (count_line (length es)) (text_of (map event_line es)) r.behind;
  few = r.few;
  within = omega arith;
  writable = r.writable;
}

pub one_list : (text : List ℕ) (es fs : List Event) → IsReading text es → IsReading text fs → es ≡ fs
one_list text es fs r s =
    let n = (both_begin text (length es) (length fs) es fs r.behind s.behind (begun text es r) (begun text fs s)).0 in
    (ends_alike text (length es) (length fs) es fs r.behind s.behind (begun text es r) (begun text fs s) n).0

counted : (text : List ℕ) (m : ℕ) (es : List Event) (x : List ℕ) → Begins text m es x → ((n : ℕ) (rest : List ℕ) → n ≤ most_entries → text ≡ count_line n ++ rest → ⊥) → ⊥
counted text m es x p none = none m (text_of (map event_line es) ++ x) p.few p.spelled

pub not_both : (text : List ℕ) (es : List Event) (line : ℕ) → IsReading text es → LacksReading text line → ⊥
not_both text es line r (no_count at none) = counted text (length es) es r.behind (begun text es r) none
not_both text es line r (no_entry count fs rest at so room none) =
    let n = (both_begin text count (length es) fs es rest r.behind so (begun text es r)).0 in
    stops_early text count (length es) fs es rest r.behind so (begun text es r) (omega (arith, room, n)) none
not_both text es line r (no_end fs rest at so none) =
    let n = (both_begin text (length fs) (length es) fs es rest r.behind so (begun text es r)).0 in
    let t = ends_alike text (length fs) (length es) fs es rest r.behind so (begun text es r) n in
    none (subst MayFollow (sym t.1) r.ends)

both_entries : (text : List ℕ) (m n : ℕ) (es fs : List Event) (x y : List ℕ) → Begins text m es x → Begins text n fs y → ((e : Event) (more : List ℕ) → IsWritable e → x ≡ event_line e ++ more → ⊥) → ((e : Event) (more : List ℕ) → IsWritable e → y ≡ event_line e ++ more → ⊥) → length es ≡ length fs
both_entries text m n es fs x y p q none other = elim (cases_lt (length es) (length fs)) [
  | inl less ↦ absurd (stops_early text m n es fs x y p q less none)
  | inr rest ↦ elim (cases_lt (length fs) (length es)) [
    | inl less ↦ absurd (stops_early text n m fs es y x q p less other)
    | inr back ↦ omega arith
  ]
]

entry_and_end : (text : List ℕ) (count : ℕ) (es fs : List Event) (x y : List ℕ) → Begins text count es x → length es < count → ((e : Event) (more : List ℕ) → IsWritable e → x ≡ event_line e ++ more → ⊥) → Begins text (length fs) fs y → ⊥
entry_and_end text count es fs x y p room none q =
    let n = (both_begin text count (length fs) es fs x y p q).0 in
    stops_early text count (length fs) es fs x y p q (omega (arith, room, n)) none

pub one_line : (text : List ℕ) (k l : ℕ) → LacksReading text k → LacksReading text l → k ≡ l
one_line text k l (no_count at none) (no_count by other) = at ∙ sym by
one_line text k l (no_count at none) (no_entry count fs rest by so room other) = absurd (counted text count fs rest so none)
one_line text k l (no_count at none) (no_end fs rest by so other) = absurd (counted text (length fs) fs rest so none)
one_line text k l (no_entry count es x at so room none) (no_count by other) = absurd (counted text count es x so other)
one_line text k l (no_entry count es x at so room none) (no_entry n fs y by too place other) =
    let same = both_entries text count n es fs x y so too none other in
    omega (arith, at, by, same)
one_line text k l (no_entry count es x at so room none) (no_end fs y by too other) = absurd (entry_and_end text count es fs x y so room none too)
one_line text k l (no_end es x at so none) (no_count by other) = absurd (counted text (length es) es x so other)
one_line text k l (no_end es x at so none) (no_entry count fs y by too room other) = absurd (entry_and_end text count fs es y x too room other so)
one_line text k l (no_end es x at so none) (no_end fs y by too other) =
    let same = (both_begin text (length es) (length fs) es fs x y so too).0 in
    omega (arith, at, by, same)

-- answers

pub only_list : (text : List ℕ) (r : Result (List Event) TraceNo) (es : List Event) → IsAnswer text r → IsReading text es → (r ≡ Ok es) ⊎ (r ≡ Err no.NoMemory)
only_list text (Ok fs) es is reads = inl (ap Ok (one_list text fs es is reads))
only_list text (Err (no.Fault line)) es is reads = absurd (not_both text es line reads is)
only_list text (Err no.NoMemory) es is reads = inr refl

pub only_line : (text : List ℕ) (r : Result (List Event) TraceNo) (line : ℕ) → IsAnswer text r → LacksReading text line → (r ≡ Err (no.Fault line)) ⊎ (r ≡ Err no.NoMemory)
only_line text (Ok fs) line is lacks = absurd (not_both text fs line is lacks)
only_line text (Err (no.Fault other)) line is lacks = inl (ap (λ (n : ℕ). Err (no.Fault n)) (one_line text other line is lacks))
only_line text (Err no.NoMemory) line is lacks = inr refl

pub reads_back : (es : List Event) → All IsWritable es → length es ≤ most_entries → IsReading (text_of (trace_lines es)) es
reads_back es fit few = record { behind = []; spelled = sym (append-nil (text_of (trace_lines es))); ends = inl refl; writable = fit; few = few }

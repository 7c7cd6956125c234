-- An entry has one text, and no other entry has it.
use Rattle.std.proofs.Common.{◌≡◌, ◌<◌, ◌/◌, ◌%◌, ◌^◌, ℕ, ℤ, List, [], ◌∷◌, ◌++◌, true, false, All, refl, sym, ap, ◌∙◌, arith, inl, codes}
use Rattle.std.specs.Fmt.{decimal, signed_decimal, digit_glyph}
use Rattle.std.proofs.lemmas.Bool.{false≢true}
use Rattle.std.proofs.lemmas.Bool.Decides.{nat_tests}
use Rattle.std.proofs.lemmas.List.{append-nil}
use Rattle.std.proofs.lemmas.List.Elements.{All-tail, All-head}
use Rattle.std.proofs.lemmas.Fmt.{decimal_injective, signed_decimal_injective}
use Rattle.ca_tree.specs.declared.numbers.FunId.{FunId}
use Rattle.ca_tree.specs.declared.numbers.MutexId.{MutexId}
use Rattle.ca_tree.specs.declared.numbers.SiteId.{SiteId}
use Rattle.ca_model.specs.declared.values.Addr.{Addr}
use Rattle.ca_model.specs.declared.values.Value.{Value}
use Rattle.ca_model.specs.declared.values.FaultKind.{FaultKind}
use Rattle.ca_model.specs.declared.values.FaultKind.TheVariants as fault
use Rattle.ca_model.specs.declared.values.Given.{Given}
use Rattle.ca_model.specs.declared.values.Given.TheVariants as given
use Rattle.ca_model.specs.declared.values.Event.{Event}
use Rattle.ca_model.specs.declared.values.EventAct.{EventAct}
use Rattle.ca_model.specs.declared.values.EventAct.TheVariants as act
use Rattle.ca_model.specs.Traces.{address_text, value_text, hex_digits, hex_text, fault_text, given_text, gives_text, act_text, event_line}
use Rattle.ca_traces.specs.Finding.{lacks}
use Rattle.ca_traces.specs.Writable.{AddressFits, ValueFits, GivenFits, ActFits, IsWritable}
use Rattle.ca_traces.proofs.Cutting.{begins, one_cut, lacks_decimal, lacks_signed}
use Rattle.ca_traces.proofs.Numerals.{wide, long, address_once, value_once}
use Rattle.ca_traces.proofs.Parts.{lacks_address}
use Rattle.ca_traces.proofs.Things.{front_cut, front_whole, lacks_given, lacks_site}
use Rattle.ca_traces.proofs.Lines.{start_fits, freed_fits, lacks_words, line_then, words_of}

-- numbers and what they name

number_once : (m n : ℕ) → m < 2 ^ 32 → n < 2 ^ 32 → decimal m ≡ decimal n → m ≡ n
number_once m n p q e = decimal_injective m n (wide m p) (wide n q) e

mutex_once : (m n : MutexId) → m.0 < 2 ^ 32 → n.0 < 2 ^ 32 → decimal m.0 ≡ decimal n.0 → m ≡ n
mutex_once m n p q e =
    let made : ℕ → MutexId = λ k. record { 0 = k } in
    ap made (number_once m.0 n.0 p q e)

access_once : (a : Addr) (x : Value) (b : Addr) (y : Value) → AddressFits a × ValueFits x → AddressFits b × ValueFits y → address_text a ++ 32 ∷ value_text x ≡ address_text b ++ 32 ∷ value_text y → (a ≡ b) × (x ≡ y)
access_once a x b y p q e =
    let t = one_cut 32 (address_text a) (address_text b) (value_text x) (value_text y) (lacks_address 32 a (omega arith) p.0) (lacks_address 32 b (omega arith) q.0) e in
    (address_once a b p.0 q.0 t.0, value_once x y p.1 q.1 t.1)

allocation_once : (m : ℤ) (x : Value) (n : ℤ) (y : Value) → ActFits (act.Malloc m x) → ActFits (act.Malloc n y) → signed_decimal m ++ 32 ∷ value_text x ≡ signed_decimal n ++ 32 ∷ value_text y → (m ≡ n) × (x ≡ y)
allocation_once m x n y p q e =
    let one : lacks 32 (signed_decimal m) ≡ true = lacks_signed 32 m (λ same. absurd (omega arith)) (inl (omega arith)) (long m p.0) in
    let two : lacks 32 (signed_decimal n) ≡ true = lacks_signed 32 n (λ same. absurd (omega arith)) (inl (omega arith)) (long n q.0) in
    let t = one_cut 32 (signed_decimal m) (signed_decimal n) (value_text x) (value_text y) one two e in
    (signed_decimal_injective m n (long m p.0) (long n q.0) t.0, value_once x y (start_fits x p.1) (start_fits y q.1) t.1)

-- bytes

glyph_once : (c d : ℕ) → digit_glyph false c ≡ digit_glyph false d → c ≡ d
glyph_once c d e = grind (arith, nat_tests)

byte_once : (b c : ℕ) → b / 16 ≡ c / 16 → b % 16 ≡ c % 16 → b ≡ c
byte_once b c p q = omega (arith, p, q)

hex_once : (bs cs : List ℕ) → hex_digits bs ≡ hex_digits cs → bs ≡ cs
hex_once [] [] e = refl
hex_once [] (c ∷ cs) e = absurd cc
hex_once (b ∷ bs) [] e = absurd cc
hex_once (b ∷ bs) (c ∷ cs) e =
    let front : digit_glyph false (b / 16) ≡ digit_glyph false (c / 16) = cc in
    let back : digit_glyph false (b % 16) ≡ digit_glyph false (c % 16) = cc in
    let left : hex_digits bs ≡ hex_digits cs = cc in
    let byte : b ≡ c = byte_once b c (glyph_once (b / 16) (c / 16) front) (glyph_once (b % 16) (c % 16) back) in
    let rest : bs ≡ cs = hex_once bs cs left in
    cc

no_dash : (b : ℕ) (bs : List ℕ) → 45 ∷ [] ≡ hex_digits (b ∷ bs) → ⊥
no_dash b bs e = absurd cc

output_once : (bs cs : List ℕ) → hex_text bs ≡ hex_text cs → bs ≡ cs
output_once [] [] e = refl
output_once [] (c ∷ cs) e = absurd (no_dash c cs e)
output_once (b ∷ bs) [] e = absurd (no_dash b bs (sym e))
output_once (b ∷ bs) (c ∷ cs) e = hex_once (b ∷ bs) (c ∷ cs) e

-- faults

fault_once : (k l : FaultKind) → fault_text k ≡ fault_text l → k ≡ l
fault_once fault.Assert fault.Assert e = refl
fault_once fault.Assert _ e = absurd (false≢true (sym (ap (begins (codes "assert")) e)))
fault_once fault.Pointer fault.Pointer e = refl
fault_once fault.Pointer _ e = absurd (false≢true (sym (ap (begins (codes "pointer")) e)))
fault_once fault.Mutex fault.Mutex e = refl
fault_once fault.Mutex _ e = absurd (false≢true (sym (ap (begins (codes "mutex")) e)))
fault_once fault.Arith fault.Arith e = refl
fault_once fault.Arith _ e = absurd (false≢true (sym (ap (begins (codes "arith")) e)))
fault_once fault.Kind fault.Kind e = refl
fault_once fault.Kind _ e = absurd (false≢true (sym (ap (begins (codes "kind")) e)))
fault_once fault.Thread fault.Thread e = refl
fault_once fault.Thread _ e = absurd (false≢true (sym (ap (begins (codes "thread")) e)))

-- what a retry gives back

given_once : (g h : Given) → GivenFits g → GivenFits h → given_text g ≡ given_text h → g ≡ h
given_once (given.Mutex m) (given.Mutex n) p q e = ap given.Mutex (mutex_once m n p q cc)
given_once (given.Mutex m) (given.Block b) p q e = absurd (false≢true (sym (ap (begins (codes "m")) e)))
given_once (given.Block b) (given.Mutex m) p q e = absurd (false≢true (sym (ap (begins (codes "@")) e)))
given_once (given.Block b) (given.Block c) p q e =
    let left : decimal b ++ 46 ∷ 48 ∷ [] ≡ decimal c ++ 46 ∷ 48 ∷ [] = cc in
    let t = one_cut 46 (decimal b) (decimal c) (48 ∷ []) (48 ∷ []) (lacks_decimal 46 b (inl (omega arith)) (wide b p)) (lacks_decimal 46 c (inl (omega arith)) (wide c q)) left in
    ap given.Block (number_once b c p q t.0)

front_once : (w v : List ℕ) (gs hs : List Given) → lacks 32 w ≡ true → lacks 32 v ≡ true → w ++ gives_text gs ≡ v ++ gives_text hs → (w ≡ v) × (gives_text gs ≡ gives_text hs)
front_once w v gs [] p q e =
    let t = front_whole w v gs q (e ∙ append-nil v) in
    (t.0, ap gives_text t.1)
front_once w v gs (h ∷ hs) p q e = front_cut w v (given_text h ++ gives_text hs) gs p q e

gives_once : (gs hs : List Given) → All GivenFits gs → All GivenFits hs → gives_text gs ≡ gives_text hs → gs ≡ hs
gives_once [] [] p q e = refl
gives_once [] (h ∷ hs) p q e = absurd cc
gives_once (g ∷ gs) [] p q e = absurd cc
gives_once (g ∷ gs) (h ∷ hs) p q e =
    let one : GivenFits g = All-head GivenFits g gs p in
    let two : GivenFits h = All-head GivenFits h hs q in
    let t = front_once (given_text g) (given_text h) gs hs (lacks_given 32 g (omega arith) one) (lacks_given 32 h (omega arith) two) cc in
    let first : g ≡ h = given_once g h one two t.0 in
    let rest : gs ≡ hs = gives_once gs hs (All-tail GivenFits g gs p) (All-tail GivenFits h hs q) t.1 in
    ap (λ (x : Given). x ∷ gs) first ∙ ap (λ (xs : List Given). h ∷ xs) rest

retry_once : (s : SiteId) (gs : List Given) (t : SiteId) (hs : List Given) → ActFits (act.Retry s gs) → ActFits (act.Retry t hs) → 115 ∷ (decimal s.0 ++ gives_text gs) ≡ 115 ∷ (decimal t.0 ++ gives_text hs) → (s ≡ t) × (gs ≡ hs)
retry_once s gs t hs p q e =
    let same = front_once (115 ∷ decimal s.0) (115 ∷ decimal t.0) gs hs (lacks_site s.0 p.0) (lacks_site t.0 q.0) e in
    let left : decimal s.0 ≡ decimal t.0 = cc (same.0) in
    let made : ℕ → SiteId = λ k. record { 0 = k } in
    (ap made (number_once s.0 t.0 p.0 q.0 left), gives_once gs hs p.1 q.1 same.1)

-- acts and entries

act_once : (a b : EventAct) → ActFits a → ActFits b → act_text a ≡ act_text b → a ≡ b
act_once (act.Read at x) (act.Read at' x') p q e = let t = access_once at x at' x' p q cc in ap (λ (a : Addr). act.Read a x) t.0 ∙ ap (λ (y : Value). act.Read at' y) t.1
act_once (act.Read at x) _ p q e = absurd (false≢true (sym (ap (begins (codes "read ")) e)))
act_once (act.Write at x) (act.Write at' x') p q e = let t = access_once at x at' x' p q cc in ap (λ (a : Addr). act.Write a x) t.0 ∙ ap (λ (y : Value). act.Write at' y) t.1
act_once (act.Write at x) _ p q e = absurd (false≢true (sym (ap (begins (codes "write ")) e)))
act_once (act.Lock m) (act.Lock m') p q e = ap act.Lock (mutex_once m m' p q cc)
act_once (act.Lock m) _ p q e = absurd (false≢true (sym (ap (begins (codes "lock ")) e)))
act_once (act.Unlock m) (act.Unlock m') p q e = ap act.Unlock (mutex_once m m' p q cc)
act_once (act.Unlock m) _ p q e = absurd (false≢true (sym (ap (begins (codes "unlock ")) e)))
act_once (act.Malloc cells at) (act.Malloc cells' at') p q e = let t = allocation_once cells at cells' at' p q cc in ap (λ (z : ℤ). act.Malloc z at) t.0 ∙ ap (λ (y : Value). act.Malloc cells' y) t.1
act_once (act.Malloc cells at) _ p q e = absurd (false≢true (sym (ap (begins (codes "malloc ")) e)))
act_once (act.Free at) (act.Free at') p q e = ap act.Free (value_once at at' (freed_fits at p) (freed_fits at' q) cc)
act_once (act.Free at) _ p q e = absurd (false≢true (sym (ap (begins (codes "free ")) e)))
act_once (act.Print text) (act.Print text') p q e = ap act.Print (output_once text text' cc)
act_once (act.Print text) _ p q e = absurd (false≢true (sym (ap (begins (codes "print ")) e)))
act_once (act.Create u) (act.Create u') p q e = ap act.Create (number_once u u' p q cc)
act_once (act.Create u) _ p q e = absurd (false≢true (sym (ap (begins (codes "create ")) e)))
act_once (act.Join u) (act.Join u') p q e = ap act.Join (number_once u u' p q cc)
act_once (act.Join u) _ p q e = absurd (false≢true (sym (ap (begins (codes "join ")) e)))
act_once (act.Call f) (act.Call f') p q e = let n : f.0 ≡ f'.0 = number_once f.0 f'.0 p q cc in let made : ℕ → FunId = λ k. record { 0 = k } in ap act.Call (ap made n)
act_once (act.Call f) _ p q e = absurd (false≢true (sym (ap (begins (codes "call ")) e)))
act_once (act.Return x) (act.Return x') p q e = ap act.Return (value_once x x' p q cc)
act_once (act.Return x) _ p q e = absurd (false≢true (sym (ap (begins (codes "return ")) e)))
act_once act.Turn act.Turn p q e = refl
act_once act.Turn _ p q e = absurd (false≢true (sym (ap (begins (codes "turn")) e)))
act_once act.End act.End p q e = refl
act_once act.End _ p q e = absurd (false≢true (sym (ap (begins (codes "end")) e)))
act_once (act.Fault k) (act.Fault k') p q e = ap act.Fault (fault_once k k' cc)
act_once (act.Fault k) _ p q e = absurd (false≢true (sym (ap (begins (codes "fault ")) e)))
act_once act.Save act.Save p q e = refl
act_once act.Save _ p q e = absurd (false≢true (sym (ap (begins (codes "save")) e)))
act_once (act.Retry site gives) (act.Retry site' gives') p q e = let t = retry_once site gives site' gives' p q cc in ap (λ (s : SiteId). act.Retry s gives) t.0 ∙ ap (λ (g : List Given). act.Retry site' g) t.1
act_once (act.Retry site gives) _ p q e = absurd (false≢true (sym (ap (begins (codes "retry ")) e)))

pub entry_once : (e f : Event) (x y : List ℕ) → IsWritable e → IsWritable f → event_line e ++ x ≡ event_line f ++ y → (e ≡ f) × (x ≡ y)
entry_once e f x y p q is =
    let t = one_cut 10 (words_of e) (words_of f) x y (lacks_words e p) (lacks_words f q) (sym (line_then e x) ∙ (is ∙ line_then f y)) in
    let u = one_cut 32 (decimal e.thread) (decimal f.thread) (act_text e.act) (act_text f.act) (lacks_decimal 32 e.thread (inl (omega arith)) (wide e.thread p.0)) (lacks_decimal 32 f.thread (inl (omega arith)) (wide f.thread q.0)) t.0 in
    let thread : e.thread ≡ f.thread = number_once e.thread f.thread p.0 q.0 u.0 in
    let does : e.act ≡ f.act = act_once e.act f.act p.1 q.1 u.1 in
    (ap (λ (n : ℕ). record e { thread = n }) thread ∙ ap (λ (a : EventAct). record f { act = a }) does, t.1)

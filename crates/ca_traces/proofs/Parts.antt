-- What the words of an act are made of.
use Rattle.std.proofs.Common.{◌≡◌, ◌<◌, ℕ, ℤ, List, ◌∷◌, ◌++◌, true, refl, ap, ◌∙◌, arith, ◌⊎◌, inl, inr, FitsSigned, codes}
use Rattle.std.specs.Int.{w64}
use Rattle.std.specs.Fmt.{decimal, signed_decimal}
use Rattle.std.proofs.lemmas.Bool.{false≢true}
use Rattle.ca_model.specs.declared.values.Addr.{Addr}
use Rattle.ca_model.specs.declared.values.Value.{Value}
use Rattle.ca_model.specs.declared.values.EventAct.{EventAct}
use Rattle.ca_model.specs.declared.values.EventAct.TheVariants as act
use Rattle.ca_model.specs.Traces.{address_text, value_text, hex_text, gives_text, fault_text, act_text}
use Rattle.ca_traces.specs.declared.acts.Verb.{Verb}
use Rattle.ca_traces.specs.declared.acts.Verb.TheVariants as verb
use Rattle.ca_traces.specs.Finding.{lacks, IsCut}
use Rattle.ca_traces.specs.Writable.{AddressFits, ValueFits, IsBlockStart, ActFits}
use Rattle.ca_traces.specs.Verbs.{verb_text}
use Rattle.ca_traces.proofs.Cutting.{begins, one_cut, has_it, lacks_more, lacks_append, lacks_decimal, lacks_signed}
use Rattle.ca_traces.proofs.Numerals.{wide, short, long}

-- no blank stands in an address
pub lacks_address : (c : ℕ) (a : Addr) → c < 45 → AddressFits a → lacks c (address_text a) ≡ true
lacks_address c a low fits =
    let block : lacks c (decimal a.block) ≡ true = lacks_decimal c a.block (inl (omega arith)) (wide a.block fits.0) in
    let offset : lacks c (signed_decimal a.offset) ≡ true = lacks_signed c a.offset (λ same. absurd (omega arith)) (inl (omega arith)) (short a.offset fits.1) in
    let behind : lacks c (46 ∷ signed_decimal a.offset) ≡ true = lacks_more c 46 (signed_decimal a.offset) (λ same. absurd (omega arith)) offset in
    lacks_more c 64 (decimal a.block ++ 46 ∷ signed_decimal a.offset) (λ same. absurd (omega arith)) (lacks_append c (decimal a.block) (46 ∷ signed_decimal a.offset) block behind)

pub access_parts : (a : Addr) (x : Value) (words front rest : List ℕ) → AddressFits a → address_text a ++ (codes " " ++ value_text x) ≡ words → IsCut 32 words front rest → (address_text a ≡ front) × (value_text x ≡ rest)
access_parts a x words front rest fits e cut =
    let here : address_text a ++ 32 ∷ value_text x ≡ front ++ 32 ∷ rest = e ∙ cut.1 in
    one_cut 32 (address_text a) front (value_text x) rest (lacks_address 32 a (omega arith) fits) cut.0 here

-- an access with these words
pub record AnAccess (words : List ℕ) : Type 0 where
  pub at : Addr
  pub value : Value
  pub place : AddressFits at
  pub holds : ValueFits value
  pub spelled : address_text at ++ (codes " " ++ value_text value) ≡ words

pub a_read : (a : EventAct) (words : List ℕ) → ActFits a → act_text a ≡ codes "read " ++ words → AnAccess words
a_read (act.Read at x) words fits e = record { at = at; value = x; place = fits.0; holds = fits.1; spelled = cc }
a_read _ words fits e = absurd (false≢true (ap (begins (codes "read ")) e))

pub a_write : (a : EventAct) (words : List ℕ) → ActFits a → act_text a ≡ codes "write " ++ words → AnAccess words
a_write (act.Write at x) words fits e = record { at = at; value = x; place = fits.0; holds = fits.1; spelled = cc }
a_write _ words fits e = absurd (false≢true (ap (begins (codes "write ")) e))

-- an allocation with these words
pub record AnAllocation (front rest : List ℕ) : Type 0 where
  pub cells : ℤ
  pub at : Value
  pub count : FitsSigned w64 cells
  pub start : IsBlockStart at
  pub first : signed_decimal cells ≡ front
  pub second : value_text at ≡ rest

pub allocation_parts : (a : EventAct) (words front rest : List ℕ) → ActFits a → act_text a ≡ codes "malloc " ++ words → IsCut 32 words front rest → AnAllocation front rest
allocation_parts (act.Malloc cells at) words front rest fits e cut =
    let same : signed_decimal cells ++ 32 ∷ value_text at ≡ words = cc in
    let free : lacks 32 (signed_decimal cells) ≡ true = lacks_signed 32 cells (λ same. absurd (omega arith)) (inl (omega arith)) (long cells fits.0) in
    let t = one_cut 32 (signed_decimal cells) front (value_text at) rest free cut.0 (same ∙ cut.1) in
    record { cells = cells; at = at; count = fits.0; start = fits.1; first = t.0; second = t.1 }
allocation_parts _ words front rest fits e cut = absurd (false≢true (ap (begins (codes "malloc ")) e))

pub in_front : (front rest words : List ℕ) → front ++ 32 ∷ rest ≡ words → lacks 32 words ≡ true → ⊥
in_front front rest words e free =
    let h : lacks 32 (front ++ 32 ∷ rest) ≡ true = rw e free in
    has_it 32 front rest h

-- the first word of an act with words behind it
abbrev pub FirstWord : List ℕ → Type 0
FirstWord word = ((v : Verb) × (verb_text v ≡ word)) ⊎ ((codes "print" ≡ word) ⊎ (codes "retry" ≡ word))

by_verb : (v : Verb) (word behind rest : List ℕ) → lacks 32 (verb_text v) ≡ true → lacks 32 word ≡ true → verb_text v ++ 32 ∷ behind ≡ word ++ 32 ∷ rest → FirstWord word
by_verb v word behind rest own free e = inl (v, (one_cut 32 (verb_text v) word behind rest own free e).0)

alone : (whole word rest : List ℕ) → lacks 32 whole ≡ true → whole ≡ word ++ 32 ∷ rest → ⊥
alone whole word rest free e = has_it 32 word rest (let h = free in rw e at h)

pub first_word : (a : EventAct) (word rest : List ℕ) → lacks 32 word ≡ true → act_text a ≡ word ++ 32 ∷ rest → FirstWord word
first_word (act.Read at x) word rest free e = by_verb verb.Read word (address_text at ++ (codes " " ++ value_text x)) rest refl free e
first_word (act.Write at x) word rest free e = by_verb verb.Write word (address_text at ++ (codes " " ++ value_text x)) rest refl free e
first_word (act.Lock m) word rest free e = by_verb verb.Lock word (codes "m" ++ decimal m.0) rest refl free e
first_word (act.Unlock m) word rest free e = by_verb verb.Unlock word (codes "m" ++ decimal m.0) rest refl free e
first_word (act.Malloc cells at) word rest free e = by_verb verb.Malloc word (signed_decimal cells ++ (codes " " ++ value_text at)) rest refl free e
first_word (act.Free at) word rest free e = by_verb verb.Free word (value_text at) rest refl free e
first_word (act.Print text) word rest free e = inr (inl (one_cut 32 (codes "print") word (hex_text text) rest refl free e).0)
first_word (act.Create u) word rest free e = by_verb verb.Create word (decimal u) rest refl free e
first_word (act.Join u) word rest free e = by_verb verb.Join word (decimal u) rest refl free e
first_word (act.Call f) word rest free e = by_verb verb.Call word (codes "f" ++ decimal f.0) rest refl free e
first_word (act.Return x) word rest free e = by_verb verb.Return word (value_text x) rest refl free e
first_word act.Turn word rest free e = absurd (alone (codes "turn") word rest refl e)
first_word act.End word rest free e = absurd (alone (codes "end") word rest refl e)
first_word (act.Fault k) word rest free e = by_verb verb.Fault word (fault_text k) rest refl free e
first_word act.Save word rest free e = absurd (alone (codes "save") word rest refl e)
first_word (act.Retry site gives) word rest free e = inr (inr (one_cut 32 (codes "retry") word (codes "s" ++ (decimal site.0 ++ gives_text gives)) rest refl free e).0)

pub no_first : (a : EventAct) (words word rest : List ℕ) → IsCut 32 words word rest → ((v : Verb) → verb_text v ≡ word → ⊥) → (codes "print" ≡ word → ⊥) → (codes "retry" ≡ word → ⊥) → ActFits a × (act_text a ≡ words) → ⊥
no_first a words word rest cut none print retry is = elim (first_word a word rest cut.0 (is.1 ∙ cut.1)) [
  | inl v ↦ none v.0 v.1
  | inr other ↦ elim other [ inl p ↦ print p | inr r ↦ retry r ]
]

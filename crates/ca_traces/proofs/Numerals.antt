-- A number, an address and a value have one text, and what their readers find.
use Rattle.std.proofs.Common.{◌≡◌, ◌<◌, ◌^◌, ℕ, ℤ, pos, List, [], ◌∷◌, ◌++◌, Bool, true, false, Result, Ok, Option, None, refl, sym, ap, ◌∙◌, arith, rules, inl, inr, FitsSigned}
use Rattle.std.specs.Int.{w32, w64}
use Rattle.std.specs.Int.Signed.{mag}
use Rattle.std.specs.Fmt.{decimal, signed_decimal}
use Rattle.std.specs.Str.{bytes_eq, IsUtf8}
use Rattle.std.specs.Str.Parse.{ParsesUnsigned, ParsesSigned}
use Rattle.std.proofs.lemmas.Fmt.{decimal_digit, decimal_injective, signed_decimal_injective, parse-decimal, parse-signed_decimal, IsAscii-decimal, IsAscii-signed}
use Rattle.std.proofs.lemmas.Slice.Eq.{bytes_eq-Decides}
use Rattle.std.proofs.lemmas.Str.{IsUtf8-from_ascii}
use mir.Syntax.{Width}
use mir.Val.{of_z, to_z}
use Rattle.std.proofs.lemmas.Int.{to_z-of_z}
use Rattle.ca_model.specs.declared.values.Addr.{Addr}
use Rattle.ca_model.specs.declared.values.Value.{Value}
use Rattle.ca_model.specs.declared.values.Value.TheVariants as v
use Rattle.ca_model.specs.Traces.{address_text, value_text}
use Rattle.ca_traces.specs.Finding.{Finds, lacks, IsCut}
use Rattle.ca_traces.specs.Writable.{AddressFits, ValueFits, IsBlockStart, MayBeFreed}
use Rattle.ca_traces.proofs.Cutting.{one_cut, lacks_decimal, lacks_signed, lacks_head}

-- where there is none
pub nothing : {X : Type 0} (P : X → Type 0) (r : Option X) → r ≡ None → ((x : X) → P x → ⊥) → Finds P r
nothing P r e none = rw e none

-- a test of two texts that failed
pub differs : (xs ys : List ℕ) (r : Bool) → r ≡ bytes_eq xs ys → r ≡ false → xs ≡ ys → ⊥
differs xs ys r e f same =
    let t : bytes_eq xs ys ≡ true = (bytes_eq-Decides xs ys).1 same in
    cc

-- a word that is compared with a known one
pub is_word : (word other known : List ℕ) (r : Bool) → r ≡ bytes_eq word other → r ≡ true → other ≡ known → word ≡ known
is_word word other known r e t is = (bytes_eq-Decides word other).0 (sym e ∙ t) ∙ is

pub no_word : (word other known : List ℕ) (r : Bool) → r ≡ bytes_eq word other → r ≡ false → other ≡ known → known ≡ word → ⊥
no_word word other known r e f is same = differs word other r e f (sym same ∙ sym is)

-- bounds

pub wide : (n : ℕ) → n < 2 ^ 32 → n < 2 ^ 64
wide n h = omega (arith, h)

pub short : (z : ℤ) → FitsSigned w32 z → mag z < 2 ^ 63
short z f =
    let h : mag z < 2 ^ 31 = f.sfits in
    omega (arith, h)

pub long : (z : ℤ) → FitsSigned w64 z → mag z < 2 ^ 63
long z f = f.sfits

-- what is no text of a number

pub utf8_decimal : (n : ℕ) (word : List ℕ) → n < 2 ^ 32 → decimal n ≡ word → IsUtf8 word
utf8_decimal n word small e = let h = IsUtf8-from_ascii (decimal n) (IsAscii-decimal n (wide n small)) in rw e at h

pub utf8_signed : (z : ℤ) (word : List ℕ) → mag z < 2 ^ 63 → signed_decimal z ≡ word → IsUtf8 word
utf8_signed z word small e = let h = IsUtf8-from_ascii (signed_decimal z) (IsAscii-signed z small) in rw e at h

pub unsigned_read : {E : Type 0} (n : ℕ) (word text : List ℕ) (r : Result ℕ E) → n < 2 ^ 32 → decimal n ≡ word → text ≡ word → ParsesUnsigned 32 10 text r → r ≡ Ok n
unsigned_read n word text r small e same parsed = parse-decimal 32 n text r small (wide n small) (same ∙ sym e) parsed

pub short_read : {E : Type 0} (z : ℤ) (word text : List ℕ) (r : Result ℤ E) → FitsSigned w32 z → signed_decimal z ≡ word → text ≡ word → ParsesSigned w32 10 text r → r ≡ Ok z
short_read z word text r fits e same parsed = parse-signed_decimal w32 z text r fits (short z fits) (same ∙ sym e) parsed

pub long_read : {E : Type 0} (z : ℤ) (word text : List ℕ) (r : Result ℤ E) → FitsSigned w64 z → signed_decimal z ≡ word → text ≡ word → ParsesSigned w64 10 text r → r ≡ Ok z
long_read z word text r fits e same parsed = parse-signed_decimal w64 z text r fits (long z fits) (same ∙ sym e) parsed

-- a signed number as it is held
pub held : (w : Width) (y z : ℤ) → FitsSigned w z → y ≡ z → signed_decimal (to_z w (of_z w y)) ≡ signed_decimal z
held w y z fits same = ap (λ (x : ℤ). signed_decimal (to_z w (of_z w x))) same ∙ ap signed_decimal (to_z-of_z w z fits)

-- addresses

pub address_parts : (a : Addr) (word digits front rest : List ℕ) → AddressFits a → address_text a ≡ word → word ≡ 64 ∷ digits → IsCut 46 digits front rest → (decimal a.block ≡ front) × (signed_decimal a.offset ≡ rest)
address_parts a word digits front rest fits e is cut =
    let here : decimal a.block ++ 46 ∷ signed_decimal a.offset ≡ front ++ 46 ∷ rest = cc (cut.1) in
    one_cut 46 (decimal a.block) front (signed_decimal a.offset) rest (lacks_decimal 46 a.block (inl (omega arith)) (wide a.block fits.0)) cut.0 here

pub address_once : (a b : Addr) → AddressFits a → AddressFits b → address_text a ≡ address_text b → a ≡ b
address_once a b p q e =
    let t = address_parts a (address_text b) (decimal b.block ++ 46 ∷ signed_decimal b.offset) (decimal b.block) (signed_decimal b.offset) p e refl (lacks_decimal 46 b.block (inl (omega arith)) (wide b.block q.0), refl) in
    let block : a.block ≡ b.block = decimal_injective a.block b.block (wide a.block p.0) (wide b.block q.0) t.0 in
    let offset : a.offset ≡ b.offset = signed_decimal_injective a.offset b.offset (short a.offset p.1) (short b.offset q.1) t.1 in
    let first : a ≡ record a { block = b.block } = ap (λ (n : ℕ). record a { block = n }) block in
    first ∙ ap (λ (z : ℤ). record b { offset = z }) offset

no_number : (z : ℤ) (a : Addr) → FitsSigned w32 z → signed_decimal z ≡ address_text a → ⊥
no_number z a f e =
    let h : lacks 64 (signed_decimal z) ≡ true = lacks_signed 64 z (omega arith) (inr (omega arith)) (short z f) in
    let at : lacks 64 (address_text a) ≡ true = rw e at h in
    lacks_head 64 64 (decimal a.block ++ 46 ∷ signed_decimal a.offset) at refl

pub value_once : (x y : Value) → ValueFits x → ValueFits y → value_text x ≡ value_text y → x ≡ y
value_once (v.Num m) (v.Num n) p q e = ap v.Num (signed_decimal_injective m n (short m p) (short n q) e)
value_once (v.Num m) (v.Addr b) p q e = absurd (no_number m b p e)
value_once (v.Addr a) (v.Num n) p q e = absurd (no_number n a q (sym e))
value_once (v.Addr a) (v.Addr b) p q e = ap v.Addr (address_once a b p q e)

pub zero_fits : (z : ℤ) → z ≡ pos 0 → FitsSigned w32 z
zero_fits z e = rw e (search rules)

pub zero_text : decimal 0 ≡ 48 ∷ []
zero_text = decimal_digit 0 (omega arith)

-- Where no address stands, null alone may.

pub no_start : (x : Value) (word : List ℕ) → ((a : Addr) → AddressFits a × (address_text a ≡ word) → ⊥) → (48 ∷ [] ≡ word → ⊥) → IsBlockStart x × (value_text x ≡ word) → ⊥
no_start (v.Num n) word none zero is = zero (sym zero_text ∙ (ap signed_decimal (sym is.0) ∙ is.1))
no_start (v.Addr a) word none zero is = none a ((is.0.0, zero_fits a.offset is.0.1), is.1)

pub no_freed : (x : Value) (word : List ℕ) → ((a : Addr) → AddressFits a × (address_text a ≡ word) → ⊥) → (48 ∷ [] ≡ word → ⊥) → MayBeFreed x × (value_text x ≡ word) → ⊥
no_freed (v.Num n) word none zero is = zero (sym zero_text ∙ (ap signed_decimal (sym is.0) ∙ is.1))
no_freed (v.Addr a) word none zero is = none a is

-- an address that isn't the start of a block
pub inside : (x : Value) (word : List ℕ) (a : Addr) → AddressFits a × (address_text a ≡ word) → (a.offset ≡ pos 0 → ⊥) → (48 ∷ [] ≡ word → ⊥) → IsBlockStart x × (value_text x ≡ word) → ⊥
inside (v.Num n) word a found moved zero is = zero (sym zero_text ∙ (ap signed_decimal (sym is.0) ∙ is.1))
inside (v.Addr b) word a found moved zero is =
    let same : a ≡ b = address_once a b found.0 (is.0.0, zero_fits b.offset is.0.1) (found.1 ∙ sym is.1) in
    moved (ap (λ (x : Addr). x.offset) same ∙ is.0.1)
